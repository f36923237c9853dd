use Rattle.std.proofs.Common.{◌≡◌, ◌≤◌, length, take}
use Rattle.pg_gateway.specs.Routes.{AreGranted, masks_taken}
use Rattle.pg_gateway.proofs.routes.Routes.note_granted.Given as goal

abbrev pub invariant-loop-block : goal.invariant-loop-block
invariant-loop-block l = record {
  taken : l.taken ≡ length (masks_taken l.self.masks (take l.block-index l.blocks));
  few : l.taken ≤ l.block-index;
  granted_blocks : AreGranted l.some (masks_taken l.self.masks (take l.block-index l.blocks)) l.granted_blocks;
}
