use Rattle.std.proofs.Common.{◌≡◌, ℕ, All, None, get_or, take}
use Rattle.std.specs.Int.{bit_at}
use Rattle.pg_gateway.specs.Routes.{AreGrantedAll, masks_taken}
use Rattle.pg_gateway.proofs.MaskLaws.{IsAlone}
use Rattle.pg_gateway.proofs.routes.Routes.granted_to.Given as goal

abbrev pub invariant-loop-block : goal.invariant-loop-block
invariant-loop-block l = record {
  covers : (j : ℕ) → bit_at l.granted_some j ≡ 0 → All (λ b. b.1 ≡ None → bit_at (get_or l.self.masks b.0 0) j ≡ 0) (take l.block-index l.blocks);
  none : (j : ℕ) → All (λ b. bit_at (get_or l.self.masks b.0 0) j ≡ 0) l.blocks → bit_at l.granted_some j ≡ 0;
  granted_all : AreGrantedAll l.granted_all (masks_taken l.self.masks (take l.block-index l.blocks));
  alone : IsAlone l.granted_some l.granted_all (masks_taken l.self.masks (take l.block-index l.blocks));
}
