use Rattle.std.proofs.Common.{◌≡◌, ◌≤◌, ℕ, false, vec_capacity}
use Rattle.std.specs.Arc.{arc_value}
use Rattle.std.specs.Int.{bit_at}
use Rattle.indexmap.specs.IndexMap.{index_map_len}
use Rattle.pg_gateway.specs.Taking.{measured, Awaits, HasNone}
use Rattle.pg_gateway.specs.Routes.{WhereBit, IsPassed, SharesTold}
use Rattle.pg_gateway.proofs.RouteLaws.{Walked}
use Rattle.pg_gateway.proofs.deliver.deliver_frame.Given as goal

abbrev pub invariant-granted : goal.invariant-granted
invariant-granted l = record {
  len : index_map_len l.subs ≡ index_map_len l.fn.subs;
  kept : l.kept ≤ l.made;
  all : l.lost ≡ false → l.kept ≡ l.made;
  room : 16 ≤ vec_capacity l.held;
  granted : (j : ℕ) → bit_at l.left j ≡ 1 → bit_at l.granted_some j ≡ 1;
  awaits : WhereBit 1 l.left (Awaits (measured (arc_value l.frame) l.places)) l.subs.entries;
  passed : WhereBit 0 l.granted_some (IsPassed (measured (arc_value l.frame) l.places)) l.subs.entries;
  none : WhereBit 0 l.left HasNone l.subs.entries;
  tell : SharesTold l.granted_all l.granted_blocks (arc_value l.frame).config l.places l.left l.subs.entries;
  walked : Walked (measured (arc_value l.frame) l.places) l.granted_some l.left l.made l.kept l.fn.subs.entries l.subs.entries;
}

abbrev pub decreases-granted : goal.decreases-granted
decreases-granted l = l.left
