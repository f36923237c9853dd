use Rattle.std.proofs.Common.{◌≡◌, ◌≤◌, [], ◌∷◌, ℕ, false}
use Rattle.std.specs.Arc.{arc_value}
use Rattle.std.specs.Int.{bit_at}
use Rattle.indexmap.specs.IndexMap.{index_map_len}
use Rattle.pg_gateway.specs.Taking.{measured, Awaits, HasNone}
use Rattle.pg_gateway.specs.Routes.{WhereBit, IsPassed, HoldsPart}
use Rattle.pg_gateway.proofs.RouteLaws.{Walked}
use Rattle.pg_gateway.proofs.deliver.deliver_block.Given as goal

abbrev pub invariant-granted : goal.invariant-granted
invariant-granted l = record {
  len : index_map_len l.subs ≡ index_map_len l.fn.subs;
  kept : l.kept ≤ l.made;
  all : l.lost ≡ false → l.kept ≡ l.made;
  granted : (j : ℕ) → bit_at l.left j ≡ 1 → bit_at l.granted_some j ≡ 1;
  awaits : WhereBit 1 l.left (Awaits (measured (arc_value l.frame) (l.place ∷ []))) l.subs.entries;
  passed : WhereBit 0 l.granted_some (IsPassed (measured (arc_value l.frame) (l.place ∷ []))) l.subs.entries;
  none : WhereBit 0 l.left HasNone l.subs.entries;
  holds : WhereBit 1 l.left (HoldsPart (arc_value l.frame).config l.place) l.subs.entries;
  walked : Walked (measured (arc_value l.frame) (l.place ∷ [])) l.granted_some l.left l.made l.kept l.fn.subs.entries l.subs.entries;
}

abbrev pub decreases-granted : goal.decreases-granted
decreases-granted l = l.left
