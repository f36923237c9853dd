use Rattle.std.proofs.Common.{◌≡◌, [], ◌∷◌, ℕ}
use Rattle.std.specs.Arc.{arc_value}
use Rattle.std.specs.Int.{bit_at}
use Rattle.indexmap.specs.IndexMap.{index_map_len}
use Rattle.pg_gateway.specs.Related.{Related}
use Rattle.pg_gateway.specs.Sharing.{SubscriberSlots}
use Rattle.pg_gateway.specs.Shown.{SlotShows}
use Rattle.pg_gateway.specs.Taking.{measured, Awaits, HasNone, Fits}
use Rattle.pg_gateway.specs.Frugal.{AllSlots, Spares}
use Rattle.pg_gateway.specs.Routes.{WhereBit, IsPassed, HoldsPart}
use Rattle.pg_gateway.proofs.deliver.prepare_block.Given as goal

abbrev pub invariant-granted : goal.invariant-granted
invariant-granted l = record {
  len : index_map_len l.subs ≡ index_map_len l.fn.subs;
  granted : (j : ℕ) → bit_at l.left j ≡ 1 → bit_at l.granted_some j ≡ 1;
  fits : WhereBit 1 l.left (Fits (measured (arc_value l.frame) (l.place ∷ []))) l.subs.entries;
  none : WhereBit 1 l.left HasNone l.subs.entries;
  spares : AllSlots (Spares (measured (arc_value l.frame) (l.place ∷ []))) l.fn.subs.entries → WhereBit 1 l.left (Spares (measured (arc_value l.frame) (l.place ∷ []))) l.subs.entries;
  prepared : WhereBit 0 l.left (Awaits (measured (arc_value l.frame) (l.place ∷ []))) l.subs.entries;
  passed : WhereBit 0 l.granted_some (IsPassed (measured (arc_value l.frame) (l.place ∷ []))) l.subs.entries;
  passed_none : WhereBit 0 l.granted_some HasNone l.subs.entries;
  holds : WhereBit 1 l.granted_some (HoldsPart (arc_value l.frame).config l.place) l.subs.entries;
  shows : (slots : SubscriberSlots) → Related SlotShows l.fn.subs.entries slots → Related SlotShows l.subs.entries slots;
}

abbrev pub decreases-granted : goal.decreases-granted
decreases-granted l = l.left
