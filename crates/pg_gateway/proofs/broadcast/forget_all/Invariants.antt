use Rattle.std.proofs.Common.{◌≡◌, take}
use Rattle.indexmap.specs.IndexMap.{index_map_len}
use Rattle.pg_gateway.specs.Related.{Related}
use Rattle.pg_gateway.specs.Sharing.{SubscriberSlots}
use Rattle.pg_gateway.specs.Shown.{SlotShows}
use Rattle.pg_gateway.specs.Taking.{HasNone}
use Rattle.pg_gateway.specs.Frugal.{AllSlots}
use Rattle.pg_gateway.proofs.broadcast.forget_all.Given as goal

abbrev pub invariant-loop-i : goal.invariant-loop-i
invariant-loop-i l = record {
  len : index_map_len l.subs ≡ index_map_len l.fn.subs;
  none : AllSlots HasNone (take l.i l.subs.entries);
  shows : (slots : SubscriberSlots) → Related SlotShows l.fn.subs.entries slots → Related SlotShows l.subs.entries slots;
}
