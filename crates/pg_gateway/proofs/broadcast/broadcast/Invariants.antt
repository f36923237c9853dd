use Rattle.std.proofs.Common.{◌≡◌, ◌≤◌, ◌*◌, ◌++◌, false, take, drop, vec_capacity}
use Rattle.indexmap.specs.IndexMap.{index_map_len}
use Rattle.pg_gateway.specs.Related.{Related}
use Rattle.pg_gateway.specs.Sharing.{SubscriberSlots, broadcast, total}
use Rattle.pg_gateway.specs.Shown.{SlotShows}
use Rattle.pg_gateway.specs.Taking.{broadcast_of, Awaits, HasNone}
use Rattle.pg_gateway.specs.Frugal.{AllSlots}
use Rattle.pg_gateway.proofs.broadcast.broadcast.Given as goal

abbrev pub invariant-loop-i : goal.invariant-loop-i
invariant-loop-i l = record {
  len : index_map_len l.subs ≡ index_map_len l.fn.subs;
  few : l.made ≤ 640 * l.i;
  kept : l.kept ≤ l.made;
  all : l.lost ≡ false → l.kept ≡ l.made;
  room : 16 ≤ vec_capacity l.held;
  awaits : AllSlots (Awaits (broadcast_of l.event l.places)) (drop l.i l.subs.entries);
  none : AllSlots HasNone (take l.i l.subs.entries);
  count : (slots : SubscriberSlots) → Related SlotShows l.fn.subs.entries slots → l.made ≡ total (broadcast_of l.event l.places) (take l.i slots);
  shows : (slots : SubscriberSlots) → Related SlotShows l.fn.subs.entries slots → Related SlotShows l.subs.entries (broadcast (broadcast_of l.event l.places) (take l.i slots) l.kept ++ drop l.i slots);
}
