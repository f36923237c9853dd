use Rattle.std.proofs.Common.{◌≡◌, ◌≤◌, take, drop, vec_capacity}
use Rattle.indexmap.specs.IndexMap.{index_map_len}
use Rattle.pg_gateway.specs.Related.{Related}
use Rattle.pg_gateway.specs.Sharing.{SubscriberSlots}
use Rattle.pg_gateway.specs.Shown.{SlotShows}
use Rattle.pg_gateway.specs.Taking.{broadcast_of, Awaits, HasNone, Fits}
use Rattle.pg_gateway.specs.Frugal.{AllSlots, Spares}
use Rattle.pg_gateway.proofs.broadcast.prepare_all.Given as goal

abbrev pub invariant-loop-i : goal.invariant-loop-i
invariant-loop-i l = record {
  len : index_map_len l.subs ≡ index_map_len l.fn.subs;
  room : 16 ≤ vec_capacity l.held;
  fits : AllSlots (Fits (broadcast_of l.event l.places)) (drop l.i l.subs.entries);
  none : AllSlots HasNone (drop l.i l.subs.entries);
  spares : AllSlots (Spares (broadcast_of l.event l.places)) l.fn.subs.entries → AllSlots (Spares (broadcast_of l.event l.places)) (drop l.i l.subs.entries);
  prepared : AllSlots (Awaits (broadcast_of l.event l.places)) (take l.i l.subs.entries);
  shows : (slots : SubscriberSlots) → Related SlotShows l.fn.subs.entries slots → Related SlotShows l.subs.entries slots;
}
