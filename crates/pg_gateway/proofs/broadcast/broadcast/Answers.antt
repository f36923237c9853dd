use Rattle.std.proofs.Common.{arith, sym, ◌∙◌, true≢false}
use Rattle.pg_gateway.specs.Related.{Related}
use Rattle.pg_gateway.specs.Sharing.{SubscriberSlots}
use Rattle.pg_gateway.specs.Shown.{SlotShows}
use Rattle.pg_gateway.specs.Taking.{broadcast_of, Awaits, HasNone}
use Rattle.indexmap.proofs.CallerLemmas.{index_map_len-with_value_at}
use Rattle.pg_gateway.proofs.RelatedLaws.{Related-length}
use Rattle.pg_gateway.proofs.BroadcastLaws.{fan_step, fan_end, slots-at, slots-after, slots-before}
use Rattle.pg_gateway.proofs.broadcast.broadcast.Goals as goal
use Rattle.pg_gateway.proofs.broadcast.broadcast.Goals.{then-more_kept-more, else-more_kept-more}

pub apply_share-more-requires-clause-awaits : goal.apply_share-more-requires-clause-awaits
apply_share-more-requires-clause-awaits c = slots-at (Awaits (broadcast_of c.args.event.now c.args.places.now)) c.loop-i.subs.entries c.loop-i.i c.index_mut.result.now c.loop-i.invariant.awaits c.index_mut.ensures.value

pub loop-i-preserved : goal.loop-i-preserved
loop-i-preserved c =
    let inv = c.loop-i.invariant in
    let step = λ (ps : SubscriberSlots) (h : Related SlotShows c.args.subs.now.entries ps).
    let len = Related-length SlotShows _ ps h in
    fan_step (broadcast_of c.args.event.now c.args.places.now) ps c.loop-i.i c.loop-i.made c.loop-i.kept c.loop-i.lost c.apply_share-more.result.0 c.apply_share-more.result.1 c.loop-i.subs.entries c.index_mut.result.now c.apply_share-more.new.self
    (omega (arith, c.len-i-end.ensures.len)) (inv.count ps h) inv.kept inv.all (inv.shows ps h) c.index_mut.ensures.value c.apply_share-more.ensures.takes.shares c.apply_share-more.ensures.takes.kept in
    record {
      len = index_map_len-with_value_at c.loop-i.subs c.loop-i.i c.apply_share-more.new.self ∙ inv.len;
      few = omega (arith, c.apply_share-more.ensures.takes.few, inv.few);
      kept = omega (arith, c.apply_share-more.ensures.takes.kept, inv.kept);
      all = elim c.if-more_kept-more.branch [
        | then-more_kept-more w ↦ λ calm. absurd (true≢false (sym w.lost-is ∙ calm))
        | else-more_kept-more w ↦ λ calm. let same = inv.all (sym w.lost-is ∙ calm) in omega arith
      ];
      room = c.apply_share-more.ensures.room;
      awaits = slots-after (Awaits (broadcast_of c.args.event.now c.args.places.now)) c.loop-i.subs.entries c.loop-i.i c.apply_share-more.new.self inv.awaits;
      none = slots-before HasNone c.loop-i.subs.entries c.loop-i.i c.apply_share-more.new.self inv.none (c.apply_share-more.ensures.takes.none, c.apply_share-more.ensures.spared);
      count = λ ps h. (step ps h).0;
      shows = λ ps h. (step ps h).1;
    }

pub returns-clause-broadcast : goal.returns-clause-broadcast
returns-clause-broadcast c = λ ps h.
    let inv = c.loop-i.invariant in
    let len = Related-length SlotShows _ ps h in
    fan_end (broadcast_of c.args.event.now c.args.places.now) ps c.loop-i.i c.loop-i.made c.loop-i.kept c.loop-i.subs.entries (omega (arith, c.len-i-end.ensures.len)) (inv.count ps h) (inv.shows ps h)
