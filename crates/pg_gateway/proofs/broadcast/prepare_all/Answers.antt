use Rattle.std.proofs.Common.{true≢false, sym, ◌∙◌}
use Rattle.pg_gateway.specs.Shown.{SlotShows}
use Rattle.pg_gateway.specs.Taking.{broadcast_of, Awaits, HasNone, Fits}
use Rattle.pg_gateway.specs.Frugal.{Spares}
use Rattle.indexmap.proofs.CallerLemmas.{index_map_len-with_value_at}
use Rattle.pg_gateway.proofs.BroadcastLaws.{slots-at, slots-after, slots-before, Related-kept}
use Rattle.pg_gateway.proofs.Taking.{awaits_prepared, shows_kept}
use Rattle.pg_gateway.proofs.broadcast.prepare_all.Goals as goal

pub prepare-requires-clause-none : goal.prepare-requires-clause-none
prepare-requires-clause-none c = slots-at HasNone c.loop-i.subs.entries c.loop-i.i c.index_mut.result.now c.loop-i.invariant.none c.index_mut.ensures.value

pub prepare-requires-clause-fit : goal.prepare-requires-clause-fit
prepare-requires-clause-fit c = slots-at (Fits (broadcast_of c.args.event.now c.args.places.now)) c.loop-i.subs.entries c.loop-i.i c.index_mut.result.now c.loop-i.invariant.fits c.index_mut.ensures.value

pub returns-in_err-prepare-clause-needless : goal.returns-in_err-prepare-clause-needless
returns-in_err-prepare-clause-needless c = λ spares.
    absurd (true≢false (sym (c.in_err-prepare.ensures.prepares.needless (slots-at (Spares (broadcast_of c.args.event.now c.args.places.now)) c.loop-i.subs.entries c.loop-i.i c.index_mut.result.now (c.loop-i.invariant.spares spares) c.index_mut.ensures.value))))

pub returns-in_err-prepare-clause-shows : goal.returns-in_err-prepare-clause-shows
returns-in_err-prepare-clause-shows c = λ ps h.
    Related-kept SlotShows c.loop-i.subs.entries ps c.loop-i.i c.index_mut.result.now c.prepare.new.self (c.loop-i.invariant.shows ps h) c.index_mut.ensures.value
    (λ s shown. shows_kept c.index_mut.result.now c.prepare.new.self s c.prepare.ensures.prepares.own c.prepare.ensures.prepares.audit shown)

pub returns-in_err-prepare-clause-len : goal.returns-in_err-prepare-clause-len
returns-in_err-prepare-clause-len c = index_map_len-with_value_at c.loop-i.subs c.loop-i.i c.prepare.new.self ∙ c.loop-i.invariant.len

pub loop-i-preserved : goal.loop-i-preserved
loop-i-preserved c =
    let inv = c.loop-i.invariant in
    let fit = slots-at (Fits (broadcast_of c.args.event.now c.args.places.now)) c.loop-i.subs.entries c.loop-i.i c.index_mut.result.now inv.fits c.index_mut.ensures.value in
    record {
      len = index_map_len-with_value_at c.loop-i.subs c.loop-i.i c.prepare.new.self ∙ inv.len;
      room = c.prepare.ensures.room;
      fits = slots-after (Fits (broadcast_of c.args.event.now c.args.places.now)) c.loop-i.subs.entries c.loop-i.i c.prepare.new.self inv.fits;
      none = slots-after HasNone c.loop-i.subs.entries c.loop-i.i c.prepare.new.self inv.none;
      spares = λ spares. slots-after (Spares (broadcast_of c.args.event.now c.args.places.now)) c.loop-i.subs.entries c.loop-i.i c.prepare.new.self (inv.spares spares);
      prepared = slots-before (Awaits (broadcast_of c.args.event.now c.args.places.now)) c.loop-i.subs.entries c.loop-i.i c.prepare.new.self inv.prepared (awaits_prepared (broadcast_of c.args.event.now c.args.places.now) c.index_mut.result.now c.prepare.new.self c.prepare.ensures.prepares.own fit c.in_ok-prepare.ensures.prepares.prepared c.in_ok-prepare.ensures.prepares.spared);
      shows = λ ps h. Related-kept SlotShows c.loop-i.subs.entries ps c.loop-i.i c.index_mut.result.now c.prepare.new.self (inv.shows ps h) c.index_mut.ensures.value
          (λ s shown. shows_kept c.index_mut.result.now c.prepare.new.self s c.prepare.ensures.prepares.own c.prepare.ensures.prepares.audit shown);
    }
