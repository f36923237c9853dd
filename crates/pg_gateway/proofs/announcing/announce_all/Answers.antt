use Rattle.std.proofs.Common.{ap, ◌∙◌}
use Rattle.std.specs.Arc.{arc_value}
use Rattle.circular_buffer.specs.Buffer.{Buffer}
use Rattle.pg_session.specs.Events.{announced_at}
use Rattle.pg_gateway.specs.Judging.{all_announced}
use Rattle.pg_gateway.proofs.Places.{rising-all}
use Rattle.pg_gateway.proofs.AnnounceLaws.{copy_there, announce_step}
use Rattle.pg_gateway.proofs.announcing.announce_all.Goals as goal

pub key-key-requires : goal.key-key-requires
key-key-requires c = rising-all 0 _ c.args.places.now c.requires.rising c.loop-place.place-index 0 c.loop-place-test.true

pub unreachable-requires : goal.unreachable-requires
unreachable-requires c =
    copy_there arc_value c.args.config.now c.args.places.now c.loop-place.place-index c.loop-place.copies.items c.requires.rising c.loop-place-test.true
    c.loop-place.invariant.ready c.in_default.ensures.value

pub loop-place-preserved : goal.loop-place-preserved
loop-place-preserved c =
    let inv = c.loop-place.invariant in
    let step = announce_step arc_value c.args.config.now c.args.places.now c.loop-place.place-index c.loop-place.copies.items c.in-Some.copy c.loop-place.registry c.announce-listed.new.self
    (all_announced c.args.registry.now (announced_at c.args.config.now c.args.places.now)) c.key-key.result c.requires.rising c.loop-place-test.true
    c.in-Some.ensures.value inv.ready c.key-key.ensures.source c.key-key.ensures.pmu c.announce-listed.ensures.list inv.announced in
    record {
      ready = rw c.pop_front.ensures.items step.0;
      announced = step.1;
      capacity = ap (λ (b : Buffer _). b.capacity) c.pop_front.ensures.items ∙ inv.capacity;
    }
