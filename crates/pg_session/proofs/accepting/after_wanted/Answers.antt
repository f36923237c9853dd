use Rattle.std.proofs.Common.{◌+◌, drop, sym}
use Rattle.pg_session.specs.Events.{samples_at}
use Rattle.pg_session.specs.Wanted.{wanted_of, all_wanted}
use Rattle.pg_session.proofs.Preparing.{wanted_split}
use Rattle.pg_session.proofs.Going.{passed_one, passed_not}
use Rattle.pg_session.proofs.accepting.after_wanted.Goals as goal

pub loop-s-preserved : goal.loop-s-preserved
loop-s-preserved c =
    let m = c.args.frame.now in
    let samples = samples_at m c.args.places.now in
    let split = wanted_split c.args.streams.now c.loop-s.s-index c.s-item.result m.quality samples c.loop-s-test.true (sym c.s-item.is) in
    passed_one c.args.blocks.now.items 0 _ _ (wanted_of c.s-item.result m.quality samples) (all_wanted (drop (c.loop-s.s-index + 1) c.args.streams.now) m.quality samples)
    c.loop-s.at c.in-Some.after c.loop-s.invariant split c.in-Some.ensures

pub returns-in_default : goal.returns-in_default
returns-in_default c =
    let m = c.args.frame.now in
    let samples = samples_at m c.args.places.now in
    let split = wanted_split c.args.streams.now c.loop-s.s-index c.s-item.result m.quality samples c.loop-s-test.true (sym c.s-item.is) in
    passed_not c.args.blocks.now.items 0 _ _ (wanted_of c.s-item.result m.quality samples) (all_wanted (drop (c.loop-s.s-index + 1) c.args.streams.now) m.quality samples)
    c.loop-s.at c.loop-s.invariant split c.in_default.ensures
