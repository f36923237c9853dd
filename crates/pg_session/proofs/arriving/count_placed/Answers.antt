use Rattle.std.proofs.Common.{◌+◌, List, ap, get_or, drop, length, arith}
use Rattle.pg_data.specs.Pieces.{piece_of}
use Rattle.pg_session.specs.Events.{samples_at}
use Rattle.pg_session.specs.Streams.{PlacedBlock, placed}
use Rattle.pg_session.proofs.Arrivals.{placed_next}
use Rattle.pg_session.proofs.arriving.count_placed.Goals as goal

pub loop-place-preserved : goal.loop-place-preserved
loop-place-preserved c =
    let m = c.args.frame.now in
    let members = c.args.definition.now.members in
    let k = c.loop-place.place-index in
    let within = c.requires.places k 0 c.loop-place-test.true in
    let next = placed_next m members c.args.places.now k c.key.result c.count-count.ensures.keeps c.loop-place-test.true within c.key.ensures.source c.key.ensures.pmu in
    let more = c.count_one-count.ensures.count (piece_of m (get_or c.args.places.now k 0)) (placed members m.quality (samples_at m (drop (k + 1) c.args.places.now))) in
    let len = ap (λ (ps : List PlacedBlock). length ps) next in
    (omega (arith, c.loop-place.invariant.0, len, more), omega (arith, c.loop-place.invariant.1, c.count_one-count.ensures.few))
