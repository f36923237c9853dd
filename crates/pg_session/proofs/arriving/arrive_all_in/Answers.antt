use Rattle.std.proofs.Common.{◌≡◌, List, length, false, true, Some, None, ap, sym, ◌∙◌, arith}
use Rattle.circular_buffer.specs.Buffer.{Buffer}
use Rattle.pg_data.specs.Pieces.{Piece}
use Rattle.pg_session.specs.Streams.{PlacedBlock, place_of}
use Rattle.pg_session.proofs.Arrivals.{placed_next, rest_some, rest_none, piece_first, arrived-next}
use Rattle.pg_session.proofs.arriving.arrive_all_in.Goals as goal

pub loop-place-preserved-in_default : goal.loop-place-preserved-in_default
loop-place-preserved-in_default c =
    let m = c.args.frame.now in
    let members = c.args.definition.now.members in
    let k = c.loop-place.place-index in
    let within = c.requires.places k 0 c.loop-place-test.true in
    let next = placed_next m members c.args.places.now k c.key.result c.count-count.ensures.keeps c.loop-place-test.true within c.key.ensures.source c.key.ensures.pmu in
    let none : place_of members c.key.result ≡ None = sym c.place_next.ensures ∙ c.in_default.is in
    let same = rest_none _ _ _ _ next none in
    let len = ap (λ (ps : List PlacedBlock). length ps) same in
    let inv = c.loop-place.invariant in
    (rw same at inv.0, inv.1, omega (arith, inv.2, len), inv.3, λ f. inv.4 f ∙ same)

pub unreachable-requires : goal.unreachable-requires
unreachable-requires c =
    let m = c.args.frame.now in
    let members = c.args.definition.now.members in
    let k = c.loop-place.place-index in
    let within = c.requires.places k 0 c.loop-place-test.true in
    let next = placed_next m members c.args.places.now k c.key.result c.count-count.ensures.keeps c.loop-place-test.true within c.key.ensures.source c.key.ensures.pmu in
    let some : place_of members c.key.result ≡ Some c.in-Some.member = sym c.place_next.ensures ∙ c.in-Some.is in
    let so_far = rw (rest_some _ _ _ _ _ next some) at c.loop-place.invariant.0 in
    c.in_default-pop_front.not-Some _ (c.pop_front.ensures.value ∙ piece_first so_far)

pub arrive_one-requires-clause-effective : goal.arrive_one-requires-clause-effective
arrive_one-requires-clause-effective c =
    let m = c.args.frame.now in
    let members = c.args.definition.now.members in
    let k = c.loop-place.place-index in
    let within = c.requires.places k 0 c.loop-place-test.true in
    let next = placed_next m members c.args.places.now k c.key.result c.count-count.ensures.keeps c.loop-place-test.true within c.key.ensures.source c.key.ensures.pmu in
    let some : place_of members c.key.result ≡ Some c.in-Some.member = sym c.place_next.ensures ∙ c.in-Some.is in
    let so_far = rw (rest_some _ _ _ _ _ next some) at c.loop-place.invariant.0 in
    so_far.effective.0

pub loop-place-preserved : goal.loop-place-preserved
loop-place-preserved c =
    let m = c.args.frame.now in
    let members = c.args.definition.now.members in
    let k = c.loop-place.place-index in
    let within = c.requires.places k 0 c.loop-place-test.true in
    let next = placed_next m members c.args.places.now k c.key.result c.count-count.ensures.keeps c.loop-place-test.true within c.key.ensures.source c.key.ensures.pmu in
    let some : place_of members c.key.result ≡ Some c.in-Some.member = sym c.place_next.ensures ∙ c.in-Some.is in
    let so_far = rw (rest_some _ _ _ _ _ next some) at c.loop-place.invariant.0 in
    let taken = c.pop_front.ensures.items in
    let len = ap (λ (ps : List PlacedBlock). length ps) (rest_some _ _ _ _ _ next some) in
    let longer = c.loop-place.invariant.2 in (
      arrived-next c.arrive_one.new.align c.arrive_one.new.output c.in-Some-pop_front.block c.pop_front.result c.pop_front.new.self.items so_far
          c.pop_front.ensures.value c.in-Some-pop_front.is (ap (λ (b : Buffer Piece). b.items) taken)
          c.arrive_one.ensures.slots c.arrive_one.ensures.room c.arrive_one.ensures.output,
      ap (λ (b : Buffer Piece). b.capacity) taken ∙ c.loop-place.invariant.1,
      omega (arith, longer, len),
      λ t. omega (arith, longer, len),
      λ (f : true ≡ false). absurd (cc f),
    )
