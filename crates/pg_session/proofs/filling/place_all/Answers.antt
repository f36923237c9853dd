use Rattle.std.proofs.Common.{◌≡◌, length, Some, None, option_map, ap, sym, ◌∙◌, arith}
use Rattle.std.proofs.lemmas.List.Quantifiers.{position-Some}
use Rattle.std.proofs.lemmas.List.{length-map}
use Rattle.pg_wire.specs.Keys.{key_eq}
use Rattle.pg_data.specs.Pieces.{piece_of}
use Rattle.pg_outcfg.specs.Ordered.{pieces_in}
use Rattle.pg_session.specs.Events.{samples_at}
use Rattle.pg_session.specs.Streams.{place_of, placed}
use Rattle.pg_session.specs.Filling.{is_full}
use Rattle.pg_session.proofs.Arrivals.{placed_next, rest_some, rest_none}
use Rattle.pg_session.proofs.Filled.{placing-none, placing-one, placing-twice, placing-end, came_full, came_some, in_all}
use Rattle.pg_session.proofs.filling.place_all.Goals as goal

pub loop-place-init : goal.loop-place-init
loop-place-init c =
    let m = c.args.frame.now in
    let members = c.args.definition.now.members in (
      rw c.requires.none (placing-none m (length members) (placed members m.quality (samples_at m c.args.places.now))),
      omega arith,
    )

pub loop-place-preserved-in_default-place_next : goal.loop-place-preserved-in_default-place_next
loop-place-preserved-in_default-place_next c =
    let m = c.args.frame.now in
    let members = c.args.definition.now.members in
    let k = c.loop-place.place-index in
    let within = c.requires.places k 0 c.loop-place-test.true in
    let next = placed_next m members c.args.places.now k c.key.result c.count-count.ensures.keeps c.loop-place-test.true within c.key.ensures.source c.key.ensures.pmu in
    let none : place_of members c.key.result ≡ None = sym c.place_next.ensures ∙ c.in_default-place_next.is in
    let same = rest_none _ _ _ _ next none in
    (rw same at c.loop-place.invariant.0, omega (arith, c.loop-place.invariant.1))

pub returns-then-is_some-clause-some : goal.returns-then-is_some-clause-some
returns-then-is_some-clause-some c = λ _.
    let m = c.args.frame.now in
    let members = c.args.definition.now.members in
    let k = c.loop-place.place-index in
    let within = c.requires.places k 0 c.loop-place-test.true in
    let next = placed_next m members c.args.places.now k c.key.result c.count-count.ensures.keeps c.loop-place-test.true within c.key.ensures.source c.key.ensures.pmu in
    let some : place_of members c.key.result ≡ Some c.in-Some.member = sym c.place_next.ensures ∙ c.in-Some.is in
    let so_far = rw (rest_some _ _ _ _ _ next some) at c.loop-place.invariant.0 in
    let twice = placing-twice c.in-Some.member _ so_far (sym c.is_some.ensures ∙ c.if-is_some.true) in
    (omega (arith, so_far.some), ap is_full twice)

pub overflow_add-count : goal.overflow_add-count
overflow_add-count c = omega (arith, c.loop-place.invariant.1, c.loop-place-test.true)

pub loop-place-preserved : goal.loop-place-preserved
loop-place-preserved c =
    let m = c.args.frame.now in
    let members = c.args.definition.now.members in
    let k = c.loop-place.place-index in
    let within = c.requires.places k 0 c.loop-place-test.true in
    let next = placed_next m members c.args.places.now k c.key.result c.count-count.ensures.keeps c.loop-place-test.true within c.key.ensures.source c.key.ensures.pmu in
    let some : place_of members c.key.result ≡ Some c.in-Some.member = sym c.place_next.ensures ∙ c.in-Some.is in
    let so_far = rw (rest_some _ _ _ _ _ next some) at c.loop-place.invariant.0 in
    let found = position-Some (λ m. key_eq m c.key.result) members c.in-Some.member c.key.result some in
    (placing-one c.in-Some.member _ so_far found.0 within (sym c.is_some.ensures ∙ c.if-is_some.false), omega (arith, c.loop-place.invariant.1))

pub returns-then-count-order-clause-some : goal.returns-then-count-order-clause-some
returns-then-count-order-clause-some c = λ _.
    let m = c.args.frame.now in
    let so_far = c.loop-place.invariant.0 in
    let end = placing-end m c.args.definition.now.members c.args.places.now c.loop-place.place-index c.loop-place.order c.loop-place.count so_far c.loop-place-test.false in
    let few = came_some (pieces_in m c.loop-place.order) (omega (arith, so_far.came, c.if-count-order.true, length-map c.loop-place.order (λ x. option_map (piece_of m) x))) in
    (omega (arith, end.1, c.if-count-eq0.false), ap is_full end.0 ∙ few)

pub returns-then-next-order-clause-blocks : goal.returns-then-next-order-clause-blocks
returns-then-next-order-clause-blocks c = λ _.
    let m = c.args.frame.now in
    let so_far = c.loop-place.invariant.0 in
    let all = came_full (pieces_in m c.loop-place.order) (omega (arith, so_far.came, c.if-count-order.false, length-map c.loop-place.order (λ x. option_map (piece_of m) x))) in
    in_all m (length m.config.parts) c.loop-place.order so_far.within all

pub returns-else-next-order-clause-blocks : goal.returns-else-next-order-clause-blocks
returns-else-next-order-clause-blocks c = λ _.
    let m = c.args.frame.now in
    let so_far = c.loop-place.invariant.0 in
    let all = came_full (pieces_in m c.loop-place.order) (omega (arith, so_far.came, c.if-count-order.false, length-map c.loop-place.order (λ x. option_map (piece_of m) x))) in
    in_all m (length m.config.parts) c.loop-place.order so_far.within all
