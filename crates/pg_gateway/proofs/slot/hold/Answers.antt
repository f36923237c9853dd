use Rattle.std.proofs.Common.{◌<◌, length, arith}
use Rattle.std.proofs.lemmas.List.Elements.{All-get_or}
use Rattle.std.proofs.lemmas.List.{take_all}
use Rattle.pg_gateway.proofs.Places.{rising-all, rising-few, rising-filter}
use Rattle.pg_gateway.proofs.slot.hold.Goals as goal

pub is_held-requires : goal.is_held-requires
is_held-requires c = record {
  place = All-get_or (λ i. i < length c.args.config.now.parts) _ _ 0 c.loop-place-test.true (rising-all 0 _ _ c.requires.rising);
}

pub push_reserved-requires : goal.push_reserved-requires
push_reserved-requires c =
    let few = rising-few _ _ c.requires.rising in
    omega (arith, c.loop-place-test.true, c.loop-place.invariant.few, c.loop-place.invariant.room, c.count-count.ensures.keeps.few)

pub returns-clause-rising : goal.returns-clause-rising
returns-clause-rising c =
    let all = take_all c.loop-place.place-index c.args.places.now c.loop-place-test.false in
    rw (c.loop-place.invariant.held, all) (rising-filter _ 0 _ c.args.places.now c.requires.rising)
