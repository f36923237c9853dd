use Rattle.std.proofs.Common.{◌+◌, [], ◌∷◌, map, drop, get_or}
use Rattle.pg_session.specs.Events.{samples_at}
use Rattle.pg_session.specs.Streams.{placed}
use Rattle.pg_session.specs.Wanted.{piece_of_placed}
use Rattle.pg_session.proofs.Going.{passed_none, passed_one, passed_not, block_split}
use Rattle.pg_session.proofs.accepting.after_members.Goals as goal

pub loop-place-init : goal.loop-place-init
loop-place-init c = passed_none c.args.blocks.now.items c.args.next _ c.requires.within

pub loop-place-preserved : goal.loop-place-preserved
loop-place-preserved c =
    let m = c.args.frame.now in
    let members = c.args.definition.now.members in
    let k = c.loop-place.place-index in
    let split = block_split m members c.args.places.now k c.loop-place-test.true in
    passed_one c.args.blocks.now.items c.args.next _ _ (map piece_of_placed (placed members m.quality (samples_at m (get_or c.args.places.now k 0 ∷ []))))
    (map piece_of_placed (placed members m.quality (samples_at m (drop (k + 1) c.args.places.now))))
    c.loop-place.at c.in-Some.after c.loop-place.invariant split c.in-Some.ensures

pub returns-in_default : goal.returns-in_default
returns-in_default c =
    let m = c.args.frame.now in
    let members = c.args.definition.now.members in
    let k = c.loop-place.place-index in
    let split = block_split m members c.args.places.now k c.loop-place-test.true in
    passed_not c.args.blocks.now.items c.args.next _ _ (map piece_of_placed (placed members m.quality (samples_at m (get_or c.args.places.now k 0 ∷ []))))
    (map piece_of_placed (placed members m.quality (samples_at m (drop (k + 1) c.args.places.now))))
    c.loop-place.at c.loop-place.invariant split c.in_default.ensures
