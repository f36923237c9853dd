use Rattle.std.proofs.Common.{◌+◌, [], ◌∷◌, map, drop, get_or}
use Rattle.std.specs.Arc.{arc_value}
use Rattle.pg_session.specs.Events.{announced_at, config_of}
use Rattle.pg_session.proofs.Going.{passed_one, passed_not, config_split}
use Rattle.pg_session.proofs.accepting.after_configs.Goals as goal

pub loop-place-preserved : goal.loop-place-preserved
loop-place-preserved c =
    let config = c.args.config.now in
    let k = c.loop-place.place-index in
    passed_one (map arc_value c.args.configs.now.items) 0 _ _ (map config_of (announced_at config (get_or c.args.places.now k 0 ∷ [])))
    (map config_of (announced_at config (drop (k + 1) c.args.places.now)))
    c.loop-place.at c.in-Some.after c.loop-place.invariant (config_split config c.args.places.now k c.loop-place-test.true) c.in-Some.ensures

pub returns-in_default : goal.returns-in_default
returns-in_default c =
    let config = c.args.config.now in
    let k = c.loop-place.place-index in
    passed_not (map arc_value c.args.configs.now.items) 0 _ _ (map config_of (announced_at config (get_or c.args.places.now k 0 ∷ [])))
    (map config_of (announced_at config (drop (k + 1) c.args.places.now)))
    c.loop-place.at c.loop-place.invariant (config_split config c.args.places.now k c.loop-place-test.true) c.in_default.ensures
