use Rattle.std.proofs.Common.{map, drop}
use Rattle.std.specs.Arc.{arc_value}
use Rattle.pg_session.specs.Events.{announced_at, config_of}
use Rattle.pg_session.proofs.Going.{PassedSoFar}
use Rattle.pg_session.proofs.accepting.after_configs.Given as goal

abbrev pub invariant-loop-place : goal.invariant-loop-place
invariant-loop-place l =
    PassedSoFar (map arc_value l.configs.items) 0 (map config_of (announced_at l.config l.places)) (map config_of (announced_at l.config (drop l.place-index l.places))) l.at
