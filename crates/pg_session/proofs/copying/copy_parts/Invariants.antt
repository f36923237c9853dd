use Rattle.std.proofs.Common.{◌≡◌, ◌++◌, length, map, drop}
use Rattle.std.specs.Arc.{arc_value}
use Rattle.pg_session.specs.Events.{announced_at, config_of}
use Rattle.pg_session.proofs.copying.copy_parts.Given as goal

abbrev pub invariant-loop-place : goal.invariant-loop-place
invariant-loop-place l =
    (map arc_value l.configs.items ++ map config_of (announced_at l.config (drop l.place-index l.places)) ≡ map config_of (announced_at l.config l.places))
    × (length l.configs.items ≡ l.place-index)
    × (l.configs.capacity ≡ l.fn.configs.capacity)
