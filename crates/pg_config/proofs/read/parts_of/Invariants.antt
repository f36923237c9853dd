use Rattle.std.proofs.Common.{◌≡◌, ◌-◌, List, ℕ, map}
use Rattle.std.specs.Arc.{arc_value}
use Rattle.pg_config.specs.Parts.{part_with}
use Rattle.pg_config.specs.Reading.{blocks_at, base_at, rate_at}
use Rattle.pg_config.proofs.Loop.{with_front}
use Rattle.pg_config.proofs.read.parts_of.Given as goal

abbrev pub invariant-loop : goal.invariant-loop
invariant-loop l = (front : List (List ℕ)) × (map arc_value l.parts.items ≡ map (part_with (base_at l.frame) (rate_at l.frame)) front)
    × (with_front front (blocks_at (l.count - l.counter) l.rest) ≡ blocks_at l.count l.bytes)
