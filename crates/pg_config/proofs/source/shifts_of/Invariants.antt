use Rattle.std.proofs.Common.{◌≡◌, map, take}
use Rattle.std.specs.Arc.{arc_value}
use Rattle.pg_config.specs.Parts.{data_len}
use Rattle.pg_config.proofs.source.shifts_of.Given as goal

abbrev pub invariant-loop-part : goal.invariant-loop-part
invariant-loop-part l = l.shifts.items ≡ map data_len (map arc_value (take l.part-index l.parts))
