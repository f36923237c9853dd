use Rattle.std.proofs.Common.{◌≡◌, ◌++◌, map, drop}
use Rattle.std.specs.Arc.{arc_value}
use Rattle.pg_wire.specs.Stream.{joined}
use Rattle.pg_config.proofs.write.push_blocks.Given as goal

abbrev pub invariant-loop-part : goal.invariant-loop-part
invariant-loop-part l = l.frame.items ++ joined (map (λ p. p.block) (drop l.part-index (map arc_value l.parts))) ≡ l.fn.frame.items ++ joined (map (λ p. p.block) (map arc_value l.parts))
