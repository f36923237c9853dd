use Rattle.std.proofs.Common.{rules, ◌≡◌, ◌+◌, ◌++◌, ◌∙◌, ap, map, drop}
use Rattle.pg_config.specs.Parts.{Part}
use Rattle.std.specs.Arc.{arc_value}
use Rattle.pg_wire.specs.Stream.{joined}
use Rattle.pg_config.proofs.Sourcing.{pushed-more}
use Rattle.pg_config.proofs.write.push_blocks.Goals as goal

pub loop-part-preserved : goal.loop-part-preserved
loop-part-preserved c =
    let added : c.extend_from_slice.new.self.items ≡ c.loop-part.frame.items ++ (arc_value c.part-item.result).block = search rules in
    ap (λ l. l ++ joined (map (λ (p : Part). p.block) (drop (c.loop-part.part-index + 1) (map arc_value c.args.parts.now)))) added ∙ pushed-more arc_value c.args.parts.now c.loop-part.part-index c.part-item.result c.loop-part.frame.items _ c.loop-part-test.true c.part-item.is c.loop-part.invariant
