use Rattle.std.proofs.Common.{arith}
use Rattle.std.proofs.lemmas.Grind.{common_steps}
use Rattle.std.proofs.lemmas.List.Edits.{map_over_more}
use Rattle.std.proofs.lemmas.List.{take_all, drop_all}
use Rattle.pg_limits.specs.Windows.{drained}
use Rattle.pg_limits.proofs.known_layouts.KnownLayouts.drained.Goals as goal

pub loop-entry-preserved : goal.loop-entry-preserved
loop-entry-preserved c = grind (arith, common_steps, c.self.invariant, map_over_more (drained c.args.is_emptied))

pub returns : goal.returns
returns c = grind (arith, common_steps, c.self.invariant, take_all, drop_all)
