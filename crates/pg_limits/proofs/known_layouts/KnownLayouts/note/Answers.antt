use Rattle.std.proofs.Common.{arith}
use Rattle.std.proofs.lemmas.Grind.{common_steps}
use Rattle.std.proofs.lemmas.List.Edits.{map_over_more}
use Rattle.std.proofs.lemmas.List.{take_all, drop_all}
use Rattle.pg_limits.specs.Windows.{noted}
use Rattle.pg_limits.proofs.known_layouts.KnownLayouts.note.Goals as goal

pub loop-entry-preserved : goal.loop-entry-preserved
loop-entry-preserved c = grind (arith, common_steps, c.self.invariant, map_over_more (noted c.args.served.now))

pub returns : goal.returns
returns c = grind (arith, common_steps, c.self.invariant, take_all, drop_all)
