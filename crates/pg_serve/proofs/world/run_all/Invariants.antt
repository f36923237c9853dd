use Rattle.std.proofs.Common.{take}
use Rattle.pg_serve.specs.Inputs.{input_values, outcomes}
use Rattle.pg_serve.specs.Taking.{held, TakesInputs}
use Rattle.pg_serve.proofs.world.run_all.Given as goal

abbrev pub invariant-loop-input : goal.invariant-loop-input
invariant-loop-input l = TakesInputs (held l.fn.core) (input_values (take l.input-index l.inputs)) (outcomes l.outputs.items) (held l.core)
