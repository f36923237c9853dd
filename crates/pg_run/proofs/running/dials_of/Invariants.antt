use Rattle.std.proofs.Common.{◌≡◌, ◌++◌, drop, map}
use Rattle.pg_operator.specs.Setups.{source_value}
use Rattle.pg_run.specs.OpenedPorts.{dial_value, dialled_of}
use Rattle.pg_run.proofs.running.dials_of.Given as goal

abbrev pub invariant-sources : goal.invariant-sources
invariant-sources l = map dial_value l.dials.items ++ dialled_of (map source_value (drop l.source-index l.sources)) ≡ dialled_of (map source_value l.sources)
