use Rattle.std.proofs.Common.{◌≡◌, ◌++◌, drop, map}
use Rattle.pg_operator.specs.Setups.{subscriber_value}
use Rattle.pg_run.specs.OpenedPorts.{opened_of}
use Rattle.pg_run.proofs.running.ports_of.Given as goal

abbrev pub invariant-subscribers : goal.invariant-subscribers
invariant-subscribers g l = l.bound.items ++ opened_of (map subscriber_value (drop l.subscriber-index l.subscribers)) ≡ opened_of (map subscriber_value l.subscribers)
