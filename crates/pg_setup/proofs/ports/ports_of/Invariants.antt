use Rattle.std.proofs.Common.{◌≡◌, drop, map}
use Rattle.std.specs.Prelude.{◌++◌}
use Rattle.pg_operator.specs.Setups.{port_value, subscriber_value}
use Rattle.pg_setup.specs.Ports.{ports_of}
use Rattle.pg_setup.proofs.ports.ports_of.Given as goal

abbrev pub invariant-subscribers : goal.invariant-subscribers
invariant-subscribers l =
    map port_value l.ports.items ++ ports_of (map subscriber_value (drop l.subscriber-index l.subscribers)) ≡ ports_of (map subscriber_value l.subscribers)
