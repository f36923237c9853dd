use Rattle.std.proofs.Common.{◌≡◌, ◌++◌, Some, drop, map}
use Rattle.pg_operator.specs.Addresses.{address_value}
use Rattle.pg_run.specs.OpenedPorts.{target_value}
use Rattle.pg_run.proofs.running.targets_of.Given as goal

abbrev pub invariant-connect : goal.invariant-connect
invariant-connect l =
    map target_value l.targets.items ++ map (λ a. Some a) (map address_value (drop l.address-index l.connect)) ≡ map (λ a. Some a) (map address_value l.connect)
