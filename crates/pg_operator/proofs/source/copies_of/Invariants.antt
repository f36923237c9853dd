use Rattle.std.proofs.Common.{◌≡◌, drop, map}
use Rattle.std.specs.Prelude.{◌++◌}
use Rattle.pg_operator.specs.Addresses.{address_value}
use Rattle.pg_operator.proofs.source.copies_of.Given as goal

abbrev pub invariant-addresses : goal.invariant-addresses
invariant-addresses l = map address_value l.copies.items ++ map address_value (drop l.address-index l.addresses) ≡ map address_value l.addresses
