use Rattle.std.proofs.Common.{◌≡◌, drop, map}
use Rattle.std.specs.Cmp.Lexicographic.{pointwise}
use Rattle.pg_operator.specs.Addresses.{address_value}
use Rattle.pg_setup.specs.Orders.{address_eq}
use Rattle.pg_setup.proofs.orders.is_same_connect.Given as goal

abbrev pub invariant-addresses : goal.invariant-addresses
invariant-addresses l =
    pointwise address_eq (map address_value (drop l.address-index l.one)) (map address_value l.rest) ≡ pointwise address_eq (map address_value l.one) (map address_value l.other)
