use Rattle.std.proofs.Common.{◌≡◌, drop, map}
use Rattle.pg_operator.specs.Setups.{port_value}
use Rattle.pg_setup.specs.Orders.{closed, order_value}
use Rattle.pg_setup.proofs.Adding.{with_rest}
use Rattle.pg_setup.proofs.ports.close_ports.Given as goal

abbrev pub invariant-ports : goal.invariant-ports
invariant-ports l =
    with_rest (λ x. closed (map port_value l.others) (port_value x)) (map order_value l.orders.items) (drop l.port-index l.ports)
    ≡ with_rest (λ x. closed (map port_value l.others) (port_value x)) (map order_value l.fn.orders.items) l.ports
