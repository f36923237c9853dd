use Rattle.std.proofs.Common.{◌≡◌, drop, map}
use Rattle.pg_operator.specs.Setups.{source_value}
use Rattle.pg_setup.specs.Orders.{begun, order_value}
use Rattle.pg_setup.proofs.Adding.{with_rest}
use Rattle.pg_setup.proofs.orders.begin_calls.Given as goal

abbrev pub invariant-calls : goal.invariant-calls
invariant-calls l =
    with_rest (λ x. begun (map source_value l.others) (source_value x)) (map order_value l.orders.items) (drop l.call-index l.calls)
    ≡ with_rest (λ x. begun (map source_value l.others) (source_value x)) (map order_value l.fn.orders.items) l.calls
