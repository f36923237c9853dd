use Rattle.std.proofs.Common.{◌∙◌, ◌++◌, ap, map}
use Rattle.std.specs.List.{filter_map}
use Rattle.pg_operator.specs.Setups.{source_value}
use Rattle.pg_setup.specs.Orders.{begun, ended, order_value, calls_of}
use Rattle.pg_setup.proofs.Calling.{whole_orders}
use Rattle.pg_setup.proofs.orders.add_orders.Goals as goal

pub returns-clause-ok : goal.returns-clause-ok
returns-clause-ok c =
    whole_orders source_value ended begun (map order_value c.args.orders.now.items) (map order_value c.end_calls.new.orders.items) (map order_value c.begin_calls.new.orders.items)
    c.in_ok-before.before.items c.in_ok-after.after.items _ _
    (c.in_ok-before.ensures.ok ∙ ap (λ xs. calls_of (map source_value xs)) c.as_slice.ensures.value)
    (c.in_ok-after.ensures.ok ∙ ap (λ xs. calls_of (map source_value xs)) c.as_slice-2.ensures.value)
    (c.in_ok-end_calls.ensures.ok
    ∙ (λ i. map order_value c.args.orders.now.items ++ filter_map (λ x. ended (map source_value (c.as_slice-4.ensures.value i)) (source_value x)) (c.as_slice-3.ensures.value i)))
    (c.in_ok-begin_calls.ensures.ok
    ∙ (λ i. map order_value c.end_calls.new.orders.items ++ filter_map (λ x. begun (map source_value (c.as_slice-6.ensures.value i)) (source_value x)) (c.as_slice-5.ensures.value i)))
