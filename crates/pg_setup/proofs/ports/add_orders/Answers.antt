use Rattle.std.proofs.Common.{◌∙◌, ◌++◌, ap, map}
use Rattle.std.specs.List.{filter_map}
use Rattle.pg_operator.specs.Setups.{port_value, subscriber_value}
use Rattle.pg_setup.specs.Orders.{listened_of, closed, order_value}
use Rattle.pg_setup.specs.Ports.{ports_of}
use Rattle.pg_setup.proofs.Calling.{whole_orders}
use Rattle.pg_setup.proofs.ports.add_orders.Goals as goal

pub returns-clause-ok : goal.returns-clause-ok
returns-clause-ok c =
    whole_orders port_value closed listened_of (map order_value c.args.orders.now.items) (map order_value c.close_ports.new.orders.items) (map order_value c.open_ports.new.orders.items)
    c.in_ok-before.before.items c.in_ok-after.after.items _ _
    (c.in_ok-before.ensures.ok ∙ ap (λ xs. ports_of (map subscriber_value xs)) c.as_slice.ensures.value)
    (c.in_ok-after.ensures.ok ∙ ap (λ xs. ports_of (map subscriber_value xs)) c.as_slice-2.ensures.value)
    (c.in_ok-close_ports.ensures.ok
    ∙ (λ i. map order_value c.args.orders.now.items ++ filter_map (λ x. closed (map port_value (c.as_slice-4.ensures.value i)) (port_value x)) (c.as_slice-3.ensures.value i)))
    (c.in_ok-open_ports.ensures.ok
    ∙ (λ i. map order_value c.close_ports.new.orders.items ++ filter_map (λ x. listened_of (map port_value (c.as_slice-6.ensures.value i)) (port_value x)) (c.as_slice-5.ensures.value i)))
