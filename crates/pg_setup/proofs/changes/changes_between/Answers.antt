use Rattle.std.proofs.Common.{ap, ◌∙◌, map}
use Rattle.std.specs.List.{list_any}
use Rattle.pg_operator.specs.Setups.{setup_edits}
use Rattle.pg_setup.specs.Alike.{has}
use Rattle.pg_setup.specs.Apart.{touches}
use Rattle.pg_setup.specs.Edits.{edits_between}
use Rattle.pg_setup.specs.Leading.{has_after}
use Rattle.pg_setup.specs.Ports.{open_ports}
use Rattle.pg_setup.specs.Orders.{connected, is_about, is_of, order_value}
use Rattle.pg_setup.proofs.Calling.{no_order, orders_joined, port_left, source_left}
use Rattle.pg_setup.proofs.Leading.{leads}
use Rattle.pg_setup.proofs.Quiet.{nothing_between, untouched}
use Rattle.pg_setup.proofs.changes.changes_between.Goals as goal

pub returns-clause-edits : goal.returns-clause-edits
returns-clause-edits c =
    c.in_ok-edits.ensures.ok ∙ (λ i. edits_between (c.as_slice.ensures.value i) (c.as_slice-2.ensures.value i)) ∙ (λ i. edits_between (c.in_ok-before.ensures.ok i) (c.in_ok-after.ensures.ok i))

pub returns-clause-neighbours : goal.returns-clause-neighbours
returns-clause-neighbours c = λ u agree.
    ap (list_any (touches (setup_edits c.args.old.now) u))
    (c.in_ok-edits.ensures.ok ∙ (λ i. edits_between (c.as_slice.ensures.value i) (c.as_slice-2.ensures.value i)) ∙ (λ i. edits_between (c.in_ok-before.ensures.ok i) (c.in_ok-after.ensures.ok i)))
    ∙ untouched (setup_edits c.args.old.now) (setup_edits c.args.new.now) u agree

pub returns-clause-nothing : goal.returns-clause-nothing
returns-clause-nothing c = λ agree.
    (c.in_ok-edits.ensures.ok ∙ (λ i. edits_between (c.as_slice.ensures.value i) (c.as_slice-2.ensures.value i)) ∙ (λ i. edits_between (c.in_ok-before.ensures.ok i) (c.in_ok-after.ensures.ok i)))
    ∙ nothing_between (setup_edits c.args.old.now) (setup_edits c.args.new.now) agree

pub returns-clause-leads : goal.returns-clause-leads
returns-clause-leads c = λ before after e.
    ap (λ ds. has_after ds e (has (setup_edits c.args.old.now) e))
    (c.in_ok-edits.ensures.ok ∙ (λ i. edits_between (c.as_slice.ensures.value i) (c.as_slice-2.ensures.value i)) ∙ (λ i. edits_between (c.in_ok-before.ensures.ok i) (c.in_ok-after.ensures.ok i)))
    ∙ leads (setup_edits c.args.old.now) (setup_edits c.args.new.now) before after e

pub returns-clause-orders : goal.returns-clause-orders
returns-clause-orders c = orders_joined (map order_value c.new-orders.result.items) _ _ _ _ c.in_ok-add_orders-2.ensures.ok c.in_ok-add_orders.ensures.ok (ap (map order_value) c.new-orders.ensures.items)

pub returns-clause-sources : goal.returns-clause-sources
returns-clause-sources c = λ s agree.
    ap (list_any (is_about s)) (orders_joined (map order_value c.new-orders.result.items) _ _ _ _ c.in_ok-add_orders-2.ensures.ok c.in_ok-add_orders.ensures.ok (ap (map order_value) c.new-orders.ensures.items))
    ∙ source_left (connected c.args.old.now) (connected c.args.new.now) (open_ports c.args.old.now) (open_ports c.args.new.now) s agree

pub returns-clause-ports : goal.returns-clause-ports
returns-clause-ports c = λ u agree.
    ap (list_any (is_of u)) (orders_joined (map order_value c.new-orders.result.items) _ _ _ _ c.in_ok-add_orders-2.ensures.ok c.in_ok-add_orders.ensures.ok (ap (map order_value) c.new-orders.ensures.items))
    ∙ port_left (connected c.args.old.now) (connected c.args.new.now) (open_ports c.args.old.now) (open_ports c.args.new.now) u agree

pub returns-clause-quiet : goal.returns-clause-quiet
returns-clause-quiet c = λ calls ports.
    (orders_joined (map order_value c.new-orders.result.items) _ _ _ _ c.in_ok-add_orders-2.ensures.ok c.in_ok-add_orders.ensures.ok (ap (map order_value) c.new-orders.ensures.items))
    ∙ no_order (connected c.args.old.now) (connected c.args.new.now) (open_ports c.args.old.now) (open_ports c.args.new.now) calls ports
