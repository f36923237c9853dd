use Rattle.std.proofs.Common.{rules, refl, ap, ◌∙◌, ◌≡◌, ◌+◌, ◌++◌, ◌∷◌, [], map, drop, true, false}
use Rattle.pg_operator.specs.Setups.{port_value}
use Rattle.pg_setup.specs.declared.orders.Order.TheVariants.{Unlisten}
use Rattle.pg_setup.specs.Orders.{closed, order_value, unlistened}
use Rattle.pg_setup.specs.Ports.{opened_eq}
use Rattle.pg_setup.proofs.Adding.{next_added, next_passed, pushed_so, with_rest}
use Rattle.pg_setup.proofs.Calling.{is_there, not_ordered, ordered}
use Rattle.pg_setup.proofs.ports.close_ports.Goals as goal
use Rattle.pg_setup.proofs.ports.close_ports.Goals.{then-not-is_open+in_ok-push, else-not-is_open}

pub ports-preserved : goal.ports-preserved
ports-preserved c =
    elim c.if-not-is_open.branch [
      | then-not-is_open+in_ok-push w ↦
          let items : c.if-not-is_open.orders.items ≡ c.ports.orders.items ++ Unlisten c.port-item.result.rules.sub ∷ [] = search rules in
          let absent : is_there opened_eq port_value c.args.others.now c.port-item.result ≡ false = search rules in
          next_added (λ x. closed (map port_value c.args.others.now) (port_value x)) c.args.ports.now c.ports.port-index c.port-item.result
          (unlistened c.port-item.result.rules.sub) (map order_value c.ports.orders.items) (map order_value c.if-not-is_open.orders.items) _
          c.ports-test.true c.port-item.is (ordered opened_eq (λ v. unlistened v.rules.sub) port_value c.args.others.now c.port-item.result (port_value c.port-item.result) refl absent)
          (ap (map order_value) items ∙ pushed_so order_value c.ports.orders.items (Unlisten c.port-item.result.rules.sub)) c.ports.invariant
      | else-not-is_open w ↦
          let items : c.if-not-is_open.orders.items ≡ c.ports.orders.items = search rules in
          let there : is_there opened_eq port_value c.args.others.now c.port-item.result ≡ true = search rules in
          ap (λ ys. with_rest (λ x. closed (map port_value c.args.others.now) (port_value x)) (map order_value ys) (drop (c.ports.port-index + 1) c.args.ports.now)) items
          ∙ next_passed (λ x. closed (map port_value c.args.others.now) (port_value x)) c.args.ports.now c.ports.port-index c.port-item.result
          (map order_value c.ports.orders.items) _ c.ports-test.true c.port-item.is (not_ordered opened_eq (λ v. unlistened v.rules.sub) port_value c.args.others.now c.port-item.result there) c.ports.invariant
    ]
