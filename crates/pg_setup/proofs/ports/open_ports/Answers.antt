use Rattle.std.proofs.Common.{rules, refl, ap, ◌∙◌, ◌≡◌, ◌+◌, ◌++◌, ◌∷◌, [], map, drop, true, false}
use Rattle.pg_operator.specs.Setups.{port_value}
use Rattle.pg_setup.specs.declared.orders.Order.TheVariants.{Listen}
use Rattle.pg_setup.specs.Orders.{listened_of, order_value, listened}
use Rattle.pg_setup.specs.Ports.{opened_eq}
use Rattle.pg_setup.proofs.Adding.{next_added, next_passed, pushed_so, with_rest}
use Rattle.pg_setup.proofs.Calling.{is_there, not_ordered, ordered}
use Rattle.pg_setup.proofs.ports.open_ports.Goals as goal
use Rattle.pg_setup.proofs.ports.open_ports.Goals.{then-not-is_open+in-Ok+in_ok-push, else-not-is_open}

pub ports-preserved : goal.ports-preserved
ports-preserved c =
    elim c.if-not-is_open.branch [
      | then-not-is_open+in-Ok+in_ok-push w ↦
          let items : c.if-not-is_open.orders.items ≡ c.ports.orders.items ++ Listen w.in-Ok.copy ∷ [] = search rules in
          let absent : is_there opened_eq port_value c.args.others.now c.port-item.result ≡ false = search rules in
          next_added (λ x. listened_of (map port_value c.args.others.now) (port_value x)) c.args.ports.now c.ports.port-index c.port-item.result
          (listened (port_value w.in-Ok.copy)) (map order_value c.ports.orders.items) (map order_value c.if-not-is_open.orders.items) _
          c.ports-test.true c.port-item.is (ordered opened_eq listened port_value c.args.others.now c.port-item.result (port_value w.in-Ok.copy) w.in-Ok.ensures.ok absent)
          (ap (map order_value) items ∙ pushed_so order_value c.ports.orders.items (Listen w.in-Ok.copy)) c.ports.invariant
      | else-not-is_open w ↦
          let items : c.if-not-is_open.orders.items ≡ c.ports.orders.items = search rules in
          let there : is_there opened_eq port_value c.args.others.now c.port-item.result ≡ true = search rules in
          ap (λ ys. with_rest (λ x. listened_of (map port_value c.args.others.now) (port_value x)) (map order_value ys) (drop (c.ports.port-index + 1) c.args.ports.now)) items
          ∙ next_passed (λ x. listened_of (map port_value c.args.others.now) (port_value x)) c.args.ports.now c.ports.port-index c.port-item.result
          (map order_value c.ports.orders.items) _ c.ports-test.true c.port-item.is (not_ordered opened_eq listened port_value c.args.others.now c.port-item.result there) c.ports.invariant
    ]
