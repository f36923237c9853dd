use Rattle.std.proofs.Common.{rules, refl, ap, ◌∙◌, ◌≡◌, ◌+◌, ◌++◌, ◌∷◌, [], map, drop, true, false}
use Rattle.pg_operator.specs.Setups.{source_value}
use Rattle.pg_setup.specs.declared.orders.Order.TheVariants.{Dial}
use Rattle.pg_setup.specs.Orders.{begun, order_value, dialled, called_eq}
use Rattle.pg_setup.proofs.Adding.{next_added, next_passed, pushed_so, with_rest}
use Rattle.pg_setup.proofs.Calling.{is_there, not_ordered, ordered}
use Rattle.pg_setup.proofs.orders.begin_calls.Goals as goal
use Rattle.pg_setup.proofs.orders.begin_calls.Goals.{then-not-is_called+in-Ok+in_ok-push, else-not-is_called}

pub calls-preserved : goal.calls-preserved
calls-preserved c =
    elim c.if-not-is_called.branch [
      | then-not-is_called+in-Ok+in_ok-push w ↦
          let items : c.if-not-is_called.orders.items ≡ c.calls.orders.items ++ Dial w.in-Ok.copy ∷ [] = search rules in
          let absent : is_there called_eq source_value c.args.others.now c.call-item.result ≡ false = search rules in
          next_added (λ x. begun (map source_value c.args.others.now) (source_value x)) c.args.calls.now c.calls.call-index c.call-item.result
          (dialled (source_value w.in-Ok.copy)) (map order_value c.calls.orders.items) (map order_value c.if-not-is_called.orders.items) _
          c.calls-test.true c.call-item.is (ordered called_eq dialled source_value c.args.others.now c.call-item.result (source_value w.in-Ok.copy) w.in-Ok.ensures.ok absent)
          (ap (map order_value) items ∙ pushed_so order_value c.calls.orders.items (Dial w.in-Ok.copy)) c.calls.invariant
      | else-not-is_called w ↦
          let items : c.if-not-is_called.orders.items ≡ c.calls.orders.items = search rules in
          let there : is_there called_eq source_value c.args.others.now c.call-item.result ≡ true = search rules in
          ap (λ ys. with_rest (λ x. begun (map source_value c.args.others.now) (source_value x)) (map order_value ys) (drop (c.calls.call-index + 1) c.args.calls.now)) items
          ∙ next_passed (λ x. begun (map source_value c.args.others.now) (source_value x)) c.args.calls.now c.calls.call-index c.call-item.result
          (map order_value c.calls.orders.items) _ c.calls-test.true c.call-item.is (not_ordered called_eq dialled source_value c.args.others.now c.call-item.result there) c.calls.invariant
    ]
