use Rattle.std.proofs.lemmas.Grind.{common_steps}
use Rattle.std.proofs.Common.{arith, ◌≡◌, [], sym, subst, ◌∙◌}
use Rattle.std.specs.Vec.Iter.{into_iter_items}
use Rattle.pg_console.specs.Joining.{Joins}
use Rattle.pg_console.proofs.Joined.{joins_none, joins_idle, joins_next}
use Rattle.pg_console.proofs.seats.join_all.Goals as goal

pub workers-preserved-in-Some-into_seat : goal.workers-preserved-in-Some-into_seat
workers-preserved-in-Some-into_seat g c = (
  tt,
  tt,
  c.join-joined.ensures.seat ∙ c.workers.invariant.2,
  λ end h.
      c.workers.invariant.3 end (subst (λ l. Joins g.W.HoldsSeat.gives c.workers.joined l end) (sym c.in-Some.ensures.steps.0)
      (joins_next g.W.HoldsSeat.gives c.workers.joined _ _ end _ _ c.in-Some-into_seat.ensures.gives c.join-joined.ensures.seat
      c.join-joined.ensures.seen c.join-joined.ensures.own h)),
)

pub workers-preserved : goal.workers-preserved
workers-preserved g c = (
  tt,
  tt,
  c.workers.invariant.2,
  λ end h.
      c.workers.invariant.3 end (subst (λ l. Joins g.W.HoldsSeat.gives c.workers.joined l end) (sym c.in-Some.ensures.steps.0)
      (joins_idle g.W.HoldsSeat.gives c.workers.joined end _ _ c.in_default.ensures.gives h)),
)

pub returns : goal.returns
returns g c =
    let none : into_iter_items c.workers.worker-iterator ≡ [] = grind (arith, common_steps) in
    record {
      joins = c.workers.invariant.3 c.workers.joined (subst (λ l. Joins g.W.HoldsSeat.gives c.workers.joined l c.workers.joined) (sym none)
          (joins_none g.W.HoldsSeat.gives c.workers.joined));
    }
