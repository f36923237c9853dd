use Rattle.std.proofs.Common.{sym, arith}
use Rattle.std.proofs.lemmas.Grind.{common_steps}
use Rattle.pg_align.proofs.Counting.{leaves_first}
use Rattle.pg_align.proofs.align.least_is_leaving.Goals as goal
use Rattle.pg_align.proofs.align.least_is_leaving.Goals.{then-least-eq0, else-least-eq0}

pub returns-then-least-eq0-2-clause-leaves : goal.returns-then-least-eq0-2-clause-leaves
returns-then-least-eq0-2-clause-leaves c effective h =
    let is = leaves_first effective c.args.slots.now c.in-Some.least.now c.args.window h (sym c.in-Some.ensures.value) in
    elim c.if-least-eq0.branch [
      | then-least-eq0 w ↦ grind (arith, common_steps, is, w.value-is, w.if-least-eq0)
      | else-least-eq0 w ↦ grind (arith, common_steps, is, w.value-is, w.if-least-eq0)
    ]

pub returns-else-least-eq0-2-clause-leaves : goal.returns-else-least-eq0-2-clause-leaves
returns-else-least-eq0-2-clause-leaves c effective h =
    let is = leaves_first effective c.args.slots.now c.in-Some.least.now c.args.window h (sym c.in-Some.ensures.value) in
    elim c.if-least-eq0.branch [
      | then-least-eq0 w ↦ grind (arith, common_steps, is, w.value-is, w.if-least-eq0)
      | else-least-eq0 w ↦ grind (arith, common_steps, is, w.value-is, w.if-least-eq0)
    ]
