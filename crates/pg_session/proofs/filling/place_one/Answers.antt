use Rattle.std.proofs.Common.{true, false, sym, ◌∙◌, refl, arith}
use Rattle.pg_session.proofs.Filled.{one_placed}
use Rattle.pg_session.proofs.filling.place_one.Goals as goal

pub overflow_cast-order : goal.overflow_cast-order
overflow_cast-order c = omega (arith, c.requires.place, c.count-count.ensures.keeps.config.few)

pub returns-then-eq-clause-all : goal.returns-then-eq-clause-all
returns-then-eq-clause-all c = λ _.
    let one = one_placed c.args.frame.now c.args.member.now c.key.result c.args.place true c.count-count.ensures.keeps c.requires.place c.key.ensures.source c.key.ensures.pmu (sym c.eq.ensures ∙ c.if-eq.true) in
    rw (one, c.requires.none) (omega arith, refl)

pub returns-clause-nothing : goal.returns-clause-nothing
returns-clause-nothing c = λ _.
    one_placed c.args.frame.now c.args.member.now c.key.result c.args.place false c.count-count.ensures.keeps c.requires.place c.key.ensures.source c.key.ensures.pmu (sym c.eq.ensures ∙ c.if-eq.false)
