use Rattle.std.proofs.Common.{refl, ap, subst, ◌∙◌}
use Rattle.pg_ingest.specs.Linking.{Linking}
use Rattle.pg_ingest.specs.Begun.{Begins}
use Rattle.pg_ingest.specs.Shown.{ShowsLink}
use Rattle.pg_ingest.proofs.Stepping.{Nothing, ran_nothing, on_as, on_more, ran_same}
use Rattle.pg_ingest.proofs.Turns.{Begun, begun_none, begun_more, begun_told, ran_begun}
use Rattle.pg_ingest.proofs.run.write_owed.Goals as goal

pub owed-init : goal.owed-init
owed-init g c = record { ran = λ r p t. on_as Nothing Begun begun_none _ _ _ _ _ _ _ _ (ran_nothing _ r _ p); held = refl }

pub returns-in-Some-clause-ran : goal.returns-in-Some-clause-ran
returns-in-Some-clause-ran g c = λ r p t.
    on_more Begun Begun Begun begun_more begun_told _ _ _ _ _ _ _ _ _ _ _ _ (c.owed.invariant.ran r p t) (on_as Nothing Begun begun_none _ _ _ _ _ _ _ _ (c.push_left.ensures.ran r p t))

pub returns-then-not-begin-clause-ran : goal.returns-then-not-begin-clause-ran
returns-then-not-begin-clause-ran g c = λ r p t.
    on_more Begun Begun Begun begun_more begun_told _ _ _ _ _ _ _ _ _ _ _ _ (c.owed.invariant.ran r p t)
    (on_as Nothing Begun begun_none _ _ _ _ _ _ _ _ (ran_same Nothing _ _ _ _ _ _ _ _ _ (c.begin.ensures.none c.if-not-begin.true) (c.push_left.ensures.ran r p t)))

pub returns-then-not-begin-clause-whole : goal.returns-then-not-begin-clause-whole
returns-then-not-begin-clause-whole g c = λ e. ap (λ (v : Linking). v.left) (c.begin.ensures.none c.if-not-begin.true) ∙ c.push_left.ensures.whole c.in_default.is

pub returns-then-not-begin-clause-none : goal.returns-then-not-begin-clause-none
returns-then-not-begin-clause-none g c = λ e past shows.
    (subst (λ b. Begins past c.begin.new.self b) c.if-not-begin.true
    (c.begin.ensures.begins past (subst (λ v. ShowsLink v past) (c.begin.ensures.none c.if-not-begin.true) shows))).0

pub owed-preserved : goal.owed-preserved
owed-preserved g c = record {
  ran = λ r p t.
      on_more Begun Begun Begun begun_more begun_told _ _ _ _ _ _ _ _ _ _ _ _ (c.owed.invariant.ran r p t)
      (on_more Begun Begun Begun begun_more begun_told _ _ _ _ _ _ _ _ _ _ _ _ (on_as Nothing Begun begun_none _ _ _ _ _ _ _ _ (c.push_left.ensures.ran r p t))
      (ran_begun _ _ r _ p (c.push_left.ensures.whole c.in_default.is)
      (λ past shows. subst (λ b. Begins past c.begin.new.self b) c.if-not-begin.false (c.begin.ensures.begins past shows))));
  held = c.begin.ensures.held ∙ ap (λ (v : Linking). v.bytes) c.push_left.ensures.same ∙ c.owed.invariant.held;
}
