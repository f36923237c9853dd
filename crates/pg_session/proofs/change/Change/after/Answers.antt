use Rattle.std.proofs.Common.{sym, ◌∙◌}
use Rattle.pg_session.proofs.Changing.{at-put, at-removed}
use Rattle.pg_session.proofs.change.Change.after.Goals as goal

pub returns-then-eq : goal.returns-then-eq
returns-then-eq c =
    rw c.in-Put.is (sym (at-put c.args.listed.now c.args.key.now c.in-Put.changed c.in-Put.config.now _ (sym c.eq.ensures ∙ c.if-eq.true)))

pub returns-else-eq : goal.returns-else-eq
returns-else-eq c =
    rw c.in-Put.is (c.config_of.ensures ∙ sym (at-put c.args.listed.now c.args.key.now c.in-Put.changed c.in-Put.config.now _ (sym c.eq.ensures ∙ c.if-eq.false)))

pub returns-then-eq-2 : goal.returns-then-eq-2
returns-then-eq-2 c =
    rw c.in-Remove.is (sym (at-removed c.args.listed.now c.args.key.now c.in-Remove.changed _ (sym c.eq-in-Remove.ensures ∙ c.if-eq-2.true)))

pub returns-else-eq-2 : goal.returns-else-eq-2
returns-else-eq-2 c =
    rw c.in-Remove.is (c.config_of-else-eq-2.ensures ∙ sym (at-removed c.args.listed.now c.args.key.now c.in-Remove.changed _ (sym c.eq-in-Remove.ensures ∙ c.if-eq-2.false)))
