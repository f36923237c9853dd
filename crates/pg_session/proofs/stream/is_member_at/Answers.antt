use Rattle.std.proofs.Common.{◌≡◌, ◌<◌, true, get_or, length, sym, subst, ◌∙◌}
use Rattle.pg_wire.specs.Keys.{key_eq}
use Rattle.pg_session.proofs.Guessing.{member_at}
use Rattle.pg_session.proofs.stream.is_member_at.Goals as goal

pub returns-then-at-members : goal.returns-then-at-members
returns-then-at-members c = λ equal.
    let d = c.index-members-at.result in
    let key = c.args.key.now in
    let same = subst (λ k. key_eq k key ≡ true) c.index-members-at.is (sym c.eq.ensures ∙ equal) in
    member_at c.args.definition.now.members key c.args.at d c.requires.limits.members.distinct
    (subst (λ ms. c.args.at < length ms) c.as_slice-members.ensures.value c.if-at-members.true)
    (subst (λ ms. key_eq (get_or ms c.args.at d) key ≡ true) c.as_slice-members.ensures.value same)
