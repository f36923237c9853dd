use Rattle.std.proofs.Common.{◌∙◌, ◌++◌, ◌∷◌, [], true≢false, sym, ap}
use Rattle.pg_wire.specs.Keys.{key_eq}
use Rattle.indexmap.proofs.CallerLemmas.{insert_entry-new}
use Rattle.pg_registry.specs.Registered.{has_key}
use Rattle.pg_registry.proofs.Lists.{none_of}
use Rattle.pg_registry.proofs.registry.Registry.add.Goals as goal

-- the key is there already
pub returns-then-contains_key-clause-full : goal.returns-then-contains_key-clause-full
returns-then-contains_key-clause-full c none full = absurd (true≢false (sym c.if-contains_key.true ∙ c.contains_key.ensures ∙ ap (λ ps. has_key ps c.args.key) c.self.view_is ∙ none))

pub returns-then-contains_key-clause-memory : goal.returns-then-contains_key-clause-memory
returns-then-contains_key-clause-memory c none few = absurd (true≢false (sym c.if-contains_key.true ∙ c.contains_key.ensures ∙ ap (λ ps. has_key ps c.args.key) c.self.view_is ∙ none))

-- it is not
pub returns-then-len-ge-PMU_LIMIT-clause-exists : goal.returns-then-len-ge-PMU_LIMIT-clause-exists
returns-then-len-ge-PMU_LIMIT-clause-exists c there = absurd (true≢false (sym there ∙ sym (ap (λ ps. has_key ps c.args.key) c.self.view_is) ∙ sym c.contains_key.ensures ∙ c.if-contains_key.false))

pub returns-in_err-insert-clause-exists : goal.returns-in_err-insert-clause-exists
returns-in_err-insert-clause-exists c there = absurd (true≢false (sym there ∙ sym (ap (λ ps. has_key ps c.args.key) c.self.view_is) ∙ sym c.contains_key.ensures ∙ c.if-contains_key.false))

pub returns-clause-exists : goal.returns-clause-exists
returns-clause-exists c there = absurd (true≢false (sym there ∙ sym (ap (λ ps. has_key ps c.args.key) c.self.view_is) ∙ sym c.contains_key.ensures ∙ c.if-contains_key.false))

-- a new key goes behind the others
pub returns-clause-added : goal.returns-clause-added
returns-clause-added c =
    let none = none_of _ (sym c.contains_key.ensures ∙ c.if-contains_key.false) in
    c.in_ok-insert.ensures.entries ∙ insert_entry-new key_eq c.self.inside.pmus c.args.key c.new.result none
    ∙ (λ i. c.self.view_is i ++ (c.args.key, c.new.ensures i) ∷ [])
