use Rattle.std.proofs.Common.{◌≡◌, ◌<◌, List, Some, true, get_or, length, sym, ap, subst, ◌∙◌, arith}
use Rattle.std.specs.Map.{keys_of}
use Rattle.std.proofs.lemmas.List.{length-map}
use Rattle.pg_wire.specs.Keys.{key_eq}
use Rattle.pg_registry.specs.Registered.{place_in}
use Rattle.pg_registry.proofs.Lists.{at_place}
use Rattle.pg_registry.proofs.Near.{place_at, has_at}
use Rattle.pg_registry.proofs.registry.Registry.stands_at.Goals as goal

pub returns-then-place-keys-clause-value : goal.returns-then-place-keys-clause-value
returns-then-place-keys-clause-value c = λ equal.
    let d = c.index-keys-place.result in
    let key = c.args.key.now in
    let same = subst (λ k. key_eq key k ≡ true) c.index-keys-place.is (sym c.eq.ensures ∙ equal) in
    place_at c.args.self.now key c.args.place d c.list-keys.ensures.keeps.distinct
    (subst (λ ks. c.args.place < length ks) c.list-keys.ensures.value c.if-place-keys.true)
    (subst (λ ks. key_eq key (get_or ks c.args.place d) ≡ true) c.list-keys.ensures.value same)

pub returns-then-place-keys-clause-found : goal.returns-then-place-keys-clause-found
returns-then-place-keys-clause-found c = λ equal.
    let long = ap length c.list-keys.ensures.value in
    has_at c.args.self.now c.args.key.now c.args.place (returns-then-place-keys-clause-value c equal)
    (omega (arith, c.if-place-keys.true, long, length-map c.args.self.now (λ e. e.0)))

pub returns-then-place-keys-clause-pmu : goal.returns-then-place-keys-clause-pmu
returns-then-place-keys-clause-pmu c = λ equal.
    sym (at_place c.args.self.now c.args.key.now c.args.place (returns-then-place-keys-clause-value c equal))
