use Rattle.std.proofs.Common.{rules, refl, sym, ap, inl, inr, ◌≡◌, ◌∙◌, ◌==◌, ◌+◌, ◌++◌, map, drop, Some, None, true, false, [], ◌∷◌}
use Rattle.std.proofs.lemmas.List.{at_drop_more, at_drop_all, map-append}
use Rattle.std.specs.List.{list_any}
use Rattle.pg_operator.specs.Setups.{once, source_by, source_value, told}
use Rattle.pg_operator.proofs.Names.{list_any-map}
use Rattle.pg_operator.proofs.Sources.{has, made, at_first, at_last, seen_before, first_seen, no_source}
use Rattle.pg_operator.proofs.source.sources_of.Goals as goal
use Rattle.pg_operator.proofs.source.sources_of.Goals.{then-not-is_there+in-Ok+in_ok-push, else-not-is_there}

pub pmus-init : goal.pmus-init
pmus-init c =
    let all = map told c.args.pmus.now in
    let named = once (map (λ p. p.key.source) all) in
    ap (λ l. made all (map source_value l) named) c.new-sources.ensures.items ∙ at_first all named

pub returns-in-Err-clause-err : goal.returns-in-Err-clause-err
returns-in-Err-clause-err c =
    let ps = c.args.pmus.now in
    let all = map told ps in
    let seen = map source_value c.pmus.sources.items in
    let p = told c.pmu-item.result in
    let rest = map told (drop (c.pmus.pmu-index + 1) ps) in
    let left : map told (drop c.pmus.pmu-index ps) ≡ p ∷ rest = at_drop_more (map told) ps c.pmus.pmu-index c.pmu-item.result c.pmus-test.true ∙ ap (λ x. told x ∷ rest) (sym c.pmu-item.is) in
    let unseen : list_any (λ s. s.rules.source == p.key.source) c.pmus.sources.items ≡ false = search rules in
    let absent : has p.key.source seen ≡ false = sym (list_any-map (λ s. s.rules.source == p.key.source) source_value c.pmus.sources.items) ∙ unseen in
    elim c.in-Err.ensures.err [
      | inl m ↦ inl m
      | inr bad ↦
          inr (
            bad.0,
            sym c.pmus.invariant ∙ ap (λ l. made all seen (once (map (λ q. q.key.source) l))) left
                ∙ no_source all seen p.key.source (map (λ q. q.key.source) rest) absent bad.1,
          )
    ]

pub pmus-preserved : goal.pmus-preserved
pmus-preserved c =
    let ps = c.args.pmus.now in
    let all = map told ps in
    let old = c.pmus.sources.items in
    let seen = map source_value old in
    let p = told c.pmu-item.result in
    let rest = map told (drop (c.pmus.pmu-index + 1) ps) in
    let named = map (λ q. q.key.source) rest in
    let left : map told (drop c.pmus.pmu-index ps) ≡ p ∷ rest = at_drop_more (map told) ps c.pmus.pmu-index c.pmu-item.result c.pmus-test.true ∙ ap (λ x. told x ∷ rest) (sym c.pmu-item.is) in
    let so_far = sym (ap (λ l. made all seen (once (map (λ q. q.key.source) l))) left) ∙ c.pmus.invariant in
    let same = list_any-map (λ s. s.rules.source == p.key.source) source_value old in
    elim c.if-not-is_there.branch [
      | then-not-is_there+in-Ok+in_ok-push w ↦
          let items : c.if-not-is_there.sources.items ≡ old ++ w.in-Ok.source ∷ [] = search rules in
          let unseen : list_any (λ s. s.rules.source == p.key.source) old ≡ false = search rules in
          ap (λ l. made all l (once named)) (ap (map source_value) items ∙ map-append source_value old (w.in-Ok.source ∷ []))
          ∙ sym (first_seen all seen p.key.source named (source_value w.in-Ok.source) (sym same ∙ unseen) w.in-Ok.ensures.ok) ∙ so_far
      | else-not-is_there w ↦
          let items : c.if-not-is_there.sources.items ≡ old = search rules in
          let there : list_any (λ s. s.rules.source == p.key.source) old ≡ true = search rules in
          ap (λ l. made all (map source_value l) (once named)) items ∙ sym (seen_before all seen p.key.source named (sym same ∙ there)) ∙ so_far
    ]

pub returns-clause-ok : goal.returns-clause-ok
returns-clause-ok c =
    let all = map told c.args.pmus.now in
    let seen = map source_value c.pmus.sources.items in
    sym c.pmus.invariant
    ∙ at_drop_all (λ l. made all seen (once (map (λ q. q.key.source) (map told l)))) c.args.pmus.now c.pmus.pmu-index c.pmus-test.false
    ∙ at_last all seen
