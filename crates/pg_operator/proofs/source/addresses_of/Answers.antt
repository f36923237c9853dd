use Rattle.std.proofs.Common.{rules, refl, sym, ap, ◌≡◌, ◌∙◌, ◌==◌, ◌+◌, map, drop, option_map, None, true, false, ◌∷◌}
use Rattle.std.proofs.lemmas.List.{at_drop_more, at_drop_all}
use Rattle.pg_operator.specs.Setups.{called_values, told}
use Rattle.pg_operator.proofs.Sources.{with_left, own_address, other_address, second_address, no_address_left}
use Rattle.pg_operator.proofs.source.addresses_of.Goals as goal
use Rattle.pg_operator.proofs.source.addresses_of.Goals.{then-eq+in_ok-addresses, else-eq}

pub pmus-init : goal.pmus-init
pmus-init c = refl

pub returns-in_err-addresses : goal.returns-in_err-addresses
returns-in_err-addresses c =
    let ps = c.args.pmus.now in
    let p = told c.pmu-item.result in
    let seen = option_map called_values c.pmus.addresses in
    let rest = map told (drop (c.pmus.pmu-index + 1) ps) in
    let left : map told (drop c.pmus.pmu-index ps) ≡ p ∷ rest = at_drop_more (map told) ps c.pmus.pmu-index c.pmu-item.result c.pmus-test.true ∙ ap (λ x. told x ∷ rest) (sym c.pmu-item.is) in
    let own : (p.key.source == c.args.source) ≡ true = search rules in
    ap (option_map (λ o. option_map called_values o)) c.from_residual.ensures
    ∙ sym (sym c.pmus.invariant ∙ ap (with_left c.args.source seen) left ∙ second_address c.args.source seen p rest own (sym c.in_err-addresses.ensures))

pub pmus-preserved : goal.pmus-preserved
pmus-preserved c =
    let ps = c.args.pmus.now in
    let source = c.args.source in
    let p = told c.pmu-item.result in
    let seen = option_map called_values c.pmus.addresses in
    let rest = map told (drop (c.pmus.pmu-index + 1) ps) in
    let left : map told (drop c.pmus.pmu-index ps) ≡ p ∷ rest = at_drop_more (map told) ps c.pmus.pmu-index c.pmu-item.result c.pmus-test.true ∙ ap (λ x. told x ∷ rest) (sym c.pmu-item.is) in
    let so_far = sym (ap (with_left source seen) left) ∙ c.pmus.invariant in
    elim c.if-eq.branch [
      | then-eq+in_ok-addresses w ↦
          let own : (p.key.source == source) ≡ true = search rules in
          ap (λ o. with_left source (option_map called_values o) rest) w.addresses-is
          ∙ sym (own_address source seen (option_map called_values w.in_ok-addresses.addresses) p rest own (sym w.in_ok-addresses.ensures)) ∙ so_far
      | else-eq w ↦
          let other : (p.key.source == source) ≡ false = search rules in
          ap (λ o. with_left source (option_map called_values o) rest) w.addresses-is ∙ sym (other_address source seen p rest other) ∙ so_far
    ]

pub returns : goal.returns
returns c =
    let seen = option_map called_values c.pmus.addresses in
    sym (no_address_left c.args.source seen) ∙ sym (at_drop_all (λ l. with_left c.args.source seen (map told l)) c.args.pmus.now c.pmus.pmu-index c.pmus-test.false) ∙ c.pmus.invariant
