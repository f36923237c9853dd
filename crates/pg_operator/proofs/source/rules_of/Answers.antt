use Rattle.std.proofs.Common.{rules, refl, sym, ap, ◌≡◌, ◌∙◌, ◌==◌, ◌+◌, map, drop, Some, None, true, false, ◌∷◌}
use Rattle.std.proofs.lemmas.List.{at_drop_more, at_drop_all}
use Rattle.std.specs.Prelude.{◌++◌, option_map, option_to_list}
use Rattle.pg_operator.specs.Setups.{agreed, bit, said, told}
use Rattle.pg_operator.proofs.Sources.{goes_on, own_table, other_table, differs_here, none_left, by_four, clock_of, ahead_of, first_of, no_silence, no_clock, no_ahead, no_first}
use Rattle.pg_operator.proofs.source.rules_of.Goals as goal
use Rattle.pg_operator.proofs.source.rules_of.Goals.{then-eq+in_ok-silence+in_ok-clock_ms+in_ok-ahead_ms+in_ok-first, else-eq}

pub pmus-init : goal.pmus-init
pmus-init c = record { silence = refl; clock = refl; ahead = refl; first = refl }

pub returns-in_err-silence : goal.returns-in_err-silence
returns-in_err-silence c =
    let ps = c.args.pmus.now in
    let p = told c.pmu-item.result in
    let rest = map told (drop (c.pmus.pmu-index + 1) ps) in
    let left : map told (drop c.pmus.pmu-index ps) ≡ p ∷ rest = at_drop_more (map told) ps c.pmus.pmu-index c.pmu-item.result c.pmus-test.true ∙ ap (λ x. told x ∷ rest) (sym c.pmu-item.is) in
    let own : (p.key.source == c.args.source) ≡ true = search rules in
    let gone : agreed (said (λ q. q.silence) c.args.source (map told ps)) ≡ None =
    sym c.pmus.invariant.silence ∙ ap (goes_on (λ q. q.silence) c.args.source c.pmus.silence) left
    ∙ differs_here (λ q. q.silence) c.args.source c.pmus.silence p rest own (sym c.in_err-silence.ensures) in
    c.from_residual.ensures ∙ sym (no_silence (map told ps) c.args.source gone)

pub returns-in_err-clock_ms : goal.returns-in_err-clock_ms
returns-in_err-clock_ms c =
    let ps = c.args.pmus.now in
    let p = told c.pmu-item.result in
    let rest = map told (drop (c.pmus.pmu-index + 1) ps) in
    let left : map told (drop c.pmus.pmu-index ps) ≡ p ∷ rest = at_drop_more (map told) ps c.pmus.pmu-index c.pmu-item.result c.pmus-test.true ∙ ap (λ x. told x ∷ rest) (sym c.pmu-item.is) in
    let own : (p.key.source == c.args.source) ≡ true = search rules in
    let gone : agreed (said (λ q. q.clock_ms) c.args.source (map told ps)) ≡ None =
    sym c.pmus.invariant.clock ∙ ap (goes_on (λ q. q.clock_ms) c.args.source c.pmus.clock_ms) left
    ∙ differs_here (λ q. q.clock_ms) c.args.source c.pmus.clock_ms p rest own (sym c.in_err-clock_ms.ensures) in
    c.from_residual-in_err-clock_ms.ensures ∙ sym (no_clock (map told ps) c.args.source gone)

pub returns-in_err-ahead_ms : goal.returns-in_err-ahead_ms
returns-in_err-ahead_ms c =
    let ps = c.args.pmus.now in
    let p = told c.pmu-item.result in
    let rest = map told (drop (c.pmus.pmu-index + 1) ps) in
    let left : map told (drop c.pmus.pmu-index ps) ≡ p ∷ rest = at_drop_more (map told) ps c.pmus.pmu-index c.pmu-item.result c.pmus-test.true ∙ ap (λ x. told x ∷ rest) (sym c.pmu-item.is) in
    let own : (p.key.source == c.args.source) ≡ true = search rules in
    let gone : agreed (said (λ q. q.ahead_ms) c.args.source (map told ps)) ≡ None =
    sym c.pmus.invariant.ahead ∙ ap (goes_on (λ q. q.ahead_ms) c.args.source c.pmus.ahead_ms) left
    ∙ differs_here (λ q. q.ahead_ms) c.args.source c.pmus.ahead_ms p rest own (sym c.in_err-ahead_ms.ensures) in
    c.from_residual-in_err-ahead_ms.ensures ∙ sym (no_ahead (map told ps) c.args.source gone)

pub returns-in_err-first : goal.returns-in_err-first
returns-in_err-first c =
    let ps = c.args.pmus.now in
    let p = told c.pmu-item.result in
    let rest = map told (drop (c.pmus.pmu-index + 1) ps) in
    let left : map told (drop c.pmus.pmu-index ps) ≡ p ∷ rest = at_drop_more (map told) ps c.pmus.pmu-index c.pmu-item.result c.pmus-test.true ∙ ap (λ x. told x ∷ rest) (sym c.pmu-item.is) in
    let own : (p.key.source == c.args.source) ≡ true = search rules in
    let gone : agreed (said (λ q. option_map bit q.prefer_first) c.args.source (map told ps)) ≡ None =
    sym c.pmus.invariant.first ∙ ap (goes_on (λ q. option_map bit q.prefer_first) c.args.source c.pmus.first) left
    ∙ differs_here (λ q. option_map bit q.prefer_first) c.args.source c.pmus.first p rest own
    (ap (λ o. agreed (option_to_list c.pmus.first ++ option_to_list o)) (sym c.bit_of.ensures) ∙ sym c.in_err-first.ensures) in
    c.from_residual-in_err-first.ensures ∙ sym (no_first (map told ps) c.args.source gone)

pub pmus-preserved : goal.pmus-preserved
pmus-preserved c =
    let ps = c.args.pmus.now in
    let source = c.args.source in
    let p = told c.pmu-item.result in
    let rest = map told (drop (c.pmus.pmu-index + 1) ps) in
    let left : map told (drop c.pmus.pmu-index ps) ≡ p ∷ rest = at_drop_more (map told) ps c.pmus.pmu-index c.pmu-item.result c.pmus-test.true ∙ ap (λ x. told x ∷ rest) (sym c.pmu-item.is) in
    let silent = sym (ap (goes_on (λ q. q.silence) source c.pmus.silence) left) ∙ c.pmus.invariant.silence in
    let clock = sym (ap (goes_on (λ q. q.clock_ms) source c.pmus.clock_ms) left) ∙ c.pmus.invariant.clock in
    let ahead = sym (ap (goes_on (λ q. q.ahead_ms) source c.pmus.ahead_ms) left) ∙ c.pmus.invariant.ahead in
    let first = sym (ap (goes_on (λ q. option_map bit q.prefer_first) source c.pmus.first) left) ∙ c.pmus.invariant.first in
    elim c.if-eq.branch [
      | then-eq+in_ok-silence+in_ok-clock_ms+in_ok-ahead_ms+in_ok-first w ↦
          let own : (p.key.source == source) ≡ true = search rules in
          record {
            silence = ap (λ s. goes_on (λ q. q.silence) source s rest) w.silence-is
                ∙ sym (own_table (λ q. q.silence) source c.pmus.silence w.in_ok-silence.silence p rest own (sym w.in_ok-silence.ensures)) ∙ silent;
            clock = ap (λ s. goes_on (λ q. q.clock_ms) source s rest) w.clock_ms-is
                ∙ sym (own_table (λ q. q.clock_ms) source c.pmus.clock_ms w.in_ok-clock_ms.clock_ms p rest own (sym w.in_ok-clock_ms.ensures)) ∙ clock;
            ahead = ap (λ s. goes_on (λ q. q.ahead_ms) source s rest) w.ahead_ms-is
                ∙ sym (own_table (λ q. q.ahead_ms) source c.pmus.ahead_ms w.in_ok-ahead_ms.ahead_ms p rest own (sym w.in_ok-ahead_ms.ensures)) ∙ ahead;
            first = ap (λ s. goes_on (λ q. option_map bit q.prefer_first) source s rest) w.first-is
                ∙ sym (own_table (λ q. option_map bit q.prefer_first) source c.pmus.first w.in_ok-first.first p rest own (ap (λ o. agreed (option_to_list c.pmus.first ++ option_to_list o)) (sym w.bit_of.ensures) ∙ sym w.in_ok-first.ensures)) ∙ first;
          }
      | else-eq w ↦
          let other : (p.key.source == source) ≡ false = search rules in
          record {
            silence = ap (λ s. goes_on (λ q. q.silence) source s rest) w.silence-is ∙ sym (other_table (λ q. q.silence) source c.pmus.silence p rest other) ∙ silent;
            clock = ap (λ s. goes_on (λ q. q.clock_ms) source s rest) w.clock_ms-is ∙ sym (other_table (λ q. q.clock_ms) source c.pmus.clock_ms p rest other) ∙ clock;
            ahead = ap (λ s. goes_on (λ q. q.ahead_ms) source s rest) w.ahead_ms-is ∙ sym (other_table (λ q. q.ahead_ms) source c.pmus.ahead_ms p rest other) ∙ ahead;
            first = ap (λ s. goes_on (λ q. option_map bit q.prefer_first) source s rest) w.first-is ∙ sym (other_table (λ q. option_map bit q.prefer_first) source c.pmus.first p rest other) ∙ first;
          }
    ]

pub returns : goal.returns
returns c =
    let ps = c.args.pmus.now in
    let source = c.args.source in
    let silence : agreed (said (λ q. q.silence) source (map told ps)) ≡ Some c.pmus.silence =
    sym c.pmus.invariant.silence ∙ at_drop_all (λ l. goes_on (λ q. q.silence) source c.pmus.silence (map told l)) ps c.pmus.pmu-index c.pmus-test.false ∙ none_left (λ q. q.silence) source c.pmus.silence in
    let clock : agreed (said (λ q. q.clock_ms) source (map told ps)) ≡ Some c.pmus.clock_ms =
    sym c.pmus.invariant.clock ∙ at_drop_all (λ l. goes_on (λ q. q.clock_ms) source c.pmus.clock_ms (map told l)) ps c.pmus.pmu-index c.pmus-test.false ∙ none_left (λ q. q.clock_ms) source c.pmus.clock_ms in
    let ahead : agreed (said (λ q. q.ahead_ms) source (map told ps)) ≡ Some c.pmus.ahead_ms =
    sym c.pmus.invariant.ahead ∙ at_drop_all (λ l. goes_on (λ q. q.ahead_ms) source c.pmus.ahead_ms (map told l)) ps c.pmus.pmu-index c.pmus-test.false ∙ none_left (λ q. q.ahead_ms) source c.pmus.ahead_ms in
    let first : agreed (said (λ q. option_map bit q.prefer_first) source (map told ps)) ≡ Some c.pmus.first =
    sym c.pmus.invariant.first ∙ at_drop_all (λ l. goes_on (λ q. option_map bit q.prefer_first) source c.pmus.first (map told l)) ps c.pmus.pmu-index c.pmus-test.false ∙ none_left (λ q. option_map bit q.prefer_first) source c.pmus.first in
    rw (silence, clock, ahead, first)
    (λ i. Some (record { source = source; silence = c.unwrap_or.ensures i; clock_ms = c.pmus.clock_ms; ahead_ms = c.unwrap_or-2.ensures i; prefer_first = c.is_true.ensures i }))
