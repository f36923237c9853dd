-- Of two calls of a counter, the later one's reply counts both.
use Rattle.std.proofs.Common.{◌≡◌, ℕ, zero, suc, ◌-◌, ◌<◌, ◌≤◌, List, [], ◌∷◌, ◌++◌, sym, ap, ◌∙◌, inl, inr, arith, Some}
use Rattle.std.specs.Prelude.{slice_get}
use Rattle.std.specs.Option.{unwrap_or}
use Rattle.std.proofs.lemmas.Option.{slice_get_within}
use Rattle.std.proofs.lemmas.List.Sums.{fold-append}
use mathlib.Core.Logic.{dite}
use native.Mathlib.Decide.{ℕ_discrete}
use Rattle.pg_laws.specs.declared.counter.Add.{Add}
use Rattle.pg_laws.specs.Totals.{capped_add, total_of}
use Rattle.pg_turn.specs.Turns.{IsLegalAfter}
use Rattle.pg_laws.specs.TwoCalls.{BothStand, CountsBoth, CountsOwn}

-- the counter's own replies
abbrev pub counts : List (Add × ℕ) → Add → ℕ → Type 0
counts history event reply = reply ≡ capped_add (total_of history) (event.0)

total-more : (before : List (Add × ℕ)) (x : Add × ℕ) → total_of (before ++ x ∷ []) ≡ capped_add (total_of before) (x.0.0)
total-more before x = fold-append (λ (total : ℕ) (call : Add × ℕ). capped_add total (call.0.0)) 0 before (x ∷ [])

adds_more : (t n m : ℕ) → capped_add t m ≤ capped_add (capped_add t n) m
adds_more t n m = omega arith

adds_first : (t n m : ℕ) → capped_add n m ≤ capped_add (capped_add t n) m
adds_first t n m = omega arith

adds_either_way : (n m : ℕ) → capped_add n m ≡ capped_add m n
adds_either_way n m = omega arith

-- the reply counts all that came before
later : (before xs : List (Add × ℕ)) (b : ℕ) (f : Add) (q : ℕ) → IsLegalAfter counts before xs → slice_get xs b ≡ Some (f, q) → capped_add (total_of before) (f.0) ≤ q
later before [] b f q h e = absurd (omega (arith, slice_get_within [] b (f, q) e))
later before (x ∷ xs) zero f q h e =
    let same : x ≡ (f, q) = ap (λ o. unwrap_or o (f, q)) e in
    let reply : x.1 ≡ capped_add (total_of before) (x.0.0) = h.0 in
    let is : q ≡ capped_add (total_of before) (f.0) = sym (ap (λ (c : Add × ℕ). c.1) same) ∙ (reply ∙ ap (λ (c : Add × ℕ). capped_add (total_of before) (c.0.0)) same) in omega (arith, is)
later before (x ∷ xs) (suc b) f q h e =
    let more = adds_more (total_of before) (x.0.0) (f.0) in
    let grown = ap (λ t. capped_add t (f.0)) (total-more before x) in
    let rest = later (before ++ x ∷ []) xs b f q h.1 e in omega (arith, more, grown, rest)

-- the later reply counts the earlier call too
counts_earlier : (before xs : List (Add × ℕ)) (a b : ℕ) (e : Add) (r : ℕ) (f : Add) (q : ℕ) → IsLegalAfter counts before xs → a < b
    → slice_get xs a ≡ Some (e, r) → slice_get xs b ≡ Some (f, q) → capped_add (e.0) (f.0) ≤ q
counts_earlier before [] a b e r f q h lt here there = absurd (omega (arith, slice_get_within [] b (f, q) there))
counts_earlier before (x ∷ xs) a zero e r f q h lt here there = absurd (omega arith)
counts_earlier before (x ∷ xs) zero (suc b) e r f q h lt here there =
    let same : x ≡ (e, r) = ap (λ o. unwrap_or o (e, r)) here in
    let both = adds_first (total_of before) (e.0) (f.0) in
    let grown : capped_add (total_of (before ++ x ∷ [])) (f.0) ≡ capped_add (capped_add (total_of before) (e.0)) (f.0) =
    ap (λ t. capped_add t (f.0)) (total-more before x) ∙ ap (λ (c : Add × ℕ). capped_add (capped_add (total_of before) (c.0.0)) (f.0)) same in
    let rest = later (before ++ x ∷ []) xs b f q h.1 there in omega (arith, both, grown, rest)
counts_earlier before (x ∷ xs) (suc a) (suc b) e r f q h lt here there = counts_earlier (before ++ x ∷ []) xs a b e r f q h.1 (omega arith) here there

pub counts_both : (e f : Add) (r q : ℕ) (history : List (Add × ℕ)) → BothStand counts e r f q history → CountsBoth (e.0) (f.0) r q
counts_both e f r q history s = let a = s.1.0 in let b = s.1.1 in dite (ℕ_discrete (a - b) 0)
    (λ below. inr (counts_earlier [] history a b e r f q s.0 (omega (arith, s.1.2)) s.1.3 s.1.4))
    (λ above. inl (let late = counts_earlier [] history b a f q e r s.0 (omega arith) s.1.4 s.1.3 in omega (arith, late, adds_either_way (e.0) (f.0))))

pub counts_own : (e f : Add) (r q : ℕ) (history : List (Add × ℕ)) → BothStand counts e r f q history → CountsOwn (e.0) (f.0) r q
counts_own e f r q history s = (later [] history s.1.0 e r s.0 s.1.3, later [] history s.1.1 f q s.0 s.1.4)
