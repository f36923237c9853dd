-- A change bit in one of the data blocks, and the test that goes from block to block.
use Rattle.std.proofs.Common.{◌≡◌, ◌↔◌, ℕ, zero, suc, ◌+◌, ◌-◌, ◌<◌, List, [], ◌∷◌, length, take, drop, get_or, slice_range, Bool, true, false, ◌||◌, ◌==◌, refl, sym, inl, inr, ap, ap₂, ◌∙◌, add-one, arith}
use Rattle.std.proofs.lemmas.List.{drop-drop, get_or-take}
use Rattle.std.proofs.lemmas.Bool.{cases_eq, eq-eqb, ne_eqb, false≢true}
use Rattle.std.specs.Int.{bit_at}
use Rattle.pg_wire.specs.Head.{two_at}
use Rattle.pg_config.specs.Parts.{Part, data_len, data_lens}
use Rattle.pg_data.specs.Measurements.{Measurement, HasChange, has_change_in, has_change, block_in}

abbrev block_at : List Part → List ℕ → ℕ → List ℕ
block_at ps body i = slice_range body (data_lens (take i ps)) (data_lens (take (suc i) ps))

-- the block of the next PMU stands behind the first one's
block-later : (p : Part) (ps : List Part) (body : List ℕ) (i : ℕ) → block_at (p ∷ ps) body (suc i) ≡ block_at ps (drop (data_len p) body) i
block-later p ps body i =
    let n = data_len p in
    let s = data_lens (take i ps) in
    let e = data_lens (take (suc i) ps) in
    let d : (n + e) - (n + s) ≡ e - s = omega arith in
    ap₂ (λ k l. take k l) d (sym (drop-drop s n body))

-- STAT of the first block
stat-first : (p : Part) (ps : List Part) (body : List ℕ) → two_at (block_at (p ∷ ps) body zero) 0 ≡ two_at body 0
stat-first p ps body =
    let high : get_or (block_at (p ∷ ps) body zero) 0 0 ≡ get_or body 0 0 = get_or-take ((data_len p + 0) - 0) body 0 0 (omega arith) in
    let low : get_or (block_at (p ∷ ps) body zero) 1 0 ≡ get_or body 1 0 = get_or-take ((data_len p + 0) - 0) body 1 0 (omega arith) in
    omega (arith, high, low)

found-in : (ps : List Part) (body : List ℕ) → has_change_in ps body ≡ true → (i : ℕ) × (i < length ps) × (bit_at (two_at (block_at ps body i) 0) 10 ≡ 1)
found-in [] body h = absurd (false≢true h)
found-in (p ∷ ps) body h = elim (cases_eq (bit_at (two_at body 0) 10) 1) [
  | inl set ↦ (0, omega arith, ap (λ n. bit_at n 10) (stat-first p ps body) ∙ set)
  | inr clear ↦
      let later = found-in ps (drop (data_len p) body) (sym (ap (λ b. b || has_change_in ps (drop (data_len p) body)) (ne_eqb _ _ clear)) ∙ h) in
      (suc later.0, omega (arith, later.1), ap (λ block. bit_at (two_at block 0) 10) (block-later p ps body later.0) ∙ later.2)
]

or-true : (b : Bool) → (b || true) ≡ true
or-true true = refl
or-true false = refl

in-found : (ps : List Part) (body : List ℕ) (i : ℕ) → i < length ps → bit_at (two_at (block_at ps body i) 0) 10 ≡ 1 → has_change_in ps body ≡ true
in-found [] body i low set = absurd (omega arith)
in-found (p ∷ ps) body zero low set =
    ap (λ b. b || has_change_in ps (drop (data_len p) body)) (eq-eqb _ _ (ap (λ n. bit_at n 10) (sym (stat-first p ps body)) ∙ set))
in-found (p ∷ ps) body (suc i) low set =
    ap (λ b. bit_at (two_at body 0) 10 == 1 || b)
    (in-found ps (drop (data_len p) body) i (omega arith) (ap (λ block. bit_at (two_at block 0) 10) (sym (block-later p ps body i)) ∙ set))
    ∙ or-true (bit_at (two_at body 0) 10 == 1)

same_bool : (a b : Bool) → (a ≡ true → b ≡ true) → (b ≡ true → a ≡ true) → a ≡ b
same_bool true b to from = sym (to refl)
same_bool false true to from = from refl
same_bool false false to from = refl

block-same : (ps : List Part) (body : List ℕ) (i : ℕ) → block_in ps body i ≡ block_at ps body i
block-same ps body i = ap (λ k. slice_range body (data_lens (take i ps)) (data_lens (take k ps))) (add-one i)

pub same_from_finding : (m : Measurement) (b : Bool) → ((b ≡ true) ↔ HasChange m) → b ≡ has_change m
same_from_finding m b h = same_bool b (has_change m)
    (λ yes. let w = h.0 yes in
    in-found m.config.parts m.body w.0 w.1 (ap (λ block. bit_at (two_at block 0) 10) (sym (block-same m.config.parts m.body w.0)) ∙ w.2))
    (λ yes. let w = found-in m.config.parts m.body yes in
    h.1 (w.0, w.1, ap (λ block. bit_at (two_at block 0) 10) (block-same m.config.parts m.body w.0) ∙ w.2))
