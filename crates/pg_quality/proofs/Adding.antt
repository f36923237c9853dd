-- Counts that are added bucket by bucket, as far as that has come.
use Rattle.std.proofs.Common.{◌≡◌, ℕ, zero, suc, ◌+◌, ◌<◌, ◌≤◌, List, [], ◌∷◌, length, min, refl, ap, ◌∙◌, arith}
use Rattle.std.specs.Prelude.{slice_set, slice_index_or, sum, take}
use Rattle.std.proofs.lemmas.List.Sums.{fold_more}
use Rattle.pg_quality.specs.Delaying.{added}

-- the first i are added
abbrev pub mixed : ℕ → ℕ → List ℕ → List ℕ → List ℕ
mixed most zero ms ns = ms
mixed most (suc i) [] ns = []
mixed most (suc i) (m ∷ ms) [] = m ∷ ms
mixed most (suc i) (m ∷ ms) (n ∷ ns) = min (m + n) most ∷ mixed most i ms ns

-- one more is added
mixed-suc : (most i : ℕ) (ms ns : List ℕ) → i < length ms → i < length ns
    → mixed most (suc i) ms ns ≡ slice_set (mixed most i ms ns) i (min (slice_index_or (mixed most i ms ns) i 0 + slice_index_or ns i 0) most)
mixed-suc most zero [] ns a b = absurd (omega (arith, a))
mixed-suc most zero (m ∷ ms) [] a b = absurd (omega (arith, b))
mixed-suc most zero (m ∷ ms) (n ∷ ns) a b = refl
mixed-suc most (suc i) [] ns a b = absurd (omega (arith, a))
mixed-suc most (suc i) (m ∷ ms) [] a b = absurd (omega (arith, b))
mixed-suc most (suc i) (m ∷ ms) (n ∷ ns) a b = ap (λ (l : List ℕ). min (m + n) most ∷ l) (mixed-suc most i ms ns (omega (arith, a)) (omega (arith, b)))

pub mixed_more : (most i : ℕ) (ms ns : List ℕ) → i < length ms → i < length ns
    → mixed most (i + 1) ms ns ≡ slice_set (mixed most i ms ns) i (min (slice_index_or (mixed most i ms ns) i 0 + slice_index_or ns i 0) most)
mixed_more most i ms ns a b =
    let next : i + 1 ≡ suc i = omega arith in
    ap (λ (k : ℕ). mixed most k ms ns) next ∙ mixed-suc most i ms ns a b

-- all are
pub mixed_all : (most i : ℕ) (ms ns : List ℕ) → length ms ≤ i → mixed most i ms ns ≡ added most ms ns
mixed_all most zero [] ns a = refl
mixed_all most zero (m ∷ ms) ns a = absurd (omega (arith, a))
mixed_all most (suc i) [] ns a = refl
mixed_all most (suc i) (m ∷ ms) [] a = refl
mixed_all most (suc i) (m ∷ ms) (n ∷ ns) a = ap (λ (l : List ℕ). min (m + n) most ∷ l) (mixed_all most i ms ns (omega (arith, a)))

-- ---- sums of the first counts

-- one more is summed
pub sum_more : (i : ℕ) (ns : List ℕ) → i < length ns → sum (take (i + 1) ns) ≡ sum (take i ns) + slice_index_or ns i 0
sum_more i ns a = fold_more (λ s n. s + n) 0 ns i 0 a
