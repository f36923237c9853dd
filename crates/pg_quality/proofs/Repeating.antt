-- Blocks with one STAT that are counted one after another, and all at once.
use Rattle.std.proofs.Common.{◌≡◌, ℕ, zero, suc, ◌+◌, ◌*◌, ◌/◌, ◌%◌, ◌^◌, ◌<◌, ◌≤◌, Bool, true, false, List, [], ◌∷◌, length, refl, sym, ap, ◌∙◌, arith}
use Rattle.std.proofs.lemmas.Bool.Decides.{nat_tests}
use Rattle.std.specs.Prelude.{slice_set, slice_index_or, ◌==◌, Option, Some, if◌then◌else◌}
use Rattle.pg_quality.specs.Counting.{more, more_by}
use Rattle.pg_quality.specs.Stats.{is_set, with_code, with_last, with_stat, with_stats}
use Rattle.pg_quality.specs.declared.stat.StatCounts.{StatCounts}

one-more : (a n : ℕ) → more a (more n 1) ≡ more (more a n) 1
one-more a n = omega arith

by-more : (b : Bool) (a n : ℕ) → more_by b a (more n 1) ≡ more_by b (more_by b a n) 1
by-more false a n = refl
by-more true a n = one-more a n

kept : (b : Bool) (x y : Option ℕ) → (if b then x else (if b then x else y)) ≡ (if b then x else y)
kept false x y = refl
kept true x y = refl

code-again : (xs : List ℕ) (k n : ℕ) → slice_set xs k (more (slice_index_or xs k 0) (more n 1))
    ≡ slice_set (slice_set xs k (more (slice_index_or xs k 0) n)) k (more (slice_index_or (slice_set xs k (more (slice_index_or xs k 0) n)) k 0) 1)
code-again [] k n = refl
code-again (x ∷ xs) zero n = ap (λ (v : ℕ). v ∷ xs) (one-more x n)
code-again (x ∷ xs) (suc k) n = ap (λ (l : List ℕ). x ∷ l) (code-again xs k n)

with-code : Bool → List ℕ → ℕ → ℕ → List ℕ
with-code b xs k n = if b then xs else slice_set xs k (more (slice_index_or xs k 0) n)

code-cases : (b : Bool) (xs : List ℕ) (k n : ℕ) → with-code b xs k (more n 1) ≡ with-code b (with-code b xs k n) k 1
unfolding with-code
code-cases true xs k n = refl
code-cases false xs k n = code-again xs k n

code-more : (xs : List ℕ) (k n : ℕ) → with_code xs k (more n 1) ≡ with_code (with_code xs k n) k 1
unfolding with-code
code-more xs k n = code-cases (k == 0) xs k n

stats-more : (c : StatCounts) (s n : ℕ) → with_stats c s (more n 1) ≡ with_stats (with_stats c s n) s 1
stats-more c s n =
    rw (
      by-more (s / 2 ^ 14 == 1) c.pmu_error n,
      by-more (s / 2 ^ 14 == 2) c.test_or_absent n,
      by-more (s / 2 ^ 14 == 3) c.do_not_use n,
      by-more (is_set s 13) c.out_of_sync n,
      by-more (is_set s 12) c.by_arrival n,
      by-more (is_set s 11) c.triggered n,
      by-more (is_set s 10) c.changing n,
      by-more (is_set s 9) c.modified n,
      code-more c.time_quality ((s / 2 ^ 6) % 8) n,
      code-more c.unlocked ((s / 2 ^ 4) % 4) n,
      kept (is_set s 11) (Some (s % 16)) c.trigger_reason,
    )

pick : (b : Bool) (x y : StatCounts) → b ≡ false → (if b then x else y) ≡ y
pick false x y e = refl
pick true x y e = cc

some-more : (c : StatCounts) (m : ℕ) → 0 < m → with_last c m ≡ with_stats c c.last m
some-more c m h = pick (m == 0) c (with_stats c c.last m) (grind (arith, nat_tests))

-- one more block with the last STAT
pub repeated_more : (c : StatCounts) (n : ℕ) → with_last c (more n 1) ≡ with_stat (with_last c n) c.last
repeated_more c zero = refl
repeated_more c (suc n) =
    some-more c (more (suc n) 1) (omega arith)
    ∙ (stats-more c c.last (suc n) ∙ ap (λ (x : StatCounts). with_stat x c.last) (sym (some-more c (suc n) (omega arith))))
