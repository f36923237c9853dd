-- Configurations of sources: of one PMU and of three, which tests make, and the resolution of any.
use Rattle.std.proofs.Common.{◌≡◌, ◌≢◌, ℕ, zero, suc, ◌<◌, List, [], ◌∷◌, length, ℤ, pos, false, All, refl, sym, ◌∙◌, arith, lit<}
use Rattle.std.proofs.lemmas.Bool.{ne_eqb}
use Rattle.pg_config.specs.Parts.{Part, Source, IsPart, IsSource, block_id, is_reserved}
use Rattle.pg_data.specs.Measurements.{resolution, resolution_of}

abbrev pub Usual : Part → Type 0
Usual p = (p.base ≡ 1000000) × (p.rate ≡ pos 30)

abbrev Kept : Part → Type 0
Kept p = IsPart p × (p.base ≡ 1000000) × (p.rate ≡ pos 30)

not_reserved : (n : ℕ) → 0 < n → n < 65535 → is_reserved n ≡ false
not_reserved n low high =
    let a : n ≡ 0 → ⊥ = (λ e. omega arith) in
    let b : n ≡ 65535 → ⊥ = (λ e. omega arith) in
    rw (ne_eqb n 0 a, ne_eqb n 65535 b) refl

pub source_of_one : (source : ℕ) (a : Part) (parts : List Part) → parts ≡ a ∷ [] → 0 < source → source < 65535 → IsPart a → Usual a
    → IsSource (record { source = source; parts = parts })
source_of_one source a parts e low high is usual = rw e (record {
  some = lit< tt;
  few = omega arith;
  source = not_reserved source low high;
  distinct = refl;
  base = 1000000;
  rate = pos 30;
  each = each;
})
  where
    each : All Kept (a ∷ [])
    each zero d lt = (is, usual.0, usual.1)
    each (suc k) d lt = absurd (omega arith)

pub source_of_three : (source : ℕ) (a b c : Part) (parts : List Part) → parts ≡ a ∷ b ∷ c ∷ [] → 0 < source → source < 65535
    → IsPart a → IsPart b → IsPart c → Usual a → Usual b → Usual c
    → block_id a.block ≢ block_id b.block → block_id a.block ≢ block_id c.block → block_id b.block ≢ block_id c.block
    → IsSource (record { source = source; parts = parts })
source_of_three source a b c parts e low high is_a is_b is_c usual_a usual_b usual_c ab ac bc = rw e (record {
  some = lit< tt;
  few = omega arith;
  source = not_reserved source low high;
  distinct = rw (ne_eqb _ _ (λ e. ab (sym e)), ne_eqb _ _ (λ e. ac (sym e)), ne_eqb _ _ (λ e. bc (sym e))) refl;
  base = 1000000;
  rate = pos 30;
  each = each;
})
  where
    each : All Kept (a ∷ b ∷ c ∷ [])
    each zero d lt = (is_a, usual_a.0, usual_a.1)
    each (suc zero) d lt = (is_b, usual_b.0, usual_b.1)
    each (suc (suc zero)) d lt = (is_c, usual_c.0, usual_c.1)
    each (suc (suc (suc k))) d lt = absurd (omega arith)

first_base : (ps : List Part) (base : ℕ) (rate : ℤ) → 0 < length ps → All (λ p. IsPart p × (p.base ≡ base) × (p.rate ≡ rate)) ps → resolution_of ps ≡ base
first_base [] base rate some each = absurd (omega arith)
first_base (p ∷ ps) base rate some each = (each 0 p some).1

-- all PMUs of a source have the resolution of its frames
pub resolution-shared : (config : Source) → IsSource config → All (λ p. p.base ≡ resolution config) config.parts
resolution-shared config is = λ k d low. (is.each k d low).1 ∙ sym (first_base config.parts is.base is.rate is.some is.each)
