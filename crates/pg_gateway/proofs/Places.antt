-- Places that rise, and what stands at those that pass a test.
use Rattle.std.proofs.Common.{◌≡◌, ℕ, zero, suc, ◌+◌, ◌-◌, ◌<◌, ◌≤◌, Bool, true, false, if◌then◌else◌, List, [], ◌∷◌, ◌++◌, length, filter, All, Option, Some, None, refl, ap, arith}
use Rattle.std.specs.Prelude.{slice_get}
use Rattle.std.specs.List.{range_with_len}
use Rattle.std.proofs.lemmas.List.Elements.{All-cons, All-nil}
use Rattle.pg_wire.specs.declared.ids.PmuKey.{PmuKey}
use Rattle.pg_config.specs.Parts.{Part, Source}
use Rattle.pg_data.specs.Measurements.{Measurement, block_of}
use Rattle.pg_session.specs.Events.{Announcing, Sample, announced_part, announced_at, sampled_part, samples_at, key_in}
use Rattle.pg_session.specs.Ready.{AreRising}
use Rattle.pg_gateway.specs.Taking.{part_passes}

pub rising-all : (least n : ℕ) (ps : List ℕ) → AreRising least n ps → All (λ i. i < n) ps
rising-all least n [] rising = All-nil _
rising-all least n (p ∷ ps) rising = All-cons (λ i. i < n) p ps rising.1 (rising-all (suc p) n ps rising.2)

pub rising-length : (least n : ℕ) (ps : List ℕ) → AreRising least n ps → length ps ≤ n - least
rising-length least n [] rising = omega arith
rising-length least n (p ∷ ps) rising = let rest = rising-length (suc p) n ps rising.2 in let first = rising.0 in let below = rising.1 in omega arith

pub rising-few : (n : ℕ) (ps : List ℕ) → AreRising 0 n ps → length ps ≤ n
rising-few n ps rising = let few = rising-length 0 n ps rising in omega arith

rising-lower : (less least n : ℕ) (ps : List ℕ) → less ≤ least → AreRising least n ps → AreRising less n ps
rising-lower less least n [] le rising = tt
rising-lower less least n (p ∷ ps) le rising = let first = rising.0 in (omega arith, rising.1, rising.2)

pub rising-filter : (test : ℕ → Bool) (least n : ℕ) (ps : List ℕ) → AreRising least n ps → AreRising least n (filter test ps)
rising-filter test least n [] rising = tt
rising-filter test least n (p ∷ ps) rising = by (test p) (rising-filter test (suc p) n ps rising.2)
  where
    by : (b : Bool) → AreRising (suc p) n (filter test ps) → AreRising least n (if b then p ∷ filter test ps else filter test ps)
    by true rest = (rising.0, rising.1, rest)
    by false rest = let first = rising.0 in rising-lower least (suc p) n (filter test ps) (omega arith) rest

rising-wider : (least i n : ℕ) (ps : List ℕ) → i ≤ n → AreRising least i ps → AreRising least n ps
rising-wider least i n [] le rising = tt
rising-wider least i n (p ∷ ps) le rising = let below = rising.1 in (rising.0, omega arith, rising-wider (suc p) i n ps le rising.2)

pub rising-range : (a n : ℕ) → AreRising a (a + n) (range_with_len a n)
rising-range a zero = tt
rising-range a (suc n) =
    let rest = rising-range (a + 1) n in
    let next : a + 1 ≡ suc a = omega arith in
    let same : a + 1 + n ≡ a + suc n = omega arith in
    (omega arith, omega arith, rw (← same, ← next) rest)

-- those that pass a test of their keys
module _ (test : PmuKey → Bool) where
  abbrev pub announces_at : Source → ℕ → Bool
  announces_at config i = part_passes test config (slice_get config.parts i)

  pub announced-filter : (config : Source) (ps : List ℕ) → announced_at config (filter (announces_at config) ps) ≡ filter (λ a. test a.key) (announced_at config ps)
  announced-filter config [] = refl
  announced-filter config (p ∷ ps) = by (slice_get config.parts p) refl (announced-filter config ps)
    where
      one : (part : Part) (b : Bool) → slice_get config.parts p ≡ Some part → announced_at config (filter (announces_at config) ps) ≡ filter (λ a. test a.key) (announced_at config ps)
          → announced_at config (if b then p ∷ filter (announces_at config) ps else filter (announces_at config) ps)
          ≡ (if b then record { key = key_in config part; config = part } ∷ filter (λ a. test a.key) (announced_at config ps) else filter (λ a. test a.key) (announced_at config ps))
      one part true at rest = rw at (ap (λ l. record { key = key_in config part; config = part } ∷ l) rest)
      one part false at rest = rest

      by : (o : Option Part) → slice_get config.parts p ≡ o → announced_at config (filter (announces_at config) ps) ≡ filter (λ a. test a.key) (announced_at config ps)
          → announced_at config (if part_passes test config o then p ∷ filter (announces_at config) ps else filter (announces_at config) ps)
          ≡ filter (λ a. test a.key) (announced_part config o ++ announced_at config ps)
      by None at rest = rest
      by (Some part) at rest = one part (test (key_in config part)) at rest

  pub samples-filter : (m : Measurement) (ps : List ℕ) → samples_at m (filter (announces_at m.config) ps) ≡ filter (λ s. test s.key) (samples_at m ps)
  samples-filter m [] = refl
  samples-filter m (p ∷ ps) = by (slice_get m.config.parts p) refl (samples-filter m ps)
    where
      sample : Part → Sample
      sample part = record { key = key_in m.config part; config = part; block = block_of m p }

      one : (part : Part) (b : Bool) → slice_get m.config.parts p ≡ Some part → samples_at m (filter (announces_at m.config) ps) ≡ filter (λ s. test s.key) (samples_at m ps)
          → samples_at m (if b then p ∷ filter (announces_at m.config) ps else filter (announces_at m.config) ps)
          ≡ (if b then sample part ∷ filter (λ s. test s.key) (samples_at m ps) else filter (λ s. test s.key) (samples_at m ps))
      one part true at rest = rw at (ap (λ l. sample part ∷ l) rest)
      one part false at rest = rest

      by : (o : Option Part) → slice_get m.config.parts p ≡ o → samples_at m (filter (announces_at m.config) ps) ≡ filter (λ s. test s.key) (samples_at m ps)
          → samples_at m (if part_passes test m.config o then p ∷ filter (announces_at m.config) ps else filter (announces_at m.config) ps)
          ≡ filter (λ s. test s.key) (sampled_part m p o ++ samples_at m ps)
      by None at rest = rest
      by (Some part) at rest = one part (test (key_in m.config part)) at rest

-- a place below their number is one of some PMU
pub part_there : (parts : List Part) (p : ℕ) → p < length parts → (part : Part) × (slice_get parts p ≡ Some part)
part_there [] p lt = absurd (omega arith)
part_there (q ∷ parts) zero lt = (q, refl)
part_there (q ∷ parts) (suc p) lt = part_there parts p (omega arith)

-- what rising places announce is nothing where there are none, and something else
pub announced-some : (config : Source) (least : ℕ) (ps : List ℕ) → AreRising least (length config.parts) ps → 0 < length ps
    → (a : Announcing) × (list : List Announcing) × (announced_at config ps ≡ a ∷ list)
announced-some config least [] rising some = absurd (omega arith)
announced-some config least (p ∷ ps) rising some =
    let there = part_there config.parts p rising.1 in
    (record { key = key_in config there.0; config = there.0 }, announced_at config ps, ap (λ o. announced_part config o ++ announced_at config ps) there.1)

pub samples-some : (m : Measurement) (least : ℕ) (ps : List ℕ) → AreRising least (length m.config.parts) ps → 0 < length ps
    → (s : Sample) × (list : List Sample) × (samples_at m ps ≡ s ∷ list)
samples-some m least [] rising some = absurd (omega arith)
samples-some m least (p ∷ ps) rising some =
    let there = part_there m.config.parts p rising.1 in
    (record { key = key_in m.config there.0; config = there.0; block = block_of m p }, samples_at m ps, ap (λ o. sampled_part m p o ++ samples_at m ps) there.1)
