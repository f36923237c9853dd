-- What became of blocks is counted at their PMUs.
use Rattle.std.proofs.Common.{◌≡◌, ℕ, zero, suc, ◌<◌, List, [], ◌∷◌, ◌++◌, length, Option, Some, refl, sym, ap, subst, ◌∙◌, arith, All, map, drop, get_or, add-one, ◌+◌, None}
use Rattle.std.specs.Prelude.{position}
use Rattle.std.specs.Map.{keys_of}
use Rattle.std.specs.Prelude.{unwrap_or}
use Rattle.std.proofs.lemmas.List.Elements.{All-cons, All-nil}
use Rattle.pg_wire.specs.declared.refusal.Refusal.{Refusal}
use Rattle.pg_wire.specs.declared.refusal.Refusal.TheVariants.{NoMemory}
use Rattle.pg_wire.specs.declared.ids.PmuKey.{PmuKey}
use Rattle.pg_wire.specs.Keys.{key_eq}
use Rattle.pg_registry.specs.Registered.{Pmu, Pmus, pmu_at, changed, changed_at, refusing}
use Rattle.pg_registry.proofs.Lists.{changed_at-keyed, keys-changed}
use Rattle.pg_gateway.specs.Judging.{block_counted, blocks_counted, memory_counted, first_refusal}
use Rattle.pg_gateway.specs.Placing.{ArePlaced, placed_counted, placed_memory, placed_refusal}

pub counted-push : (pmus : Pmus) (ps : List (ℕ × Option Refusal)) (p : ℕ × Option Refusal) → placed_counted pmus (ps ++ p ∷ []) ≡ changed_at (block_counted p.1) p.0 (placed_counted pmus ps)
counted-push pmus [] p = refl
counted-push pmus (q ∷ ps) p = counted-push (changed_at (block_counted q.1) q.0 pmus) ps p

pub length-changed_at : (change : Pmu → Pmu) (place : ℕ) (pmus : Pmus) → length (changed_at change place pmus) ≡ length pmus
length-changed_at change place [] = refl
length-changed_at change zero (p ∷ ps) = refl
length-changed_at change (suc place) (p ∷ ps) = ap suc (length-changed_at change place ps)

-- a PMU stands at a place below their number
pmu_there : (pmus : Pmus) (place : ℕ) → place < length pmus → (pmu : Pmu) × (pmu_at pmus place ≡ Some pmu)
pmu_there [] place lt = absurd (omega arith)
pmu_there (p ∷ ps) zero lt = (p.1, refl)
pmu_there (p ∷ ps) (suc place) lt = pmu_there ps place (omega arith)

-- places stay where PMUs are changed
placed-changed : (change : Pmu → Pmu) (place : ℕ) (key : PmuKey) (pmus : Pmus) (ps : List (ℕ × Option Refusal)) (bs : List (PmuKey × Option Refusal))
    → changed_at change place pmus ≡ changed change key pmus → ArePlaced pmus ps bs → ArePlaced (changed_at change place pmus) ps bs
placed-changed change place key pmus [] [] same placed = tt
placed-changed change place key pmus [] (b ∷ bs) same placed = absurd placed
placed-changed change place key pmus (p ∷ ps) [] same placed = absurd placed
placed-changed change place key pmus (p ∷ ps) (b ∷ bs) same placed = (
  ap (λ l. position (key_eq b.0) l) (ap keys_of same ∙ keys-changed change key pmus) ∙ placed.0,
  subst (λ n. p.0 < n) (sym (length-changed_at change place pmus)) placed.1,
  placed.2,
  placed-changed change place key pmus ps bs same placed.3,
)

pub counted_placed : (pmus : Pmus) (ps : List (ℕ × Option Refusal)) (bs : List (PmuKey × Option Refusal)) → ArePlaced pmus ps bs → placed_counted pmus ps ≡ blocks_counted pmus bs
counted_placed pmus [] [] placed = refl
counted_placed pmus [] (b ∷ bs) placed = absurd placed
counted_placed pmus (p ∷ ps) [] placed = absurd placed
counted_placed pmus (p ∷ ps) (b ∷ bs) placed =
    let there = pmu_there pmus p.0 placed.1 in
    let same = changed_at-keyed (block_counted p.1) pmus b.0 p.0 there.0 placed.0 there.1 in
    counted_placed (changed_at (block_counted p.1) p.0 pmus) ps bs (placed-changed (block_counted p.1) p.0 b.0 pmus ps bs same placed.3)
    ∙ ap (λ l. blocks_counted l bs) (same ∙ ap (λ r. changed (block_counted r) b.0 pmus) placed.2)

pub placed_within : (pmus : Pmus) (ps : List (ℕ × Option Refusal)) (bs : List (PmuKey × Option Refusal)) → ArePlaced pmus ps bs → All (λ p. p.0 < length pmus) ps
placed_within pmus [] [] placed = All-nil (λ p. p.0 < length pmus)
placed_within pmus [] (b ∷ bs) placed = absurd placed
placed_within pmus (p ∷ ps) [] placed = absurd placed
placed_within pmus (p ∷ ps) (b ∷ bs) placed = All-cons (λ p. p.0 < length pmus) p ps placed.1 (placed_within pmus ps bs placed.3)

pub memory_placed : (pmus : Pmus) (ps : List (ℕ × Option Refusal)) (bs : List (PmuKey × Option Refusal)) → ArePlaced pmus ps bs → placed_memory pmus ps ≡ memory_counted pmus (map (λ b. b.0) bs)
memory_placed pmus [] [] placed = refl
memory_placed pmus [] (b ∷ bs) placed = absurd placed
memory_placed pmus (p ∷ ps) [] placed = absurd placed
memory_placed pmus (p ∷ ps) (b ∷ bs) placed =
    let there = pmu_there pmus p.0 placed.1 in
    changed_at-keyed (refusing NoMemory) pmus b.0 p.0 there.0 placed.0 there.1

pub refusal_placed : (pmus : Pmus) (ps : List (ℕ × Option Refusal)) (bs : List (PmuKey × Option Refusal)) → ArePlaced pmus ps bs → placed_refusal ps ≡ first_refusal bs
refusal_placed pmus [] [] placed = refl
refusal_placed pmus [] (b ∷ bs) placed = absurd placed
refusal_placed pmus (p ∷ ps) [] placed = absurd placed
refusal_placed pmus (p ∷ ps) (b ∷ bs) placed = ap (λ o. unwrap_or o (placed_refusal ps)) placed.2 ∙ by b.1 (refusal_placed pmus ps bs placed.3)
  where
    by : (o : Option Refusal) → placed_refusal ps ≡ first_refusal bs → unwrap_or o (placed_refusal ps) ≡ first_refusal ((b.0, o) ∷ bs)
    by None rest = rest
    by (Some r) rest = refl

pub refusal_next : (ps : List (ℕ × Option Refusal)) (i : ℕ) (d : ℕ × Option Refusal) → i < length ps → placed_refusal (drop i ps) ≡ unwrap_or (get_or ps i d).1 (placed_refusal (drop (i + 1) ps))
refusal_next ps i d lt = rw add-one (by ps i lt)
  where
    by : (ps : List (ℕ × Option Refusal)) (i : ℕ) → i < length ps → placed_refusal (drop i ps) ≡ unwrap_or (get_or ps i d).1 (placed_refusal (drop (suc i) ps))
    by [] i lt = absurd (omega arith)
    by (p ∷ ps) zero lt = refl
    by (p ∷ ps) (suc i) lt = by ps i (omega arith)
