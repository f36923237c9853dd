-- One PMU's configuration hangs on its own block alone.
use Rattle.std.proofs.Common.{◌≡◌, ℕ, ℤ, List, [], ◌∷◌, map, Option, Some, None, Result, Ok, Err, refl, sym, ap, ap₂, ◌∙◌, Bool, true, false, nat_eq, if◌then◌else◌}
use Rattle.pg_wire.specs.declared.refusal.Refusal.{Refusal}
use Rattle.pg_config.specs.declared.source.Announced.{Announced}
use Rattle.pg_config.specs.Parts.{Part, part_with, block_id}
use Rattle.pg_config.specs.Reading.{◌>>=◌, base_at, rate_at, frame_blocks, config_of, announced_of}
use Rattle.pg_config.specs.Own.{own_block, own_part}

-- a block, where there is one, with this resolution and rate
with_block : ℕ → ℤ → Option (List ℕ) → Option Part
with_block base rate (Some b) = Some (part_with base rate b)
with_block base rate None = None

of_block : (base : ℕ) (rate : ℤ) (pmu : ℕ) (blocks : List (List ℕ)) → own_part pmu (map (part_with base rate) blocks) ≡ with_block base rate (own_block pmu blocks)
unfolding with_block
of_block base rate pmu [] = refl
of_block base rate pmu (b ∷ bs) = go (nat_eq (block_id b) pmu) (own_part pmu (map (part_with base rate) bs)) (own_block pmu bs) (of_block base rate pmu bs) where
  go : (t : Bool) (x : Option Part) (y : Option (List ℕ)) → x ≡ with_block base rate y → (if t then Some (part_with base rate b) else x) ≡ with_block base rate (if t then Some b else y)
  go true x y is = refl
  go false x y is = is

parts_are : (f : List ℕ) (a : Announced) (blocks : List (List ℕ)) → config_of f ≡ Ok a → frame_blocks f ≡ Ok blocks → a.config.parts ≡ map (part_with (base_at f) (rate_at f)) blocks
parts_are f a blocks read found =
    let both : Ok a ≡ Ok (announced_of f blocks) = sym read ∙ ap (λ r. r >>= λ bs. Ok (announced_of f bs)) found in
    ap (λ r. parts_of r) both
  where
    parts_of : Result Announced Refusal → List Part
    parts_of (Ok x) = x.config.parts
    parts_of (Err e) = []

pub own-alone : (f g : List ℕ) (a b : Announced) (blocks others : List (List ℕ)) (pmu : ℕ) → config_of f ≡ Ok a → config_of g ≡ Ok b → frame_blocks f ≡ Ok blocks → frame_blocks g ≡ Ok others
    → base_at f ≡ base_at g → rate_at f ≡ rate_at g → own_block pmu blocks ≡ own_block pmu others → own_part pmu a.config.parts ≡ own_part pmu b.config.parts
own-alone f g a b blocks others pmu read_f read_g found_f found_g base rate own =
    ap (own_part pmu) (parts_are f a blocks read_f found_f) ∙ of_block (base_at f) (rate_at f) pmu blocks
    ∙ ap₂ (λ h x. h x) (ap₂ with_block base rate) own
    ∙ sym (ap (own_part pmu) (parts_are g b others read_g found_g) ∙ of_block (base_at g) (rate_at g) pmu others)
