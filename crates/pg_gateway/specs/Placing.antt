-- The blocks of registered PMUs, by the places of these in the registry.
use Rattle.std.specs.Prelude.{◌≡◌, ◌<◌, ℕ, true, false, List, [], ◌∷◌, length, slice_get, Option, Some, None, IfSome, unwrap_or}
use Rattle.pg_wire.specs.declared.refusal.Refusal.{Refusal}
use Rattle.pg_wire.specs.declared.refusal.Refusal.TheVariants.{NoMemory, NoSuchPmu}
use Rattle.pg_wire.specs.declared.ids.PmuKey.{PmuKey}
use Rattle.pg_config.specs.Parts.{Part, Source}
use Rattle.pg_registry.specs.Registered.{refusing, Pmus, has_key, config_in, place_in, changed_at}
use Rattle.pg_session.specs.Events.{key_in}
use Rattle.pg_gateway.specs.Judging.{block_refusal, block_counted}

-- what becomes of the block of a PMU
abbrev pub JudgesPart : Pmus → Option ℕ → Source → ℕ → Part → Option (ℕ × Option Refusal) → Type 0
JudgesPart pmus last config soc part None = has_key pmus (key_in config part) ≡ false
JudgesPart pmus last config soc part (Some judged) =
    (has_key pmus (key_in config part) ≡ true) × (place_in pmus (key_in config part) ≡ Some judged.0) × (judged.0 < length pmus)
    × (judged.1 ≡ block_refusal (config_in pmus (key_in config part)) last soc part)

abbrev pub Judges : Pmus → Option ℕ → Source → ℕ → ℕ → Option (ℕ × Option Refusal) → Type 0
Judges pmus last config soc place judged = IfSome (slice_get config.parts place) (λ part. JudgesPart pmus last config soc part judged)

-- the places are those of these keys, with the same refusals
abbrev pub ArePlaced : Pmus → List (ℕ × Option Refusal) → List (PmuKey × Option Refusal) → Type 0
ArePlaced pmus [] [] = Unit {0}
ArePlaced pmus (p ∷ places) (b ∷ blocks) = (place_in pmus b.0 ≡ Some p.0) × (p.0 < length pmus) × (p.1
    ≡ b.1) × ArePlaced pmus places blocks
ArePlaced pmus [] (b ∷ blocks) = ⊥
ArePlaced pmus (p ∷ places) [] = ⊥

-- each is counted at its PMU
abbrev pub placed_counted : Pmus → List (ℕ × Option Refusal) → Pmus
placed_counted pmus [] = pmus
placed_counted pmus (p ∷ places) = placed_counted (changed_at (block_counted p.1) p.0 pmus) places

-- what is put behind the others
abbrev pub block_judged : Option (ℕ × Option Refusal) → List (ℕ × Option Refusal)
block_judged None = []
block_judged (Some block) = block ∷ []

abbrev pub place_where : Option Refusal → ℕ → List ℕ
place_where None place = place ∷ []
place_where (Some r) place = []

abbrev pub place_taken : Option (ℕ × Option Refusal) → ℕ → List ℕ
place_taken None place = []
place_taken (Some block) place = place_where block.1 place

-- want of memory is counted at the first of them
abbrev pub placed_memory : Pmus → List (ℕ × Option Refusal) → Pmus
placed_memory pmus [] = pmus
placed_memory pmus (p ∷ places) = changed_at (refusing NoMemory) p.0 pmus

-- their first refusal
abbrev pub placed_refusal : List (ℕ × Option Refusal) → Refusal
placed_refusal [] = NoSuchPmu
placed_refusal (p ∷ places) = unwrap_or p.1 (placed_refusal places)
