-- The registered PMUs as contracts see them: keys in order of registration, each with what it announced and its counters.
use Rattle.std.specs.Prelude.{◌≢◌, ◌≤◌, ℕ, zero, suc, Bool, nat_eq, if◌then◌else◌, List, [], ◌∷◌, length, position, slice_get, AllPairs, Option, Some, None, is_some, option_and_then}
use Rattle.std.specs.List.{list_any}
use Rattle.std.specs.Map.{lookup, keys_of, values_of}
use Rattle.pg_wire.specs.declared.ids.PmuKey.{PmuKey}
use Rattle.pg_wire.specs.declared.refusal.Refusal.{Refusal}
use Rattle.pg_wire.specs.Keys.{key_eq}
use Rattle.pg_wire.specs.Number.{number_of}
use Rattle.pg_config.specs.Parts.{Part}
use Rattle.pg_audit.specs.declared.counters.PmuStats.{PmuStats}
use Rattle.pg_audit.specs.Counting.{no_pmu_stats, more, counted}

-- a registered PMU: the configuration that was announced last, or none, and its counters
pub record Pmu : Type 0 where
  pub config : Option Part
  pub stats : PmuStats

-- keys with their PMUs, in order of registration
abbrev pub Pmus : Type 0
Pmus = List (PmuKey × Pmu)

-- no key stands twice, and there are at most 256
pub record IsRegistry (pmus : Pmus) : Type 0 where
  pub distinct : AllPairs (λ a b. a ≢ b) (keys_of pmus)
  pub few : length pmus ≤ 256

-- the PMU of a key
abbrev pub pmu_of : Pmus → PmuKey → Option Pmu
pmu_of pmus key = lookup (key_eq key) pmus

abbrev pub has_key : Pmus → PmuKey → Bool
has_key pmus key = is_some (pmu_of pmus key)

-- what the key's PMU announced last
abbrev pub config_in : Pmus → PmuKey → Option Part
config_in pmus key = option_and_then (λ (pmu : Pmu). pmu.config) (pmu_of pmus key)

-- where the key stands in the order of registration, the first at 0
abbrev pub place_in : Pmus → PmuKey → Option ℕ
place_in pmus key = position (key_eq key) (keys_of pmus)

-- the PMU at a place
abbrev pub pmu_at : Pmus → ℕ → Option Pmu
pmu_at pmus place = slice_get (values_of pmus) place

-- some key is of this source
abbrev pub has_source : Pmus → ℕ → Bool
has_source pmus source = list_any (λ (key : PmuKey). nat_eq key.source source) (keys_of pmus)

-- one that was just registered
abbrev pub unannounced : Pmu
unannounced = record { config = None; stats = no_pmu_stats }

-- What may happen to a registered PMU: it announces, and what was taken or refused of it is counted.
abbrev pub announcing : Part → Pmu → Pmu
announcing config pmu = record pmu { config = Some config }

abbrev pub taking : Pmu → Pmu
taking pmu = record pmu { stats = record pmu.stats { taken = more pmu.stats.taken 1 } }

abbrev pub refusing : Refusal → Pmu → Pmu
refusing refusal pmu = record pmu { stats = record pmu.stats { by_reason = counted pmu.stats.by_reason (number_of refusal) } }

-- the PMUs after a change of the key's; nothing changes where there is none
abbrev pub changed : (Pmu → Pmu) → PmuKey → Pmus → Pmus
changed change key [] = []
changed change key (p ∷ ps) = if key_eq key p.0 then (p.0, change p.1) ∷ ps else p ∷ changed change key ps

-- the PMUs after a change of the one at a place
abbrev pub changed_at : (Pmu → Pmu) → ℕ → Pmus → Pmus
changed_at change place [] = []
changed_at change zero (p ∷ ps) = (p.0, change p.1) ∷ ps
changed_at change (suc place) (p ∷ ps) = p ∷ changed_at change place ps
