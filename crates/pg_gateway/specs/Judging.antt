-- Which blocks of a source's frame are taken, and what is counted at their PMUs.
use Rattle.std.specs.Prelude.{ℕ, ◌+◌, ◌&&◌, ◌||◌, Bool, false, not, nat_eq, nat_lt, is_some, List, [], ◌∷◌, length, map, filter, Option, Some, None, bytes_eq}
use Rattle.std.specs.List.{range_with_len}
use Rattle.std.specs.Ordering.{int_eq}
use Rattle.pg_wire.specs.declared.refusal.Refusal.{Refusal}
use Rattle.pg_wire.specs.declared.refusal.Refusal.TheVariants.{NoMemory, NoSuchPmu, NoConfig, FarClock, StaleConfig}
use Rattle.pg_wire.specs.declared.ids.PmuKey.{PmuKey}
use Rattle.pg_config.specs.Parts.{Part, Source}
use Rattle.pg_data.specs.Measurements.{Measurement}
use Rattle.pg_registry.specs.Registered.{Pmu, Pmus, has_key, config_in, announcing, taking, refusing, changed}
use Rattle.pg_session.specs.Events.{Announcing, Sample, announced_at, samples_at}
use Rattle.pg_session.specs.Private.{refuse}

-- all PMUs of a source's configuration, and all blocks of its data frame, in their order
abbrev pub announced_in : Source → List Announcing
announced_in config = announced_at config (range_with_len 0 (length config.parts))

abbrev pub samples_in : Measurement → List Sample
samples_in m = samples_at m (range_with_len 0 (length m.config.parts))

-- two configurations are equal
abbrev pub same_part : Part → Part → Bool
same_part a b =
    nat_eq a.base b.base && (int_eq a.rate b.rate && (nat_eq a.phasors b.phasors && (nat_eq a.analogs b.analogs
    && (nat_eq a.digitals b.digitals && bytes_eq a.block b.block))))

-- a SOC is more than 30 seconds off the last tick's; before any tick none is
abbrev pub is_far : Option ℕ → ℕ → Bool
is_far None soc = false
is_far (Some last) soc = nat_lt (last + 30) soc || nat_lt (soc + 30) last

-- Why a registered PMU's block is refused, or None where it is taken: by what the PMU announced last, by the last tick, and
-- by the SOC and the configuration by which the block was read.
abbrev pub block_refusal : Option Part → Option ℕ → ℕ → Part → Option Refusal
block_refusal None last soc config = Some NoConfig
block_refusal (Some held) last soc config = refuse (not (same_part held config)) StaleConfig (refuse (is_far last soc) FarClock None)

module _ (pmus : Pmus) where
  -- of a source's PMUs those that are registered
  abbrev pub registered_of : Source → List Announcing
  registered_of config = filter (λ a. has_key pmus a.key) (announced_in config)

  module _ (last : Option ℕ) where
    abbrev pub sample_refusal : ℕ → Sample → Option Refusal
    sample_refusal soc s = block_refusal (config_in pmus s.key) last soc s.config

    -- the blocks of registered PMUs, each with why it is refused, or None
    abbrev pub judged : Measurement → List (PmuKey × Option Refusal)
    judged m = map (λ s. (s.key, sample_refusal m.soc s)) (filter (λ s. has_key pmus s.key) (samples_in m))

    abbrev pub is_taken : ℕ → Sample → Bool
    is_taken soc s = has_key pmus s.key && not (is_some (sample_refusal soc s))

    -- the blocks that are taken
    abbrev pub taken_of : Measurement → List Sample
    taken_of m = filter (is_taken m.soc) (samples_in m)

-- the refusal of a frame none of whose blocks is taken: that of its first registered block, or else NoSuchPmu
abbrev pub first_refusal : List (PmuKey × Option Refusal) → Refusal
first_refusal [] = NoSuchPmu
first_refusal ((key, None) ∷ blocks) = first_refusal blocks
first_refusal ((key, Some r) ∷ blocks) = r

-- each block counts at its PMU, as taken or under its refusal
abbrev pub block_counted : Option Refusal → Pmu → Pmu
block_counted None = taking
block_counted (Some r) = refusing r

abbrev pub blocks_counted : Pmus → List (PmuKey × Option Refusal) → Pmus
blocks_counted pmus [] = pmus
blocks_counted pmus (b ∷ blocks) = blocks_counted (changed (block_counted b.1) b.0 pmus) blocks

-- each PMU has announced its configuration, which changes no counter
abbrev pub all_announced : Pmus → List Announcing → Pmus
all_announced pmus [] = pmus
all_announced pmus (a ∷ list) = all_announced (changed (announcing a.config) a.key pmus) list

-- want of memory is counted at the first of these PMUs
abbrev pub memory_counted : Pmus → List PmuKey → Pmus
memory_counted pmus [] = pmus
memory_counted pmus (key ∷ keys) = changed (refusing NoMemory) key pmus
