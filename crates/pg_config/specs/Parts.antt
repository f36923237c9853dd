-- Configurations, as contracts see them.
use Rattle.std.specs.Prelude.{◌≡◌, ℕ, ℤ, ◌+◌, ◌*◌, ◌/◌, ◌%◌, ◌^◌, ◌<◌, ◌≤◌, List, [], ◌∷◌, length, map, All, Bool, false, nat_eq, ◌==◌, ◌||◌}
use Rattle.std.specs.List.{list_any}
use Rattle.pg_wire.specs.Head.{two_at}

-- a PMU's configuration, wherever it lies in memory
pub record Part : Type 0 where
  pub base : ℕ
  pub rate : ℤ
  pub phasors : ℕ
  pub analogs : ℕ
  pub digitals : ℕ
  pub block : List ℕ

-- the configuration of a source
pub record Source : Type 0 where
  pub source : ℕ
  pub parts : List Part

-- the IDCODE of a configuration block, behind STN's sixteen bytes
abbrev pub block_id : List ℕ → ℕ
block_id block = two_at block 16

-- how many bytes a configuration block has by its counts PHNMR, ANNMR and DGNMR
abbrev pub size_by_counts : List ℕ → ℕ
size_by_counts block = 30 + 20 * two_at block 20 + 20 * two_at block 22 + 260 * two_at block 24

-- a block, in a frame of this resolution and rate
abbrev pub part_with : ℕ → ℤ → List ℕ → Part
part_with base rate block = record { base = base; rate = rate; phasors = two_at block 20; analogs = two_at block 22; digitals = two_at block 24; block = block }

-- an IDCODE that names nothing
abbrev pub is_reserved : ℕ → Bool
is_reserved id = id == 0 || id == 65535

-- whether a number stands twice in the list
abbrev pub repeats : List ℕ → Bool
repeats [] = false
repeats (n ∷ ns) = list_any (λ m. nat_eq m n) ns || repeats ns

-- a block that a reader takes: FORMAT's bits 1 to 3 are 0, all values are whole numbers
pub record IsBlock (block : List ℕ) : Type 0 where
  pub size : length block ≡ size_by_counts block
  pub bounded : length block ≤ 2000
  pub fixed : two_at block 18 / 2 % 8 ≡ 0

-- what its reader checked of a PMU's configuration
pub record IsPart (p : Part) : Type 0 where
  pub some : 0 < p.base
  pub base : p.base < 2 ^ 24
  pub counts : part_with p.base p.rate p.block ≡ p
  pub block : IsBlock p.block
  pub id : is_reserved (block_id p.block) ≡ false

-- what its reader checked of a source's configuration
pub record IsSource (s : Source) : Type 0 where
  pub some : 0 < length s.parts
  pub few : length s.parts ≤ 16
  pub source : is_reserved s.source ≡ false
  pub distinct : repeats (map (λ p. block_id p.block) s.parts) ≡ false
  pub base : ℕ
  pub rate : ℤ
  pub each : All (λ p. IsPart p × (p.base ≡ base) × (p.rate ≡ rate)) s.parts

-- how many bytes the PMU's block has in a data frame: STAT, phasors, FREQ, DFREQ, analog values, digital words
abbrev pub data_len : Part → ℕ
data_len p = 6 + 4 * p.phasors + 2 * p.analogs + 2 * p.digitals

-- how many bytes the data blocks of these PMUs have together
abbrev pub data_lens : List Part → ℕ
data_lens [] = 0
data_lens (p ∷ ps) = data_len p + data_lens ps

-- where each data block ends, the first one beginning at this place
abbrev pub ends_from : ℕ → List Part → List ℕ
ends_from at [] = []
ends_from at (p ∷ ps) = (at + data_len p) ∷ ends_from (at + data_len p) ps
