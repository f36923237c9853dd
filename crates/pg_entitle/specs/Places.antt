-- What a search for a key among keys that rise finds.
use Rattle.std.specs.Prelude.{◌≡◌, ◌<◌, ◌≤◌, ℕ, true, List, length, slice_index_or}
use Rattle.pg_wire.specs.declared.ids.PmuKey.{PmuKey}
use Rattle.pg_wire.specs.Keys.{key_eq, key_before}

-- the key at place i
abbrev pub key_at : List PmuKey → ℕ → PmuKey
key_at keys i = slice_index_or keys i (record { source = 0; pmu = 0 })

-- the key stands at place i
pub record IsAt (keys : List PmuKey) (key : PmuKey) (i : ℕ) : Type 0 where
  pub in_range : i < length keys
  pub is_key : key_eq key (key_at keys i) ≡ true

-- the key would go at place i: those below come before it, and it comes before the others
pub record IsGapFor (keys : List PmuKey) (key : PmuKey) (i : ℕ) : Type 0 where
  pub in_range : i ≤ length keys
  pub before : (j : ℕ) → j < i → key_before (key_at keys j) key ≡ true
  pub after : (j : ℕ) → i ≤ j → j < length keys → key_before key (key_at keys j) ≡ true
