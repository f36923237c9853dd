-- Where an entry stands in a list that rises, and how the list lies in memory.
use Rattle.std.specs.Prelude.{◌≡◌, ◌≤◌, ℕ, zero, suc, true, [], ◌∷◌, length, map, vec_capacity}
use Rattle.std.specs.Arc.{arc_value}
use Rattle.std.specs.Global.{Vec}
use Rattle.pg_wire.specs.declared.ids.PmuKey.{PmuKey}
use Rattle.pg_wire.specs.Keys.{key_eq, key_before}
use Rattle.pg_config.specs.Parts.{Part}
use Rattle.pg_outcfg.specs.declared.list.Listed.{Listed}
use Rattle.pg_outcfg.specs.Listing.{Listing, IsBelow, IsRising}

-- an entry, wherever its configuration lies in memory
abbrev pub shown : Listed → PmuKey × Part
shown l = (l.key, arc_value l.config)

-- the key stands at place i
abbrev pub StandsAt : Listing → PmuKey → ℕ → Type 0
StandsAt [] key i = ⊥
StandsAt (e ∷ es) key zero = key_eq key e.0 ≡ true
StandsAt (e ∷ es) key (suc i) = StandsAt es key i

-- the key would stand at place i: those before it come before the key, and the key before the others
abbrev pub FitsAt : Listing → PmuKey → ℕ → Type 0
FitsAt listed key zero = IsBelow key listed
FitsAt [] key (suc i) = ⊥
FitsAt (e ∷ es) key (suc i) = (key_before e.0 key ≡ true) × FitsAt es key i

-- at most 32 entries by rising key, in room for 32
pub record ListIsKept (entries : Vec Listed) : Type 0 where
  pub rising : IsRising (map shown entries.items)
  pub few : length entries.items ≤ 32
  pub room : 32 ≤ vec_capacity entries
