-- The configurations that a subscriber may see: its CFG-1 list.
use Rattle.std.specs.Prelude.{◌≡◌, true, not, List, [], ◌∷◌, Option, filter, if◌then◌else◌}
use Rattle.std.specs.List.{AllByRecursion}
use Rattle.std.specs.Map.{lookup}
use Rattle.pg_wire.specs.declared.ids.PmuKey.{PmuKey}
use Rattle.pg_wire.specs.Keys.{key_eq, key_before}
use Rattle.pg_config.specs.Parts.{Part}

-- PMUs' keys, each with its configuration
abbrev pub Listing : Type 0
Listing = List (PmuKey × Part)

-- this key comes before all of them
abbrev pub IsBelow : PmuKey → Listing → Type 0
IsBelow key listed = AllByRecursion (λ e. key_before key e.0 ≡ true) listed

-- each key comes before those after it, so none stands twice
abbrev pub IsRising : Listing → Type 0
IsRising [] = Unit {0}
IsRising (e ∷ es) = IsBelow e.0 es × IsRising es

-- the configuration of the PMU with this key
abbrev pub config_at : Listing → PmuKey → Option Part
config_at listed key = lookup (key_eq key) listed

-- the list with this configuration at its key's place in the order, or in place of the one that stands there
abbrev pub with_config : Listing → PmuKey → Part → Listing
with_config [] key part = (key, part) ∷ []
with_config (e ∷ es) key part =
    if key_eq key e.0 then (key, part) ∷ es else
    if key_before key e.0 then (key, part) ∷ e ∷ es else
    e ∷ with_config es key part

-- the list without the PMU of this key
abbrev pub without_config : Listing → PmuKey → Listing
without_config listed key = filter (λ e. not (key_eq key e.0)) listed
