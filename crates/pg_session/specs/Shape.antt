-- CFG-1 lists and effective members, compared by keys and by blocks without CFGCNT.
use Rattle.std.specs.Prelude.{Bool, true, false, List, ◌++◌, map, Option, Some, None}
use Rattle.std.specs.List.{list_all}
use Rattle.std.specs.Str.{bytes_eq}
use Rattle.pg_wire.specs.declared.ids.PmuKey.{PmuKey}
use Rattle.pg_config.specs.Parts.{Part}
use Rattle.pg_config.specs.Writing.{uncounted}
use Rattle.pg_outcfg.specs.Listing.{Listing, config_at}

-- a PMU's place in two lists: it is in neither, or in both with the same block but for CFGCNT
abbrev pub same_config : Option Part → Option Part → Bool
same_config None None = true
same_config None (Some other) = false
same_config (Some config) None = false
same_config (Some config) (Some other) = bytes_eq (uncounted config) (uncounted other)

-- two lists are the same at these keys
abbrev pub same_at : Listing → Listing → List PmuKey → Bool
same_at listed other keys = list_all (λ key. same_config (config_at listed key) (config_at other key)) keys

abbrev pub keys_of : Listing → List PmuKey
keys_of listed = map (λ e. e.0) listed

-- two CFG-1 lists are the same
abbrev pub same_list : Listing → Listing → Bool
same_list listed other = same_at listed other (keys_of listed ++ keys_of other)

-- the effective members of a stream and their blocks are the same by two CFG-1 lists
abbrev pub same_shape : List PmuKey → Listing → Listing → Bool
same_shape members listed other = same_at listed other members
