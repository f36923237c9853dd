-- Which changes of a CFG-1 list count, and which of them flush a stream.
use Rattle.std.specs.Prelude.{◌≡◌, ◌↔◌, IsTrue, ℕ, All, List, map, Option, Some, None, option_map}
use Rattle.pg_wire.specs.declared.ids.PmuKey.{PmuKey}
use Rattle.pg_config.specs.Parts.{Part}
use Rattle.pg_config.specs.Writing.{uncounted}
use Rattle.pg_outcfg.specs.Listing.{Listing, IsRising, config_at, with_config, without_config}
use Rattle.pg_session.specs.Shape.{same_list, same_shape}

-- a CFG-1 list by what counts in it: each key, with its block but for CFGCNT
abbrev pub uncounted_list : Listing → List (PmuKey × List ℕ)
uncounted_list listed = map (λ e. (e.0, uncounted e.1)) listed

-- a key's block in a CFG-1 list but for CFGCNT, if it stands there
abbrev pub uncounted_at : Listing → PmuKey → Option (List ℕ)
uncounted_at listed key = option_map uncounted (config_at listed key)

-- Which changes of a CFG-1 list count, and which of them flush a stream.
pub record ChangesAreTold : Type 0 where
  -- the list stays just where it keeps its keys and their blocks but for CFGCNT
  pub list : (listed other : Listing) → IsRising listed → IsRising other
      → IsTrue (same_list listed other) ↔ (uncounted_list listed ≡ uncounted_list other)
  -- a stream's shape stays just where each of its members stands in neither list, or in both with one block but for CFGCNT
  pub shape : (members : List PmuKey) (listed other : Listing)
      → IsTrue (same_shape members listed other) ↔ All (λ key. uncounted_at listed key ≡ uncounted_at other key) members
  -- where the list stays, so does each stream's shape
  pub flushes : (members : List PmuKey) (listed other : Listing) → IsTrue (same_list listed other) → IsTrue (same_shape members listed other)
  -- a configuration that is put changes nothing just where its key has that block but for CFGCNT
  pub put : (listed : Listing) (key : PmuKey) (part : Part)
      → IsTrue (same_list listed (with_config listed key part)) ↔ (uncounted_at listed key ≡ Some (uncounted part))
  -- a removal changes nothing just where the key does not stand there
  pub removed : (listed : Listing) (key : PmuKey) → IsTrue (same_list listed (without_config listed key)) ↔ (config_at listed key ≡ None)
