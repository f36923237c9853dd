-- The limits of a definition, each as a fact, and the same limits as a test that computes.
use Rattle.std.specs.Prelude.{◌≢◌, ℕ, ◌^◌, ◌<◌, ◌≤◌, Bool, true, ◌&&◌, not, nat_lt, nat_le, if◌then◌else◌, List, [], ◌∷◌, length, All, AllPairs, Result, Ok, Err}
use Rattle.pg_wire.specs.declared.refusal.Refusal.{Refusal}
use Rattle.pg_wire.specs.declared.refusal.Refusal.TheVariants.{BadDefinition}
use Rattle.pg_wire.specs.declared.ids.PmuKey.{PmuKey}
use Rattle.pg_wire.specs.Keys.{key_eq}
use Rattle.pg_stream.specs.declared.definition.Definition.{Definition}

-- its numbers
pub record HasNumbers (d : Definition) : Type 0 where
  pub rate : (1 ≤ d.rate) × (d.rate ≤ 120)
  pub base : (d.rate ≤ d.base) × (d.base < 2 ^ 24)
  pub window : (1 ≤ d.window) × (d.window ≤ 64)
  pub wait : d.wait ≤ 60000

-- a header's text
pub record HasText (bytes : List ℕ) : Type 0 where
  pub size : length bytes ≤ 1024
  pub ascii : All (λ byte. byte ≤ 127) bytes

-- a stream's members
pub record HasMembers (keys : List PmuKey) : Type 0 where
  pub some : 1 ≤ length keys
  pub few : length keys ≤ 32
  pub distinct : AllPairs (λ a b. a ≢ b) keys

-- a stream may be defined so
pub record IsWithinLimits (d : Definition) : Type 0 where
  pub numbers : HasNumbers d
  pub header : HasText d.header
  pub members : HasMembers d.members

-- The same limits as tests that compute: the law `limits_are_tested` ties the two.
abbrev pub has_numbers : Definition → Bool
has_numbers d =
    (nat_le 1 d.rate && nat_le d.rate 120) && ((nat_le d.rate d.base && nat_lt d.base (2 ^ 24))
    && ((nat_le 1 d.window && nat_le d.window 64) && nat_le d.wait 60000))

abbrev pub is_ascii : List ℕ → Bool
is_ascii [] = true
is_ascii (byte ∷ bytes) = nat_le byte 127 && is_ascii bytes

-- none of the keys is this one
abbrev pub none_is : PmuKey → List PmuKey → Bool
none_is key [] = true
none_is key (first ∷ keys) = not (key_eq key first) && none_is key keys

abbrev pub are_distinct : List PmuKey → Bool
are_distinct [] = true
are_distinct (key ∷ keys) = none_is key keys && are_distinct keys

unfoldable pub is_within_limits : Definition → Bool
is_within_limits d =
    has_numbers d && ((nat_le (length d.header) 1024 && is_ascii d.header)
    && (nat_le 1 (length d.members) && (nat_le (length d.members) 32 && are_distinct d.members)))

-- the answer to a definition: taken, or refused for one reason only
abbrev pub answer_to : Definition → Result Unit Refusal
answer_to d = if is_within_limits d then Ok tt else Err BadDefinition
