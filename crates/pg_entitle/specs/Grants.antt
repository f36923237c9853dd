-- The PMUs that are granted to a subscriber: a set of keys, as the one list of them that rises.
use Rattle.std.specs.Prelude.{◌≡◌, ◌≤◌, ◌||◌, Bool, true, false, nat_lt, if◌then◌else◌, List, [], ◌∷◌, length, AllPairs}
use Rattle.pg_wire.specs.declared.ids.PmuKey.{PmuKey}
use Rattle.pg_wire.specs.Keys.{key_eq, key_before}

-- each key comes before every later one, so none stands twice
abbrev pub IsRising : List PmuKey → Type 0
IsRising keys = AllPairs (λ a b. key_before a b ≡ true) keys

-- the keys may be those of one subscriber
pub record IsGrantList (keys : List PmuKey) : Type 0 where
  pub rising : IsRising keys
  pub few : length keys ≤ 32

abbrev pub has_key : List PmuKey → PmuKey → Bool
has_key [] key = false
has_key (k ∷ ks) key = key_eq key k || has_key ks key

-- the keys with this one, at its place in the order
abbrev pub with_key : List PmuKey → PmuKey → List PmuKey
with_key [] key = key ∷ []
with_key (k ∷ ks) key =
    if key_eq key k then k ∷ ks else
    if key_before key k then key ∷ k ∷ ks else
    k ∷ with_key ks key

-- the keys without this one
abbrev pub without_key : List PmuKey → PmuKey → List PmuKey
without_key [] key = []
without_key (k ∷ ks) key = if key_eq key k then ks else k ∷ without_key ks key

-- a grant of the key is done: the key is held already, or fewer than 32 are
abbrev pub has_room : List PmuKey → PmuKey → Bool
has_room keys key = has_key keys key || nat_lt (length keys) 32

-- the keys once a grant of this one was asked for
abbrev pub granted : List PmuKey → PmuKey → List PmuKey
granted keys key = if has_room keys key then with_key keys key else keys
