-- The rule of the turnstile over the table that holds it, and what each step tells.
use Rattle.std.specs.Prelude.{◌≡◌, ◌≢◌, ℕ, ◌<◌, ◌≤◌, nat_lt, Bool, true, false, List, [], ◌∷◌, ◌++◌, length, slice_index, sum_by, if◌then◌else◌, Option, Some}
use mathlib.Core.List.{IsPrefix}
use mathlib.Core.Option.{some}
use lib.ListN.{get_elem?}
use Rattle.atomic_table.specs.Table.{State, Me, Step, rest}
use Rattle.pg_turn.specs.Known.{times}
use Rattle.pg_turn.specs.Turns.{IsLonger, IsLegal}
use Rattle.pg_turn.specs.declared.view.View.{View}

module _ {M E R : Type 0} (shows : M → List (E × R) → Type 0) (may : List (E × R) → E → R → Type 0) where
  -- The rule: what is always so, of the word, the value at home and the views of all seats. The view that a join spent has seen nothing and made no call, and so meets it too
  pub record Kept (s : State (Option M) (View E R)) : Type 0 where
    -- all calls of all threads, the oldest first
    pub history : List (E × R)
    pub legal : IsLegal may history
    -- the table has one word, 0 while the value is at home and 1 while a seat has it
    pub one_word : length s.words ≡ 1
    pub bit : slice_index s.words 0 < 2
    -- what the seats have seen begins the one history
    pub begins : (seat : ℕ) (v : View E R) → get_elem? s.views seat ≡ some v → IsPrefix v.seen history × IsPrefix v.other history
    -- each place of the history is an own place of just one seat, and nothing else is one
    pub owned : (place : ℕ) → sum_by (λ v. times place v.own) s.views ≡ (if nat_lt place (length history) then 1 else 0)
    -- at 0 the value is at home, where the history has led it
    pub free : slice_index s.words 0 ≡ 0 → ((seat : ℕ) (v : View E R) → get_elem? s.views seat ≡ some v → v.holds ≡ false)
        × ((x : M) × (get_elem? s.homes 0 ≡ some (some (Some x))) × shows x history)
    -- at 1 just one seat has it, and has seen the whole history
    pub taken : slice_index s.words 0 ≡ 1 → (holder : ℕ) × (u : View E R) × (get_elem? s.views holder ≡ some u) × (u.holds ≡ true) × (u.seen ≡ history)
        × ((seat : ℕ) (v : View E R) → get_elem? s.views seat ≡ some v → v.holds ≡ true → seat ≡ holder)

  -- 0 was found, and the seat has the value and the whole history; or nothing changed
  abbrev pub took : Step (Option M) → Me (Option M) (View E R) → ℕ → Me (Option M) (View E R) → Type 0
  took st m found m' =
      (found ≡ 0 → (x : M) × (m'.1 ≡ (0, Some x) ∷ m.1) × shows x m'.0.seen × IsPrefix m.0.seen m'.0.seen × IsLegal may m'.0.seen × (m'.0.own ≡ m.0.own) × (m'.0.holds ≡ true))
      × (found ≢ 0 → m' ≡ m)

module _ {E R : Type 0} where
  -- the view with these parts
  abbrev pub view_of : List (E × R) → List (E × R) → List ℕ → Bool → View E R
  view_of seen other own holds = record { seen = seen; other = other; own = own; holds = holds }

  -- who has seen so much and made no call
  abbrev pub newcomer : List (E × R) → View E R
  newcomer seen = view_of seen [] [] false

  -- it has seen as much, and made no call
  abbrev pub told : View E R → View E R
  told v = newcomer v.seen

  -- its own calls are those of both
  abbrev pub both : View E R → View E R → View E R
  both v w = view_of v.seen w.seen (v.own ++ w.own) false

module _ {M E R : Type 0} where
  -- the history is longer by this call, which is one of the seat's own
  abbrev pub gave : List (E × R) → Step (Option M) → Me (Option M) (View E R) → ℕ → Me (Option M) (View E R) → Type 0
  gave calls st m found m' = (m'.0 ≡ view_of (m.0.seen ++ calls) [] (m.0.own ++ length m.0.seen ∷ []) false) × (m'.1 ≡ rest m.1)

  -- of the two histories one begins the other, the seat has the longer, and its own places are distinct
  abbrev pub settled : Step (Option M) → Me (Option M) (View E R) → ℕ → Me (Option M) (View E R) → Type 0
  settled st m found m' = IsLonger m.0.seen m.0.other m'.0.seen × (m'.0 ≡ view_of m'.0.seen [] m.0.own m.0.holds) × (m'.1 ≡ m.1) × ((place : ℕ) → times place m.0.own ≤ 1)
