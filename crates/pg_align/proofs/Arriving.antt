-- Where a part of a slot goes.
use Rattle.std.proofs.Common.{◌≡◌, ℕ, zero, suc, ◌<◌, ◌≤◌, Bool, true, false, List, [], ◌∷◌, length, set, None, Some, refl, ◌≢◌, ap, arith}
use Rattle.std.specs.Prelude.{nat_lt, ◌==◌, insert, slice_index_or, slice_get}
use Rattle.std.proofs.lemmas.Grind.{common_steps}
use Rattle.pg_align.specs.Slots.{OpenSlot, AreAfter, AreRising, count_below, others_than, part_at, put_into, with_part}

module _ {X : Type 0} where
  abbrev Here : OpenSlot X → ℕ → X → List (OpenSlot X) → OpenSlot X → Type 0
  Here fresh place part slots here = (with_part fresh place part slots ≡ set slots (count_below fresh.slot slots) (put_into here place part)) × (part_at slots fresh.slot place ≡ slice_index_or here.parts place None)

  here_step : (fresh : OpenSlot X) (place : ℕ) (part : X) (first : OpenSlot X) (slots : List (OpenSlot X)) (here : OpenSlot X) (b : Bool) → nat_lt first.slot fresh.slot ≡ b → (slice_get slots (count_below fresh.slot slots) ≡ Some here → Here fresh place part slots here) → slice_get (first ∷ slots) (count_below fresh.slot (first ∷ slots)) ≡ Some here → here.slot ≡ fresh.slot → Here fresh place part (first ∷ slots) here
  here_step fresh place part first slots here true t below e s =
      let before : nat_lt fresh.slot first.slot ≡ false = grind (arith, common_steps) in
      let other : (first.slot == fresh.slot) ≡ false = grind (arith, common_steps) in
      let found = below (rw t at e) in
      rw (before, other, t) (ap (λ rest. first ∷ rest) found.0, found.1)
  here_step fresh place part first slots here false t below e s =
      let same : first ≡ here = cc (rw t at e) in
      let number : first.slot ≡ fresh.slot = cc in
      let before : nat_lt fresh.slot first.slot ≡ false = grind (arith, common_steps) in
      let equal : (first.slot == fresh.slot) ≡ true = grind (arith, common_steps) in
      rw (before, equal, t, same) (refl, refl)

  -- a slot that is open takes the part
  pub with_part_here : (fresh : OpenSlot X) (place : ℕ) (part : X) (slots : List (OpenSlot X)) (here : OpenSlot X) → slice_get slots (count_below fresh.slot slots) ≡ Some here → here.slot ≡ fresh.slot → Here fresh place part slots here
  with_part_here fresh place part [] here e s = absurd cc
  with_part_here fresh place part (first ∷ slots) here e s = here_step fresh place part first slots here _ refl (λ f. with_part_here fresh place part slots here f s) e s

  abbrev New : OpenSlot X → ℕ → X → List (OpenSlot X) → Type 0
  New fresh place part slots = (with_part fresh place part slots ≡ insert slots (count_below fresh.slot slots) fresh) × (part_at slots fresh.slot place ≡ None)

  abbrev pub IsAway : ℕ → List (OpenSlot X) → Type 0
  IsAway slot slots = (here : OpenSlot X) → slice_get slots (count_below slot slots) ≡ Some here → here.slot ≡ slot → ⊥

  at_most_step : (slot i : ℕ) (first : OpenSlot X) (slots : List (OpenSlot X)) (b : Bool) → nat_lt first.slot slot ≡ b → count_below slot slots ≤ i → count_below slot (first ∷ slots) ≤ suc i
  at_most_step slot i first slots true e below = rw e (omega (arith, below))
  at_most_step slot i first slots false e below = rw e (omega arith)

  -- a slot that is not below this one has no more than its place many before it
  pub count_at_most : (slot : ℕ) (slots : List (OpenSlot X)) (i : ℕ) (here : OpenSlot X) → slice_get slots i ≡ Some here → slot ≤ here.slot → count_below slot slots ≤ i
  count_at_most slot [] i here e l = omega arith
  count_at_most slot (first ∷ slots) zero here e l =
      let same : first ≡ here = cc in
      let high : slot ≤ first.slot = rw same l in
      let no : nat_lt first.slot slot ≡ false = grind (arith, common_steps) in
      rw no (omega arith)
  count_at_most slot (first ∷ slots) (suc i) here e l = at_most_step slot i first slots _ refl (count_at_most slot slots i here e l)

  -- a slot among those that come after one
  after_at : (slot : ℕ) (slots : List (OpenSlot X)) (i : ℕ) (here : OpenSlot X) → AreAfter slot slots → slice_get slots i ≡ Some here → slot < here.slot
  after_at slot [] i here h e = absurd cc
  after_at slot (first ∷ slots) zero here h e = let same : first ≡ here = cc in rw (← same) h.0
  after_at slot (first ∷ slots) (suc i) here h e = after_at slot slots i here h.1 e

  -- one that is below this one is among those before it, as their numbers rise
  pub count_more : (slot : ℕ) (slots : List (OpenSlot X)) (i : ℕ) (here : OpenSlot X) → AreRising slots → slice_get slots i ≡ Some here → here.slot < slot → i < count_below slot slots
  count_more slot [] i here r e l = absurd cc
  count_more slot (first ∷ slots) zero here r e l =
      let same : first ≡ here = cc in
      let low : first.slot < slot = rw same l in
      let yes : nat_lt first.slot slot ≡ true = grind (arith, common_steps) in
      rw yes (omega arith)
  count_more slot (first ∷ slots) (suc i) here r e l =
      let high : first.slot < here.slot = after_at first.slot slots i here r.0 e in
      let yes : nat_lt first.slot slot ≡ true = grind (arith, common_steps) in
      let below = count_more slot slots i here r.1 e l in
      rw yes (omega (arith, below))

  -- one that is this one has those before it below, as their numbers rise
  pub count_here : (slot : ℕ) (slots : List (OpenSlot X)) (i : ℕ) (here : OpenSlot X) → AreRising slots → slice_get slots i ≡ Some here → here.slot ≡ slot → i ≡ count_below slot slots
  count_here slot [] i here r e s = absurd cc
  count_here slot (first ∷ slots) zero here r e s =
      let same : first ≡ here = cc in
      let high : first.slot ≡ slot = cc in
      let no : nat_lt first.slot slot ≡ false = grind (arith, common_steps) in
      rw no
  count_here slot (first ∷ slots) (suc i) here r e s =
      let high : first.slot < here.slot = after_at first.slot slots i here r.0 e in
      let yes : nat_lt first.slot slot ≡ true = grind (arith, common_steps) in
      rw yes (ap suc (count_here slot slots i here r.1 e s))

  others_after : (slot high : ℕ) (slots : List (OpenSlot X)) → AreAfter high slots → slot ≤ high → others_than slot slots ≡ length slots
  others_after slot high [] h l = refl
  others_after slot high (first ∷ slots) h l =
      let above : high < first.slot = h.0 in
      let other : (first.slot == slot) ≡ false = grind (arith, common_steps) in
      rw (other, others_after slot high slots h.1 l)

  others_step : (slot : ℕ) (first : OpenSlot X) (slots : List (OpenSlot X)) (b : Bool) → nat_lt first.slot slot ≡ b → AreRising (first ∷ slots) → IsAway slot (first ∷ slots) → (IsAway slot slots → others_than slot slots ≡ length slots) → others_than slot (first ∷ slots) ≡ length (first ∷ slots)
  others_step slot first slots true t r away below =
      let other : (first.slot == slot) ≡ false = grind (arith, common_steps) in
      rw (other, below (rw t at away))
  others_step slot first slots false t r away below =
      let ne : first.slot ≢ slot = λ s. (rw t at away) first refl s in
      let other : (first.slot == slot) ≡ false = grind (arith, common_steps) in
      rw (other, others_after slot first.slot slots r.0 (grind (arith, common_steps)))

  -- where a slot is not open, the others are all that are
  pub others_away : (slot : ℕ) (slots : List (OpenSlot X)) → AreRising slots → IsAway slot slots → others_than slot slots ≡ length slots
  others_away slot [] r h = refl
  others_away slot (first ∷ slots) r h = others_step slot first slots _ refl r h (others_away slot slots r.1)

  others_at_most_step : (slot : ℕ) (first : OpenSlot X) (slots : List (OpenSlot X)) (b : Bool) → (first.slot == slot) ≡ b → others_than slot slots ≤ length slots → others_than slot (first ∷ slots) ≤ length (first ∷ slots)
  others_at_most_step slot first slots true e below = rw e (omega (arith, below))
  others_at_most_step slot first slots false e below = rw e (omega (arith, below))

  -- the others are no more than all
  pub others_at_most : (slots : List (OpenSlot X)) (slot : ℕ) → others_than slot slots ≤ length slots
  others_at_most [] slot = omega arith
  others_at_most (first ∷ slots) slot = others_at_most_step slot first slots _ refl (others_at_most slots slot)

  others_put_step : (fresh : OpenSlot X) (place : ℕ) (part : X) (first : OpenSlot X) (slots : List (OpenSlot X)) (b e : Bool) → nat_lt fresh.slot first.slot ≡ b → (first.slot == fresh.slot) ≡ e → others_than fresh.slot (with_part fresh place part slots) ≡ others_than fresh.slot slots → others_than fresh.slot (with_part fresh place part (first ∷ slots)) ≡ others_than fresh.slot (first ∷ slots)
  others_put_step fresh place part first slots true e b q below =
      let same : (fresh.slot == fresh.slot) ≡ true = grind (arith, common_steps) in
      rw (b, same)
  others_put_step fresh place part first slots false true b q below = rw (b, q, q)
  others_put_step fresh place part first slots false false b q below = rw (b, q, q, below)

  new_step : (fresh : OpenSlot X) (place : ℕ) (part : X) (first : OpenSlot X) (slots : List (OpenSlot X)) (b e : Bool) → nat_lt first.slot fresh.slot ≡ b → (first.slot == fresh.slot) ≡ e → (others_than fresh.slot slots ≡ length slots → New fresh place part slots) → others_than fresh.slot (first ∷ slots) ≡ length (first ∷ slots) → New fresh place part (first ∷ slots)
  new_step fresh place part first slots b true t q below all =
      let few = others_at_most slots fresh.slot in
      absurd (omega (arith, few, rw q at all))
  new_step fresh place part first slots true false t q below all =
      let before : nat_lt fresh.slot first.slot ≡ false = grind (arith, common_steps) in
      let rest : others_than fresh.slot slots ≡ length slots = let more = rw q at all in omega (arith, more) in
      let found = below rest in
      rw (before, q, t) (ap (λ rest. first ∷ rest) found.0, found.1)
  new_step fresh place part first slots false false t q below all =
      let before : nat_lt fresh.slot first.slot ≡ true = grind (arith, common_steps) in
      rw (before, t) (refl, refl)

  -- one that is not opens in its place
  pub with_part_new : (fresh : OpenSlot X) (place : ℕ) (part : X) (slots : List (OpenSlot X)) → others_than fresh.slot slots ≡ length slots → New fresh place part slots
  with_part_new fresh place part [] h = (refl, refl)
  with_part_new fresh place part (first ∷ slots) h = new_step fresh place part first slots _ _ refl refl (with_part_new fresh place part slots) h

  -- an arrival leaves the others as they are
  pub others-with_part : (fresh : OpenSlot X) (place : ℕ) (part : X) (slots : List (OpenSlot X)) → others_than fresh.slot (with_part fresh place part slots) ≡ others_than fresh.slot slots
  others-with_part fresh place part [] =
      let same : (fresh.slot == fresh.slot) ≡ true = grind (arith, common_steps) in
      rw same
  others-with_part fresh place part (first ∷ slots) = others_put_step fresh place part first slots _ _ refl refl (others-with_part fresh place part slots)

  all_step : (slot : ℕ) (first : OpenSlot X) (slots : List (OpenSlot X)) (b : Bool) → nat_lt first.slot slot ≡ b → count_below slot slots ≤ length slots → count_below slot (first ∷ slots) ≤ length (first ∷ slots)
  all_step slot first slots true e below = rw e (omega (arith, below))
  all_step slot first slots false e below = rw e (omega arith)

  -- at most all are below a slot
  pub count_at_most_all : (slot : ℕ) (slots : List (OpenSlot X)) → count_below slot slots ≤ length slots
  count_at_most_all slot [] = omega arith
  count_at_most_all slot (first ∷ slots) = all_step slot first slots _ refl (count_at_most_all slot slots)
