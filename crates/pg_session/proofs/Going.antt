-- Copies that are compared with those that are asked for, one part after another.
use Rattle.std.proofs.Common.{◌≡◌, ℕ, zero, suc, ◌+◌, ◌<◌, ◌≤◌, get_or, map, List, [], ◌∷◌, ◌++◌, length, length-append, drop, slice_get, Option, Some, None, refl, sym, ap, ◌∙◌, arith}
use Rattle.std.proofs.lemmas.List.{append_assoc, append_cancel_left, drop_more, map-append}
use Rattle.std.proofs.lemmas.Option.{slice_get_past}
use Rattle.std.proofs.lemmas.Grind.{flat_map-append}
use Rattle.pg_wire.specs.declared.ids.PmuKey.{PmuKey}
use Rattle.pg_config.specs.Parts.{Part, Source}
use Rattle.pg_data.specs.Measurements.{Measurement}
use Rattle.pg_session.specs.Events.{Sample, config_of, announced_part, announced_at, sampled_part, samples_at}
use Rattle.pg_data.specs.Pieces.{Piece}
use Rattle.pg_session.specs.Streams.{PlacedBlock, place_of, with_place, placed}
use Rattle.pg_session.specs.Wanted.{piece_of_placed}
use Rattle.pg_session.specs.Ready.{GoesOn}

module _ {X : Type 0} where
  -- What lies in front of place `at` is what was asked for so far.
  pub record PassedSoFar (items : List X) (next : ℕ) (whole remaining : List X) (at : ℕ) : Type 0 where
    pub front : List X
    pub asked : whole ≡ front ++ remaining
    pub passed : drop next items ≡ front ++ drop at items
    pub within : at ≤ length items

  pub passed_none : (items : List X) (next : ℕ) (whole : List X) → next ≤ length items → PassedSoFar items next whole whole next
  passed_none items next whole h = record { front = []; asked = refl; passed = refl; within = h }

  pub passed_one : (items : List X) (next : ℕ) (whole remaining now more : List X) (at after : ℕ) → PassedSoFar items next whole remaining at
      → remaining ≡ now ++ more → GoesOn items at now (Some after) → PassedSoFar items next whole more after
  passed_one items next whole remaining now more at after so e g = record {
    front = so.front ++ now;
    asked = so.asked ∙ ap (λ xs. so.front ++ xs) e ∙ sym (append_assoc so.front now more);
    passed = so.passed ∙ ap (λ xs. so.front ++ xs) g.0 ∙ sym (append_assoc so.front now (drop after items));
    within = g.1;
  }

  pub passed_not : (items : List X) (next : ℕ) (whole remaining now more : List X) (at : ℕ) → PassedSoFar items next whole remaining at
      → remaining ≡ now ++ more → GoesOn items at now None → GoesOn items next whole None
  passed_not items next whole remaining now more at so e g = λ rest h.
      g (more ++ rest) (append_cancel_left so.front (drop at items) (now ++ (more ++ rest))
      (sym so.passed ∙ h ∙ ap (λ xs. xs ++ rest) (so.asked ∙ ap (λ xs. so.front ++ xs) e)
      ∙ append_assoc so.front (now ++ more) rest ∙ ap (λ xs. so.front ++ xs) (append_assoc now more rest)))

  pub passed_all : (items : List X) (next : ℕ) (whole remaining : List X) (at : ℕ) → PassedSoFar items next whole remaining at → remaining ≡ []
      → GoesOn items next whole (Some at)
  passed_all items next whole remaining at so e =
      let all : whole ≡ so.front = so.asked ∙ ap (λ xs. so.front ++ xs) e ∙ append_nil so.front in
      (so.passed ∙ ap (λ xs. xs ++ drop at items) (sym all), so.within)
    where
      append_nil : (xs : List X) → xs ++ [] ≡ xs
      append_nil [] = refl
      append_nil (x ∷ xs) = ap (λ ys. x ∷ ys) (append_nil xs)

  -- one piece lies next, or does not
  pub one_next : (items : List X) (at : ℕ) (p : X) → slice_get items at ≡ Some p → GoesOn items at (p ∷ []) (Some (at + 1))
  one_next [] at p e = absurd (cc e)
  one_next (x ∷ items) zero p e = (ap (λ y. y ∷ items) (let same : x ≡ p = cc e in same), omega arith)
  one_next (x ∷ items) (suc at) p e =
      let rest = one_next items at p e in
      let more : suc at + 1 ≡ suc (at + 1) = omega arith in
      (rest.0 ∙ ap (λ n. p ∷ drop n (x ∷ items)) (sym more), omega (arith, rest.1))

  pub one_not : (items : List X) (at : ℕ) (p : X) → (slice_get items at ≡ Some p → ⊥) → GoesOn items at (p ∷ []) None
  one_not [] at p no_copy = λ rest h. absurd (let n = ap length h in omega (arith, n, none at))
    where
      nothing : List X
      nothing = []

      none : (k : ℕ) → length (drop k nothing) ≡ 0
      none zero = refl
      none (suc k) = refl
  one_not (x ∷ items) zero p no_copy = λ rest h. no_copy (ap (λ xs. slice_get xs 0) h)
  one_not (x ∷ items) (suc at) p no_copy = one_not items at p no_copy

  -- all lie there, and nothing else
  pub whole_there : (items whole : List X) (at : ℕ) → GoesOn items 0 whole (Some at) → at ≡ length items → items ≡ whole
  whole_there items whole at g e = g.0 ∙ ap (λ n. whole ++ drop n items) e ∙ ap (λ xs. whole ++ xs) (past items) ∙ append_nil whole
    where
      past : (xs : List X) → drop (length xs) xs ≡ []
      past [] = refl
      past (x ∷ xs) = past xs

      append_nil : (xs : List X) → xs ++ [] ≡ xs
      append_nil [] = refl
      append_nil (x ∷ xs) = ap (λ ys. x ∷ ys) (append_nil xs)

  pub there_whole : (items whole : List X) (at : ℕ) → GoesOn items 0 whole (Some at) → items ≡ whole → at ≡ length items
  there_whole items whole at g e =
      let n = ap length g.0 ∙ length-append whole (drop at items) in
      let m = ap length e in
      omega (arith, n, m, g.1, dropped at items)
    where
      dropped : (k : ℕ) (xs : List X) → k ≤ length xs → length (drop k xs) + k ≡ length xs
      dropped zero xs h = omega arith
      dropped (suc k) [] h = absurd (omega (arith, h))
      dropped (suc k) (x ∷ xs) h = omega (arith, dropped k xs (omega (arith, h)))

  pub never_whole : (items whole : List X) → GoesOn items 0 whole None → items ≡ whole → ⊥
  never_whole items whole g e = g [] (e ∙ sym (append_nil whole))
    where
      append_nil : (xs : List X) → xs ++ [] ≡ xs
      append_nil [] = refl
      append_nil (x ∷ xs) = ap (λ ys. x ∷ ys) (append_nil xs)

-- the piece of a member's block
pub member_pieces : (o : Option ℕ) (p : Piece) (place : ℕ) → o ≡ Some place → map piece_of_placed (with_place o p []) ≡ p ∷ []
member_pieces None p place e = absurd (cc e)
member_pieces (Some x) p place e = refl

-- a block in front of others
pub pieces_split : (o : Option ℕ) (p : Piece) (others : List PlacedBlock)
    → map piece_of_placed (with_place o p others) ≡ map piece_of_placed (with_place o p []) ++ map piece_of_placed others
pieces_split None p others = refl
pieces_split (Some place) p others = refl

-- the blocks of a list in front of those of another
pub placed_append : (members : List PmuKey) (quality : ℕ) (xs ys : List Sample)
    → placed members quality (xs ++ ys) ≡ placed members quality xs ++ placed members quality ys
placed_append members quality [] ys = refl
placed_append members quality (x ∷ xs) ys = by (place_of members x.key) (placed_append members quality xs ys)
  where
    by : (o : Option ℕ) → placed members quality (xs ++ ys) ≡ placed members quality xs ++ placed members quality ys
        → with_place o (record { quality = quality; block = x.block }) (placed members quality (xs ++ ys))
        ≡ with_place o (record { quality = quality; block = x.block }) (placed members quality xs) ++ placed members quality ys
    by None e = e
    by (Some place) e = ap (λ rest. record { place = place; piece = record { quality = quality; block = x.block } } ∷ rest) e

-- the pieces of one block that a frame may have, in front of those of the others
pub block_split : (m : Measurement) (members : List PmuKey) (places : List ℕ) (k : ℕ) → k < length places
    → map piece_of_placed (placed members m.quality (samples_at m (drop k places)))
    ≡ map piece_of_placed (placed members m.quality (samples_at m (get_or places k 0 ∷ [])))
    ++ map piece_of_placed (placed members m.quality (samples_at m (drop (k + 1) places)))
block_split m members places k h =
    let one = samples_at m (get_or places k 0 ∷ []) in
    let rest = samples_at m (drop (k + 1) places) in
    ap (λ ps. map piece_of_placed (placed members m.quality (samples_at m ps))) (drop_more places k 0 h)
    ∙ ap (λ xs. map piece_of_placed (placed members m.quality xs))
    (flat_map-append (λ i. sampled_part m i (slice_get m.config.parts i)) (get_or places k 0 ∷ []) (drop (k + 1) places))
    ∙ ap (map piece_of_placed) (placed_append members m.quality one rest)
    ∙ map-append piece_of_placed (placed members m.quality one) (placed members m.quality rest)

-- a block that the frame does not have
pub no_block : (m : Measurement) (members : List PmuKey) (i : ℕ) → length m.config.parts ≤ i
    → map piece_of_placed (placed members m.quality (samples_at m (i ∷ []))) ≡ []
no_block m members i h =
    ap (λ o. map piece_of_placed (placed members m.quality (sampled_part m i o ++ []))) (slice_get_past m.config.parts i h)

-- the same of configurations
pub config_split : (config : Source) (places : List ℕ) (k : ℕ) → k < length places
    → map config_of (announced_at config (drop k places))
    ≡ map config_of (announced_at config (get_or places k 0 ∷ [])) ++ map config_of (announced_at config (drop (k + 1) places))
config_split config places k h =
    ap (λ ps. map config_of (announced_at config ps)) (drop_more places k 0 h)
    ∙ ap (map config_of) (flat_map-append (λ i. announced_part config (slice_get config.parts i)) (get_or places k 0 ∷ []) (drop (k + 1) places))
    ∙ map-append config_of (announced_at config (get_or places k 0 ∷ [])) (announced_at config (drop (k + 1) places))

pub no_config : (config : Source) (i : ℕ) → length config.parts ≤ i → map config_of (announced_at config (i ∷ [])) ≡ []
no_config config i h = ap (λ o. map config_of (announced_part config o ++ [])) (slice_get_past config.parts i h)

pub one_config : (config : Source) (i : ℕ) (part : Part) → slice_get config.parts i ≡ Some part → map config_of (announced_at config (i ∷ [])) ≡ part ∷ []
one_config config i part e = ap (λ o. map config_of (announced_part config o ++ [])) e
