-- Lists of parts and slots, as they are seen.
use Rattle.std.proofs.Common.{ap, [], ◌∷◌, ◌≡◌, ℕ, zero, suc, ◌+◌, ◌<◌, Bool, true, false, ◌||◌, ◌&&◌, List, length, get_or, set, take, drop, map, Option, None, Some, is_some, refl, arith}
use Rattle.std.specs.Prelude.{IsTrue, not, slice_get}
use Rattle.std.proofs.lemmas.List.{length-map, map-set, get_or-map, drop-map, take-map, map_push, map_more, take_more, take_more_set, drop_more, drop-set-lt}
use Rattle.std.proofs.lemmas.Option.{slice_get-get_or, slice_get-map}
use Rattle.std.proofs.lemmas.Grind.{common_steps}
use Rattle.pg_align.specs.Histories.{has_all}
use Rattle.pg_align.specs.Slots.{one_tick_less}
use Rattle.pg_align.specs.Fields.{slot_of, slots_of}
use Rattle.pg_align.specs.declared.slot.Slot.{Slot}

pub ruleset part_steps = (map-set, get_or-map, drop-map, take-map, common_steps)

-- one place of a test of all
pub has_all_more : {X : Type 0} (effective : List Bool) (parts : List (Option X)) (i : ℕ) → i < length effective → i < length parts → has_all (drop i effective) (drop i parts) ≡ ((is_some (get_or parts i None) || not (get_or effective i false)) && has_all (drop (i + 1) effective) (drop (i + 1) parts))
has_all_more effective parts i h k = rw (drop_more effective i false h, drop_more parts i None k) refl

-- one slot of a tick
pub ticked_more : (now before : List Slot) (i : ℕ) (x d : Slot) → i < length now → length now ≡ length before → slots_of (take i now) ≡ map one_tick_less (slots_of (take i before)) → drop i now ≡ drop i before → slot_of x ≡ one_tick_less (slot_of (get_or now i d)) → (slots_of (take (i + 1) (set now i x)) ≡ map one_tick_less (slots_of (take (i + 1) before))) × (drop (i + 1) (set now i x) ≡ drop (i + 1) before)
ticked_more now before i x d h len so_far same seen =
    let k : i < length before = omega (arith) in
    let here : get_or now i d ≡ get_or before i d = cc (drop_more now i d h, drop_more before i d k) in
    let rest : drop (i + 1) (set now i x) ≡ drop (i + 1) before = grind (arith, common_steps) in
    (rw (take_more_set now i x h, take_more before i d k, map_push slot_of (take i now) x, map_push slot_of (take i before) (get_or before i d), map_push one_tick_less (slots_of (take i before)) (slot_of (get_or before i d)), so_far, seen, here), rest)

-- the slot at a place, as it is seen
pub slot_shown : (slots : List Slot) (at : ℕ) (x : Slot) → at < length slots → x ≡ get_or slots at x → slice_get (slots_of slots) at ≡ Some (slot_of x)
slot_shown slots at x h e =
    let there = slice_get-get_or slots at x h in
    let seen = slice_get-map slot_of slots at in
    rw (seen, there, ← e)

-- writing what is there changes nothing
pub set_shown : {X : Type 0} (xs : List X) (i : ℕ) (x : X) → slice_get xs i ≡ Some x → set xs i x ≡ xs
set_shown [] i x e = refl
set_shown (y ∷ ys) zero x e = let same : y ≡ x = cc in rw same
set_shown (y ∷ ys) (suc i) x e = ap (λ rest. y ∷ rest) (set_shown ys i x e)

-- a place whose member is effective is one of the members'
pub effective_within : (effective : List Bool) (place : ℕ) → IsTrue (get_or effective place false) → place < length effective
effective_within [] place t = absurd (let e : false ≡ true = t in cc)
effective_within (e ∷ effective) zero t = omega arith
effective_within (e ∷ effective) (suc place) t = let h = effective_within effective place t in omega (arith, h)
