-- The effective members of a stream, one after another; and what its slots keep.
use Rattle.std.proofs.Common.{◌≡◌, ℕ, ◌+◌, ◌<◌, List, [], ◌∷◌, ◌++◌, length, map, take, set, get_or, Bool, true, false, is_some, refl, sym, ap₂, ◌∙◌, arith}
use Rattle.std.proofs.lemmas.List.{map_more, take_more_set}
use Rattle.pg_wire.specs.declared.ids.PmuKey.{PmuKey}
use Rattle.pg_data.specs.Pieces.{Piece}
use Rattle.pg_align.specs.Slots.{Aligned, OpenSlot, one_tick_less, leaves_now, without_first, flushed_first, all_leaving, all_leaving_of, all_flushed, all_flushed_of}
use Rattle.pg_outcfg.specs.Listing.{Listing, config_at}
use Rattle.pg_session.specs.Streams.{effective_in}
use Rattle.pg_session.specs.Fields.{AreTimed}

-- one member more is marked
pub marked_more : (listed : Listing) (members : List PmuKey) (effective : List Bool) (i : ℕ) (d : PmuKey) (b : Bool) → i < length members
    → length effective ≡ length members → take i effective ≡ effective_in listed (take i members)
    → b ≡ is_some (config_at listed (get_or members i d))
    → take (i + 1) (set effective i b) ≡ effective_in listed (take (i + 1) members)
marked_more listed members effective i d b h n so_far is =
    take_more_set effective i b (omega (arith, h, n))
    ∙ ap₂ (λ x y. x ++ y ∷ []) so_far is
    ∙ sym (map_more (λ key. is_some (config_at listed key)) members i d h)

-- a tick changes no slot's number
pub timed-tick : (rate : ℕ) (slots : List (OpenSlot Piece)) → AreTimed rate slots → AreTimed rate (map one_tick_less slots)
timed-tick rate [] h = tt
timed-tick rate (s ∷ slots) h = (h.0, timed-tick rate slots h.1)

-- what stays open was open
timed_step : (rate : ℕ) (a : Aligned Piece) (slot : OpenSlot Piece) (slots : List (OpenSlot Piece)) (b : Bool) → leaves_now a.window a.effective (slot ∷ slots) ≡ b
    → AreTimed rate a.slots
    → AreTimed rate (all_leaving_of (without_first a (slot ∷ slots)) slots).after.slots
    → AreTimed rate (all_leaving_of a (slot ∷ slots)).after.slots
timed_step rate a slot slots true e w h = rw e h
timed_step rate a slot slots false e w h = rw e w

timed-leaving : (rate : ℕ) (a : Aligned Piece) (slots : List (OpenSlot Piece)) → AreTimed rate a.slots → AreTimed rate slots
    → AreTimed rate (all_leaving_of a slots).after.slots
timed-leaving rate a [] w h = w
timed-leaving rate a (slot ∷ slots) w h = timed_step rate a slot slots _ refl w (timed-leaving rate (without_first a (slot ∷ slots)) slots h.1 h.1)

pub timed-left : (rate : ℕ) (a : Aligned Piece) → AreTimed rate a.slots → AreTimed rate (all_leaving a).after.slots
timed-left rate a h = timed-leaving rate a a.slots h h

window_step : (a : Aligned Piece) (slot : OpenSlot Piece) (slots : List (OpenSlot Piece)) (b : Bool) → leaves_now a.window a.effective (slot ∷ slots) ≡ b
    → (all_leaving_of (without_first a (slot ∷ slots)) slots).after.window ≡ a.window
    → (all_leaving_of a (slot ∷ slots)).after.window ≡ a.window
window_step a slot slots true e h = rw e h
window_step a slot slots false e h = rw e refl

window-leaving : (a : Aligned Piece) (slots : List (OpenSlot Piece)) → (all_leaving_of a slots).after.window ≡ a.window
window-leaving a [] = refl
window-leaving a (slot ∷ slots) = window_step a slot slots _ refl (window-leaving (without_first a (slot ∷ slots)) slots)

pub window-left : (a : Aligned Piece) → (all_leaving a).after.window ≡ a.window
window-left a = window-leaving a a.slots

window-flushing : (a : Aligned Piece) (slots : List (OpenSlot Piece)) → (all_flushed_of a slots).after.window ≡ a.window
window-flushing a [] = refl
window-flushing a (slot ∷ slots) = window-flushing (flushed_first a (slot ∷ slots)) slots

pub window-flushed : (a : Aligned Piece) → (all_flushed a).after.window ≡ a.window
window-flushed a = window-flushing a a.slots
