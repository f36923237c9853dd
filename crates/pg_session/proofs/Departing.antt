-- Slots that leave one after another, and their frames.
use Rattle.std.proofs.Common.{◌≡◌, ℕ, ◌+◌, ◌/◌, ◌^◌, ◌<◌, List, [], ◌∷◌, ◌++◌, length, map, Bool, true, false, Option, Some, refl, sym, ap, ◌∙◌, arith, subst, append_assoc}
use Rattle.std.proofs.lemmas.List.{append-nil, map-append}
use Rattle.pg_data.specs.Pieces.{Piece}
use Rattle.pg_align.specs.Histories.{Departed, Departures, with_first}
use Rattle.pg_align.specs.declared.counts.SlotCounts.{SlotCounts}
use Rattle.pg_align.specs.Slots.{Aligned, OpenSlot, leaves_now, leaving_of, flushed_of, after_leaving, after_flush}
use Rattle.pg_session.specs.Sending.{Sending, Sends}
use Rattle.pg_session.specs.Fields.{AreTimed}
use Rattle.pg_session.proofs.Sending.{sends-none, sends-append}

-- Of all that leave some are gone, with their frames sent, and the rest is to leave.
pub record LeftSoFar (frame_of : Departed Piece → List ℕ) (whole rest : Departures Piece (Aligned Piece)) (old new : Sending) : Type 0 where
  pub gone : List (Departed Piece)
  pub frames : whole.frames ≡ gone ++ rest.frames
  pub after : whole.after ≡ rest.after
  pub sent : Sends (map frame_of gone) old new

pub left-none : (f : Departed Piece → List ℕ) (whole : Departures Piece (Aligned Piece)) (out : Sending) → LeftSoFar f whole whole out out
left-none f whole out = record { gone = []; frames = refl; after = refl; sent = sends-none out }

pub left-one : (f : Departed Piece → List ℕ) (whole rest next : Departures Piece (Aligned Piece)) (first : Departed Piece) (old mid new : Sending)
    → LeftSoFar f whole rest old mid → rest ≡ with_first first next → Sends (f first ∷ []) mid new → LeftSoFar f whole next old new
left-one f whole rest next first old mid new left is sent = record {
  gone = left.gone ++ first ∷ [];
  frames = left.frames ∙ ap (λ (d : Departures Piece (Aligned Piece)). left.gone ++ d.frames) is ∙ sym (append_assoc left.gone (first ∷ []) next.frames);
  after = left.after ∙ ap (λ (d : Departures Piece (Aligned Piece)). d.after) is;
  sent = subst (λ frames. Sends frames old new) (sym (map-append f left.gone (first ∷ []))) (sends-append (map f left.gone) (f first ∷ []) old mid new left.sent sent);
}

pub record AllLeft (frame_of : Departed Piece → List ℕ) (whole : Departures Piece (Aligned Piece)) (last : Aligned Piece) (old new : Sending) : Type 0 where
  pub after : last ≡ whole.after
  pub sent : Sends (map frame_of whole.frames) old new

pub left-all : (f : Departed Piece → List ℕ) (whole rest : Departures Piece (Aligned Piece)) (last : Aligned Piece) (old new : Sending)
    → LeftSoFar f whole rest old new → rest ≡ record { frames = []; after = last } → AllLeft f whole last old new
left-all f whole rest last old new left is =
    let none : rest.frames ≡ [] = ap (λ (d : Departures Piece (Aligned Piece)). d.frames) is in
    let all : whole.frames ≡ left.gone = left.frames ∙ ap (λ fs. left.gone ++ fs) none ∙ append-nil left.gone in
    record {
      after = sym (left.after ∙ ap (λ (d : Departures Piece (Aligned Piece)). d.after) is);
      sent = subst (λ gone. Sends (map f gone) old new) (sym all) left.sent;
    }

-- what is left once the least slot has left
pub record OneLess (rate : ℕ) (old new : Aligned Piece) (first : Departed Piece) : Type 0 where
  pub time : first.slot / rate < 2 ^ 32
  pub timed : AreTimed rate new.slots
  pub fewer : length old.slots ≡ length new.slots + 1
  pub effective : new.effective ≡ old.effective
  pub window : new.window ≡ old.window

abbrev aligned : ℕ → ℕ → List Bool → Bool → Option ℕ → SlotCounts → List (OpenSlot Piece) → Aligned Piece
aligned window wait effective is_on last counts slots =
    record { window = window; wait = wait; effective = effective; is_on = is_on; last = last; slots = slots; counts = counts }

some_is : {A : Type 0} (x y : A) → Some x ≡ Some y → x ≡ y
some_is x y e = cc e

leaving_by : (rate window wait : ℕ) (effective : List Bool) (is_on : Bool) (last : Option ℕ) (counts : SlotCounts) (least : OpenSlot Piece) (slots : List (OpenSlot Piece))
    (first : Departed Piece) (b : Bool) → leaves_now window effective (least ∷ slots) ≡ b
    → leaving_of (aligned window wait effective is_on last counts (least ∷ slots)) ≡ Some first → AreTimed rate (least ∷ slots)
    → OneLess rate (aligned window wait effective is_on last counts (least ∷ slots)) (after_leaving (aligned window wait effective is_on last counts (least ∷ slots))) first
leaving_by rate window wait effective is_on last counts least slots first true e h timed =
    let is = some_is _ _ (rw e at h) in
    rw e record {
      time = subst (λ (d : Departed Piece). d.slot / rate < 2 ^ 32) is timed.0;
      timed = timed.1;
      fewer = omega arith;
      effective = refl;
      window = refl;
    }
leaving_by rate window wait effective is_on last counts least slots first false e h timed = absurd (cc (rw e at h))

leaving_parts : (rate window wait : ℕ) (effective : List Bool) (is_on : Bool) (last : Option ℕ) (counts : SlotCounts) (slots : List (OpenSlot Piece))
    (first : Departed Piece) → leaving_of (aligned window wait effective is_on last counts slots) ≡ Some first → AreTimed rate slots
    → OneLess rate (aligned window wait effective is_on last counts slots) (after_leaving (aligned window wait effective is_on last counts slots)) first
leaving_parts rate window wait effective is_on last counts [] first h timed = absurd (cc h)
leaving_parts rate window wait effective is_on last counts (least ∷ slots) first h timed =
    leaving_by rate window wait effective is_on last counts least slots first _ refl h timed

pub leaving-one : (rate : ℕ) (a : Aligned Piece) (first : Departed Piece) → leaving_of a ≡ Some first → AreTimed rate a.slots
    → OneLess rate a (after_leaving a) first
leaving-one rate a = leaving_parts rate a.window a.wait a.effective a.is_on a.last a.counts a.slots

flushed_parts : (rate window wait : ℕ) (effective : List Bool) (is_on : Bool) (last : Option ℕ) (counts : SlotCounts) (slots : List (OpenSlot Piece))
    (first : Departed Piece) → flushed_of (aligned window wait effective is_on last counts slots) ≡ Some first → AreTimed rate slots
    → OneLess rate (aligned window wait effective is_on last counts slots) (after_flush (aligned window wait effective is_on last counts slots)) first
flushed_parts rate window wait effective is_on last counts [] first h timed = absurd (cc h)
flushed_parts rate window wait effective is_on last counts (least ∷ slots) first h timed = record {
  time = subst (λ (d : Departed Piece). d.slot / rate < 2 ^ 32) (some_is _ _ h) timed.0;
  timed = timed.1;
  fewer = omega arith;
  effective = refl;
  window = refl;
}

pub flushed-one : (rate : ℕ) (a : Aligned Piece) (first : Departed Piece) → flushed_of a ≡ Some first → AreTimed rate a.slots
    → OneLess rate a (after_flush a) first
flushed-one rate a = flushed_parts rate a.window a.wait a.effective a.is_on a.last a.counts a.slots
