-- An event at all streams of a subscriber is one step of it.
use Rattle.std.proofs.Common.{◌≡◌, ◌⊎◌, ℕ, ◌+◌, ◌≤◌, List, [], ◌∷◌, length, length-append, map, Bool, true, Option, Some, None, MatchOption, inl, refl, sym, ap, ap₂, ◌∙◌, arith}
use Rattle.std.specs.List.{flat_map}
use Rattle.pg_wire.specs.declared.refusal.Refusal.{Refusal}
use Rattle.pg_wire.specs.declared.refusal.Refusal.TheVariants.{NoMemory}
use Rattle.pg_wire.specs.declared.ids.PmuKey.{PmuKey}
use Rattle.pg_data.specs.Pieces.{Piece}
use Rattle.pg_outcfg.specs.Listing.{Listing}
use Rattle.pg_align.specs.Slots.{Aligned}
use Rattle.pg_session.specs.Events.{SubscriberEvent}
use Rattle.pg_session.specs.Streams.{StreamOf, Turn}
use Rattle.pg_session.specs.Kept.{by_slots, by_gaps}
use Rattle.pg_ring.specs.Shown.{Queue}
use Rattle.pg_session.specs.Output.{Output, turns_taken}
use Rattle.pg_session.specs.Private as private
use Rattle.pg_session.specs.Sending.{Sending}
use Rattle.pg_session.specs.Taking.{Taken, frames_in_all}
use Rattle.pg_session.specs.Fields.{stream_after}
use Rattle.pg_session.specs.Shown.{Own}

frames-length : (turns : List (Turn (Aligned Piece))) → length (flat_map (λ (t : Turn (Aligned Piece)). t.frames) turns) ≡ frames_in_all turns
frames-length [] = refl
frames-length (t ∷ turns) =
    length-append t.frames (flat_map (λ (u : Turn (Aligned Piece)). u.frames) turns) ∙ ap (λ n. length t.frames + n) (frames-length turns)

streams-after : (turn : StreamOf (Aligned Piece) → Turn (Aligned Piece)) (streams : List (StreamOf (Aligned Piece)))
    → map (λ s. stream_after (turn s)) streams ≡ map (λ (t : Turn (Aligned Piece)). t.stream) (map turn streams)
streams-after turn [] = refl
streams-after turn (s ∷ streams) = ap (λ rest. (turn s).stream ∷ rest) (streams-after turn streams)

-- how an event begins
abbrev pub beginning : Own → Bool → Sending
beginning own lost = record { output = own.output; made = 0; kept = 0; lost = lost }

-- All streams took their turns.
pub record Turned (own : Own) (e : SubscriberEvent) (lost : Bool) (streams : List (StreamOf (Aligned Piece))) (out : Sending) : Type 0 where
  pub few : out.kept ≤ length (private.frames_of by_slots by_gaps own e)
  pub none : lost ≡ true → out.kept ≡ 0
  pub made : out.made ≡ length (private.frames_of by_slots by_gaps own e)
  pub streams_are : streams ≡ (private.turned by_slots by_gaps own e out.kept).streams
  pub output_is : out.output ≡ (private.turned by_slots by_gaps own e out.kept).output

pub all-turned : (own : Own) (e : SubscriberEvent) (lost : Bool) (turn : StreamOf (Aligned Piece) → Turn (Aligned Piece)) (streams : List (StreamOf (Aligned Piece)))
    (old new : Sending) → private.turns_of by_slots by_gaps own e ≡ map turn own.streams → streams ≡ map (λ s. stream_after (turn s)) own.streams
    → old ≡ beginning own lost → Taken (map turn own.streams) old new → Turned own e lost streams new
all-turned own e lost turn streams old new turns after begun taken =
    let frames : length (private.frames_of by_slots by_gaps own e) ≡ frames_in_all (map turn own.streams) =
    ap (λ ts. length (flat_map (λ (t : Turn (Aligned Piece)). t.frames) ts)) turns ∙ frames-length (map turn own.streams) in
    let no_kept : old.kept ≡ 0 = ap (λ (s : Sending). s.kept) begun in
    let no_made : old.made ≡ 0 = ap (λ (s : Sending). s.made) begun in
    let kept : new.kept ≡ taken.some = omega (arith, taken.kept, no_kept) in
    record {
      few = omega (arith, kept, taken.few, frames);
      none = λ h. kept ∙ taken.none (ap (λ (s : Sending). s.lost) begun ∙ h);
      made = omega (arith, taken.made, no_made, frames);
      streams_are = after ∙ streams-after turn own.streams ∙ ap (map (λ (t : Turn (Aligned Piece)). t.stream)) (sym turns);
      output_is = taken.output ∙ ap (λ (s : Sending). taken_by taken.some (map turn own.streams) s.output) begun
          ∙ ap₂ (λ k ts. taken_by k ts own.output) (sym kept) (sym turns);
    }
  where
    taken_by : ℕ → List (Turn (Aligned Piece)) → Output Queue → Output Queue
    taken_by k ts out = turns_taken by_gaps k ts out

-- the state with other streams, queue, counters and last tick
abbrev pub own_with : Own → Option ℕ → List (StreamOf (Aligned Piece)) → Output Queue → Own
own_with own last streams out = record own { streams = streams; output = out; last_tick = last }

-- the state with other grants, CFG-1 list, streams, queue and counters
abbrev pub own_changed : Own → List PmuKey → Listing → List (StreamOf (Aligned Piece)) → Output Queue → Own
own_changed own grants listed streams out = record own { grants = grants; listed = listed; streams = streams; output = out }

pub same_changed : (own : Own) {g h : List PmuKey} {l m : Listing} {xs ys : List (StreamOf (Aligned Piece))} {o p : Output Queue}
    → g ≡ h → l ≡ m → xs ≡ ys → o ≡ p → own_changed own g l xs o ≡ own_changed own h m ys p
same_changed own {g = g} {h = h} {l = l} {m = m} {xs = xs} {ys = ys} {o = o} {p = p} a b c d =
    ap (λ k. own_changed own k l xs o) a ∙ ap (λ k. own_changed own h k xs o) b ∙ ap₂ (own_changed own h m) c d

-- an event that no refusal holds of is done
pub may-done : (own : Own) (e : SubscriberEvent) (lost : Bool) (r : private.ReplyValue) (kept : ℕ) → private.refusal by_slots by_gaps own e ≡ None
    → kept ≤ length (private.frames_of by_slots by_gaps own e) → (lost ≡ true → kept ≡ 0) → r ≡ private.answer by_slots by_gaps own e kept
    → private.May by_slots by_gaps own e lost r
may-done own e lost r kept none few zeroed answered = by (private.refusal by_slots by_gaps own e) none
  where
    by : (o : Option Refusal) → o ≡ None → MatchOption o
        (((k : ℕ) × (k ≤ length (private.frames_of by_slots by_gaps own e)) × (lost ≡ true → k ≡ 0) × (r ≡ private.answer by_slots by_gaps own e k))
        ⊎ ((r ≡ private.refused NoMemory) × (private.takes_memory e ≡ true)))
        (λ first. r ≡ private.refused first)
    by None h = inl (kept, few, zeroed, answered)
    by (Some first) h = absurd (cc h)
