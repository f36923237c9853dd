-- A loop over all streams, each of which takes its turn.
use Rattle.std.proofs.Common.{◌≡◌, ℕ, zero, suc, ◌+◌, ◌<◌, List, [], ◌∷◌, ◌++◌, length, map, take, drop, set, get_or, Bool, true, false, ◌&&◌, if◌then◌else◌, refl, sym, ap, ◌∙◌, arith, subst}
use Rattle.std.proofs.lemmas.List.{map_more, drop_more, drop_at}
use Rattle.std.proofs.lemmas.List.Edits.{map_over_more}
use Rattle.pg_data.specs.Pieces.{Piece}
use Rattle.pg_audit.specs.declared.counters.Stats.{Stats}
use Rattle.pg_align.specs.Slots.{Aligned}
use Rattle.pg_outcfg.specs.Listing.{Listing}
use Rattle.pg_session.specs.Events.{Sample}
use Rattle.pg_session.specs.Shape.{same_shape}
use Rattle.pg_session.specs.Streams.{StreamOf, Turn, still, effective_in, measure_turn, reshape_turn, tick_turn}
use Rattle.pg_session.specs.Sending.{Sending, Sends}
use Rattle.pg_session.specs.Taking.{Taken}
use Rattle.pg_session.specs.Kept.{by_slots}
use Rattle.pg_session.specs.Fields.{AreFitted, with_stats, turn_stats, stream_after}
use Rattle.pg_session.specs.Wanted.{wanted_of, all_wanted}
use Rattle.pg_session.proofs.Turns.{taken-one}

abbrev OneStream : Type 0
OneStream = StreamOf (Aligned Piece)

-- what lies behind the turns that were taken is as it was
behind : (f : OneStream → OneStream) (xs : List OneStream) (i : ℕ) (d : OneStream) → i < length xs → get_or (map f (take i xs) ++ drop i xs) i d ≡ get_or xs i d
behind f [] i d h = absurd (omega arith)
behind f (x ∷ xs) zero d h = refl
behind f (x ∷ xs) (suc i) d h = behind f xs i d (omega arith)

pub behind_turns : (turn : OneStream → Turn (Aligned Piece)) (xs now : List OneStream) (i : ℕ) (x : OneStream) → i < length xs
    → now ≡ map (λ s. stream_after (turn s)) (take i xs) ++ drop i xs → x ≡ get_or now i x → get_or xs i x ≡ x
behind_turns turn xs now i x h e is = sym (behind (λ s. stream_after (turn s)) xs i x h) ∙ ap (λ ys. get_or ys i x) (sym e) ∙ sym is

pub stream_more : (turn : OneStream → Turn (Aligned Piece)) (xs now : List OneStream) (i : ℕ) (x new : OneStream) → i < length xs
    → now ≡ map (λ s. stream_after (turn s)) (take i xs) ++ drop i xs → x ≡ get_or now i x → new ≡ (turn x).stream
    → set now i new ≡ map (λ s. stream_after (turn s)) (take (i + 1) xs) ++ drop (i + 1) xs
stream_more turn xs now i x new h e is made =
    ap (set now i) made ∙ map_over_more (λ s. stream_after (turn s)) xs now i x h e is

pub turn_more : (turn : OneStream → Turn (Aligned Piece)) (xs now : List OneStream) (i : ℕ) (x : OneStream) (a b c : Sending) → i < length xs
    → now ≡ map (λ s. stream_after (turn s)) (take i xs) ++ drop i xs → x ≡ get_or now i x
    → Taken (map turn (take i xs)) a b → Sends (turn x).frames (with_stats b (turn_stats (turn x) b.output.stats)) c
    → Taken (map turn (take (i + 1) xs)) a c
turn_more turn xs now i x a b c h e is taken sent =
    let here : get_or xs i x ≡ x = behind_turns turn xs now i x h e is in
    subst (λ ts. Taken ts a c) (sym (map_more turn xs i x h ∙ ap (λ s. map turn (take i xs) ++ turn s ∷ []) here))
    (taken-one (map turn (take i xs)) (turn x) a b c taken sent)

-- a tick and a change of the CFG-1 list ignore nothing
quiet_if : (b : Bool) (t u : Turn (Aligned Piece)) (s : Stats) → turn_stats t s ≡ s → turn_stats u s ≡ s → turn_stats (if b then t else u) s ≡ s
quiet_if true t u s e f = e
quiet_if false t u s e f = f

pub quiet-tick : (listed : Listing) (x : OneStream) (s : Stats) → turn_stats (tick_turn by_slots listed x) s ≡ s
quiet-tick listed x s = quiet_if x.slots.is_on _ _ s refl refl

pub quiet-reshape : (listed other : Listing) (x : OneStream) (s : Stats) → turn_stats (reshape_turn by_slots listed other x) s ≡ s
quiet-reshape listed other x s = quiet_if (same_shape x.definition.members listed other) _ _ s refl refl

-- the same frames, where nothing was ignored
pub quiet_sent : (t : Turn (Aligned Piece)) (b c : Sending) → turn_stats t b.output.stats ≡ b.output.stats → Sends t.frames b c
    → Sends t.frames (with_stats b (turn_stats t b.output.stats)) c
quiet_sent t b c e sent = subst (λ s. Sends t.frames (with_stats b s) c) (sym e) sent

-- the copies that the streams ask for, one stream after another
pub wanted_next : (xs : List OneStream) (i : ℕ) (x : OneStream) (quality : ℕ) (samples : List Sample) → i < length xs → get_or xs i x ≡ x
    → all_wanted (drop i xs) quality samples ≡ wanted_of x quality samples ++ all_wanted (drop (i + 1) xs) quality samples
wanted_next xs i x quality samples h e =
    ap (λ ys. all_wanted ys quality samples) (drop_more xs i x h)
    ∙ ap (λ y. wanted_of y quality samples ++ all_wanted (drop (i + 1) xs) quality samples) e

pub wanted_front : (left w rest : List Piece) → left ≡ w ++ rest → left ≡ w ++ drop (length w) left
wanted_front left w rest e = e ∙ ap (λ r. w ++ r) (sym (drop_at w rest (length w) refl) ∙ ap (drop (length w)) (sym e))

pub wanted_rest : (left w rest : List Piece) → left ≡ w ++ rest → drop (length w) left ≡ rest
wanted_rest left w rest e = ap (drop (length w)) e ∙ drop_at w rest (length w) refl

pub fitted_at : (listed : Listing) (xs : List OneStream) (i : ℕ) (x : OneStream) → AreFitted listed xs → i < length xs → get_or xs i x ≡ x
    → x.slots.effective ≡ effective_in listed x.definition.members
fitted_at listed [] i x w h e = absurd (omega arith)
fitted_at listed (y ∷ xs) zero x w h e = subst (λ (z : OneStream). z.slots.effective ≡ effective_in listed z.definition.members) e w.0
fitted_at listed (y ∷ xs) (suc i) x w h e = fitted_at listed xs i x w.1 (omega arith) e

-- a measurement is nothing to a stream that is off
if_off : {X : Type 0} (b c : Bool) (t u : X) → b ≡ false → (if b && c then t else u) ≡ u
if_off false c t u e = refl
if_off true c t u e = absurd (cc e)

measure-off : (listed : Listing) (soc quality frac : ℕ) (samples : List Sample) (x : OneStream) → x.slots.is_on ≡ false
    → measure_turn by_slots listed soc quality frac samples x ≡ still x
measure-off listed soc quality frac samples x off = if_off x.slots.is_on _ _ (still x) off

pub off_sends : (listed : Listing) (soc quality frac : ℕ) (samples : List Sample) (x : OneStream) (o : Sending) → x.slots.is_on ≡ false
    → Sends (measure_turn by_slots listed soc quality frac samples x).frames
    (with_stats o (turn_stats (measure_turn by_slots listed soc quality frac samples x) o.output.stats)) o
off_sends listed soc quality frac samples x o off =
    subst (λ (t : Turn (Aligned Piece)). Sends t.frames (with_stats o (turn_stats t o.output.stats)) o) (sym (measure-off listed soc quality frac samples x off))
    (record { some = 0; few = omega arith; none = λ _. refl; all = λ _. refl; lost = λ l. l; output = refl; made = omega arith; kept = omega arith })
