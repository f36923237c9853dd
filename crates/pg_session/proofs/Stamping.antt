-- Within an on-period the slots of a stream's data frames rise, and so their stamps.
use Rattle.std.proofs.Common.{◌≡◌, ℕ, ◌/◌, ◌%◌, ◌^◌, ◌<◌, ◌≤◌, ◌==◌, ◌&&◌, nat_lt, nat_le, not, Bool, true, false, if◌then◌else◌, IsTrue, is_some, List, [], ◌∷◌, ◌++◌, length, map, filter, All, Option, Some, None, MatchOption, Result, Ok, Err, refl, sym, ap, ap₂, subst, ◌∙◌, arith}
use Rattle.std.proofs.lemmas.Grind.{common_steps}
use Rattle.std.proofs.lemmas.Bool.Decides.{nat_tests}
use Rattle.std.proofs.lemmas.List.{append-nil}
use Rattle.std.proofs.lemmas.List.Elements.{All-nil, All-cons, All-weaker}
use Rattle.std.proofs.lemmas.List.Kept.{AllPairs-cons}
use Rattle.std.specs.Prelude.{AllPairs}
use Rattle.pg_wire.specs.declared.refusal.Refusal.{Refusal}
use Rattle.pg_wire.specs.declared.refusal.Refusal.TheVariants.{BadDefinition, StreamExists, StreamsFull}
use Rattle.pg_wire.specs.declared.ids.PmuKey.{PmuKey}
use Rattle.pg_wire.specs.Head.{head_of, Heading, frame_of}
use Rattle.pg_wire.specs.Stream.{joined}
use Rattle.pg_config.specs.Parts.{Part}
use Rattle.pg_data.specs.Pieces.{Piece}
use Rattle.pg_entitle.specs.Grants.{has_key}
use Rattle.pg_stream.specs.declared.definition.Definition.{Definition}
use Rattle.pg_stream.specs.Limits.{HasNumbers, is_within_limits}
use Rattle.pg_stream.specs.Slots.{IsBefore, slot_at, stamp_at, numerator_at}
use Rattle.pg_stream.proofs.Nearest.{stamp_at_is, numerator_below, stamps_rise}
use Rattle.pg_stream.proofs.Within.{decides_limits}
use Rattle.pg_align.specs.Histories.{Departed, StreamHistory, RiseTo, slot_left, is_above, arrived, open_numbers, leave_all, flush_all, flush_in_turn, take_arrival, keep_arrival, ticked, with_late}
use Rattle.pg_align.proofs.Rising.{AreSo, CameFor, leaving-rises, flushing-rises, leaving-so, flushing-so, leaving-stays, flushing-stays}
use Rattle.pg_outcfg.specs.Listing.{Listing}
use Rattle.pg_outcfg.specs.Quality.{joined_quality}
use Rattle.pg_outcfg.specs.Frames.{data_blocks, data_heading, qualities_of}
use Rattle.pg_session.specs.Events.{SubscriberEvent, Sample, grant, revoke, announce, measure, define, remove, tick, connect, hangup, command, drain}
use Rattle.pg_session.specs.Shape.{same_shape}
use Rattle.pg_session.specs.Streams.{StreamOf, Turn, PlacedBlock, placed, base_of, slot_frame, still, framed, reshape_turn, arrive_all, arrival_turn, measure_turn, tick_turn}
use Rattle.pg_session.specs.Private.{ReplyValue, done, refused, handed, May, next, refusal, effect, refuse, refused_at, turns_of, stream_at, stopped, started as start_stream, switched, at_stream, defined, put_first, with_refusal}
use Rattle.pg_session.specs.ByAll.{by_arrivals, by_numbers}
use Rattle.pg_session.specs.Shown.{Model, begin}
use Rattle.pg_session.specs.Laws.{Run, after}
use Rattle.pg_session.specs.Stamps.{IsLegal, made_of, made_at, made_in, StaysOn, IsFrameOf, AreOfRisingSlots, stamp_in}

abbrev OneStream : Type 0
OneStream = StreamOf (StreamHistory Piece)

abbrev OneTurn : Type 0
OneTurn = Turn (StreamHistory Piece)

-- the second of a slot is one that SOC can tell
abbrev IsTimed : ℕ → ℕ → Type 0
IsTimed rate slot = slot / rate < 2 ^ 32

-- what each stream keeps
record IsStreamSound (s : OneStream) : Type 0 where
  pub numbers : HasNumbers s.definition
  pub off : s.slots.is_on ≡ false → s.slots.arrivals ≡ []
  pub timed : CameFor (IsTimed s.definition.rate) s.slots.arrivals

-- data frames of slots that rise from above `last` to `end`
abbrev OfSlotsTo : Definition → Option ℕ → Option ℕ → List (List ℕ) → Type 0
OfSlotsTo d end last [] = last ≡ end
OfSlotsTo d end last (frame ∷ frames) = (slot : ℕ) × IsTrue (is_above last slot) × IsFrameOf d slot frame × OfSlotsTo d end (Some slot) frames

slots_append : (d : Definition) (mid last : Option ℕ) (xs ys : List (List ℕ)) → OfSlotsTo d mid last xs → AreOfRisingSlots d mid ys → AreOfRisingSlots d last (xs ++ ys)
slots_append d mid last [] ys h k = subst (λ o. AreOfRisingSlots d o ys) (sym h) k
slots_append d mid last (x ∷ xs) ys h k = (h.0, h.1, h.2, slots_append d mid (Some h.0) xs ys h.3 k)

of_departed : (d : Definition) (listed : Listing) (end last : Option ℕ) (ds : List (Departed Piece)) → RiseTo end last (map slot_left ds)
    → AreSo (IsTimed d.rate) (map slot_left ds) → OfSlotsTo d end last (map (slot_frame d listed) ds)
unfolding slot_frame
of_departed d listed end last [] r t = r
of_departed d listed end last (x ∷ xs) r t =
    (x.slot, r.0, record { listed = listed; parts = x.parts; same = refl; told = t.0 }, of_departed d listed end (Some x.slot) xs r.1 t.1)

-- ---- one stream at one event

-- what an event makes of a stream, and the data frames that it makes
record Goes (s t : OneStream) (frames : List (List ℕ)) : Type 0 where
  pub definition : t.definition ≡ s.definition
  pub slots : OfSlotsTo s.definition t.slots.last s.slots.last frames
  pub sound : IsStreamSound t
  pub quiet : s.slots.is_on ≡ false → frames ≡ []

still_goes : (s : OneStream) → IsStreamSound s → Goes s s []
still_goes s sound = record { definition = refl; slots = refl; sound = sound; quiet = λ h. refl }

on_off : (b : Bool) → b ≡ true → b ≡ false → ⊥
on_off true e f = cc f
on_off false e f = cc e

left_goes : (listed : Listing) (s : OneStream) (h : StreamHistory Piece) → HasNumbers s.definition → h.last ≡ s.slots.last → s.slots.is_on ≡ true → h.is_on ≡ true
    → CameFor (IsTimed s.definition.rate) h.arrivals
    → Goes s (framed by_arrivals listed s (leave_all h)).stream (framed by_arrivals listed s (leave_all h)).frames
left_goes listed s h numbers same on still_on came = record {
  definition = refl;
  slots = subst (λ last. OfSlotsTo s.definition (leave_all h).after.last last (map (slot_frame s.definition listed) (leave_all h).frames)) same
      (of_departed s.definition listed (leave_all h).after.last h.last (leave_all h).frames (leaving-rises h) (leaving-so (IsTimed s.definition.rate) h came));
  sound = record {
    numbers = numbers;
    off = λ f. absurd (on_off h.is_on still_on (sym (leaving-stays h).1 ∙ f));
    timed = subst (λ xs. CameFor (IsTimed s.definition.rate) xs) (sym (leaving-stays h).0) came;
  };
  quiet = λ f. absurd (on_off s.slots.is_on on f);
}

tick_goes : (listed : Listing) (s : OneStream) → IsStreamSound s
    → Goes s (tick_turn by_arrivals listed s).stream (tick_turn by_arrivals listed s).frames
tick_goes listed s sound = by s.slots.is_on refl
  where
    by : (b : Bool) → s.slots.is_on ≡ b
        → Goes s (if b then framed by_arrivals listed s (leave_all (ticked s.slots)) else still s).stream
        (if b then framed by_arrivals listed s (leave_all (ticked s.slots)) else still s).frames
    by true on = left_goes listed s (ticked s.slots) sound.numbers refl on on sound.timed
    by false on = still_goes s sound

-- an arrival keeps the last slot that left and the switch
record Keeps (P : ℕ → Type 0) (h after : StreamHistory Piece) : Type 0 where
  pub last : after.last ≡ h.last
  pub is_on : after.is_on ≡ h.is_on
  pub came : CameFor P after.arrivals

take_keeps : (P : ℕ → Type 0) (h : StreamHistory Piece) (slot place : ℕ) (part : Piece) → P slot → CameFor P h.arrivals → Keeps P h (take_arrival h slot place part)
take_keeps P h slot place part is came = by (is_above h.last slot) (is_some (arrived h.arrivals slot place))
  where
    by : (a b : Bool) → Keeps P h (if not a then with_late h place else (if b then h else keep_arrival h slot place part))
    by false b = record { last = refl; is_on = refl; came = came }
    by true true = record { last = refl; is_on = refl; came = came }
    by true false = record { last = refl; is_on = refl; came = (is, came) }

arrive_keeps : (P : ℕ → Type 0) (h : StreamHistory Piece) (slot : ℕ) (ps : List PlacedBlock) → P slot → CameFor P h.arrivals → Keeps P h (arrive_all by_arrivals h slot ps).slots
arrive_keeps P h slot [] is came = record { last = refl; is_on = refl; came = came }
arrive_keeps P h slot (p ∷ ps) is came =
    let one = take_keeps P h slot p.place p.piece is came in
    let rest = arrive_keeps P (take_arrival h slot p.place p.piece) slot ps is one.came in
    record { last = rest.last ∙ one.last; is_on = rest.is_on ∙ one.is_on; came = rest.came }

slot_timed : (rate base soc frac slot : ℕ) → slot_at rate base soc frac ≡ Ok slot → IsTimed rate slot
slot_timed rate base soc frac slot e = grind (arith, nat_tests)

both : (b c : Bool) → (b && c) ≡ true → b ≡ true
both true c h = refl
both false c h = h

measure_goes : (listed : Listing) (soc quality frac : ℕ) (samples : List Sample) (s : OneStream) → IsStreamSound s
    → Goes s (measure_turn by_arrivals listed soc quality frac samples s).stream (measure_turn by_arrivals listed soc quality frac samples s).frames
measure_goes listed soc quality frac samples s sound = by (s.slots.is_on && nat_lt 0 (length blocks)) refl
  where
    blocks : List PlacedBlock
    blocks = placed s.definition.members quality samples

    at : (o : Result ℕ Refusal) → slot_at s.definition.rate (base_of samples) soc frac ≡ o → s.slots.is_on ≡ true
        → Goes s (arrival_turn by_arrivals listed s blocks o).stream (arrival_turn by_arrivals listed s blocks o).frames
    at (Err r) e on = still_goes s sound
    at (Ok slot) e on =
        let kept = arrive_keeps (IsTimed s.definition.rate) s.slots slot blocks (slot_timed s.definition.rate (base_of samples) soc frac slot e) sound.timed in
        left_goes listed s (arrive_all by_arrivals s.slots slot blocks).slots sound.numbers kept.last on (kept.is_on ∙ on) kept.came

    by : (b : Bool) → (s.slots.is_on && nat_lt 0 (length blocks)) ≡ b
        → Goes s (if b then arrival_turn by_arrivals listed s blocks (slot_at s.definition.rate (base_of samples) soc frac) else still s).stream
        (if b then arrival_turn by_arrivals listed s blocks (slot_at s.definition.rate (base_of samples) soc frac) else still s).frames
    by true t = at (slot_at s.definition.rate (base_of samples) soc frac) refl (both s.slots.is_on (nat_lt 0 (length blocks)) t)
    by false t = still_goes s sound

-- after a flush by the old shape
flush_goes : (listed : Listing) (s t : OneStream) → IsStreamSound s → t.definition ≡ s.definition → t.slots.last ≡ (flush_all s.slots).after.last
    → t.slots.arrivals ≡ (flush_all s.slots).after.arrivals → t.slots.is_on ≡ (flush_all s.slots).after.is_on
    → Goes s t (map (slot_frame s.definition listed) (flush_all s.slots).frames)
flush_goes listed s t sound d last arrivals is_on = record {
  definition = d;
  slots = subst (λ end. OfSlotsTo s.definition end s.slots.last (map (slot_frame s.definition listed) (flush_all s.slots).frames)) (sym last)
      (of_departed s.definition listed (flush_all s.slots).after.last s.slots.last (flush_all s.slots).frames (flushing-rises s.slots)
      (flushing-so (IsTimed s.definition.rate) s.slots sound.timed));
  sound = record {
    numbers = subst HasNumbers (sym d) sound.numbers;
    off = λ f. same ∙ sound.off (sym (is_on ∙ (flushing-stays s.slots).1) ∙ f);
    timed = subst (λ (e : Definition). CameFor (IsTimed e.rate) t.slots.arrivals) (sym d)
        (subst (λ xs. CameFor (IsTimed s.definition.rate) xs) (sym same) sound.timed);
  };
  quiet = λ f. ap (λ xs. map (slot_frame s.definition listed) (flush_in_turn s.slots (open_numbers s.slots.last xs)).frames) (sound.off f);
}
  where
    same : t.slots.arrivals ≡ s.slots.arrivals
    same = arrivals ∙ (flushing-stays s.slots).0

reshape_goes : (listed other : Listing) (s : OneStream) → IsStreamSound s
    → Goes s (reshape_turn by_arrivals listed other s).stream (reshape_turn by_arrivals listed other s).frames
reshape_goes listed other s sound = by (same_shape s.definition.members listed other) refl
  where
    by : (b : Bool) → same_shape s.definition.members listed other ≡ b
        → Goes s (reshape_turn by_arrivals listed other s).stream (reshape_turn by_arrivals listed other s).frames
    by true e = rw e record {
      definition = refl;
      slots = refl;
      sound = record { numbers = sound.numbers; off = sound.off; timed = sound.timed };
      quiet = λ h. refl;
    }
    by false e = rw e (flush_goes listed s _ sound refl refl refl refl)

-- ---- all streams

-- no stream of this number
abbrev NoneHas : ℕ → List OneStream → Type 0
NoneHas number [] = Unit {0}
NoneHas number (s ∷ ss) = ((s.definition.stream == number) ≡ false) × NoneHas number ss

-- each stream is sound, and no number stands twice
abbrev AreSound : List OneStream → Type 0
AreSound [] = Unit {0}
AreSound (s ∷ ss) = IsStreamSound s × NoneHas s.definition.stream ss × AreSound ss

-- what a change makes of each stream is sound, and has its definition
abbrev KeepsEach : (OneStream → OneStream) → Type 0
KeepsEach f = (s : OneStream) → IsStreamSound s → ((f s).definition ≡ s.definition) × IsStreamSound (f s)

none_map : (f : OneStream → OneStream) → KeepsEach f → (number : ℕ) (ss : List OneStream) → AreSound ss → NoneHas number ss → NoneHas number (map f ss)
none_map f each number [] w h = tt
none_map f each number (s ∷ ss) w h =
    (ap (λ (d : Definition). d.stream == number) (each s w.0).0 ∙ h.0, none_map f each number ss w.2 h.1)

sound_map : (f : OneStream → OneStream) → KeepsEach f → (ss : List OneStream) → AreSound ss → AreSound (map f ss)
sound_map f each [] w = tt
sound_map f each (s ∷ ss) w = (
  (each s w.0).1,
  subst (λ (d : Definition). NoneHas d.stream (map f ss)) (sym (each s w.0).0) (none_map f each s.definition.stream ss w.2 w.1),
  sound_map f each ss w.2,
)

found_map : (f : OneStream → OneStream) → KeepsEach f → (number : ℕ) (ss : List OneStream) (s : OneStream) → AreSound ss → stream_at ss number ≡ Some s
    → stream_at (map f ss) number ≡ Some (f s)
found_map f each number [] s w e = absurd (cc e)
found_map f each number (x ∷ xs) s w e = by (x.definition.stream == number) refl e (found_map f each number xs s w.2)
  where
    there : (b : Bool) → (x.definition.stream == number) ≡ b → ((f x).definition.stream == number) ≡ b
    there b t = ap (λ (d : Definition). d.stream == number) (each x w.0).0 ∙ t

    by : (b : Bool) → (x.definition.stream == number) ≡ b → (if b then Some x else stream_at xs number) ≡ Some s
        → (stream_at xs number ≡ Some s → stream_at (map f xs) number ≡ Some (f s))
        → (if (f x).definition.stream == number then Some (f x) else stream_at (map f xs) number) ≡ Some (f s)
    by true t found rest =
        let same : x ≡ s = cc found in
        ap (λ b. if b then Some (f x) else stream_at (map f xs) number) (there true t) ∙ ap (λ (y : OneStream). Some (f y)) same
    by false t found rest = ap (λ b. if b then Some (f x) else stream_at (map f xs) number) (there false t) ∙ rest found

-- the stream of a number is sound
found_sound : (number : ℕ) (ss : List OneStream) (s : OneStream) → AreSound ss → stream_at ss number ≡ Some s → IsStreamSound s
found_sound number [] s w e = absurd (cc e)
found_sound number (x ∷ xs) s w e = by (x.definition.stream == number) e (found_sound number xs s w.2)
  where
    by : (b : Bool) → (if b then Some x else stream_at xs number) ≡ Some s → (stream_at xs number ≡ Some s → IsStreamSound s) → IsStreamSound s
    by true found rest = subst IsStreamSound (let same : x ≡ s = cc found in same) w.0
    by false found rest = rest found

-- what an event is to each stream, by its turn
abbrev GoEach : (OneStream → OneTurn) → Type 0
GoEach f = (s : OneStream) → IsStreamSound s → Goes s (f s).stream (f s).frames

turned_streams : (f : OneStream → OneTurn) (ss : List OneStream) → map (λ (t : OneTurn). t.stream) (map f ss) ≡ map (λ s. (f s).stream) ss
turned_streams f [] = refl
turned_streams f (s ∷ ss) = ap (λ rest. (f s).stream ∷ rest) (turned_streams f ss)

turn_keeps : (f : OneStream → OneTurn) → GoEach f → KeepsEach (λ s. (f s).stream)
turn_keeps f each s sound = ((each s sound).definition, (each s sound).sound)

same_number : (a b : ℕ) → (a == b) ≡ true → a ≡ b
same_number a b e = grind (arith, common_steps)

other_number : (a b : ℕ) → (a == b) ≡ false → (b == a) ≡ false
other_number a b e = grind (arith, common_steps)

made_none : (f : OneStream → OneTurn) → GoEach f → (number : ℕ) (ss : List OneStream) → AreSound ss → NoneHas number ss → made_of number (map f ss) ≡ []
made_none f each number [] w h = refl
made_none f each number (s ∷ ss) w h =
    ap (λ b. if b then (f s).frames ++ made_of number (map f ss) else made_of number (map f ss))
    (ap (λ (d : Definition). d.stream == number) (each s w.0).definition ∙ h.0)
    ∙ made_none f each number ss w.2 h.1

-- the frames that the stream of a number makes are those of its turn
made_found : (f : OneStream → OneTurn) → GoEach f → (number : ℕ) (ss : List OneStream) (s : OneStream) → AreSound ss → stream_at ss number ≡ Some s
    → made_of number (map f ss) ≡ (f s).frames
made_found f each number [] s w e = absurd (cc e)
made_found f each number (x ∷ xs) s w e = by (x.definition.stream == number) refl e (made_found f each number xs s w.2)
  where
    there : (b : Bool) → (x.definition.stream == number) ≡ b → ((f x).stream.definition.stream == number) ≡ b
    there b t = ap (λ (d : Definition). d.stream == number) (each x w.0).definition ∙ t

    by : (b : Bool) → (x.definition.stream == number) ≡ b → (if b then Some x else stream_at xs number) ≡ Some s
        → (stream_at xs number ≡ Some s → made_of number (map f xs) ≡ (f s).frames)
        → (if (f x).stream.definition.stream == number then (f x).frames ++ made_of number (map f xs) else made_of number (map f xs)) ≡ (f s).frames
    by true t found rest =
        let same : x ≡ s = cc found in
        let none = made_none f each number xs w.2 (subst (λ n. NoneHas n xs) (same_number x.definition.stream number t) w.1) in
        ap (λ b. if b then (f x).frames ++ made_of number (map f xs) else made_of number (map f xs)) (there true t)
        ∙ ap (λ fs. (f x).frames ++ fs) none ∙ append-nil (f x).frames ∙ ap (λ (y : OneStream). (f y).frames) same
    by false t found rest =
        ap (λ b. if b then (f x).frames ++ made_of number (map f xs) else made_of number (map f xs)) (there false t) ∙ rest found

none_found : (number : ℕ) (ss : List OneStream) → NoneHas number ss → stream_at ss number ≡ None
none_found number [] h = refl
none_found number (s ∷ ss) h = ap (λ b. if b then Some s else stream_at ss number) h.0 ∙ none_found number ss h.1

-- a stream more, of a number that is free
found_push : (number : ℕ) (ss : List OneStream) (x s : OneStream) → stream_at ss number ≡ Some s → stream_at (ss ++ x ∷ []) number ≡ Some s
found_push number [] x s e = absurd (cc e)
found_push number (t ∷ ss) x s e = by (t.definition.stream == number) e (found_push number ss x s)
  where
    by : (b : Bool) → (if b then Some t else stream_at ss number) ≡ Some s → (stream_at ss number ≡ Some s → stream_at (ss ++ x ∷ []) number ≡ Some s)
        → (if b then Some t else stream_at (ss ++ x ∷ []) number) ≡ Some s
    by true found rest = found
    by false found rest = rest found

none_push : (number : ℕ) (ss : List OneStream) (x : OneStream) → NoneHas number ss → (x.definition.stream == number) ≡ false → NoneHas number (ss ++ x ∷ [])
none_push number [] x h e = (e, tt)
none_push number (s ∷ ss) x h e = (h.0, none_push number ss x h.1 e)

sound_push : (ss : List OneStream) (x : OneStream) → AreSound ss → IsStreamSound x → stream_at ss x.definition.stream ≡ None → AreSound (ss ++ x ∷ [])
sound_push [] x w sound e = (sound, tt, tt)
sound_push (s ∷ ss) x w sound e = by (s.definition.stream == x.definition.stream) refl e (sound_push ss x w.2 sound)
  where
    by : (b : Bool) → (s.definition.stream == x.definition.stream) ≡ b → (if b then Some s else stream_at ss x.definition.stream) ≡ None
        → (stream_at ss x.definition.stream ≡ None → AreSound (ss ++ x ∷ [])) → AreSound (s ∷ (ss ++ x ∷ []))
    by true t none rest = absurd (cc none)
    by false t none rest =
        (w.0, none_push s.definition.stream ss x w.1 (other_number s.definition.stream x.definition.stream t), rest none)

-- all streams but those of a number
abbrev others : ℕ → List OneStream → List OneStream
others number ss = filter (λ (s : OneStream). not (s.definition.stream == number)) ss

none_others : (number gone : ℕ) (ss : List OneStream) → NoneHas number ss → NoneHas number (others gone ss)
none_others number gone [] h = tt
none_others number gone (s ∷ ss) h = by (not (s.definition.stream == gone)) (none_others number gone ss h.1)
  where
    by : (b : Bool) → NoneHas number (others gone ss) → NoneHas number (if b then s ∷ others gone ss else others gone ss)
    by true rest = (h.0, rest)
    by false rest = rest

sound_others : (gone : ℕ) (ss : List OneStream) → AreSound ss → AreSound (others gone ss)
sound_others gone [] w = tt
sound_others gone (s ∷ ss) w = by (not (s.definition.stream == gone)) (sound_others gone ss w.2)
  where
    by : (b : Bool) → AreSound (others gone ss) → AreSound (if b then s ∷ others gone ss else others gone ss)
    by true rest = (w.0, none_others s.definition.stream gone ss w.1, rest)
    by false rest = rest

found_others : (number gone : ℕ) (ss : List OneStream) (t : OneStream) → AreSound ss → stream_at (others gone ss) number ≡ Some t → stream_at ss number ≡ Some t
found_others number gone [] t w e = e
found_others number gone (s ∷ ss) t w e = by (s.definition.stream == gone) (s.definition.stream == number) refl e (found_others number gone ss t w.2)
  where
    by : (b q : Bool) → (s.definition.stream == number) ≡ q
        → stream_at (if not b then s ∷ others gone ss else others gone ss) number ≡ Some t
        → (stream_at (others gone ss) number ≡ Some t → stream_at ss number ≡ Some t)
        → (if q then Some s else stream_at ss number) ≡ Some t
    by false true u found rest = sym (ap (λ b. if b then Some s else stream_at (others gone ss) number) u) ∙ found
    by false false u found rest = rest (sym (ap (λ b. if b then Some s else stream_at (others gone ss) number) u) ∙ found)
    by true true u found rest =
        absurd (let none = none_found number ss (subst (λ n. NoneHas n ss) (same_number s.definition.stream number u) w.1) in
        let some = rest found in
        cc (none, some))
    by true false u found rest = rest found

-- a command, or a hang-up
stop_keeps : KeepsEach (stopped by_arrivals by_numbers)
stop_keeps s sound = (refl, record { numbers = sound.numbers; off = λ h. refl; timed = tt })

start_keeps : KeepsEach (start_stream by_arrivals by_numbers)
start_keeps s sound = (refl, by s.slots.is_on refl)
  where
    by : (b : Bool) → s.slots.is_on ≡ b
        → IsStreamSound (record s { slots = (if b then s.slots else record s.slots { is_on = true; last = None; arrivals = [] }) })
    by true on = record { numbers = sound.numbers; off = sound.off; timed = sound.timed }
    by false on = record { numbers = sound.numbers; off = λ h. absurd (cc h); timed = tt }

switch_keeps : (word : ℕ) → KeepsEach (switched by_arrivals by_numbers word)
switch_keeps word s sound = by (word == 1) (word == 2)
  where
    by : (a b : Bool) → ((if a then stopped by_arrivals by_numbers s else (if b then start_stream by_arrivals by_numbers s else s)).definition ≡ s.definition)
        × IsStreamSound (if a then stopped by_arrivals by_numbers s else (if b then start_stream by_arrivals by_numbers s else s))
    by true b = stop_keeps s sound
    by false true = start_keeps s sound
    by false false = (refl, sound)

command_keeps : (number word : ℕ) → KeepsEach (at_stream by_arrivals by_numbers number (switched by_arrivals by_numbers word))
command_keeps number word s sound = by (s.definition.stream == number)
  where
    by : (b : Bool) → ((if b then switched by_arrivals by_numbers word s else s).definition ≡ s.definition)
        × IsStreamSound (if b then switched by_arrivals by_numbers word s else s)
    by true = switch_keeps word s sound
    by false = (refl, sound)

-- a stream that was on and is on has the last slot that it had
abbrev StaysLast : (OneStream → OneStream) → OneStream → Type 0
StaysLast f s = IsTrue (f s).slots.is_on → (f s).slots.last ≡ s.slots.last

switch_stays : (word : ℕ) (s : OneStream) → s.slots.is_on ≡ true → StaysLast (switched by_arrivals by_numbers word) s
switch_stays word s on = by (word == 1) (word == 2)
  where
    by : (a b : Bool) → IsTrue (if a then stopped by_arrivals by_numbers s else (if b then start_stream by_arrivals by_numbers s else s)).slots.is_on
        → (if a then stopped by_arrivals by_numbers s else (if b then start_stream by_arrivals by_numbers s else s)).slots.last ≡ s.slots.last
    by true b h = absurd (cc h)
    by false true h = ap (λ b. (if b then s.slots else record s.slots { is_on = true; last = None; arrivals = [] }).last) on
    by false false h = refl

command_stays : (number word : ℕ) (s : OneStream) → s.slots.is_on ≡ true
    → StaysLast (at_stream by_arrivals by_numbers number (switched by_arrivals by_numbers word)) s
command_stays number word s on = by (s.definition.stream == number)
  where
    by : (b : Bool) → IsTrue (if b then switched by_arrivals by_numbers word s else s).slots.is_on
        → (if b then switched by_arrivals by_numbers word s else s).slots.last ≡ s.slots.last
    by true h = switch_stays word s on h
    by false h = refl

-- ---- one event at all streams

-- What an event makes of the streams, and the data frames that the stream of a number makes: these are of slots that rise, and where
-- it stays on, the last of them is the last that left.
record StepsOn (number : ℕ) (s : OneStream) (frames : List (List ℕ)) (after : List OneStream) : Type 0 where
  pub end : Option ℕ
  pub slots : OfSlotsTo s.definition end s.slots.last frames
  pub goes_on : (t : OneStream) → stream_at after number ≡ Some t → IsTrue t.slots.is_on → (t.definition ≡ s.definition) × (t.slots.last ≡ end)

same_stream : (o : Option OneStream) (s t : OneStream) → o ≡ Some s → o ≡ Some t → s ≡ t
same_stream o s t e f = cc

turn_steps : (f : OneStream → OneTurn) → GoEach f → (number : ℕ) (ss : List OneStream) (s : OneStream) → AreSound ss → stream_at ss number ≡ Some s
    → StepsOn number s (made_of number (map f ss)) (map (λ (t : OneTurn). t.stream) (map f ss))
turn_steps f each number ss s w e =
    let one = each s (found_sound number ss s w e) in
    let next = ap (λ xs. stream_at xs number) (turned_streams f ss) ∙ found_map (λ x. (f x).stream) (turn_keeps f each) number ss s w e in
    record {
      end = (f s).stream.slots.last;
      slots = subst (λ fs. OfSlotsTo s.definition (f s).stream.slots.last s.slots.last fs) (sym (made_found f each number ss s w e)) one.slots;
      goes_on = λ t g on.
          let same = same_stream _ (f s).stream t next g in
          (ap (λ (x : OneStream). x.definition) (sym same) ∙ one.definition, ap (λ (x : OneStream). x.slots.last) (sym same));
    }

-- an event that makes no frame
kept_steps : (f : OneStream → OneStream) → KeepsEach f → (number : ℕ) (ss : List OneStream) (s : OneStream) → AreSound ss → stream_at ss number ≡ Some s
    → StaysLast f s → StepsOn number s [] (map f ss)
kept_steps f each number ss s w e stays =
    let next = found_map f each number ss s w e in
    record {
      end = s.slots.last;
      slots = refl;
      goes_on = λ t g on.
          let same = same_stream _ (f s) t next g in (
            ap (λ (x : OneStream). x.definition) (sym same) ∙ (each s (found_sound number ss s w e)).0,
            ap (λ (x : OneStream). x.slots.last) (sym same) ∙ stays (subst (λ (x : OneStream). IsTrue x.slots.is_on) (sym same) on),
          );
    }

same_steps : (number : ℕ) (ss : List OneStream) (s : OneStream) (after : List OneStream) → ((t : OneStream) → stream_at after number ≡ Some t → s ≡ t)
    → StepsOn number s [] after
same_steps number ss s after is = record {
  end = s.slots.last;
  slots = refl;
  goes_on = λ t g on. (ap (λ (x : OneStream). x.definition) (sym (is t g)), ap (λ (x : OneStream). x.slots.last) (sym (is t g)));
}

-- a definition that is not refused is within its limits, and of a free number
refuse_none : (a b c : Bool) → refuse (not a) BadDefinition (refuse b StreamExists (refuse c StreamsFull None)) ≡ None → (a ≡ true) × (b ≡ false)
refuse_none true false c h = (refl, refl)
refuse_none true true c h = absurd (cc h)
refuse_none false b c h = absurd (cc h)

none_is : (o : Option OneStream) → is_some o ≡ false → o ≡ None
none_is None e = refl
none_is (Some s) e = absurd (cc e)

effect_steps : (p : Model) (e : SubscriberEvent) (kept number : ℕ) (s : OneStream) → AreSound p.streams → stream_at p.streams number ≡ Some s → s.slots.is_on ≡ true
    → StepsOn number s (made_of number (turns_of by_arrivals by_numbers p e)) (effect by_arrivals by_numbers p e kept).streams
effect_steps p (grant key config) kept number s w found on = by (has_key p.grants key) refl
  where
    by : (b : Bool) → has_key p.grants key ≡ b
        → StepsOn number s (made_of number (turns_of by_arrivals by_numbers p (grant key config))) (effect by_arrivals by_numbers p (grant key config) kept).streams
    by true t =
        rw t (subst (λ fs. StepsOn number s fs p.streams) (sym (made_found still still_goes number p.streams s w found))
        (same_steps number p.streams s p.streams (λ x g. same_stream _ s x found g)))
    by false t =
        rw t (turn_steps (reshape_turn by_arrivals p.listed (put_first p.listed key config)) (reshape_goes p.listed (put_first p.listed key config)) number p.streams s w found)
effect_steps p (revoke key) kept number s w found on = turn_steps _ (reshape_goes p.listed _) number p.streams s w found
effect_steps p (announce list) kept number s w found on = turn_steps _ (reshape_goes p.listed _) number p.streams s w found
effect_steps p (measure soc quality frac samples) kept number s w found on = turn_steps _ (measure_goes p.listed soc quality frac samples) number p.streams s w found
effect_steps p (tick soc) kept number s w found on = turn_steps _ (tick_goes p.listed) number p.streams s w found
effect_steps p (define definition) kept number s w found on =
    same_steps number p.streams s _ (λ x g. same_stream _ s x (found_push number p.streams (defined by_arrivals by_numbers p definition) s found) g)
effect_steps p (remove gone) kept number s w found on =
    same_steps number p.streams s _ (λ x g. same_stream _ s x found (found_others number gone p.streams x w g))
effect_steps p connect kept number s w found on = same_steps number p.streams s _ (λ x g. same_stream _ s x found g)
effect_steps p hangup kept number s w found on = kept_steps (stopped by_arrivals by_numbers) stop_keeps number p.streams s w found (λ h. absurd (cc h))
effect_steps p (command asked word) kept number s w found on =
    kept_steps (at_stream by_arrivals by_numbers asked (switched by_arrivals by_numbers word)) (command_keeps asked word) number p.streams s w found (command_stays asked word s on)
effect_steps p (drain n) kept number s w found on = same_steps number p.streams s _ (λ x g. same_stream _ s x found g)

sound_turned : (f : OneStream → OneTurn) → GoEach f → (ss : List OneStream) → AreSound ss → AreSound (map (λ (t : OneTurn). t.stream) (map f ss))
sound_turned f each ss w = subst AreSound (sym (turned_streams f ss)) (sound_map (λ s. (f s).stream) (turn_keeps f each) ss w)

effect_sound : (p : Model) (e : SubscriberEvent) (kept : ℕ) → refusal by_arrivals by_numbers p e ≡ None → AreSound p.streams
    → AreSound (effect by_arrivals by_numbers p e kept).streams
effect_sound p (grant key config) kept none w = by (has_key p.grants key) refl
  where
    by : (b : Bool) → has_key p.grants key ≡ b → AreSound (effect by_arrivals by_numbers p (grant key config) kept).streams
    by true t = rw t w
    by false t = rw t (sound_turned (reshape_turn by_arrivals p.listed (put_first p.listed key config)) (reshape_goes p.listed (put_first p.listed key config)) p.streams w)
effect_sound p (revoke key) kept none w = sound_turned _ (reshape_goes p.listed _) p.streams w
effect_sound p (announce list) kept none w = sound_turned _ (reshape_goes p.listed _) p.streams w
effect_sound p (measure soc quality frac samples) kept none w = sound_turned _ (measure_goes p.listed soc quality frac samples) p.streams w
effect_sound p (tick soc) kept none w = sound_turned _ (tick_goes p.listed) p.streams w
effect_sound p (define definition) kept none w =
    let may = refuse_none (is_within_limits definition) (is_some (stream_at p.streams definition.stream)) (nat_le 8 (length p.streams)) none in
    sound_push p.streams (defined by_arrivals by_numbers p definition) w
    (record { numbers = ((decides_limits definition).0 may.0).numbers; off = λ h. refl; timed = tt })
    (none_is (stream_at p.streams definition.stream) may.1)
effect_sound p (remove gone) kept none w = sound_others gone p.streams w
effect_sound p connect kept none w = w
effect_sound p hangup kept none w = sound_map (stopped by_arrivals by_numbers) stop_keeps p.streams w
effect_sound p (command asked word) kept none w =
    sound_map (at_stream by_arrivals by_numbers asked (switched by_arrivals by_numbers word)) (command_keeps asked word) p.streams w
effect_sound p (drain n) kept none w = w

refused_streams : (p : Model) (e : SubscriberEvent) (r : Refusal) → (refused_at p e r).streams ≡ p.streams
refused_streams p (command asked word) r = by p.connected
  where
    by : (b : Bool) → (if b then record p { output = with_refusal p.output r } else p).streams ≡ p.streams
    by true = refl
    by false = refl
refused_streams p (grant key config) r = refl
refused_streams p (revoke key) r = refl
refused_streams p (announce list) r = refl
refused_streams p (measure soc quality frac samples) r = refl
refused_streams p (define definition) r = refl
refused_streams p (remove gone) r = refl
refused_streams p (tick soc) r = refl
refused_streams p connect r = refl
refused_streams p hangup r = refl
refused_streams p (drain n) r = refl

-- where the reply is no refusal, none holds
none_holds : (B : Type 0) (r : ReplyValue) → ((first : Refusal) → r ≡ refused first → ⊥) → (o : Option Refusal) → MatchOption o B (λ first. r ≡ refused first) → o ≡ None
none_holds B r plain None h = refl
none_holds B r plain (Some first) h = absurd (plain first h)

next_sound : (p : Model) (e : SubscriberEvent) (r : ReplyValue) → May by_arrivals by_numbers p e false r → AreSound p.streams
    → AreSound (next by_arrivals by_numbers p e r).streams
next_sound p e (done made kept) may w = effect_sound p e kept (none_holds _ (done made kept) (λ first h. cc h) (refusal by_arrivals by_numbers p e) may) w
next_sound p e (refused r) may w = subst AreSound (sym (refused_streams p e r)) w
next_sound p e (handed bytes begun gap) may w =
    effect_sound p e 0 (none_holds _ (handed bytes begun gap) (λ first h. cc h) (refusal by_arrivals by_numbers p e) may) w

next_steps : (p : Model) (e : SubscriberEvent) (r : ReplyValue) (number : ℕ) (s : OneStream) → AreSound p.streams → stream_at p.streams number ≡ Some s → s.slots.is_on ≡ true
    → StepsOn number s (made_at number p e r) (next by_arrivals by_numbers p e r).streams
next_steps p e (done made kept) number s w found on = effect_steps p e kept number s w found on
next_steps p e (refused r) number s w found on =
    same_steps number p.streams s _ (λ x g. same_stream _ s x found (ap (λ ss. stream_at ss number) (sym (refused_streams p e r)) ∙ g))
next_steps p e (handed bytes begun gap) number s w found on = effect_steps p e 0 number s w found on

-- ---- runs

on_of : (o : Option OneStream) (s : OneStream) → MatchOption o ⊥ (λ t. IsTrue t.slots.is_on) → o ≡ Some s → s.slots.is_on ≡ true
on_of None s h e = absurd h
on_of (Some t) s h e = subst (λ (x : OneStream). x.slots.is_on ≡ true) (same_stream (Some t) t s refl e) h

on_found : (o : Option OneStream) → MatchOption o ⊥ (λ t. IsTrue t.slots.is_on) → (s : OneStream) × (o ≡ Some s) × (s.slots.is_on ≡ true)
on_found None h = absurd h
on_found (Some t) h = (t, refl, h)

run_rises : (p : Model) (run : Run) (number : ℕ) (s : OneStream) → AreSound p.streams → IsLegal p run → stream_at p.streams number ≡ Some s → StaysOn number p run
    → AreOfRisingSlots s.definition s.slots.last (made_in number p run)
run_rises p [] number s w legal found on = tt
run_rises p (x ∷ []) number s w legal found on =
    let step = next_steps p x.0 x.1 number s w found (on_of _ s on.0 found) in
    slots_append s.definition step.end s.slots.last (made_at number p x.0 x.1) [] step.slots tt
run_rises p (x ∷ y ∷ run) number s w legal found on =
    let step = next_steps p x.0 x.1 number s w found (on_of _ s on.0 found) in
    let q = next by_arrivals by_numbers p x.0 x.1 in
    let later = on_found (stream_at q.streams number) on.1.0 in
    let goes = step.goes_on later.0 later.1 later.2 in
    let rest = run_rises q (y ∷ run) number later.0 (next_sound p x.0 x.1 legal.0 w) legal.1 later.1 on.1 in
    slots_append s.definition step.end s.slots.last (made_at number p x.0 x.1) (made_in number q (y ∷ run)) step.slots
    (subst (λ o. AreOfRisingSlots s.definition o (made_in number q (y ∷ run))) goes.1
    (subst (λ d. AreOfRisingSlots d later.0.slots.last (made_in number q (y ∷ run))) goes.0 rest))

legal_parts : (p : Model) (xs ys : Run) → IsLegal p (xs ++ ys) → IsLegal p xs × IsLegal (after p xs) ys
legal_parts p [] ys legal = (tt, legal)
legal_parts p (x ∷ xs) ys legal =
    let rest = legal_parts (next by_arrivals by_numbers p x.0 x.1) xs ys legal.1 in
    ((legal.0, rest.0), rest.1)

sound_after : (p : Model) (xs : Run) → AreSound p.streams → IsLegal p xs → AreSound (after p xs).streams
sound_after p [] w legal = w
sound_after p (x ∷ xs) w legal = sound_after (next by_arrivals by_numbers p x.0 x.1) xs (next_sound p x.0 x.1 legal.0 w) legal.1

pub slots-rise : (size limit : ℕ) (last : Option ℕ) (before run : Run) (number : ℕ) (s : StreamOf (StreamHistory Piece))
    → IsLegal (begin size limit last) (before ++ run) → stream_at (after (begin size limit last) before).streams number ≡ Some s
    → StaysOn number (after (begin size limit last) before) run
    → AreOfRisingSlots s.definition s.slots.last (made_in number (after (begin size limit last) before) run)
slots-rise size limit last before run number s legal found on =
    let parts = legal_parts (begin size limit last) before run legal in
    run_rises (after (begin size limit last) before) run number s (sound_after (begin size limit last) before tt parts.0) parts.1 found on

-- a stream that is off
turns_off : (p : Model) (e : SubscriberEvent) (number : ℕ) (s : OneStream) → AreSound p.streams → stream_at p.streams number ≡ Some s → s.slots.is_on ≡ false
    → made_of number (turns_of by_arrivals by_numbers p e) ≡ []
turns_off p e number s w found off = by e
  where
    turn : (f : OneStream → OneTurn) → GoEach f → made_of number (map f p.streams) ≡ []
    turn f each = made_found f each number p.streams s w found ∙ (each s (found_sound number p.streams s w found)).quiet off

    granted : (key : PmuKey) (config : Option Part) (b : Bool)
        → made_of number (if b then map still p.streams else map (reshape_turn by_arrivals p.listed (put_first p.listed key config)) p.streams) ≡ []
    granted key config true = turn still still_goes
    granted key config false = turn _ (reshape_goes p.listed (put_first p.listed key config))

    by : (e : SubscriberEvent) → made_of number (turns_of by_arrivals by_numbers p e) ≡ []
    by (grant key config) = granted key config (has_key p.grants key)
    by (revoke key) = turn _ (reshape_goes p.listed _)
    by (announce list) = turn _ (reshape_goes p.listed _)
    by (measure soc quality frac samples) = turn _ (measure_goes p.listed soc quality frac samples)
    by (tick soc) = turn _ (tick_goes p.listed)
    by (define definition) = refl
    by (remove gone) = refl
    by connect = refl
    by hangup = refl
    by (command asked word) = refl
    by (drain n) = refl

made_off : (p : Model) (e : SubscriberEvent) (r : ReplyValue) (number : ℕ) (s : OneStream) → AreSound p.streams → stream_at p.streams number ≡ Some s → s.slots.is_on ≡ false
    → made_at number p e r ≡ []
made_off p e (done made kept) number s w found off = turns_off p e number s w found off
made_off p e (refused r) number s w found off = refl
made_off p e (handed bytes begun gap) number s w found off = turns_off p e number s w found off

pub off-makes_none : (size limit : ℕ) (last : Option ℕ) (before : Run) (number : ℕ) (s : StreamOf (StreamHistory Piece)) (e : SubscriberEvent) (r : ReplyValue)
    → IsLegal (begin size limit last) before → stream_at (after (begin size limit last) before).streams number ≡ Some s
    → s.slots.is_on ≡ false → made_at number (after (begin size limit last) before) e r ≡ []
off-makes_none size limit last before number s e r legal found off =
    made_off (after (begin size limit last) before) e r number s (sound_after (begin size limit last) before tt legal) found off

-- ---- stamps

abbrev pair : ℕ → ℕ → ℕ × ℕ
pair a b = (a, b)

-- a frame carries the stamp of its head
head_stamp : (h : Heading) (body : List ℕ) → h.soc < 2 ^ 32 → h.frac < 2 ^ 24 → stamp_in (frame_of h body) ≡ (h.soc, h.frac)
head_stamp h body soc_fits frac_fits =
    let soc : (head_of (frame_of h body)).soc ≡ h.soc = omega arith in
    let frac : (head_of (frame_of h body)).frac ≡ h.frac = omega arith in
    ap₂ pair soc frac

frame_stamp : (d : Definition) (slot : ℕ) (frame : List ℕ) → HasNumbers d → IsFrameOf d slot frame → stamp_in frame ≡ stamp_at d.rate d.base slot
frame_stamp d slot frame numbers of =
    let some : 0 < d.rate = omega (arith, numbers.rate) in
    let inside : slot % d.rate < d.rate = omega arith in
    let below = numerator_below d.rate d.base (slot % d.rate) (numerator_at d.rate d.base slot) inside numbers.base.0 (stamp_at_is d.rate d.base slot some).nearest in
    ap stamp_in of.same ∙ head_stamp (data_heading d slot (joined_quality (qualities_of of.parts))) (joined (data_blocks of.listed d.members of.parts)) of.told (omega (arith, below, numbers.base.1))

abbrev IsAboveFrame : Definition → ℕ → List ℕ → Type 0
IsAboveFrame d n frame = (slot : ℕ) × (n < slot) × IsFrameOf d slot frame

all_above : (d : Definition) (n m : ℕ) (frames : List (List ℕ)) → n ≤ m → AreOfRisingSlots d (Some m) frames → All (IsAboveFrame d n) frames
all_above d n m [] le h = All-nil (IsAboveFrame d n)
all_above d n m (x ∷ xs) le h =
    let above : n < h.0 = grind (arith, nat_tests, h.1) in
    All-cons (IsAboveFrame d n) x xs (h.0, above, h.2) (all_above d n h.0 xs (omega (arith, above)) h.3)

pub stamps_of_rising : (d : Definition) (last : Option ℕ) (frames : List (List ℕ)) → HasNumbers d → AreOfRisingSlots d last frames
    → AllPairs (λ frame later. IsBefore (stamp_in frame) (stamp_in later)) frames
stamps_of_rising d last [] numbers h = λ i j x lt within. absurd (omega (arith, within))
stamps_of_rising d last (x ∷ xs) numbers h =
    AllPairs-cons (λ frame later. IsBefore (stamp_in frame) (stamp_in later)) x xs
    (All-weaker (IsAboveFrame d h.0) (λ later. IsBefore (stamp_in x) (stamp_in later)) before xs (all_above d h.0 h.0 xs (omega arith) h.3))
    (stamps_of_rising d (Some h.0) xs numbers h.3)
  where
    before : (later : List ℕ) → IsAboveFrame d h.0 later → IsBefore (stamp_in x) (stamp_in later)
    before later above =
        let some : 0 < d.rate = omega (arith, numbers.rate) in
        subst (λ (a : ℕ × ℕ). IsBefore a (stamp_in later)) (sym (frame_stamp d h.0 x numbers h.2))
        (subst (λ (b : ℕ × ℕ). IsBefore (stamp_at d.rate d.base h.0) b) (sym (frame_stamp d above.0 later numbers above.2))
        (stamps_rise d.rate d.base h.0 above.0 _ _ _ _ some numbers.base.0 above.1 (stamp_at_is d.rate d.base h.0 some) (stamp_at_is d.rate d.base above.0 some)))

run_stamps : (p : Model) (run : Run) (number : ℕ) → AreSound p.streams → IsLegal p run → StaysOn number p run
    → AllPairs (λ frame later. IsBefore (stamp_in frame) (stamp_in later)) (made_in number p run)
run_stamps p [] number w legal on = λ i j x lt within. absurd (omega (arith, within))
run_stamps p (x ∷ xs) number w legal on =
    let s = on_found (stream_at p.streams number) on.0 in
    stamps_of_rising s.0.definition s.0.slots.last (made_in number p (x ∷ xs)) (found_sound number p.streams s.0 w s.1).numbers
    (run_rises p (x ∷ xs) number s.0 w legal s.1 on)

pub stamps-rise : (size limit : ℕ) (last : Option ℕ) (before run : Run) (number : ℕ)
    → IsLegal (begin size limit last) (before ++ run) → StaysOn number (after (begin size limit last) before) run
    → AllPairs (λ frame later. IsBefore (stamp_in frame) (stamp_in later)) (made_in number (after (begin size limit last) before) run)
stamps-rise size limit last before run number legal on =
    let parts = legal_parts (begin size limit last) before run legal in
    run_stamps (after (begin size limit last) before) run number (sound_after (begin size limit last) before tt parts.0) parts.1 on
