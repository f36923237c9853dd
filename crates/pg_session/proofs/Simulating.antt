-- What one event is to a stream's open slots shows what it is to the stream by all its arrivals; and so for the queue.
use Rattle.std.proofs.Common.{◌≡◌, ℕ, ◌+◌, ◌<◌, ◌&&◌, nat_lt, List, [], ◌∷◌, length, map, Bool, true, false, if◌then◌else◌, is_some, IsTrue, Option, Some, None, Result, Ok, Err, refl, ap, ap₂, ◌∙◌, arith, subst}
use Rattle.std.proofs.lemmas.List.{length-map}
use Rattle.std.proofs.lemmas.List.Quantifiers.{position-Some}
use Rattle.pg_wire.specs.declared.refusal.Refusal.{Refusal}
use Rattle.pg_wire.specs.declared.ids.PmuKey.{PmuKey}
use Rattle.pg_wire.specs.Keys.{key_eq}
use Rattle.pg_data.specs.Pieces.{Piece}
use Rattle.pg_stream.specs.declared.definition.Definition.{Definition}
use Rattle.pg_stream.specs.Slots.{slot_at}
use Rattle.pg_align.specs.Histories.{StreamHistory, Departures, is_above, flush_all}
use Rattle.pg_align.specs.Slots.{Aligned, OpenSlot, part_at, with_arrival, leaves_now, without_first, flushed_first, all_leaving_of, all_flushed_of, all_flushed}
use Rattle.pg_align.specs.Shown as align
use Rattle.pg_align.proofs.Histories.{Shows-arrival, Shows-tick, Shows-reshape}
use Rattle.pg_align.proofs.Leaving.{Shows-frames, Shows-end, Shows-flushed_frames, Shows-flushed_end, all_flushed-none_open}
use Rattle.pg_outcfg.specs.Listing.{Listing, config_at}
use Rattle.pg_outcfg.specs.Frames.{changed}
use Rattle.pg_session.specs.Events.{Sample}
use Rattle.pg_session.specs.Shape.{same_shape, same_list}
use Rattle.pg_session.specs.Streams.{StreamOf, Turn, PlacedBlock, Arrivals, place_of, with_place, placed, base_of, effective_in, is_late, is_twice, slot_frame, still, framed, reshape_turn, arrive_all, arrival_turn, measure_turn, tick_turn}
use Rattle.pg_session.specs.ByAll.{by_arrivals}
use Rattle.pg_session.specs.Kept.{by_slots}
use Rattle.pg_session.specs.Shown.{StreamShows}
use Rattle.pg_session.specs.declared.layouts.Layouts.{Layouts}

-- what the code makes of a stream shows what the model makes of it
pub record TurnShows (t : Turn (Aligned Piece)) (u : Turn (StreamHistory Piece)) : Type 0 where
  pub stream : StreamShows t.stream u.stream
  pub frames : t.frames ≡ u.frames
  pub late : t.late ≡ u.late
  pub twice : t.twice ≡ u.twice
  pub past : t.past ≡ u.past

-- a stream by its parts
abbrev pub stream_of : {A : Type 0} → Definition → A → ℕ → Layouts → StreamOf A
stream_of d a count layouts = record { definition = d; slots = a; count = count; layouts = layouts }

-- what holds of streams with one definition, one count and the same layouts holds of streams that show one another
pub lifted : (Q : StreamOf (Aligned Piece) → StreamOf (StreamHistory Piece) → Type 0)
    → ((d : Definition) (a : Aligned Piece) (h : StreamHistory Piece) (count : ℕ) (layouts : Layouts) → align.Shows a h → length a.effective ≡ length d.members
    → Q (stream_of d a count layouts) (stream_of d h count layouts))
    → (s : StreamOf (Aligned Piece)) (t : StreamOf (StreamHistory Piece)) → StreamShows s t → Q s t
lifted Q f s t w =
    subst (λ d. Q s (stream_of d t.slots t.count t.layouts)) w.definition
    (subst (λ count. Q s (stream_of s.definition t.slots count t.layouts)) w.count
    (subst (λ layouts. Q s (stream_of s.definition t.slots s.count layouts)) w.layouts
    (f s.definition s.slots t.slots s.count s.layouts w.slots w.places)))

still-shows : (d : Definition) (a : Aligned Piece) (h : StreamHistory Piece) (count : ℕ) (layouts : Layouts) → align.Shows a h → length a.effective ≡ length d.members
    → TurnShows (still (stream_of d a count layouts)) (still (stream_of d h count layouts))
still-shows d a h count layouts s n = record {
  stream = record { definition = refl; slots = s; places = n; count = refl; layouts = refl };
  frames = refl;
  late = refl;
  twice = refl;
  past = refl;
}

-- leaving and flushing keep the members
leaving_step : (a : Aligned Piece) (slot : OpenSlot Piece) (slots : List (OpenSlot Piece)) (b : Bool) → leaves_now a.window a.effective (slot ∷ slots) ≡ b
    → (all_leaving_of (without_first a (slot ∷ slots)) slots).after.effective ≡ a.effective
    → (all_leaving_of a (slot ∷ slots)).after.effective ≡ a.effective
leaving_step a slot slots true e h = rw e h
leaving_step a slot slots false e h = rw e refl

pub leaving-effective : (a : Aligned Piece) (slots : List (OpenSlot Piece)) → (all_leaving_of a slots).after.effective ≡ a.effective
leaving-effective a [] = refl
leaving-effective a (slot ∷ slots) = leaving_step a slot slots _ refl (leaving-effective (without_first a (slot ∷ slots)) slots)

pub flushed-effective : (a : Aligned Piece) (slots : List (OpenSlot Piece)) → (all_flushed_of a slots).after.effective ≡ a.effective
flushed-effective a [] = refl
flushed-effective a (slot ∷ slots) = flushed-effective (flushed_first a (slot ∷ slots)) slots

framed-shows : (listed : Listing) (d : Definition) (a : Aligned Piece) (h : StreamHistory Piece) (count : ℕ) (layouts : Layouts)
    (x : Departures Piece (Aligned Piece)) (y : Departures Piece (StreamHistory Piece))
    → x.frames ≡ y.frames → align.Shows x.after y.after → length x.after.effective ≡ length d.members
    → TurnShows (framed by_slots listed (stream_of d a count layouts) x) (framed by_arrivals listed (stream_of d h count layouts) y)
framed-shows listed d a h count layouts x y frames after n = record {
  stream = record { definition = refl; slots = after; places = n; count = refl; layouts = refl };
  frames = ap (map (slot_frame d listed)) frames;
  late = refl;
  twice = refl;
  past = refl;
}

-- The CFG-1 list becomes another one.
reshape_by : (listed other : Listing) (d : Definition) (a : Aligned Piece) (h : StreamHistory Piece) (count counted : ℕ) (layouts : Layouts) → align.Shows a h
    → length a.effective ≡ length d.members → (b : Bool) → same_shape d.members listed other ≡ b
    → (if same_list listed other then count else changed count) ≡ counted
    → TurnShows (reshape_turn by_slots listed other (stream_of d a count layouts)) (reshape_turn by_arrivals listed other (stream_of d h count layouts))
reshape_by listed other d a h count counted layouts s n true e c = rw (e, c) (still-shows d a h counted layouts s n)
reshape_by listed other d a h count counted layouts s n false e c =
    rw (e, c) record {
      stream = record {
        definition = refl;
        slots = Shows-reshape (all_flushed a).after (flush_all h).after (effective_in other d.members) (Shows-flushed_end a h s) (all_flushed-none_open a);
        places = length-map d.members (λ key. is_some (config_at other key));
        count = refl;
        layouts = refl;
      };
      frames = ap (map (slot_frame d listed)) (Shows-flushed_frames a h s);
      late = refl;
      twice = refl;
      past = refl;
    }

pub reshape-shows : (listed other : Listing) (s : StreamOf (Aligned Piece)) (t : StreamOf (StreamHistory Piece)) → StreamShows s t
    → TurnShows (reshape_turn by_slots listed other s) (reshape_turn by_arrivals listed other t)
reshape-shows listed other =
    lifted (λ s t. TurnShows (reshape_turn by_slots listed other s) (reshape_turn by_arrivals listed other t))
    (λ d a h count layouts s n. reshape_by listed other d a h count _ layouts s n _ refl refl)

-- each place is a member's
abbrev pub AreWithin : ℕ → List PlacedBlock → Type 0
AreWithin n [] = Unit {0}
AreWithin n (p ∷ ps) = (p.place < n) × AreWithin n ps

placed_step : (members : List PmuKey) (key : PmuKey) (piece : Piece) (ps : List PlacedBlock) (o : Option ℕ) → place_of members key ≡ o
    → AreWithin (length members) ps → AreWithin (length members) (with_place o piece ps)
placed_step members key piece ps None e h = h
placed_step members key piece ps (Some place) e h = ((position-Some (λ m. key_eq m key) members place key e).0, h)

pub placed-within : (members : List PmuKey) (quality : ℕ) (samples : List Sample) → AreWithin (length members) (placed members quality samples)
placed-within members quality [] = tt
placed-within members quality (s ∷ samples) =
    placed_step members s.key (record { quality = quality; block = s.block }) (placed members quality samples) _ refl (placed-within members quality samples)

-- an arrival changes neither whether the stream is on nor its members
pub arrived_by : (a : Aligned Piece) (slot place : ℕ) (piece : Piece) (b c : Bool) → is_above a.last slot ≡ b → is_some (part_at a.slots slot place) ≡ c
    → ((with_arrival a slot place piece).is_on ≡ a.is_on) × ((with_arrival a slot place piece).effective ≡ a.effective)
arrived_by a slot place piece false c e f = rw e (refl, refl)
arrived_by a slot place piece true true e f = rw (e, f) (refl, refl)
arrived_by a slot place piece true false e f = rw (e, f) (refl, refl)

-- blocks arrive one after another
pub record ArrivalsShow (d : Definition) (x : Arrivals (Aligned Piece)) (y : Arrivals (StreamHistory Piece)) : Type 0 where
  pub slots : align.Shows x.slots y.slots
  pub places : length x.slots.effective ≡ length d.members
  pub late : x.late ≡ y.late
  pub twice : x.twice ≡ y.twice

arrivals-show : (d : Definition) (a : Aligned Piece) (h : StreamHistory Piece) (slot : ℕ) (ps : List PlacedBlock) → align.Shows a h → IsTrue a.is_on
    → length a.effective ≡ length d.members → AreWithin (length d.members) ps
    → ArrivalsShow d (arrive_all by_slots a slot ps) (arrive_all by_arrivals h slot ps)
arrivals-show d a h slot [] s on n w = record { slots = s; places = n; late = refl; twice = refl }
arrivals-show d a h slot (p ∷ ps) s on n w =
    let here = Shows-arrival a h slot p.place p.piece s on (omega (arith, w.0, n)) in
    let kept = arrived_by a slot p.place p.piece _ _ refl refl in
    let rest = arrivals-show d (with_arrival a slot p.place p.piece) _ slot ps here.1 (rw kept.0 on) (ap length kept.1 ∙ n) w.1 in
    record {
      slots = rest.slots;
      places = rest.places;
      late = ap₂ (λ answer k. is_late answer + k) here.0 rest.late;
      twice = ap₂ (λ answer k. is_twice answer + k) here.0 rest.twice;
    }

arrival_by : (listed : Listing) (d : Definition) (a : Aligned Piece) (h : StreamHistory Piece) (count : ℕ) (layouts : Layouts) (blocks : List PlacedBlock) (slot : Result ℕ Refusal)
    → align.Shows a h → IsTrue a.is_on → length a.effective ≡ length d.members → AreWithin (length d.members) blocks
    → TurnShows (arrival_turn by_slots listed (stream_of d a count layouts) blocks slot) (arrival_turn by_arrivals listed (stream_of d h count layouts) blocks slot)
arrival_by listed d a h count layouts blocks (Err r) s on n w = record {
  stream = record { definition = refl; slots = s; places = n; count = refl; layouts = refl };
  frames = refl;
  late = refl;
  twice = refl;
  past = refl;
}
arrival_by listed d a h count layouts blocks (Ok slot) s on n w =
    let arrived = arrivals-show d a h slot blocks s on n w in
    record {
      stream = record {
        definition = refl;
        slots = Shows-end _ _ arrived.slots;
        places = ap length (leaving-effective _ _) ∙ arrived.places;
        count = refl;
        layouts = refl;
      };
      frames = ap (map (slot_frame d listed)) (Shows-frames _ _ arrived.slots);
      late = arrived.late;
      twice = arrived.twice;
      past = refl;
    }

same_on : (a : Aligned Piece) (h : StreamHistory Piece) → align.Shows a h → a.is_on ≡ h.is_on
same_on a h s = ap (λ (b : Aligned Piece). b.is_on) s.same

and_first : (b c : Bool) → (b && c) ≡ true → IsTrue b
and_first true c e = refl
and_first false c e = absurd (cc e)

-- one turn or another, by the same test
turn_by : (b c : Bool) (x u : Turn (Aligned Piece)) (y v : Turn (StreamHistory Piece)) → b ≡ c → (b ≡ true → TurnShows x y) → TurnShows u v
    → TurnShows (if b then x else u) (if c then y else v)
turn_by true true x u y v e t f = t refl
turn_by false false x u y v e t f = f
turn_by true false x u y v e t f = absurd (cc e)
turn_by false true x u y v e t f = absurd (cc e)

pub measure-shows : (listed : Listing) (soc quality frac : ℕ) (samples : List Sample) (s : StreamOf (Aligned Piece)) (t : StreamOf (StreamHistory Piece)) → StreamShows s t
    → TurnShows (measure_turn by_slots listed soc quality frac samples s) (measure_turn by_arrivals listed soc quality frac samples t)
measure-shows listed soc quality frac samples =
    lifted (λ s t. TurnShows (measure_turn by_slots listed soc quality frac samples s) (measure_turn by_arrivals listed soc quality frac samples t))
    (λ d a h count layouts s n.
    let blocks = placed d.members quality samples in
    let slot = slot_at d.rate (base_of samples) soc frac in
    let some = nat_lt 0 (length blocks) in
    turn_by (a.is_on && some) (h.is_on && some)
    (arrival_turn by_slots listed (stream_of d a count layouts) blocks slot) (still (stream_of d a count layouts))
    (arrival_turn by_arrivals listed (stream_of d h count layouts) blocks slot) (still (stream_of d h count layouts))
    (ap (λ b. b && some) (same_on a h s))
    (λ e. arrival_by listed d a h count layouts blocks slot s (and_first a.is_on some e) n (placed-within d.members quality samples))
    (still-shows d a h count layouts s n))

ticked-shows : (listed : Listing) (d : Definition) (a : Aligned Piece) (h : StreamHistory Piece) (count : ℕ) (layouts : Layouts) → align.Shows a h → length a.effective ≡ length d.members
    → TurnShows (framed by_slots listed (stream_of d a count layouts) (by_slots.leave (by_slots.tick a)))
    (framed by_arrivals listed (stream_of d h count layouts) (by_arrivals.leave (by_arrivals.tick h)))
ticked-shows listed d a h count layouts s n =
    let ticked = Shows-tick a h s in
    framed-shows listed d a h count layouts _ _ (Shows-frames _ _ ticked) (Shows-end _ _ ticked) (ap length (leaving-effective _ _) ∙ n)

pub tick-shows : (listed : Listing) (s : StreamOf (Aligned Piece)) (t : StreamOf (StreamHistory Piece)) → StreamShows s t
    → TurnShows (tick_turn by_slots listed s) (tick_turn by_arrivals listed t)
tick-shows listed =
    lifted (λ s t. TurnShows (tick_turn by_slots listed s) (tick_turn by_arrivals listed t))
    (λ d a h count layouts s n. turn_by a.is_on h.is_on
    (framed by_slots listed (stream_of d a count layouts) (by_slots.leave (by_slots.tick a))) (still (stream_of d a count layouts))
    (framed by_arrivals listed (stream_of d h count layouts) (by_arrivals.leave (by_arrivals.tick h))) (still (stream_of d h count layouts))
    (same_on a h s) (λ e. ticked-shows listed d a h count layouts s n) (still-shows d a h count layouts s n))
