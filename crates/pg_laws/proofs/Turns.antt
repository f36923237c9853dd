-- What an event is to one stream: its frames are as long as its layouts say, and what it keeps is so by the CFG-1 list after it.
use Rattle.std.proofs.Common.{◌≡◌, ℕ, ◌+◌, ◌^◌, ◌<◌, ◌&&◌, ◌==◌, nat_lt, Bool, true, false, if◌then◌else◌, IsTrue, List, [], ◌∷◌, length, map, slice_get, slice_index, Option, Some, None, Result, Ok, Err, refl, sym, ap, ◌∙◌, subst, arith}
use Rattle.std.specs.List.{AllByRecursion}
use Rattle.std.proofs.lemmas.List.{length-map}
use Rattle.std.proofs.lemmas.List.Quantifiers.{position-Some}
use Rattle.std.proofs.lemmas.Option.{slice_get-get_or}
use Rattle.pg_wire.specs.declared.refusal.Refusal.{Refusal}
use Rattle.pg_wire.specs.declared.ids.PmuKey.{PmuKey}
use Rattle.pg_wire.specs.Keys.{key_eq}
use Rattle.pg_data.specs.Pieces.{Piece}
use Rattle.pg_stream.specs.declared.definition.Definition.{Definition}
use Rattle.pg_stream.specs.Slots.{slot_at}
use Rattle.pg_align.specs.Histories.{StreamHistory, Departed, is_above, arrived, parts_for, parts_from, leave_all, flush_all, ticked}
use Rattle.pg_outcfg.proofs.Orders.{same_key}
use Rattle.pg_outcfg.specs.Listing.{Listing, config_at}
use Rattle.pg_session.specs.Events.{Sample}
use Rattle.pg_session.specs.Shape.{same_shape}
use Rattle.pg_session.specs.Streams.{StreamOf, Turn, PlacedBlock, place_of, with_place, placed, base_of, slot_frame, frame_len, still, framed, reshape_turn, arrive_all, arrival_turn, measure_turn, tick_turn}
use Rattle.pg_session.specs.ByAll.{by_arrivals, by_numbers}
use Rattle.pg_session.specs.Private.{defined, stopped, started as start_stream, switched, at_stream}
use Rattle.pg_session.specs.Shown.{Model}
use Rattle.pg_laws.specs.Lengths.{IsLongBy, IsLongAs, AreKnownSince}
use Rattle.pg_laws.proofs.Blocks.{IsLong, AreLong, part_of, frame-length, long-parts}
use Rattle.pg_laws.proofs.Listings.{AreChecked, lens-same, frame-same, long-same}
use Rattle.pg_laws.proofs.Layouts.{known-same, known-next}
use Rattle.pg_laws.proofs.Slots.{CameSo, leaving-frames, flushing-frames, leaving-effective, leaving-came, flushing-came, arriving-keeps}

abbrev pub OneStream : Type 0
OneStream = StreamOf (StreamHistory Piece)

abbrev pub OneTurn : Type 0
OneTurn = Turn (StreamHistory Piece)

-- what came for the member at a place is as long as its configuration says
abbrev pub IsOf : Listing → List PmuKey → ℕ → Option Piece → Type 0
IsOf listed members place piece = IsLong (part_of listed (slice_get members place)) piece

-- What a stream keeps, by the CFG-1 list: the length and the number of its present layout, a mark for each member, and what came for its open slots.
pub record IsFit (listed : Listing) (s : OneStream) : Type 0 where
  pub head : slice_index s.layouts.lengths 0 ≡ frame_len listed s.definition.members
  pub number : s.layouts.number < 2 ^ 64
  pub places : length s.slots.effective ≡ length s.definition.members
  pub came : CameSo (IsOf listed s.definition.members) s.slots.last s.slots.arrivals

-- these frames are of the stream's present layout
abbrev pub AreOfLayout : OneStream → List (List ℕ) → Type 0
AreOfLayout s frames = AllByRecursion (λ frame. length frame ≡ slice_index s.layouts.lengths 0) frames

-- What a turn is to a stream that is fit by the list before: its frames are of the layout before, and it is fit by the list after.
pub record Fits (other : Listing) (s : OneStream) (t : OneTurn) : Type 0 where
  pub definition : t.stream.definition ≡ s.definition
  pub known : AreKnownSince 1 s.layouts t.stream.layouts
  pub fit : IsFit other t.stream
  pub frames : AreOfLayout s t.frames

-- ---- frames

-- the frames of slots that left
lengths_of : (d : Definition) (listed : Listing) (n : ℕ) (ds : List (Departed Piece)) → n ≡ frame_len listed d.members
    → AllByRecursion (λ left. AreLong listed d.members left.parts) ds → AllByRecursion (λ frame. length frame ≡ n) (map (slot_frame d listed) ds)
unfolding slot_frame
lengths_of d listed n [] e are = tt
lengths_of d listed n (x ∷ xs) e are =
    (frame-length d x.slot listed x.parts are.0 ∙ sym e, lengths_of d listed n xs e are.1)

-- what came for a slot above the last one that left
parts_long : (listed : Listing) (members : List PmuKey) (h : StreamHistory Piece) (slot : ℕ) → length h.effective ≡ length members
    → CameSo (IsOf listed members) h.last h.arrivals → IsTrue (is_above h.last slot) → AreLong listed members (parts_for h slot)
parts_long listed members h slot places came up =
    subst (λ n. AreLong listed members (parts_from h.arrivals slot 0 n)) (sym places)
    (long-parts listed members h.arrivals slot 0 (λ k.
    let same : k ≡ 0 + k = omega arith in
    subst (λ place. IsOf listed members k (arrived h.arrivals slot place)) same (came slot k up)))

-- ---- one stream at one event

pub still-fits : (listed : Listing) (s : OneStream) → IsFit listed s → Fits listed s (still s)
still-fits listed s fit = record { definition = refl; known = known-same 1 s.layouts fit.number; fit = fit; frames = tt }

-- what is due leaves, behind a tick or arrivals
left_fits : (listed : Listing) (s : OneStream) (h : StreamHistory Piece) → IsFit listed s → h.effective ≡ s.slots.effective
    → CameSo (IsOf listed s.definition.members) h.last h.arrivals → Fits listed s (framed by_arrivals listed s (leave_all h))
left_fits listed s h fit effective came =
    let places : length h.effective ≡ length s.definition.members = ap length effective ∙ fit.places in
    record {
      definition = refl;
      known = known-same 1 s.layouts fit.number;
      fit = record {
        head = fit.head;
        number = fit.number;
        places = ap length (leaving-effective h) ∙ places;
        came = leaving-came (IsOf listed s.definition.members) h came;
      };
      frames = lengths_of s.definition listed (slice_index s.layouts.lengths 0) (leave_all h).frames fit.head
          (leaving-frames (λ left. AreLong listed s.definition.members left.parts) h (λ n up. parts_long listed s.definition.members h n places came up));
    }

pub tick-fits : (listed : Listing) (s : OneStream) → IsFit listed s → Fits listed s (tick_turn by_arrivals listed s)
tick-fits listed s fit = by s.slots.is_on
  where
    by : (b : Bool) → Fits listed s (if b then framed by_arrivals listed s (leave_all (ticked s.slots)) else still s)
    by true = left_fits listed s (ticked s.slots) fit refl fit.came
    by false = still-fits listed s fit

-- the member at a key's place has its configuration
placed_one : (listed : Listing) (members : List PmuKey) (s : Sample) (quality : ℕ) (ps : List PlacedBlock) (o : Option ℕ) → place_of members s.key ≡ o
    → IsLongBy listed s → AllByRecursion (λ p. IsOf listed members p.place (Some p.piece)) ps
    → AllByRecursion (λ p. IsOf listed members p.place (Some p.piece)) (with_place o (record { quality = quality; block = s.block }) ps)
placed_one listed members s quality ps None e is are = are
placed_one listed members s quality ps (Some place) e is are =
    let found = position-Some (λ m. key_eq m s.key) members place s.key e in
    let same : part_of listed (slice_get members place) ≡ config_at listed s.key =
    ap (part_of listed) (slice_get-get_or members place s.key found.0) ∙ ap (config_at listed) (same_key _ s.key found.1) in
    (subst (λ o. IsLongAs o s.block) (sym same) is, are)

placed_long : (listed : Listing) (members : List PmuKey) (quality : ℕ) (samples : List Sample) → AllByRecursion (IsLongBy listed) samples
    → AllByRecursion (λ p. IsOf listed members p.place (Some p.piece)) (placed members quality samples)
placed_long listed members quality [] are = tt
placed_long listed members quality (s ∷ samples) are =
    placed_one listed members s quality (placed members quality samples) _ refl are.0 (placed_long listed members quality samples are.1)

pub measure-fits : (listed : Listing) (soc quality frac : ℕ) (samples : List Sample) (s : OneStream) → AllByRecursion (IsLongBy listed) samples → IsFit listed s
    → Fits listed s (measure_turn by_arrivals listed soc quality frac samples s)
measure-fits listed soc quality frac samples s are fit =
    by (s.slots.is_on && nat_lt 0 (length blocks)) (slot_at s.definition.rate (base_of samples) soc frac)
  where
    blocks : List PlacedBlock
    blocks = placed s.definition.members quality samples

    at : (o : Result ℕ Refusal) → Fits listed s (arrival_turn by_arrivals listed s blocks o)
    at (Err r) = record {
      definition = refl;
      known = known-same 1 s.layouts fit.number;
      fit = record { head = fit.head; number = fit.number; places = fit.places; came = fit.came };
      frames = tt;
    }
    at (Ok slot) =
        let kept = arriving-keeps (IsOf listed s.definition.members) s.slots slot blocks (placed_long listed s.definition.members quality samples are) fit.came in
        let left = left_fits listed s (arrive_all by_arrivals s.slots slot blocks).slots fit kept.effective kept.came in
        record { definition = refl; known = left.known; fit = left.fit; frames = left.frames }

    by : (b : Bool) (o : Result ℕ Refusal) → Fits listed s (if b then arrival_turn by_arrivals listed s blocks o else still s)
    by true o = at o
    by false o = still-fits listed s fit

-- nothing is long enough
none_long : (listed : Listing) (members : List PmuKey) (place : ℕ) (o : Option Piece) → o ≡ None → IsOf listed members place o
none_long listed members place None e = tt
none_long listed members place (Some piece) e = absurd (cc e)

pub reshape-fits : (listed other : Listing) (s : OneStream) → AreChecked listed → AreChecked other → IsFit listed s
    → Fits other s (reshape_turn by_arrivals listed other s)
reshape-fits listed other s w v fit = by (same_shape s.definition.members listed other) refl
  where
    by : (b : Bool) → same_shape s.definition.members listed other ≡ b → Fits other s (reshape_turn by_arrivals listed other s)
    by true e =
        let same = lens-same s.definition.members listed other w v e in
        rw e record {
          definition = refl;
          known = known-same 1 s.layouts fit.number;
          fit = record {
            head = fit.head ∙ frame-same s.definition.members listed other same;
            number = fit.number;
            places = fit.places;
            came = λ slot place up. long-same s.definition.members listed other place (arrived s.slots.arrivals slot place) same (fit.came slot place up);
          };
          frames = tt;
        }
    by false e = rw e record {
      definition = refl;
      known = known-next (frame_len other s.definition.members) s.layouts;
      fit = record {
        head = refl;
        number = omega arith;
        places = length-map s.definition.members _;
        came = λ slot place up. none_long other s.definition.members place _ (flushing-came s.slots slot place up);
      };
      frames = lengths_of s.definition listed (slice_index s.layouts.lengths 0) (flush_all s.slots).frames fit.head
          (flushing-frames (λ left. AreLong listed s.definition.members left.parts) s.slots
          (λ n up. parts_long listed s.definition.members s.slots n fit.places fit.came up));
    }

-- ---- a stream that is defined, switched on or off

-- a change that keeps the definition and the layouts
pub record Stays (listed : Listing) (s t : OneStream) : Type 0 where
  pub definition : t.definition ≡ s.definition
  pub layouts : t.layouts ≡ s.layouts
  pub fit : IsFit listed t

pub defined-fits : (p : Model) (definition : Definition) → IsFit p.listed (defined by_arrivals by_numbers p definition)
defined-fits p definition =
    record { head = refl; number = omega arith; places = length-map definition.members _; came = λ slot place up. tt }

pub stopped-stays : (listed : Listing) (s : OneStream) → IsFit listed s → Stays listed s (stopped by_arrivals by_numbers s)
stopped-stays listed s fit = record {
  definition = refl;
  layouts = refl;
  fit = record { head = fit.head; number = fit.number; places = fit.places; came = λ slot place up. tt };
}

started_stays : (listed : Listing) (s : OneStream) → IsFit listed s → Stays listed s (start_stream by_arrivals by_numbers s)
started_stays listed s fit = record { definition = refl; layouts = refl; fit = by s.slots.is_on }
  where
    by : (b : Bool) → IsFit listed (record s { slots = (if b then s.slots else record s.slots { is_on = true; last = None; arrivals = [] }) })
    by true = record { head = fit.head; number = fit.number; places = fit.places; came = fit.came }
    by false = record { head = fit.head; number = fit.number; places = fit.places; came = λ slot place up. tt }

same_stays : (listed : Listing) (s : OneStream) → IsFit listed s → Stays listed s s
same_stays listed s fit = record { definition = refl; layouts = refl; fit = fit }

switched_stays : (listed : Listing) (word : ℕ) (s : OneStream) → IsFit listed s → Stays listed s (switched by_arrivals by_numbers word s)
switched_stays listed word s fit = by (word == 1) (word == 2)
  where
    by : (a b : Bool) → Stays listed s (if a then stopped by_arrivals by_numbers s else (if b then start_stream by_arrivals by_numbers s else s))
    by true b = stopped-stays listed s fit
    by false true = started_stays listed s fit
    by false false = same_stays listed s fit

pub command-stays : (listed : Listing) (number word : ℕ) (s : OneStream) → IsFit listed s
    → Stays listed s (at_stream by_arrivals by_numbers number (switched by_arrivals by_numbers word) s)
command-stays listed number word s fit = by (s.definition.stream == number)
  where
    by : (b : Bool) → Stays listed s (if b then switched by_arrivals by_numbers word s else s)
    by true = switched_stays listed word s fit
    by false = same_stays listed s fit
