-- What an event is to one stream: its successor, the frames that it makes, and what it ignores.
use Rattle.std.specs.Prelude.{ℕ, ◌+◌, ◌%◌, ◌^◌, take, replicate, ◌&&◌, Bool, if◌then◌else◌, is_some, nat_lt, List, [], ◌∷◌, length, map, Option, Some, None, Result, Ok, Err}
use Rattle.std.specs.List.{position}
use Rattle.pg_wire.specs.declared.refusal.Refusal.{Refusal}
use Rattle.pg_wire.specs.declared.ids.PmuKey.{PmuKey}
use Rattle.pg_wire.specs.Keys.{key_eq}
use Rattle.pg_data.specs.Pieces.{Piece}
use Rattle.pg_stream.specs.declared.definition.Definition.{Definition}
use Rattle.pg_stream.specs.Slots.{slot_at}
use Rattle.pg_align.specs.declared.answer.Arrived.{Arrived}
use Rattle.pg_align.specs.declared.answer.Arrived.TheVariants.{Kept, Late, Twice}
use Rattle.pg_align.specs.Histories.{Departed, Departures}
use Rattle.pg_config.specs.Parts.{data_lens}
use Rattle.pg_outcfg.specs.Frames.{data_frame_of, effective_of}
use Rattle.pg_outcfg.specs.Listing.{Listing, config_at}
use Rattle.pg_outcfg.specs.Frames.{changed}
use Rattle.pg_session.specs.Shape.{same_shape, same_list}
use Rattle.pg_session.specs.Events.{Sample}
use Rattle.pg_session.specs.declared.layouts.Layouts.{Layouts}
use Rattle.pg_session.specs.Machines.{Alignment}

-- a stream: its definition, its slots, the number of events since its definition that changed the CFG-1 list, modulo 65536, and the
-- layouts of its data frames
pub record StreamOf (A : Type 0) : Type 0 where
  pub definition : Definition
  pub slots : A
  pub count : ℕ
  pub layouts : Layouts

-- what an event is to a stream
pub record Turn (A : Type 0) : Type 0 where
  pub stream : StreamOf A
  -- the data frames that it makes, in their order
  pub frames : List (List ℕ)
  -- the arrivals that it ignored, late and twice, and the blocks whose slot lies past the end of time
  pub late : ℕ
  pub twice : ℕ
  pub past : ℕ

-- a block that is a member's: the member's place, and what is used of the block
pub record PlacedBlock : Type 0 where
  pub place : ℕ
  pub piece : Piece

-- a key's place among the members
abbrev pub place_of : List PmuKey → PmuKey → Option ℕ
place_of members key = position (λ m. key_eq m key) members

-- with its member's place, if it has one, before the others
abbrev pub with_place : Option ℕ → Piece → List PlacedBlock → List PlacedBlock
with_place None piece others = others
with_place (Some place) piece others = record { place = place; piece = piece } ∷ others

-- those of a measurement's blocks that are members', in the frame's order
abbrev pub placed : List PmuKey → ℕ → List Sample → List PlacedBlock
placed members quality [] = []
placed members quality (s ∷ samples) =
    with_place (place_of members s.key) (record { quality = quality; block = s.block }) (placed members quality samples)

-- the resolution of a measurement, which all its blocks' configurations have
abbrev pub base_of : List Sample → ℕ
base_of [] = 0
base_of (s ∷ samples) = s.config.base

-- which members are effective: those that the CFG-1 list has
abbrev pub effective_in : Listing → List PmuKey → List Bool
effective_in listed members = map (λ key. is_some (config_at listed key)) members

abbrev pub is_late : Arrived → ℕ
is_late Late = 1
is_late Kept = 0
is_late Twice = 0

abbrev pub is_twice : Arrived → ℕ
is_twice Twice = 1
is_twice Kept = 0
is_twice Late = 0

-- the data frame of a slot that left, by the CFG-1 list at that time
unfoldable pub slot_frame : Definition → Listing → Departed Piece → List ℕ
slot_frame d listed left = data_frame_of d left.slot listed left.parts

-- the slots after some arrivals, and how many of these were ignored
pub record Arrivals (A : Type 0) : Type 0 where
  pub slots : A
  pub late : ℕ
  pub twice : ℕ

-- how many bytes a data frame of these members has by a CFG-1 list: 16 around its blocks, and for each effective member its block
abbrev pub frame_len : Listing → List PmuKey → ℕ
frame_len listed members = 16 + data_lens (effective_of listed members)

-- the layouts of a stream that was just defined, and the definition's number among those of its subscriber
abbrev pub first_layout : ℕ → ℕ → Layouts
first_layout definition len = record { definition = definition; number = 0; lengths = len ∷ replicate 31 0 }

-- the layouts where the effective blocks become others, with data frames of this length
abbrev pub next_layout : ℕ → Layouts → Layouts
next_layout len l = record { definition = l.definition; number = (l.number + 1) % 2 ^ 64; lengths = take 32 (len ∷ l.lengths) }

-- a stream to which an event is nothing
abbrev pub still : {A : Type 0} → StreamOf A → Turn A
still s = record { stream = s; frames = []; late = 0; twice = 0; past = 0 }

module _ {A : Type 0} (by : Alignment A) where
  -- the slots that left become the stream's frames, by this CFG-1 list
  abbrev pub framed : Listing → StreamOf A → Departures Piece A → Turn A
  framed listed s d =
      record {
        stream = record s { slots = d.after };
        frames = map (slot_frame s.definition listed) d.frames;
        late = 0;
        twice = 0;
        past = 0;
      }

  -- The CFG-1 list is about to become another one. Where that changes the stream's effective blocks, its open slots all
  -- leave by the old one, and its layout is another one, whether it is on or not. The count goes up where the list itself changes.
  abbrev pub reshape_turn : Listing → Listing → StreamOf A → Turn A
  reshape_turn listed other s =
      let counted = record s { count = (if same_list listed other then s.count else changed s.count) } in
      if same_shape s.definition.members listed other
      then still counted
      else
      (let turn = framed listed counted (by.flush s.slots) in
      record turn {
        stream = record turn.stream {
          slots = by.reshape turn.stream.slots (effective_in other s.definition.members);
          layouts = next_layout (frame_len other s.definition.members) turn.stream.layouts;
        };
      })

  -- blocks arrive in a slot, one after another
  abbrev pub arrive_all : A → ℕ → List PlacedBlock → Arrivals A
  arrive_all a slot [] = record { slots = a; late = 0; twice = 0 }
  arrive_all a slot (p ∷ ps) =
      let others = arrive_all (by.arrive a slot p.place p.piece) slot ps in
      let answer = by.answer a slot p.place in
      record others { late = is_late answer + others.late; twice = is_twice answer + others.twice }

  -- All arrive first, and only then do slots leave. An error is TimeEnd, and so its blocks count as past the end of time: `slot_at`
  -- gives BadFraction only of a numerator that is not below the resolution, and no measurement has one, since the reader of data
  -- frames refuses such a frame with BadFraction (law `only_time_ends`).
  abbrev pub arrival_turn : Listing → StreamOf A → List PlacedBlock → Result ℕ Refusal → Turn A
  arrival_turn listed s blocks (Err r) = record (still s) { past = length blocks }
  arrival_turn listed s blocks (Ok slot) =
      let arrived = arrive_all s.slots slot blocks in
      record (framed listed s (by.leave arrived.slots)) { late = arrived.late; twice = arrived.twice }

  -- a measurement is nothing to a stream that is off, or none of whose members it has
  abbrev pub measure_turn : Listing → ℕ → ℕ → ℕ → List Sample → StreamOf A → Turn A
  measure_turn listed soc quality frac samples s =
      let blocks = placed s.definition.members quality samples in
      if by.is_on s.slots && nat_lt 0 (length blocks)
      then arrival_turn listed s blocks (slot_at s.definition.rate (base_of samples) soc frac)
      else still s

  -- one tick more, and what is due then leaves
  abbrev pub tick_turn : Listing → StreamOf A → Turn A
  tick_turn listed s = if by.is_on s.slots then framed listed s (by.leave (by.tick s.slots)) else still s
