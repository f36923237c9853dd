-- What a link tells of its source's frames, one after another.
use Rattle.std.specs.Prelude.{◌≡◌, ◌⊎◌, ℕ, ◌/◌, Bool, false, ◌==◌, if◌then◌else◌, List, [], ◌∷◌, reverse, slice_index, Option, Some, None, Result, Ok, Err, IsOk}
use Rattle.std.specs.Option.{option_map_or}
use Rattle.pg_wire.specs.declared.refusal.Refusal.{Refusal}
use Rattle.pg_wire.specs.declared.refusal.Refusal.TheVariants.{NoMemory, WrongType, WrongId, NoConfig}
use Rattle.pg_wire.specs.declared.kind.Kind.{Kind}
use Rattle.pg_wire.specs.declared.kind.Kind.TheVariants.{CfgTwo, Measured}
use Rattle.pg_wire.specs.Kinds.{kind_number}
use Rattle.pg_wire.specs.Number.{number_of}
use Rattle.pg_wire.specs.Frame.{break_of, skip_of}
use Rattle.pg_wire.specs.Split.{frames_in, rest_in}
use Rattle.pg_config.specs.declared.source.Announced.{Announced}
use Rattle.pg_config.specs.Parts.{Source}
use Rattle.pg_config.specs.Reading.{config_of}
use Rattle.pg_data.specs.Measurements.{Measurement}
use Rattle.pg_data.specs.Reading.{data_of}

-- what a frame is to the link of its source
pub data Item : Type 0 where
  -- a CFG-2 frame that is accepted: it announces this configuration
  announces : Source → Item
  -- a data frame that is read as this
  measures : Measurement → Item
  -- a frame that is skipped
  skips : Refusal → Item
  -- a CFG-2 frame that is not accepted
  rejects_config : Refusal → Item
  -- a data frame that is not read
  rejects_data : Refusal → Item
  -- a frame of another kind
  passes_over : Item

-- why a frame is ignored, if it is
abbrev pub reason_of : Item → Option Refusal
reason_of (announces config) = None
reason_of (measures m) = None
reason_of (skips r) = Some r
reason_of (rejects_config r) = Some r
reason_of (rejects_data r) = Some r
reason_of passes_over = Some WrongType

-- the configuration that this item announces, or else the one known before it
abbrev pub known_after : Option Source → Item → Option Source
known_after known (announces config) = Some config
known_after known (measures m) = known
known_after known (skips r) = known
known_after known (rejects_config r) = known
known_after known (rejects_data r) = known
known_after known passes_over = known

-- the configuration announced last, the newest item standing first
abbrev pub announced_last : List Item → Option Source
announced_last [] = None
announced_last (item ∷ before) = known_after (announced_last before) item

-- A CFG-2 frame, as it reads. Its IDCODE has to be the source's.
abbrev pub config_item : ℕ → Result Announced Refusal → Item
config_item source (Err r) = rejects_config r
config_item source (Ok a) = if a.config.source == source then announces a.config else rejects_config WrongId

-- a data frame reads by the configuration announced last
abbrev pub data_by : Option Source → List ℕ → Result Measurement Refusal
data_by None frame = Err NoConfig
data_by (Some config) frame = data_of config frame

abbrev pub data_item : Result Measurement Refusal → Item
data_item (Err r) = rejects_data r
data_item (Ok m) = measures m

-- a frame's type: bits 6 to 4 of its second byte
abbrev pub kind_in : List ℕ → ℕ
kind_in frame = slice_index frame 1 / 16

-- a frame that is not skipped: CFG-2 and data frames are read, others passed over
abbrev pub kept_item : ℕ → Option Source → List ℕ → Item
kept_item source known frame =
    if kind_in frame == kind_number CfgTwo then config_item source (config_of frame) else
    if kind_in frame == kind_number Measured then data_item (data_by known frame) else
    passes_over

abbrev pub item_unless : Option Refusal → ℕ → Option Source → List ℕ → Item
item_unless None source known frame = kept_item source known frame
item_unless (Some r) source known frame = skips r

-- what a frame is to the link of this source, the configuration announced last being known
abbrev pub item_of : ℕ → Option Source → List ℕ → Item
item_of source known frame = item_unless (skip_of frame) source known frame

-- a frame of this kind that is not skipped
abbrev pub IsOfKind : Kind → List ℕ → Type 0
IsOfKind kind frame = (skip_of frame ≡ None) × (kind_in frame ≡ kind_number kind)

-- Memory was wanted for a CFG-2 frame or a data frame that reads. Such a CFG-2 frame announces nothing, and may be of
-- another source.
abbrev pub Wants : Option Source → List ℕ → Item → Type 0
Wants known frame item =
    ((item ≡ rejects_config NoMemory) × IsOfKind CfgTwo frame × IsOk (config_of frame))
    ⊎ ((item ≡ rejects_data NoMemory) × IsOfKind Measured frame × IsOk (data_by known frame))

-- what is told of a frame: what it is, or want of memory
abbrev pub Tells : ℕ → Option Source → List ℕ → Item → Type 0
Tells source known frame item = (item ≡ item_of source known frame) ⊎ Wants known frame item

-- These items are told of these frames, one of each, by looking back over the items before it. The newest stand first.
abbrev pub AreTold : ℕ → List (List ℕ) → List Item → Type 0
AreTold source [] [] = Unit {0}
AreTold source [] (item ∷ before) = ⊥
AreTold source (frame ∷ frames) [] = ⊥
AreTold source (frame ∷ frames) (item ∷ before) = Tells source (announced_last before) frame item × AreTold source frames before

-- what is told of frames where no memory is wanted, the newest first
abbrev pub told_back : ℕ → List (List ℕ) → List Item
told_back source [] = []
told_back source (frame ∷ frames) = let before = told_back source frames in item_of source (announced_last before) frame ∷ before

-- all that is told of a stream where no memory is wanted, in its order
abbrev pub told_of : ℕ → List ℕ → List Item
told_of source stream = reverse (told_back source (reverse (frames_in stream)))

-- the break that shows behind a stream's frames
abbrev pub break_in : List ℕ → Option Refusal
break_in stream = break_of (rest_in stream)

-- want of memory was told in the place of something
abbrev pub is_want : Item → Bool
is_want item = option_map_or (λ r. number_of r == number_of NoMemory) (reason_of item) false

-- what is announced or measured is this source's
abbrev pub IsOwn : ℕ → Item → Type 0
IsOwn source (announces config) = config.source ≡ source
IsOwn source (measures m) = m.source ≡ source
IsOwn source (skips r) = Unit {0}
IsOwn source (rejects_config r) = Unit {0}
IsOwn source (rejects_data r) = Unit {0}
IsOwn source passes_over = Unit {0}
