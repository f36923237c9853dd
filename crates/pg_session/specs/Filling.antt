-- Blocks of a data frame that leave no slot of a stream open behind them.
use Rattle.std.specs.Prelude.{◌≡◌, ◌⊎◌, ◌+◌, nat_lt, ◌&&◌, ◌||◌, ◌==◌, ℕ, Bool, true, false, not, is_some, if◌then◌else◌, List, [], ◌∷◌, length, replicate, slice_set, slice_index_or, Option, Some, None, Result, Ok, Err}
use Rattle.pg_wire.specs.declared.refusal.Refusal.{Refusal}
use Rattle.pg_data.specs.Pieces.{Piece}
use Rattle.pg_stream.specs.Slots.{slot_at}
use Rattle.pg_align.specs.Histories.{is_above}
use Rattle.pg_align.specs.Slots.{Aligned}
use Rattle.pg_session.specs.Events.{Sample, SubscriberEvent, measure}
use Rattle.pg_session.specs.Streams.{StreamOf, PlacedBlock, placed, base_of}
use Rattle.pg_session.specs.Shown.{SubscriberValue}
use Rattle.pg_session.specs.Ready.{IsReady}

-- the parts of a slot with these blocks put into their places, one after another; none where two are for one place
abbrev pub filled : List (Option Piece) → List PlacedBlock → Option (List (Option Piece))
filled parts [] = Some parts
filled parts (p ∷ ps) = if is_some (slice_index_or parts p.place None) then None else filled (slice_set parts p.place (Some p.piece)) ps

-- each place has one
abbrev pub all_came : List (Option Piece) → Bool
all_came [] = true
all_came (part ∷ parts) = is_some part && all_came parts

abbrev pub is_full : Option (List (Option Piece)) → Bool
is_full None = false
is_full (Some parts) = all_came parts

-- these blocks are those of all n members, one of each
abbrev pub are_all : ℕ → List PlacedBlock → Bool
are_all n blocks = is_full (filled (replicate n None) blocks)

-- the slot is not past the end of time, and not late
abbrev pub can_leave : Option ℕ → Result ℕ Refusal → Bool
can_leave last (Ok slot) = is_above last slot
can_leave last (Err r) = false

-- A frame's blocks leave no slot of a stream open behind them: the stream is off; or none is open, and they are no member's, or
-- those of all members for a slot that can leave.
abbrev pub fills : StreamOf (Aligned Piece) → ℕ → ℕ → ℕ → List Sample → Bool
fills s soc quality frac samples =
    let blocks = placed s.definition.members quality samples in
    not s.slots.is_on || (length s.slots.slots == 0 && (length blocks == 0
    || (are_all (length s.definition.members) blocks && can_leave s.slots.last (slot_at s.definition.rate (base_of samples) soc frac))))

-- no slot of any of these streams
abbrev pub all_fill : List (StreamOf (Aligned Piece)) → ℕ → ℕ → ℕ → List Sample → Bool
all_fill [] soc quality frac samples = true
all_fill (s ∷ streams) soc quality frac samples = fills s soc quality frac samples && all_fill streams soc quality frac samples

-- A frame's only block may stay with the stream: it is on, and has several members or an open slot. Else the block leaves at once, if it
-- is the member's.
abbrev pub may_keep : StreamOf (Aligned Piece) → Bool
may_keep s = s.slots.is_on && (nat_lt 1 (length s.definition.members) || nat_lt 0 (length s.slots.slots))

-- how many streams may keep it
abbrev pub count_keeping : List (StreamOf (Aligned Piece)) → ℕ
count_keeping [] = 0
count_keeping (s ∷ streams) = (if may_keep s then 1 else 0) + count_keeping streams

-- Copies of a frame's only block lie ready, one for each stream that may keep it.
abbrev pub IsSpread : SubscriberValue → ℕ → List Sample → Type 0
IsSpread v quality [] = ⊥
IsSpread v quality (s ∷ []) = v.blocks ≡ replicate (count_keeping v.own.streams) (record { quality = quality; block = s.block })
IsSpread v quality (s ∷ t ∷ samples) = ⊥

-- No copies lie ready, and the event is a frame whose blocks leave no slot open behind them; or those of its only block do.
abbrev pub Serves : SubscriberValue → SubscriberEvent → Type 0
Serves v (measure soc quality frac samples) = ((v.blocks ≡ []) × (all_fill v.own.streams soc quality frac samples ≡ true)) ⊎ IsSpread v quality samples
Serves v _ = ⊥

-- A block that comes to stay is kept by a copy. So just the copies that the event asks for lie ready; or those that serve as well.
abbrev pub IsPreparedFor : SubscriberValue → SubscriberEvent → Type 0
IsPreparedFor v e = IsReady v e ⊎ ((v.configs ≡ []) × Serves v e)
