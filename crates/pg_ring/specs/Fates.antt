-- What becomes of each number given: its frame is begun or queued, it is in the gap of a frame that is begun or queued,
-- it is pending, or it was one of these when a hang-up cleared the queue.
use Rattle.std.specs.Prelude.{ℕ, ◌+◌, ◌-◌, Bool, ◌&&◌, nat_eq, nat_lt, nat_le, if◌then◌else◌, List, [], ◌∷◌, ◌++◌, length, take, fold, sum_by}
use Rattle.std.specs.List.{count_by}
use Rattle.pg_ring.specs.Shown.{saturated}
use Rattle.pg_ring.specs.Numbers.{Numbered, last_number, push_made, lose_made, data_begun, drain_made, reply_made, clear_made, none_made}

-- a call that changes a queue
pub data Call : Type 0 where
  Push : List ℕ → Call
  Lose : Call
  Reply : List ℕ → Call
  Drain : ℕ → Call
  HangUp : Call

-- the state after a call
abbrev pub after : Numbered → Call → Numbered
after m (Push bytes) = push_made m bytes
after m Lose = lose_made m
after m (Reply bytes) = reply_made m bytes
after m (Drain n) = drain_made m n
after m HangUp = clear_made m

-- a number, and the one before it that was begun, cleared or is queued: those between the two are in its gap
pub record PlacedNumber : Type 0 where
  pub before : ℕ
  pub number : ℕ

-- these numbers, of which the first follows `before`
abbrev pub placed_from : ℕ → List ℕ → List PlacedNumber
placed_from before [] = []
placed_from before (number ∷ numbers) = record { before = before; number = number } ∷ placed_from number numbers

-- the count of the numbers in its gap, at most 2^64 - 1
abbrev pub gap_in : PlacedNumber → ℕ
gap_in p = saturated (p.number - p.before - 1)

-- the data frames that a call begins
abbrev pub begun_by_call : Numbered → Call → List PlacedNumber
begun_by_call m (Push bytes) = []
begun_by_call m Lose = []
begun_by_call m (Reply bytes) = []
begun_by_call m (Drain n) = placed_from m.mark (take (data_begun m n) m.queue)
begun_by_call m HangUp = []

-- the states that a call clears: the one that a hang-up finds
abbrev pub cleared_by_call : Numbered → Call → List Numbered
cleared_by_call m (Push bytes) = []
cleared_by_call m Lose = []
cleared_by_call m (Reply bytes) = []
cleared_by_call m (Drain n) = []
cleared_by_call m HangUp = m ∷ []

-- a queue's state, with all data frames begun and all states cleared since it was new
pub record QueueHistory : Type 0 where
  pub now : Numbered
  pub begun : List PlacedNumber
  pub cleared : List Numbered

abbrev pub longer : QueueHistory → Call → QueueHistory
longer h call = record {
  now = after h.now call;
  begun = h.begun ++ begun_by_call h.now call;
  cleared = h.cleared ++ cleared_by_call h.now call;
}

-- after these calls on a new queue
abbrev pub history_of : ℕ → ℕ → List Call → QueueHistory
history_of size limit calls = fold longer (record { now = none_made size limit; begun = []; cleared = [] }) calls

abbrev pub one_if : Bool → ℕ
one_if b = if b then 1 else 0

-- it is this number
abbrev pub is_number : ℕ → PlacedNumber → Bool
is_number k p = nat_eq p.number k

-- this number is in its gap
abbrev pub has_in_gap : ℕ → PlacedNumber → Bool
has_in_gap k p = nat_lt p.before k && nat_lt k p.number

-- how often a number is one of these, and how often in the gap of one of these
abbrev pub places_of : ℕ → List PlacedNumber → ℕ
places_of k placed = count_by (is_number k) placed + count_by (has_in_gap k) placed

-- the number is past the queue's last one (or the mark)
abbrev pub is_pending : Numbered → ℕ → Bool
is_pending m k = nat_lt (last_number m.mark m.queue) k && nat_le k (length m.made)

-- how often a number waits: it is queued, in a queued frame's gap, or pending
abbrev pub waits : Numbered → ℕ → ℕ
waits m k = places_of k (placed_from m.mark m.queue) + one_if (is_pending m k)

-- How many fates a number has: it is begun, or in the gap of a frame begun; it waits; it waited when a hang-up came.
abbrev pub fates : QueueHistory → ℕ → ℕ
fates h k = places_of k h.begun + waits h.now k + sum_by (λ m. waits m k) h.cleared
