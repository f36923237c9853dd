-- What the readers of an output queue show, its limits, and what a drain hands out.
use Rattle.std.specs.Prelude.{ℕ, ◌+◌, ◌-◌, ◌^◌, ◌<◌, ◌≤◌, Bool, false, ◌&&◌, nat_lt, if◌then◌else◌, min, List, [], ◌∷◌, ◌++◌, length, map, take, drop}
use Rattle.std.specs.List.{flat_map}

-- a queued data frame, and its gap: the count of frames dropped or lost directly before it
pub record Framed : Type 0 where
  pub bytes : List ℕ
  pub gap : ℕ

-- A queue as its readers show it. `data_in_hand` tells whether the frame begun last is a data frame; the readers don't
-- show it, and `clear` counts by it.
pub record Queue : Type 0 where
  pub ring_size : ℕ
  pub byte_limit : ℕ
  pub rest : List ℕ
  pub data_in_hand : Bool
  pub replies : List (List ℕ)
  pub frames : List Framed
  pub pending : ℕ

-- a count that stops at 2^64 - 1
abbrev pub saturated : ℕ → ℕ
saturated n = min n (2 ^ 64 - 1)

-- the bytes of these frames together
abbrev pub bytes_in : List Framed → ℕ
bytes_in [] = 0
bytes_in (frame ∷ frames) = length frame.bytes + bytes_in frames

-- each has a byte
abbrev pub HaveBytes : List Framed → Type 0
HaveBytes [] = Unit {0}
HaveBytes (frame ∷ frames) = (0 < length frame.bytes) × HaveBytes frames

abbrev pub RepliesHaveBytes : List (List ℕ) → Type 0
RepliesHaveBytes [] = Unit {0}
RepliesHaveBytes (reply ∷ replies) = (0 < length reply) × RepliesHaveBytes replies

-- the limits of a queue
pub record IsWithinLimits (queue : Queue) : Type 0 where
  pub least_size : 1 ≤ queue.ring_size
  pub most_size : queue.ring_size ≤ 1024
  pub least_bytes : 16 ≤ queue.byte_limit
  pub most_bytes : queue.byte_limit ≤ 16777216
  pub frames : length queue.frames ≤ queue.ring_size
  pub bytes : bytes_in queue.frames ≤ queue.byte_limit
  pub replies : length queue.replies ≤ 8
  pub frames_have_bytes : HaveBytes queue.frames
  pub replies_have_bytes : RepliesHaveBytes queue.replies

-- the data frames that stand, with the one in hand; a reply in hand doesn't count
abbrev pub data_frames : Queue → ℕ
data_frames queue = length queue.frames + (if queue.data_in_hand && nat_lt 0 (length queue.rest) then 1 else 0)

abbrev pub bytes_of : Framed → List ℕ
bytes_of frame = frame.bytes

abbrev pub gap_of : Framed → ℕ
gap_of frame = frame.gap

-- replies, then data frames
abbrev pub pieces_of : Queue → List (List ℕ)
pieces_of queue = queue.replies ++ map bytes_of queue.frames

-- rest in hand, replies, queued frames joined, in this order
abbrev pub bytes_to_leave : Queue → List ℕ
bytes_to_leave queue = queue.rest ++ flat_map (λ piece. piece) (pieces_of queue)

-- how many frames wait, replies and data frames; the one in hand is one of them where bytes of it are left
abbrev pub frames_to_leave : Queue → ℕ
frames_to_leave queue = length (pieces_of queue) + (if nat_lt 0 (length queue.rest) then 1 else 0)

-- how many of these pieces n bytes begin: those whose first byte is among the n
abbrev pub begun_by : ℕ → List (List ℕ) → ℕ
begun_by n [] = 0
begun_by n (piece ∷ pieces) = if nat_lt 0 n then 1 + begun_by (n - length piece) pieces else 0

-- how many frames of both kinds a drain of n bytes begins
abbrev pub begun_of : Queue → ℕ → ℕ
begun_of queue n = begun_by (n - length queue.rest) (pieces_of queue)

-- the data frames that it begins
abbrev pub frames_begun : Queue → ℕ → List Framed
frames_begun queue n = take (begun_of queue n - length queue.replies) queue.frames

-- After a drain of n bytes: what was begun has left its queue, and what the n bytes don't hold of it is the new rest.
abbrev pub drained : Queue → ℕ → Queue
drained queue n =
    record queue {
      rest = drop n (queue.rest ++ flat_map (λ piece. piece) (take (begun_of queue n) (pieces_of queue)));
      data_in_hand = (if nat_lt 0 (begun_of queue n) then nat_lt (length queue.replies) (begun_of queue n) else queue.data_in_hand);
      replies = drop (begun_of queue n) queue.replies;
      frames = drop (begun_of queue n - length queue.replies) queue.frames;
    }

-- a queue of this ring size and these ring bytes, in which nothing stands
abbrev pub empty_queue : ℕ → ℕ → Queue
empty_queue size limit =
    record { ring_size = size; byte_limit = limit; rest = []; data_in_hand = false; replies = []; frames = []; pending = 0 }

-- a hang-up: nothing stands, and nothing is pending
abbrev pub emptied : Queue → Queue
emptied queue = empty_queue queue.ring_size queue.byte_limit
