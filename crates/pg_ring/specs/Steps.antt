-- What each push makes of a queue as it is shown, gap by gap. It is what the numbers say (Numbers): `push_data` and its
-- sisters ensure both.
use Rattle.std.specs.Prelude.{ℕ, ◌+◌, ◌-◌, Bool, true, false, ◌&&◌, nat_lt, nat_le, if◌then◌else◌, List, [], ◌∷◌, ◌++◌, length, Option, Some, None}
use Rattle.pg_ring.specs.Shown.{Framed, Queue, saturated, bytes_in}

-- fewer than `size` frames stand, with at most `limit` bytes
abbrev pub has_room : ℕ → ℕ → List Framed → Bool
has_room size limit frames = nat_lt (length frames) size && nat_le (bytes_in frames) limit

-- the oldest frames go until there is room: the gap that they pass on, and what stands then
abbrev pub room : ℕ → ℕ → ℕ → List Framed → ℕ × List Framed
room size limit passed [] = (passed, [])
room size limit passed (frame ∷ frames) =
    if has_room size limit (frame ∷ frames) then (passed, frame ∷ frames) else room size limit (saturated (passed + frame.gap + 1)) frames

-- the first frame takes a gap over
abbrev pub pass_on : ℕ → List Framed → List Framed
pass_on passed [] = []
pass_on passed (frame ∷ frames) = record { bytes = frame.bytes; gap = saturated (passed + frame.gap) } ∷ frames

-- the ring after a push of a frame that is no longer than the limit
abbrev pub pushed : ℕ → ℕ → List Framed → Framed → List Framed
pushed size limit frames frame =
    let left = room size (limit - length frame.bytes) 0 frames in pass_on left.0 (left.1 ++ frame ∷ [])

-- after a push of a data frame: the oldest frames go until it fits, and one that is longer than the limit changes nothing in the ring
abbrev pub with_data : Queue → List ℕ → Queue
with_data queue bytes =
    if nat_le (length bytes) queue.byte_limit
    then record queue { frames = pushed queue.ring_size queue.byte_limit queue.frames (record { bytes = bytes; gap = queue.pending }); pending = 0 }
    else record queue { pending = saturated (queue.pending + 1) }

-- after the loss of a frame that was not composed
abbrev pub with_lost : Queue → Queue
with_lost queue = record queue { pending = saturated (queue.pending + 1) }

-- there is room for a reply
abbrev pub takes_reply : Queue → Bool
takes_reply queue = nat_lt (length queue.replies) 8

-- after a push of a reply: a ninth changes nothing
abbrev pub with_reply : Queue → List ℕ → Queue
with_reply queue bytes = if takes_reply queue then record queue { replies = queue.replies ++ bytes ∷ [] } else queue

-- the frame that is begun next, with its gap, where nothing is in hand: a reply before a data frame
abbrev pub begun_next : Queue → List (List ℕ) → List Framed → Option (ℕ × Queue)
begun_next queue (reply ∷ replies) frames = Some (0, record queue { rest = reply; data_in_hand = false; replies = replies })
begun_next queue [] (frame ∷ frames) = Some (frame.gap, record queue { rest = frame.bytes; data_in_hand = true; frames = frames })
begun_next queue [] [] = None
