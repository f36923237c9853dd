-- A queue by the numbers of its data frames. Made frames have the numbers 1, 2, 3, .. and stand in one list for good; the
-- queue is a list of numbers, and a gap is a difference.
use Rattle.std.specs.Prelude.{◌≡◌, ℕ, ◌+◌, ◌-◌, ◌≤◌, ◌<◌, Bool, false, ◌&&◌, nat_lt, nat_le, if◌then◌else◌, List, [], ◌∷◌, ◌++◌, length, take, drop, Option, Some, None, unwrap_or, slice_index_or}
use Rattle.pg_ring.specs.Shown.{Framed, Queue, saturated, begun_of, drained}

pub record Numbered : Type 0 where
  pub ring_size : ℕ
  pub byte_limit : ℕ
  -- the frame of number n stands at n - 1; none where it was lost
  pub made : List (Option (List ℕ))
  pub queue : List ℕ
  -- the greatest number that was begun or cleared, 0 at first
  pub mark : ℕ
  pub rest : List ℕ
  pub data_in_hand : Bool
  pub replies : List (List ℕ)

-- the bytes of the frame of this number
abbrev pub bytes_made : List (Option (List ℕ)) → ℕ → List ℕ
bytes_made made number = unwrap_or (slice_index_or made (number - 1) None) []

-- the bytes of the frames of these numbers together
abbrev pub bytes_in_all : List (Option (List ℕ)) → List ℕ → ℕ
bytes_in_all made [] = 0
bytes_in_all made (number ∷ numbers) = length (bytes_made made number) + bytes_in_all made numbers

-- the last number, or the mark where there is none
abbrev pub last_number : ℕ → List ℕ → ℕ
last_number mark [] = mark
last_number mark (number ∷ numbers) = last_number number numbers

-- each frame with its gap: its number, less the one before it in the queue (or the mark), less 1
abbrev pub with_gaps : List (Option (List ℕ)) → ℕ → List ℕ → List Framed
with_gaps made before [] = []
with_gaps made before (number ∷ numbers) =
    record { bytes = bytes_made made number; gap = saturated (number - before - 1) } ∷ with_gaps made number numbers

-- What the readers show of it. Pending is the last number given, less the queue's last number (or the mark).
abbrev pub shown_of : Numbered → Queue
shown_of m =
    record {
      ring_size = m.ring_size;
      byte_limit = m.byte_limit;
      rest = m.rest;
      data_in_hand = m.data_in_hand;
      replies = m.replies;
      frames = with_gaps m.made m.mark m.queue;
      pending = saturated (length m.made - last_number m.mark m.queue);
    }

-- the least numbers are removed until at most `size` stand, and their frames have together at most `limit` bytes
abbrev pub newest : ℕ → ℕ → List (Option (List ℕ)) → List ℕ → List ℕ
newest size limit made [] = []
newest size limit made (number ∷ numbers) =
    if nat_le (length (number ∷ numbers)) size && nat_le (bytes_in_all made (number ∷ numbers)) limit
    then number ∷ numbers
    else newest size limit made numbers

-- A frame is made and takes the next number. Where it is no longer than the limit its number is appended, and the least
-- numbers are removed until the rest fits; where it is longer the queue is unchanged, and so the number is pending.
abbrev pub push_made : Numbered → List ℕ → Numbered
push_made m bytes =
    let made = m.made ++ Some bytes ∷ [] in
    record m {
      made = made;
      queue = (if nat_le (length bytes) m.byte_limit then newest m.ring_size m.byte_limit made (m.queue ++ (length m.made + 1) ∷ []) else m.queue);
    }

-- how many frames that push drops: the numbers that it removes, and the new one where its frame is longer than the limit
abbrev pub dropped_by : Numbered → List ℕ → ℕ
dropped_by m bytes =
    if nat_le (length bytes) m.byte_limit
    then length (m.queue ++ (length m.made + 1) ∷ []) - length (push_made m bytes).queue
    else 1

-- a number without a frame: it is given, and not appended
abbrev pub lose_made : Numbered → Numbered
lose_made m = record m { made = m.made ++ None ∷ [] }

-- how many data frames a drain of n bytes begins
abbrev pub data_begun : Numbered → ℕ → ℕ
data_begun m n = begun_of (shown_of m) n - length m.replies

-- a drain of n bytes: the numbers that it begins leave the queue, and the greatest of them is the mark
abbrev pub drain_made : Numbered → ℕ → Numbered
drain_made m n =
    let after = drained (shown_of m) n in
    record m {
      queue = drop (data_begun m n) m.queue;
      mark = last_number m.mark (take (data_begun m n) m.queue);
      rest = after.rest;
      data_in_hand = after.data_in_hand;
      replies = after.replies;
    }

-- a reply is queued, where fewer than 8 stand
abbrev pub reply_made : Numbered → List ℕ → Numbered
reply_made m bytes = if nat_lt (length m.replies) 8 then record m { replies = m.replies ++ bytes ∷ [] } else m

-- a hang-up: nothing stands, and the mark is the last number given
abbrev pub clear_made : Numbered → Numbered
clear_made m = record m { queue = []; mark = length m.made; rest = []; data_in_hand = false; replies = [] }

-- how many data frames a hang-up clears: those queued, and the one in hand; a reply in hand doesn't count
abbrev pub cleared_by : Numbered → ℕ
cleared_by m = length m.queue + (if m.data_in_hand && nat_lt 0 (length m.rest) then 1 else 0)

-- no number was given yet
abbrev pub none_made : ℕ → ℕ → Numbered
none_made size limit = record { ring_size = size; byte_limit = limit; made = []; queue = []; mark = 0; rest = []; data_in_hand = false; replies = [] }

-- the numbers rise from the one before
abbrev pub Rising : ℕ → List ℕ → Type 0
Rising before [] = Unit {0}
Rising before (number ∷ numbers) = (before < number) × Rising number numbers

-- what each state keeps that such calls lead to
pub record IsSound (m : Numbered) : Type 0 where
  pub some_size : 0 < m.ring_size
  pub rising : Rising m.mark m.queue
  pub given : last_number m.mark m.queue ≤ length m.made

-- a queue shows this state
pub record ShowsNumbered (queue : Queue) (m : Numbered) : Type 0 where
  pub sound : IsSound m
  pub same : queue ≡ shown_of m
