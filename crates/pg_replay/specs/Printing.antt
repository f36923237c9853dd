-- What a script's run prints.
use Rattle.std.specs.Prelude.{ℕ, zero, suc, List, [], ◌∷◌, ◌++◌, length, take, drop, codes, decimal}
use Rattle.std.specs.List.{flat_map}
use Rattle.pg_ring.specs.Shown.{Framed, Queue}
use Rattle.pg_serve.specs.Inputs.{Noted, replied, ignored, closed, Outcome}
use Rattle.pg_lines.specs.Words.{Text}
use Rattle.pg_lines.specs.Printing.{hex_end, refusal_line, answer_line}

abbrev pub note_line : Noted → Text
note_line (replied a) = answer_line a
note_line (ignored r) = refusal_line (codes "ignored") r
note_line (closed r) = refusal_line (codes "closed") r

-- the notes of an input, a line each
abbrev pub note_lines : List Noted → Text
note_lines notes = flat_map note_line notes

-- what waits for a subscriber: the rest of the frame in hand, the replies, the data frames with the gap before each, and the
-- numbers without a frame behind them
abbrev pub reply_line : List ℕ → Text
reply_line bytes = codes "reply" ++ hex_end bytes

abbrev pub frame_line : Framed → Text
frame_line frame = codes "frame " ++ decimal frame.gap ++ hex_end frame.bytes

abbrev pub queue_lines : Queue → Text
queue_lines queue =
    codes "rest" ++ hex_end queue.rest ++ flat_map reply_line queue.replies ++ flat_map frame_line queue.frames
    ++ codes "pending " ++ decimal queue.pending ++ codes "\n"

-- the commands to a source, a line each: their frames have 18 bytes
abbrev pub send_line : List ℕ → Text
send_line command = codes "send" ++ hex_end command

-- so many of them at most
abbrev pub send_from : ℕ → List ℕ → Text
send_from zero bytes = []
send_from (suc n) [] = []
send_from (suc n) (b ∷ bs) = send_line (take 18 (b ∷ bs)) ++ send_from n (drop 18 (b ∷ bs))

abbrev pub send_lines : List ℕ → Text
send_lines bytes = send_from (length bytes) bytes

-- what an input came to: its notes, and the commands to the source
abbrev pub output_lines : Outcome → Text
output_lines o = note_lines o.notes ++ send_lines o.to_pmu
