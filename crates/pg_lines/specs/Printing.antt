-- The line that answers.
use Rattle.std.specs.Prelude.{ℕ, ◌+◌, ◌==◌, if◌then◌else◌, List, [], ◌∷◌, ◌++◌, length, codes, decimal, Option, Some, None}
use Rattle.hex.specs.Hex.{encode_upper}
use Rattle.pg_wire.specs.declared.refusal.Refusal.{Refusal}
use Rattle.pg_wire.specs.Number.{number_of, name_of}
use Rattle.pg_audit.specs.declared.counters.Stats.{Stats}
use Rattle.pg_audit.specs.declared.counters.PmuStats.{PmuStats}
use Rattle.pg_audit.specs.declared.audit.Entry.{Entry}
use Rattle.pg_audit.specs.Noting.{what_number, result_number}
use Rattle.pg_session.specs.Private.{done, refused, handed}
use Rattle.pg_lines.specs.Words.{Text}
use Rattle.pg_gateway.specs.GatewayEvents.{Answer, tells, sub_counts, pmu_counts, entry, stands, those_waiting}

-- a number behind a text
abbrev pub figure : Text → ℕ → Text
figure text n = text ++ decimal n

-- the end of a line: bytes in upper case hexadecimal, or `-` for none
abbrev pub hex_end : List ℕ → Text
hex_end [] = codes " -\n"
hex_end (b ∷ bs) = codes " " ++ encode_upper (b ∷ bs) ++ codes "\n"

-- a line that reports a refusal, behind a word
abbrev pub refusal_line : Text → Refusal → Text
refusal_line word r = word ++ codes " " ++ decimal (number_of r) ++ codes " " ++ name_of r ++ codes "\n"

-- each reason that was counted, by rising number
abbrev pub reason_text : ℕ → ℕ → Text
reason_text number count = if count == 0 then [] else codes " " ++ decimal number ++ codes ":" ++ decimal count

abbrev pub reasons_from : ℕ → List ℕ → Text
reasons_from number [] = []
reasons_from number (count ∷ counts) = reason_text number count ++ reasons_from (number + 1) counts

abbrev pub reasons_end : List ℕ → Text
reasons_end counts = reasons_from 0 counts ++ codes "\n"

-- a subscriber's counters
abbrev pub stats_line : Stats → Text
stats_line s =
    figure (codes "stats made ") s.made ++ figure (codes " dropped ") s.dropped ++ figure (codes " lost ") s.lost ++ figure (codes " late ") s.late
    ++ figure (codes " twice ") s.twice ++ figure (codes " cleared ") s.cleared ++ figure (codes " handed ") s.handed ++ figure (codes " replies ") s.replies
    ++ reasons_end s.by_reason

-- the counters of a PMU, a link or a session, behind a word
abbrev pub counters_line : Text → PmuStats → Text
counters_line word s = word ++ codes " taken " ++ decimal s.taken ++ reasons_end s.by_reason

-- an entry of an audit
abbrev pub entry_line : Option Entry → Text
entry_line None = codes "audit none\n"
entry_line (Some e) =
    codes "audit " ++ decimal e.turn ++ codes " " ++ decimal (what_number e.what) ++ codes " " ++ decimal (result_number e.code) ++ codes "\n"

-- what a drain handed out: how many bytes, how many frames they begin, the gaps before these, the bytes
abbrev pub drained_line : List ℕ → ℕ → ℕ → Text
drained_line bytes begun gap =
    codes "drained " ++ decimal (length bytes) ++ codes " " ++ decimal begun ++ codes " " ++ decimal gap ++ hex_end bytes

abbrev pub done_line : ℕ → ℕ → Text
done_line made kept = codes "done " ++ decimal made ++ codes " " ++ decimal kept ++ codes "\n"

-- the line of an answer
abbrev pub answer_line : Answer → Text
answer_line (tells (done made kept)) = done_line made kept
answer_line (tells (refused r)) = refusal_line (codes "refused") r
answer_line (tells (handed bytes begun gap)) = drained_line bytes begun gap
answer_line (sub_counts s) = stats_line s
answer_line (pmu_counts s) = counters_line (codes "pmustats") s
answer_line (entry e) = entry_line e
-- no line of a script asks how a subscriber stands, or for whom something waits
answer_line (stands s) = []
answer_line (those_waiting us) = []
