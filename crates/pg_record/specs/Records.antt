-- Records as bytes.
use Rattle.std.specs.Prelude.{ℕ, ◌^◌, ◌<◌, List, ◌∷◌, ◌++◌, length, take, drop, Option, Some, None, option_and_then, option_map, nat_lt, ◌==◌, if◌then◌else◌}
use Rattle.std.specs.Int.{w16, w32, w64, to_be_bytes}
use Rattle.pg_record.specs.Numbers.{one_in, two_in, four_in, eight_in}
use Rattle.pg_record.specs.declared.record.Record.{Record}
use Rattle.pg_record.specs.declared.record.RecordKind.{RecordKind}
use Rattle.pg_record.specs.declared.record.RecordKind.TheVariants.{Measurement, Configuration, Command, Edit, Tick, Connect, Hangup, Drain, Question, Unspelled}

abbrev pub kind_number : RecordKind → ℕ
kind_number Measurement = 1
kind_number Configuration = 2
kind_number Command = 3
kind_number Edit = 4
kind_number Tick = 5
kind_number Connect = 6
kind_number Hangup = 7
kind_number Drain = 8
kind_number Question = 9
kind_number Unspelled = 10

abbrev pub kind_of : ℕ → Option RecordKind
kind_of number =
    if number == 1 then Some Measurement else
    if number == 2 then Some Configuration else
    if number == 3 then Some Command else
    if number == 4 then Some Edit else
    if number == 5 then Some Tick else
    if number == 6 then Some Connect else
    if number == 7 then Some Hangup else
    if number == 8 then Some Drain else
    if number == 9 then Some Question else
    if number == 10 then Some Unspelled else
    None

-- what stands before a body of so many bytes
abbrev pub start_bytes : RecordKind → ℕ → ℕ → List ℕ
start_bytes kind number size = kind_number kind ∷ to_be_bytes w16 number ++ to_be_bytes w16 size

-- what stands behind it
abbrev pub end_bytes : Record → List ℕ
end_bytes r = to_be_bytes w64 r.place ++ to_be_bytes w16 r.at ++ r.answer ∷ to_be_bytes w16 r.handed ++ to_be_bytes w32 r.sum

-- a record with its body
abbrev pub record_bytes : Record → List ℕ → List ℕ
record_bytes r body = start_bytes r.kind r.number (length body) ++ body ++ end_bytes r

-- the numbers fit their bytes
pub record Fits (r : Record) (body : List ℕ) : Type 0 where
  pub number : r.number < 2 ^ 16
  pub size : length body < 2 ^ 16
  pub place : r.place < 2 ^ 64
  pub at : r.at < 2 ^ 16
  pub answer : r.answer < 2 ^ 8
  pub handed : r.handed < 2 ^ 16
  pub sum : r.sum < 2 ^ 32

-- so many bytes, and what stands behind them
abbrev pub many_in : ℕ → List ℕ → Option (List ℕ × List ℕ)
many_in size bytes = if nat_lt (length bytes) size then None else Some (take size bytes, drop size bytes)

-- ---- reading, a field after the other: what is read of the bytes behind the fields before it

abbrev pub with_sum : RecordKind → ℕ → List ℕ → ℕ → ℕ → ℕ → ℕ → ℕ × List ℕ → Record × List ℕ × List ℕ
with_sum kind number body place at answer handed sum =
    (record { kind = kind; number = number; place = place; at = at; answer = answer; handed = handed; sum = sum.0 }, body, sum.1)

abbrev pub with_handed : RecordKind → ℕ → List ℕ → ℕ → ℕ → ℕ → ℕ × List ℕ → Option (Record × List ℕ × List ℕ)
with_handed kind number body place at answer handed = option_map (with_sum kind number body place at answer handed.0) (four_in handed.1)

abbrev pub with_answer : RecordKind → ℕ → List ℕ → ℕ → ℕ → ℕ × List ℕ → Option (Record × List ℕ × List ℕ)
with_answer kind number body place at answer = option_and_then (with_handed kind number body place at answer.0) (two_in answer.1)

abbrev pub with_at : RecordKind → ℕ → List ℕ → ℕ → ℕ × List ℕ → Option (Record × List ℕ × List ℕ)
with_at kind number body place at = option_and_then (with_answer kind number body place at.0) (one_in at.1)

abbrev pub with_place : RecordKind → ℕ → List ℕ → ℕ × List ℕ → Option (Record × List ℕ × List ℕ)
with_place kind number body place = option_and_then (with_at kind number body place.0) (two_in place.1)

abbrev pub with_body : RecordKind → ℕ → List ℕ × List ℕ → Option (Record × List ℕ × List ℕ)
with_body kind number body = option_and_then (with_place kind number body.0) (eight_in body.1)

abbrev pub with_size : RecordKind → ℕ → ℕ × List ℕ → Option (Record × List ℕ × List ℕ)
with_size kind number size = option_and_then (with_body kind number) (many_in size.0 size.1)

abbrev pub with_number : RecordKind → ℕ × List ℕ → Option (Record × List ℕ × List ℕ)
with_number kind number = option_and_then (with_size kind number.0) (two_in number.1)

abbrev pub with_kind : List ℕ → RecordKind → Option (Record × List ℕ × List ℕ)
with_kind bytes kind = option_and_then (with_number kind) (two_in bytes)

abbrev pub with_first : ℕ × List ℕ → Option (Record × List ℕ × List ℕ)
with_first first = option_and_then (with_kind first.1) (kind_of first.0)

-- the record with which the bytes begin, its body, and what stands behind it
abbrev pub record_in : List ℕ → Option (Record × List ℕ × List ℕ)
record_in bytes = option_and_then with_first (one_in bytes)
