-- What a tape holds, and the bytes of its records.
use Rattle.std.specs.Prelude.{ℕ, Bool, ◌+◌, ◌-◌, ◌^◌, min, List, [], ◌∷◌, ◌++◌, length, take, drop, Option, Some, None, ◌&&◌, nat_eq, nat_le, nat_lt, if◌then◌else◌}
use Rattle.std.specs.Int.{w32, w64, to_be_bytes}
use Rattle.pg_record.specs.declared.record.Record.{Record}
use Rattle.pg_record.specs.declared.record.RecordKind.{RecordKind}
use Rattle.pg_record.specs.declared.tape.Front.{Front}
use Rattle.pg_record.specs.declared.tape.Front.TheVariants.{Nothing, Four, Eight}
use Rattle.pg_record.specs.declared.tape.TapedCall.{TapedCall}
use Rattle.pg_record.specs.Records.{record_bytes}
use Rattle.pg_record.specs.Checksums.{short_sum_of}

pub record Taped : Type 0 where
  -- the calls whose records were ended, and the bodies
  pub calls : List TapedCall
  pub bodies : List ℕ
  -- of the record that was begun: its kind, its number, the front of its body, and where the rest begins
  pub begun : Option (RecordKind × ℕ × Front × ℕ)
  -- for how many calls, and for how many bytes, there is room
  pub most : ℕ
  pub room : ℕ
  -- how many records found none
  pub missed : ℕ

-- whether a record finds room: also among the two bytes that count its body
abbrev pub has_room : Taped → List ℕ → Bool
has_room t rest = nat_lt (length t.calls) t.most && (nat_le (length rest) 65527 && nat_le (length rest) (t.room - length t.bodies))

abbrev pub begun : Taped → RecordKind → ℕ → Front → List ℕ → Taped
begun t kind number front rest =
    if has_room t rest then record t { bodies = t.bodies ++ rest; begun = Some (kind, number, front, length t.bodies) } else
    record t { begun = None }

-- the call of a record that was begun so, when its bodies are these
abbrev pub taped_call : RecordKind × ℕ × Front × ℕ → List ℕ → ℕ → ℕ → ℕ → ℕ → ℕ → TapedCall
taped_call began bodies place at answer handed sum = record {
  entry = record { kind = began.0; number = began.1; place = place; at = at; answer = answer; handed = handed; sum = sum };
  front = began.2;
  from = began.3;
  len = length bodies - began.3;
}

abbrev pub ended_by : Option (RecordKind × ℕ × Front × ℕ) → Taped → ℕ → ℕ → ℕ → ℕ → ℕ → Taped
ended_by (Some began) t place at answer handed sum = record t { calls = t.calls ++ taped_call began t.bodies place at answer handed sum ∷ []; begun = None }
ended_by None t place at answer handed sum = record t { missed = min (t.missed + 1) (2 ^ 64 - 1) }

abbrev pub ended : Taped → ℕ → ℕ → ℕ → ℕ → ℕ → Taped
ended t = ended_by t.begun t

-- the record of a drain that handed these bytes out: how many they are, at most 65,535, and their sum, which is 0 for none
abbrev pub ended_drain : Taped → ℕ → ℕ → List ℕ → Taped
ended_drain t place at bytes = ended t place at 0 (min (length bytes) 65535) (if nat_eq (length bytes) 0 then 0 else short_sum_of bytes)

-- ---- its records as bytes

abbrev pub front_bytes : Front → List ℕ
front_bytes Nothing = []
front_bytes (Four number) = to_be_bytes w32 number
front_bytes (Eight number) = to_be_bytes w64 number

-- the body of a call among these bodies
abbrev pub body_of : List ℕ → TapedCall → List ℕ
body_of bodies call = front_bytes call.front ++ take call.len (drop call.from bodies)

-- its record; none where two bytes do not count the body
abbrev pub spelled_call : List ℕ → TapedCall → List ℕ
spelled_call bodies call = if nat_lt (length (body_of bodies call)) (2 ^ 16) then record_bytes call.entry (body_of bodies call) else []

abbrev pub spelled : List ℕ → List TapedCall → List ℕ
spelled bodies [] = []
spelled bodies (call ∷ calls) = spelled_call bodies call ++ spelled bodies calls
