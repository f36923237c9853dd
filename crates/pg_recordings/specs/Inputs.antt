-- The input of a world that a record is.
use Rattle.std.specs.Prelude.{ℕ, ◌+◌, ◌&&◌, nat_eq, nat_lt, if◌then◌else◌, List, [], ◌∷◌, ◌++◌, length, slice_index, Option, Some, None, option_map}
use Rattle.std.specs.Int.{w16, to_be_bytes}
use Rattle.pg_wire.specs.Check.{chk}
use Rattle.pg_wire.specs.Head.{two_at}
use Rattle.pg_record.specs.declared.record.RecordKind.{RecordKind}
use Rattle.pg_record.specs.declared.record.RecordKind.TheVariants.{Measurement, Configuration, Command, Edit, Tick, Connect, Hangup, Drain, Question, Unspelled}
use Rattle.pg_record.specs.Numbers.{four_in}
use Rattle.pg_session.specs.Events as session
use Rattle.pg_gateway.specs.GatewayEvents.{asks, tick}
use Rattle.pg_serve.specs.Inputs.{InputValue, pmu_bytes, sub_bytes, names}
use Rattle.pg_replay.specs.Lines.{Asked, nothing, hands, queue, link_stats, session_stats, asked_in}

-- the frame with this second byte, this IDCODE and these bytes from its SOC on, up to its CHK (C37.118.2, 6.2)
abbrev pub front_in : ℕ → ℕ → List ℕ → List ℕ
front_in kind id behind = 0xAA ∷ kind ∷ to_be_bytes w16 (8 + length behind) ++ to_be_bytes w16 id ++ behind

abbrev pub framed : ℕ → ℕ → List ℕ → List ℕ
framed kind id behind = front_in kind id behind ++ to_be_bytes w16 (chk (front_in kind id behind))

-- FRAMESIZE is below 65536
abbrev pub frame_in : ℕ → ℕ → List ℕ → Option (List ℕ)
frame_in kind id behind = if nat_lt (8 + length behind) 65536 then Some (framed kind id behind) else None

-- a data frame of version 2: SOC, FRACSEC and the blocks (C37.118.2, 6.3)
abbrev pub measured_frame : ℕ → List ℕ → Option (List ℕ)
measured_frame id body = if nat_lt (length body) 8 then None else frame_in 0x02 id body

-- a command frame of version 2: IDCODE and CMD (C37.118.2, 6.6), without a time, by an unreliable clock
abbrev pub command_frame : List ℕ → Option (List ℕ)
command_frame body =
    if nat_eq (length body) 4
    then frame_in 0x42 (two_at body 0) (0 ∷ 0 ∷ 0 ∷ 0 ∷ 15 ∷ 0 ∷ 0 ∷ 0 ∷ slice_index body 2 ∷ slice_index body 3 ∷ [])
    else None

-- a source is 1 to 65534, a subscriber 1 to 65535
abbrev pub of_source : {A : Type 0} → ℕ → Option A → Option A
of_source id x = if nat_lt 0 id && nat_lt id 65535 then x else None

abbrev pub of_subscriber : {A : Type 0} → ℕ → Option A → Option A
of_subscriber id x = if nat_lt 0 id then x else None

abbrev pub measured : ℕ → List ℕ → Option InputValue
measured id body = option_map (pmu_bytes id) (measured_frame id body)

abbrev pub commanded : ℕ → List ℕ → Option InputValue
commanded u body = option_map (sub_bytes u) (command_frame body)

-- a line of an operator that is handed to a world
abbrev pub edited : Option Asked → Option InputValue
edited (Some (hands f)) = Some f
edited _ = None

abbrev pub drained : ℕ → Option (ℕ × List ℕ) → Option InputValue
drained u (Some (room, rest)) = if nat_lt 65535 room then None else Some (names (asks u (session.drain room)))
drained u None = None

-- the input that a record of this kind is, with its number and its body
abbrev pub input_in : RecordKind → ℕ → List ℕ → Option InputValue
input_in Measurement id body = of_source id (measured id body)
input_in Configuration id body = of_source id (Some (pmu_bytes id body))
input_in Command u body = of_subscriber u (commanded u body)
input_in Edit u body = edited (asked_in body)
input_in Tick u body = option_map (λ x. names (tick x.0)) (four_in body)
input_in Connect u body = of_subscriber u (Some (names (asks u session.connect)))
input_in Hangup u body = of_subscriber u (Some (names (asks u session.hangup)))
input_in Drain u body = of_subscriber u (drained u (four_in body))
input_in Question u body = None
input_in Unspelled u body = None
