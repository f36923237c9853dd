-- The words of a line: which texts are numbers, keys of PMUs and hexadecimal, and what they stand for.
use Rattle.std.specs.Prelude.{ℕ, ◌-◌, ◌++◌, take, slice_get, ◌==◌, ◌&&◌, Bool, false, not, List, [], ◌∷◌, length, Option, Some, None, option_map, option_and_then, if◌then◌else◌, nat_lt, nat_le, slice_index, Result, Ok, Err}
use Rattle.std.specs.Char.{is_ascii_digit}
use Rattle.std.specs.List.{list_all}
use Rattle.std.specs.Str.Parse.{digits_value}
use Rattle.hex.specs.Hex.{decode_of}
use Rattle.hex.specs.declared.error.FromHexError.{FromHexError}
use Rattle.std.specs.Option.{option_map_or}
use Rattle.std.specs.Int.{w16, to_be_bytes}
use Rattle.pg_wire.specs.Check.{chk}
use Rattle.pg_wire.specs.declared.ids.PmuKey.{PmuKey}

abbrev pub Text : Type 0
Text = List ℕ

-- `0` (48), or one to ten digits of which the first is no zero
abbrev pub is_number : Text → Bool
is_number w = (nat_lt 0 (length w) && nat_le (length w) 10) && (not (slice_index w 0 == 48 && nat_lt 1 (length w)) && list_all is_ascii_digit w)

-- a number in its range
abbrev pub number_in : ℕ → ℕ → Text → Option ℕ
number_in least most w = if is_number w && (nat_le least (digits_value 10 w) && nat_le (digits_value 10 w) most) then Some (digits_value 10 w) else None

abbrev pub pmu_id_in : Text → Option ℕ
pmu_id_in = number_in 1 65534

abbrev pub stream_id_in : Text → Option ℕ
stream_id_in = number_in 1 65534

abbrev pub subscriber_in : Text → Option ℕ
subscriber_in = number_in 1 65535

abbrev pub ring_size_in : Text → Option ℕ
ring_size_in = number_in 1 1024

abbrev pub ring_bytes_in : Text → Option ℕ
ring_bytes_in = number_in 16 16777216

-- what stands before the first byte c, and what after it
abbrev pub halves : ℕ → Text → Option (Text × Text)
halves c [] = None
halves c (b ∷ bs) = if b == c then Some ([], bs) else option_map (λ p. (b ∷ p.0, p.1)) (halves c bs)

abbrev pub key_of : ℕ → ℕ → PmuKey
key_of source pmu = record { source = source; pmu = pmu }

-- `S/P`; the slash is 47
abbrev pub pair_of : Text × Text → Option PmuKey
pair_of (s, p) = option_and_then (λ source. option_map (key_of source) (pmu_id_in p)) (pmu_id_in s)

abbrev pub pair_in : Text → Option PmuKey
pair_in w = option_and_then pair_of (halves 47 w)

-- `S/P`, or `P` alone, which is `P/P`
abbrev pub key_by : Text → Option (Text × Text) → Option PmuKey
key_by w (Some parts) = pair_of parts
key_by w None = option_map (λ pmu. key_of pmu pmu) (pmu_id_in w)

abbrev pub key_in : Text → Option PmuKey
key_in w = key_by w (halves 47 w)

-- an even number of hexadecimal digits of either case, at least two
abbrev pub decoded : Result (List ℕ) FromHexError → Option (List ℕ)
decoded (Ok bytes) = Some bytes
decoded (Err e) = None

abbrev pub hex_in : Text → Option (List ℕ)
hex_in [] = None
hex_in (c ∷ cs) = decoded (decode_of (c ∷ cs))

-- a plus (43) ends the word
abbrev pub ends_in_plus : Text → Bool
ends_in_plus w = option_map_or (λ c. c == 43) (slice_get w (length w - 1)) false

-- the bytes, and CHK behind them
abbrev pub with_check : List ℕ → List ℕ
with_check bytes = bytes ++ to_be_bytes w16 (chk bytes)

-- bytes in hexadecimal; a plus at their end stands for their CHK
abbrev pub frame_in : Text → Option (List ℕ)
frame_in w = if ends_in_plus w then option_map with_check (hex_in (take (length w - 1) w)) else hex_in w
