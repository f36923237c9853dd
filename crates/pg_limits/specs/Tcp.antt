-- A line of the system's table of TCP connections, /proc/net/tcp of Linux.
use Rattle.std.specs.Prelude.{ℕ, ◌==◌, ◌&&◌, not, Bool, false, List, [], ◌∷◌, length, slice_index, Option, Some, None, option_map, option_and_then, if◌then◌else◌}
use Rattle.std.specs.Char.{is_ascii_digit}
use Rattle.std.specs.Int.{w16, w32, from_be_bytes, from_le_bytes}
use Rattle.std.specs.List.{list_all}
use Rattle.std.specs.Option.{unwrap_or}
use Rattle.std.specs.Result.{result_ok}
use Rattle.std.specs.Str.{trim_start}
use Rattle.hex.specs.Hex.{decode_sized}

abbrev pub Text : Type 0
Text = List ℕ

-- what stands before the first byte c, and what after it
abbrev pub halves : ℕ → Text → Option (Text × Text)
halves c [] = None
halves c (b ∷ bs) = if b == c then Some ([], bs) else option_map (λ p. (b ∷ p.0, p.1)) (halves c bs)

-- the first field of a text, and what follows it: fields are separated by blanks (32)
abbrev pub field_in : Text → Text × Text
field_in text = unwrap_or (halves 32 (trim_start text)) (trim_start text, [])

-- `N:`, one decimal digit or more; the colon is 58
abbrev pub is_label : Option (Text × Text) → Bool
is_label (Some (digits, [])) = not (length digits == 0) && list_all is_ascii_digit digits
is_label _ = false

-- so many bytes, two hexadecimal digits for each
abbrev pub bytes_in : ℕ → Text → Option (List ℕ)
bytes_in count w = result_ok (decode_sized w count)

-- a number of one byte, of two and of four, the highest digit first
abbrev pub state_in : Text → Option ℕ
state_in w = option_map (λ bytes. slice_index bytes 0) (bytes_in 1 w)

abbrev pub port_in : Text → Option ℕ
port_in w = option_map (from_be_bytes w16) (bytes_in 2 w)

abbrev pub count_in : Text → Option ℕ
count_in w = option_map (from_be_bytes w32) (bytes_in 4 w)

-- an address, its last byte first: `0100007F` is 127.0.0.1
abbrev pub address_in : Text → Option ℕ
address_in w = option_map (from_le_bytes w32) (bytes_in 4 w)

-- two parts with a colon between them
abbrev pub both_in : {A B : Type 0} → (Text → Option A) → (Text → Option B) → Text → Option (A × B)
both_in left right w = option_and_then (λ p. option_and_then (λ a. option_map (λ b. (a, b)) (right p.1)) (left p.0)) (halves 58 w)

-- the two ends of a connection, each an address and a port; its state; and how many bytes were written and not acknowledged
pub record Row : Type 0 where
  pub local : ℕ × ℕ
  pub remote : ℕ × ℕ
  pub state : ℕ
  pub unacknowledged : ℕ

-- the fields `AABBCCDD:PPPP`, the same of the other end, `SS`, and `TTTTTTTT:RRRRRRRR`, of which the first is what is not acknowledged
abbrev pub row_of : Text → Text → Text → Text → Option Row
row_of local remote state queues =
    option_and_then (λ l. option_and_then (λ r. option_and_then (λ s. option_map (λ q. record { local = l; remote = r; state = s; unacknowledged = q.0 })
    (both_in count_in count_in queues)) (state_in state)) (both_in address_in port_in remote)) (both_in address_in port_in local)

-- a line: its label, these four fields, and whatever follows
abbrev pub row_in : Text → Option Row
row_in line =
    let label = field_in line in
    let local = field_in label.1 in
    let remote = field_in local.1 in
    let state = field_in remote.1 in
    if is_label (halves 58 label.0) then row_of local.0 remote.0 state.0 (field_in state.1).0 else None
