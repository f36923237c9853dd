-- The sum over the bytes of a block, or of what a drain handed out: FNV-1a with 64 bits.
use Rattle.std.specs.Prelude.{ℕ, ◌*◌, ◌/◌, ◌%◌, ◌^◌, List, length, drop, fold, bit_xor}
use Rattle.std.specs.Int.{w64, from_le_bytes}
use Rattle.std.specs.Simd.{first_chunks}

abbrev pub with_number : ℕ → ℕ → ℕ
with_number sum number = bit_xor sum number * 0x100000001b3 % 2 ^ 64

-- over the numbers that eight bytes each are, the lowest byte first, and then over each byte that is left
abbrev pub sum_of : List ℕ → ℕ
sum_of bytes =
    fold with_number
    (fold (λ sum eight. with_number sum (from_le_bytes w64 eight)) 0xcbf29ce484222325 (first_chunks 8 (length bytes / 8) bytes))
    (drop (length bytes / 8 * 8) bytes)

-- both halves of it in 32 bits
abbrev pub short_sum_of : List ℕ → ℕ
short_sum_of bytes = bit_xor (sum_of bytes) (sum_of bytes / 2 ^ 32) % 2 ^ 32
