-- The time quality of a slot's frame: of the frames present, each leap second flag that one has, and the worst code.
use Rattle.std.specs.Prelude.{ℕ, max, List, fold, bit_and, bit_or}

-- the leap second flags, bits 6 to 4
abbrev pub leap_flags : ℕ → ℕ
leap_flags quality = bit_and quality 0x70

-- the quality code, bits 3 to 0: 0 a locked clock, 15 an unreliable one
abbrev pub quality_code : ℕ → ℕ
quality_code quality = bit_and quality 0x0F

abbrev pub joined_flags : List ℕ → ℕ
joined_flags qualities = fold (λ flags quality. bit_or flags (leap_flags quality)) 0 qualities

abbrev pub greatest_code : List ℕ → ℕ
greatest_code qualities = fold (λ code quality. max code (quality_code quality)) 0 qualities

-- bit 7 is 0
abbrev pub joined_quality : List ℕ → ℕ
joined_quality qualities = bit_or (joined_flags qualities) (greatest_code qualities)
