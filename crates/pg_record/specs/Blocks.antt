-- Heads of blocks as bytes.
use Rattle.std.specs.Prelude.{ℕ, ◌^◌, ◌<◌, List, ◌++◌, Option, Some, None, option_and_then, option_map, ◌==◌, if◌then◌else◌}
use Rattle.std.specs.Int.{w16, w32, w64, to_be_bytes}
use Rattle.pg_record.specs.Numbers.{two_in, four_in, eight_in}
use Rattle.pg_record.specs.declared.block.BlockHead.{BlockHead}

-- the name of the format in ASCII, "pdcgrec1", as a number
abbrev pub magic : ℕ
magic = 0x7064636772656331

abbrev pub head_bytes : BlockHead → List ℕ
head_bytes h = to_be_bytes w64 magic ++ to_be_bytes w16 h.worker ++ to_be_bytes w32 h.size ++ to_be_bytes w64 h.start ++ to_be_bytes w64 h.sum

-- the numbers fit their bytes
pub record HeadFits (h : BlockHead) : Type 0 where
  pub worker : h.worker < 2 ^ 16
  pub size : h.size < 2 ^ 32
  pub start : h.start < 2 ^ 64
  pub sum : h.sum < 2 ^ 64

-- ---- reading, a field after the other

abbrev pub with_sum : ℕ → ℕ → ℕ → ℕ × List ℕ → BlockHead × List ℕ
with_sum worker size start sum = (record { worker = worker; size = size; start = start; sum = sum.0 }, sum.1)

abbrev pub with_start : ℕ → ℕ → ℕ × List ℕ → Option (BlockHead × List ℕ)
with_start worker size start = option_map (with_sum worker size start.0) (eight_in start.1)

abbrev pub with_size : ℕ → ℕ × List ℕ → Option (BlockHead × List ℕ)
with_size worker size = option_and_then (with_start worker size.0) (eight_in size.1)

abbrev pub with_worker : ℕ × List ℕ → Option (BlockHead × List ℕ)
with_worker worker = option_and_then (with_size worker.0) (four_in worker.1)

abbrev pub with_name : ℕ × List ℕ → Option (BlockHead × List ℕ)
with_name name = if name.0 == magic then option_and_then with_worker (two_in name.1) else None

-- the head with which the bytes begin, and what stands behind it
abbrev pub head_in : List ℕ → Option (BlockHead × List ℕ)
head_in bytes = option_and_then with_name (eight_in bytes)
