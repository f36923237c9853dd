-- Reading of configuration frames from left to right, with the first refusal that holds.
use Rattle.std.specs.Prelude.{◌≡◌, ◌⊎◌, ℕ, zero, suc, ℤ, ◌+◌, ◌-◌, ◌/◌, ◌%◌, ◌^◌, List, [], ◌∷◌, length, take, drop, map, slice_index, Result, Ok, Err, IsOk, nat_lt, ◌==◌, ◌||◌, not, if◌then◌else◌}
use Rattle.std.specs.List.{list_any}
use Rattle.std.specs.Int.{w16, cast_signed}
use Rattle.pg_wire.specs.declared.refusal.Refusal.{Refusal}
use Rattle.pg_wire.specs.declared.refusal.Refusal.TheVariants.{NoMemory, WrongType, BadLength, BadTimeBase, BadCounts, FloatFormat, ConfigTooLarge, DuplicatePmu, WrongId}
use Rattle.pg_wire.specs.declared.kind.Kind.{Kind}
use Rattle.pg_wire.specs.declared.kind.Kind.TheVariants.{CfgOne, CfgTwo}
use Rattle.pg_wire.specs.Head.{two_at, four_at}
use Rattle.pg_config.specs.declared.source.Announced.{Announced}
use Rattle.pg_config.specs.Parts.{size_by_counts, part_with, block_id, is_reserved, repeats}

infixl 10 ◌>>=◌
abbrev pub ◌>>=◌ : {A B : Type 0} → Result A Refusal → (A → Result B Refusal) → Result B Refusal
(Ok x) >>= f = f x
(Err e) >>= f = Err e

-- What a function returned is what reading gives. Where it gives a value, memory may have run out.
abbrev pub ReadsAs : {Y : Type 0} → Result Y Refusal → Result Y Refusal → Type 0
ReadsAs (Ok y) read = read ≡ Ok y
ReadsAs (Err e) read = (read ≡ Err e) ⊎ ((e ≡ NoMemory) × IsOk read)

-- the resolution and the rate of a frame
abbrev pub base_at : List ℕ → ℕ
base_at frame = four_at frame 14 % 2 ^ 24

abbrev pub rate_at : List ℕ → ℤ
rate_at frame = cast_signed w16 (two_at frame (length frame - 4))

-- how many blocks a frame tells of
unfoldable pub count_at : List ℕ → Result ℕ Refusal
count_at frame =
    if not (slice_index frame 1 / 16 == 2 || slice_index frame 1 / 16 == 3) then Err WrongType else
    if nat_lt (length frame) 24 then Err BadLength else
    if base_at frame == 0 then Err BadTimeBase else
    if two_at frame 18 == 0 || nat_lt 16 (two_at frame 18) then Err BadCounts else
    Ok (two_at frame 18)

-- the block at the front of what is left of a frame, and what is left behind it
unfoldable pub block_at : List ℕ → Result (List ℕ × List ℕ) Refusal
block_at bytes =
    if nat_lt (length bytes) 34 then Err BadLength else
    if not (two_at bytes 18 / 2 % 8 == 0) then Err FloatFormat else
    if nat_lt 2000 (size_by_counts bytes) then Err ConfigTooLarge else
    if nat_lt (length bytes) (size_by_counts bytes + 4) then Err BadLength else
    Ok (take (size_by_counts bytes) bytes, drop (size_by_counts bytes) bytes)

unfoldable pub blocks_at : ℕ → List ℕ → Result (List (List ℕ) × List ℕ) Refusal
blocks_at zero bytes = Ok ([], bytes)
blocks_at (suc n) bytes = do
  first ← block_at bytes
  others ← blocks_at n first.1
  Ok (first.0 ∷ others.0, others.1)

-- the blocks, once what is behind them and all IDCODEs were looked at
unfoldable pub tail_at : ℕ → List (List ℕ) → List ℕ → Result (List (List ℕ)) Refusal
tail_at source blocks rest =
    if not (length rest == 4) then Err BadLength else
    if repeats (map block_id blocks) then Err DuplicatePmu else
    if list_any is_reserved (source ∷ map block_id blocks) then Err WrongId else
    Ok blocks

-- which of the two a frame is
abbrev pub kind_at : List ℕ → Kind
kind_at frame = if slice_index frame 1 / 16 == 2 then CfgOne else CfgTwo

-- what a frame of these blocks announces
abbrev pub announced_of : List ℕ → List (List ℕ) → Announced
announced_of frame blocks = record {
  kind = kind_at frame;
  config = record { source = two_at frame 4; parts = map (part_with (base_at frame) (rate_at frame)) blocks };
}

-- the blocks of a frame
abbrev pub frame_blocks : List ℕ → Result (List (List ℕ)) Refusal
frame_blocks frame = do
  count ← count_at frame
  read ← blocks_at count (drop 20 frame)
  tail_at (two_at frame 4) read.0 read.1

-- what a frame announces
abbrev pub config_of : List ℕ → Result Announced Refusal
config_of frame = do
  blocks ← frame_blocks frame
  Ok (announced_of frame blocks)
