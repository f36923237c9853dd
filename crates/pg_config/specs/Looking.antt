-- What the steps of the reader give: it looks at the whole frame first, and takes memory then.
use Rattle.std.specs.Prelude.{◌≡◌, ℕ, List, ◌∷◌, map, take, drop, Result, Ok, Err, All, false}
use denote.Bor.{Bor}
use Rattle.std.specs.List.{list_any}
use Rattle.pg_wire.specs.declared.refusal.Refusal.{Refusal}
use Rattle.pg_wire.specs.Head.{two_at}
use Rattle.pg_config.specs.Parts.{IsPart, part_with, block_id, is_reserved, repeats}
use Rattle.pg_config.specs.Reading.{blocks_at, base_at, rate_at}

-- what going through all blocks gives: their IDCODEs, and what is left
abbrev pub Skims : ℕ → Result (List ℕ × Bor (List ℕ)) Refusal → Result (List (List ℕ) × List ℕ) Refusal → Type 0
Skims count (Ok x) read = (blocks : List (List ℕ)) × (read ≡ Ok (blocks, x.1.now)) × (map block_id blocks ≡ take count x.0)
Skims count (Err e) read = read ≡ Err e

-- A frame of this source and of that many blocks, each of which can be kept.
pub record Checked (frame : List ℕ) (source count : ℕ) (read : Result (List (List ℕ)) Refusal) : Type 0 where
  pub list : List (List ℕ)
  pub rest : List ℕ
  pub source_is : source ≡ two_at frame 4
  pub there : blocks_at count (drop 20 frame) ≡ Ok (list, rest)
  pub once : repeats (map block_id list) ≡ false
  pub named : list_any is_reserved (two_at frame 4 ∷ map block_id list) ≡ false
  pub is : read ≡ Ok list

-- what looking at the whole frame gives: whose it is, and how many blocks it has
abbrev pub Checks : List ℕ → Result (ℕ × ℕ) Refusal → Result (List (List ℕ)) Refusal → Type 0
Checks frame (Ok x) read = Checked frame x.0 x.1 read
Checks frame (Err e) read = read ≡ Err e

-- The blocks are there, and each can be kept.
pub record Holds (frame : List ℕ) (count : ℕ) (bytes : List ℕ) : Type 0 where
  pub list : List (List ℕ)
  pub rest : List ℕ
  pub read : blocks_at count bytes ≡ Ok (list, rest)
  pub each : All (λ block. IsPart (part_with (base_at frame) (rate_at frame) block)) list

-- a block that was found, and what is left behind it
abbrev pub Blocks : Result (Bor (List ℕ) × Bor (List ℕ)) Refusal → Result (List ℕ × List ℕ) Refusal → Type 0
Blocks (Ok x) read = read ≡ Ok (x.0.now, x.1.now)
Blocks (Err e) read = read ≡ Err e
