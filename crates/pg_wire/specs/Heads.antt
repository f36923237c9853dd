-- The head that a program has, and the start of a frame that is written from it.
use Rattle.std.specs.Prelude.{ℕ, ◌+◌, ◌*◌, ◌^◌, List, ◌∷◌, ◌++◌}
use Rattle.std.specs.Int.{w16, w32, to_be_bytes}
use Rattle.pg_wire.specs.declared.head.Head.{Head}
use Rattle.pg_wire.specs.Check.{chk}
use Rattle.pg_wire.specs.Head.{Heading}
use Rattle.pg_wire.specs.Kinds.{kind_number}

-- a head, but for its size, which is the frame's length
abbrev pub heading_of : Head → Heading
heading_of h = record {
  kind = kind_number h.kind;
  version = h.version;
  id = h.id;
  soc = h.soc;
  quality = h.quality;
  frac = h.frac;
}

-- the first fourteen bytes of a frame of this size
abbrev pub start_of : Heading → ℕ → List ℕ
start_of h size =
    0xAA ∷ (16 * h.kind + h.version) ∷ to_be_bytes w16 size ++ to_be_bytes w16 h.id
    ++ to_be_bytes w32 h.soc ++ to_be_bytes w32 (h.quality * 2 ^ 24 + h.frac)

-- the bytes, and their check behind them
abbrev pub ended : List ℕ → List ℕ
ended bytes = bytes ++ to_be_bytes w16 (chk bytes)
