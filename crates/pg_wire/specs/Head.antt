-- A frame as its head and its body.
use Rattle.std.specs.Prelude.{◌≡◌, ◌⊎◌, ℕ, ◌+◌, ◌-◌, ◌*◌, ◌/◌, ◌^◌, ◌<◌, List, ◌∷◌, ◌++◌, length, take, drop, slice_index, None}
use Rattle.std.specs.Int.{w16, w32, to_be_bytes}
use Rattle.pg_wire.specs.Check.{chk}
use Rattle.pg_wire.specs.Frame.{IsWhole, skip_of, version_of}

-- a whole frame with a right check and a known version
abbrev pub IsFrame : List ℕ → Type 0
IsFrame bytes = IsWhole bytes × (skip_of bytes ≡ None)

-- a frame's head, but for its size
pub record Heading : Type 0 where
  pub kind : ℕ
  pub version : ℕ
  pub id : ℕ
  pub soc : ℕ
  pub quality : ℕ
  pub frac : ℕ

pub record HeadFits (h : Heading) : Type 0 where
  pub kind : h.kind < 6
  pub version : (h.version ≡ 1) ⊎ (h.version ≡ 2)
  pub id : h.id < 2 ^ 16
  pub soc : h.soc < 2 ^ 32
  pub quality : h.quality < 2 ^ 8
  pub frac : h.frac < 2 ^ 24

-- the bytes before the check
abbrev pub front_of : Heading → List ℕ → List ℕ
front_of h body =
    0xAA ∷ (16 * h.kind + h.version) ∷ to_be_bytes w16 (16 + length body) ++ to_be_bytes w16 h.id
    ++ to_be_bytes w32 h.soc ++ to_be_bytes w32 (h.quality * 2 ^ 24 + h.frac) ++ body

-- the one spelling of a head and a body
abbrev pub frame_of : Heading → List ℕ → List ℕ
frame_of h body = front_of h body ++ to_be_bytes w16 (chk (front_of h body))

-- the number of two, of three, of four bytes from i on
abbrev pub two_at : List ℕ → ℕ → ℕ
two_at bytes i = 256 * slice_index bytes i + slice_index bytes (i + 1)

abbrev pub three_at : List ℕ → ℕ → ℕ
three_at bytes i = 65536 * slice_index bytes i + two_at bytes (i + 1)

abbrev pub four_at : List ℕ → ℕ → ℕ
four_at bytes i = 16777216 * slice_index bytes i + three_at bytes (i + 1)

-- the head that a frame's bytes give
abbrev pub head_of : List ℕ → Heading
head_of bytes = record {
  kind = slice_index bytes 1 / 16;
  version = version_of bytes;
  id = two_at bytes 4;
  soc = four_at bytes 6;
  quality = slice_index bytes 10;
  frac = three_at bytes 11;
}

-- what stands between a frame's head and its check
abbrev pub body_of : List ℕ → List ℕ
body_of bytes = take (length bytes - 16) (drop 14 bytes)

-- The bytes are the spelling of their head and their body.
pub record IsSpelled (bytes : List ℕ) : Type 0 where
  pub fits : HeadFits (head_of bytes)
  pub whole : bytes ≡ frame_of (head_of bytes) (body_of bytes)

-- What a head and a body spell is a frame, with that head and that body.
pub record SpellsBack (h : Heading) (body : List ℕ) : Type 0 where
  pub frame : IsFrame (frame_of h body)
  pub same_head : head_of (frame_of h body) ≡ h
  pub same_body : body_of (frame_of h body) ≡ body
