-- The end of a configuration frame.
use Rattle.std.proofs.Common.{◌≡◌, ◌≢◌, ℕ, ◌<◌, ◌^◌, List, ◌∷◌, length, drop, map, Ok, Err, Option, Some, None, refl, sym, ap, ◌∙◌, arith, true, false, ◌==◌, ◌&&◌, nat_lt, if◌then◌else◌}
use Rattle.std.proofs.lemmas.Bool.{ne_eqb}
use Rattle.std.proofs.lemmas.Bool.Decides.{nat_tests}
use Rattle.std.specs.List.{list_any}
use Rattle.pg_wire.specs.declared.refusal.Refusal.TheVariants.{BadLength, DuplicatePmu, WrongId}
use Rattle.pg_wire.specs.Head.{two_at}
use Rattle.pg_config.specs.Parts.{block_id, is_reserved, repeats}
use Rattle.pg_config.specs.Reading.{count_at, blocks_at, tail_at, frame_blocks}

pub frame_blocks_are : (frame bytes : List ℕ) (count : ℕ) (blocks : List (List ℕ)) (rest : List ℕ) → count_at frame ≡ Ok count → bytes ≡ drop 20 frame
    → blocks_at count bytes ≡ Ok (blocks, rest) → frame_blocks frame ≡ tail_at (two_at frame 4) blocks rest
frame_blocks_are frame bytes count blocks rest counted is read =
    let there : blocks_at count (drop 20 frame) ≡ Ok (blocks, rest) = ap (blocks_at count) (sym is) ∙ read in
    rw (counted, there) refl

pub tail_short : (source : ℕ) (blocks : List (List ℕ)) (rest : List ℕ) → length rest ≢ 4 → tail_at source blocks rest ≡ Err BadLength
unfolding tail_at
tail_short source blocks rest ne =
    let f : (length rest == 4) ≡ false = ne_eqb (length rest) 4 ne in rw f refl

pub tail_twice : (source : ℕ) (blocks : List (List ℕ)) (rest : List ℕ) → length rest ≡ 4 → repeats (map block_id blocks) ≡ true → tail_at source blocks rest ≡ Err DuplicatePmu
unfolding tail_at
tail_twice source blocks rest four twice = rw (four, twice) refl

pub tail_reserved : (source : ℕ) (blocks : List (List ℕ)) (rest : List ℕ) → length rest ≡ 4 → repeats (map block_id blocks) ≡ false
    → list_any is_reserved (source ∷ map block_id blocks) ≡ true → tail_at source blocks rest ≡ Err WrongId
unfolding tail_at
tail_reserved source blocks rest four once reserved = rw (four, once, reserved) refl

pub tail_there : (source : ℕ) (blocks : List (List ℕ)) (rest : List ℕ) → length rest ≡ 4 → repeats (map block_id blocks) ≡ false
    → list_any is_reserved (source ∷ map block_id blocks) ≡ false → tail_at source blocks rest ≡ Ok blocks
unfolding tail_at
tail_there source blocks rest four once free = rw (four, once, free) refl

-- a number that names a source is not reserved
pub named_id : (n s : ℕ) → Some s ≡ (if nat_lt 0 n && nat_lt n 65535 then Some n else None) → (s ≡ n) × (is_reserved n ≡ false)
named_id n s h = (same h, free h) where
  same : Some s ≡ (if nat_lt 0 n && nat_lt n 65535 then Some n else None) → s ≡ n
  same h = grind (arith, nat_tests)

  free : Some s ≡ (if nat_lt 0 n && nat_lt n 65535 then Some n else None) → is_reserved n ≡ false
  free h = grind (arith, nat_tests)

abbrev no_id : Option ℕ
no_id = None

-- a number that names none is reserved
pub reserved_id : (n : ℕ) → n < 2 ^ 16 → no_id ≡ (if nat_lt 0 n && nat_lt n 65535 then Some n else None) → is_reserved n ≡ true
reserved_id n lt h = grind (arith, nat_tests)
