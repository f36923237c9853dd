-- The bytes of a name, one after another.
use Rattle.std.proofs.Common.{◌≡◌, ℕ, ◌+◌, ◌<◌, List, ◌++◌, length, take, drop, map, get_or, ap, arith}
use Rattle.std.specs.Prelude.{slice_set, slice_index_or}
use Rattle.std.proofs.lemmas.List.{get_or_default, length-append, length-drop, length-map, length-take}
use Rattle.std.proofs.lemmas.List.Edits.{map_over_more}

-- one more is done
pub byte_more : (f : ℕ → ℕ) (xs ys : List ℕ) (i d : ℕ) → i < length xs → ys ≡ map f (take i xs) ++ drop i xs
    → slice_set ys i (f (slice_index_or ys i d)) ≡ map f (take (i + 1) xs) ++ drop (i + 1) xs
byte_more f xs ys i d below is =
    let same : length ys ≡ length (map f (take i xs) ++ drop i xs) = ap length is in
    let inside : i < length ys = omega (arith, same, length-append (map f (take i xs)) (drop i xs), length-map (take i xs) f, length-take i xs, length-drop i xs, below) in
    map_over_more f xs ys i (get_or ys i d) below is (get_or_default ys i d (get_or ys i d) inside)
