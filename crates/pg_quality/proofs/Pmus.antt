-- The PMUs of a source, one after another.
use Rattle.std.proofs.Common.{add-one, append_assoc, subst, ◌≡◌, ℕ, zero, suc, ◌+◌, ◌<◌, List, [], ◌∷◌, ◌++◌, length, take, drop, map, get_or, sym, ap, ◌∙◌, arith}
use Rattle.std.specs.Prelude.{slice_set, slice_index_or}
use Rattle.std.proofs.lemmas.List.{get_or_default, length-append, length-drop, length-map, length-take}
use Rattle.std.proofs.lemmas.List.Edits.{map_over_more}
use Rattle.pg_config.specs.Parts.{Part, block_id, data_len}
use Rattle.pg_quality.specs.Announcing.{blocks_known, pmu_of, pmus_from}
use Rattle.pg_quality.specs.declared.pmu_quality.PmuQuality.{PmuQuality}

-- one more is done
pub each_more : (f : PmuQuality → PmuQuality) (xs ys : List PmuQuality) (i : ℕ) (d : PmuQuality) → i < length xs → ys ≡ map f (take i xs) ++ drop i xs
    → slice_set ys i (f (slice_index_or ys i d)) ≡ map f (take (i + 1) xs) ++ drop (i + 1) xs
each_more f xs ys i d below is =
    let same : length ys ≡ length (map f (take i xs) ++ drop i xs) = ap length is in
    let inside : i < length ys = omega (arith, same, length-append (map f (take i xs)) (drop i xs), length-map (take i xs) f, length-take i xs, length-drop i xs, below) in
    map_over_more f xs ys i (get_or ys i d) below is (get_or_default ys i d (get_or ys i d) inside)

-- the PMU of one more configuration
pmus-suc : {A : Type 0} (f : A → Part) (known : List PmuQuality) (xs : List A) (i start : ℕ) (x : A) (front whole : List PmuQuality) → i < length xs → x ≡ get_or xs i x
    → front ++ pmus_from start known (drop i (map f xs)) ≡ whole
    → (front ++ pmu_of (f x) start (blocks_known (block_id (f x).block) known) ∷ []) ++ pmus_from (start + data_len (f x)) known (drop (suc i) (map f xs)) ≡ whole
pmus-suc f known [] i start x front whole h is old = absurd (omega arith)
pmus-suc f known (y ∷ ys) zero start x front whole h is old =
    subst (λ z. (front ++ pmu_of (f z) start (blocks_known (block_id (f z).block) known) ∷ []) ++ pmus_from (start + data_len (f z)) known (map f ys) ≡ whole) (sym is)
    (append_assoc front (pmu_of (f y) start (blocks_known (block_id (f y).block) known) ∷ []) _ ∙ old)
pmus-suc f known (y ∷ ys) (suc i) start x front whole h is old = pmus-suc f known ys i start x front whole (omega arith) is old

pub pmus_more : {A : Type 0} (f : A → Part) (known : List PmuQuality) (xs : List A) (i start : ℕ) (x : A) (front whole : List PmuQuality) → i < length xs → x ≡ get_or xs i x
    → front ++ pmus_from start known (drop i (map f xs)) ≡ whole
    → (front ++ pmu_of (f x) start (blocks_known (block_id (f x).block) known) ∷ []) ++ pmus_from (start + data_len (f x)) known (drop (i + 1) (map f xs)) ≡ whole
pmus_more f known xs i start x front whole h is old =
    rw (add-one i) (pmus-suc f known xs i start x front whole h is old)
