-- Reading blocks one after the other, as a loop does.
use Rattle.std.proofs.Common.{◌≡◌, ℕ, suc, ◌-◌, ◌+◌, ◌≤◌, ◌<◌, List, [], ◌∷◌, ◌++◌, Result, Ok, Err, refl, sym, ap, ◌∙◌, append_assoc, arith, All, subst, length, length-append, take, map}
use Rattle.std.proofs.Math.Seq.{get_or-append_seam}
use Rattle.std.proofs.lemmas.List.{map_push, take_more_set}
use Rattle.std.specs.Prelude.{slice_set}
use Rattle.pg_config.specs.Parts.{block_id}
use Rattle.std.proofs.lemmas.List.{append-nil}
use Rattle.pg_wire.specs.declared.refusal.Refusal.{Refusal}
use Rattle.pg_config.specs.Reading.{◌>>=◌, block_at, blocks_at}

-- what was read before, and what is still read
abbrev pub with_front : List (List ℕ) → Result (List (List ℕ) × List ℕ) Refusal → Result (List (List ℕ) × List ℕ) Refusal
with_front front read = read >>= λ x. Ok (front ++ x.0, x.1)

regroup : (front : List (List ℕ)) (n : List ℕ) (read : Result (List (List ℕ) × List ℕ) Refusal) → with_front front (read >>= λ x. Ok (n ∷ x.0, x.1)) ≡ with_front (front ++ n ∷ []) read
regroup front n (Ok x) = ap (λ (ns : List (List ℕ)). Ok (ns, x.1)) (simp append_assoc)
regroup front n (Err f) = refl

pub goes_on : (front : List (List ℕ)) (count i : ℕ) (bytes : List ℕ) (n : List ℕ) (after : List ℕ) (total : Result (List (List ℕ) × List ℕ) Refusal) → i < count → block_at bytes ≡ Ok (n, after)
    → with_front front (blocks_at (count - i) bytes) ≡ total → with_front (front ++ n ∷ []) (blocks_at (count - (i + 1)) after) ≡ total
unfolding blocks_at
goes_on front count i bytes n after total lt h so_far =
    let k : count - i ≡ suc (count - (i + 1)) = omega arith in
    let one : with_front front (blocks_at (count - i) bytes) ≡ with_front (front ++ n ∷ []) (blocks_at (count - (i + 1)) after) = rw (k, h) (regroup front n (blocks_at (count - (i + 1)) after)) in
    sym one ∙ so_far

pub ends : (e : Refusal) (front : List (List ℕ)) (count i : ℕ) (bytes : List ℕ) (total : Result (List (List ℕ) × List ℕ) Refusal) → i < count → block_at bytes ≡ Err e
    → with_front front (blocks_at (count - i) bytes) ≡ total → total ≡ Err e
unfolding blocks_at
ends e front count i bytes total lt failed so_far =
    let k : count - i ≡ suc (count - (i + 1)) = omega arith in
    let one : with_front front (blocks_at (count - i) bytes) ≡ Err e = rw (k, failed) refl in
    sym so_far ∙ one

pub is_done : (front : List (List ℕ)) (count i : ℕ) (bytes : List ℕ) (total : Result (List (List ℕ) × List ℕ) Refusal) → count ≤ i → with_front front (blocks_at (count - i) bytes) ≡ total → total ≡ Ok (front, bytes)
unfolding blocks_at
is_done front count i bytes total le so_far =
    let k : count - i ≡ 0 = omega arith in
    let one : with_front front (blocks_at (count - i) bytes) ≡ Ok (front, bytes) = rw k (ap (λ (ns : List (List ℕ)). Ok (ns, bytes)) (append-nil front)) in
    sym so_far ∙ one

-- a block that is read next is one of all
pub is_among : (P : List ℕ → Type 0) (front : List (List ℕ)) (n : List ℕ) (read : Result (List (List ℕ) × List ℕ) Refusal) (blocks : List (List ℕ)) (rest : List ℕ)
    → with_front (front ++ n ∷ []) read ≡ Ok (blocks, rest) → All P blocks → P n
is_among P front n (Ok x) blocks rest is each =
    let all : (front ++ n ∷ []) ++ x.0 ≡ blocks = ap (λ r. first_of r) is in
    here front n x.0 (subst (All P) (sym all ∙ append_assoc front (n ∷ []) x.0) each)
  where
    first_of : Result (List (List ℕ) × List ℕ) Refusal → List (List ℕ)
    first_of (Ok y) = y.0
    first_of (Err e) = []

    here : (front : List (List ℕ)) (n : List ℕ) (more : List (List ℕ)) → All P (front ++ n ∷ more) → P n
    here front n more each = subst P (get_or-append_seam front n more n) (each (length front) n (omega (arith, length-append front (n ∷ more))))
is_among P front n (Err e) blocks rest is each = absurd (cc)

-- a refusal is no value
pub no_refusal : {X : Type 0} (e : Refusal) (x : X) (read : Result X Refusal) → read ≡ Err e → read ≡ Ok x → ⊥
no_refusal e x read failed found = (let no : Err e ≡ Ok x = sym failed ∙ found in cc)

-- what was read is read once
pub same_blocks : (bs cs : List (List ℕ)) (x y : List ℕ) (read : Result (List (List ℕ) × List ℕ) Refusal) → read ≡ Ok (bs, x) → read ≡ Ok (cs, y) → bs ≡ cs
same_blocks bs cs x y read a b = ap blocks_of (sym a ∙ b) where
  blocks_of : Result (List (List ℕ) × List ℕ) Refusal → List (List ℕ)
  blocks_of (Ok z) = z.0
  blocks_of (Err e) = []

pub front_none : (read : Result (List (List ℕ) × List ℕ) Refusal) → with_front [] read ≡ read
front_none (Ok x) = refl
front_none (Err e) = refl

pub at_first : (count : ℕ) (bytes : List ℕ) → with_front [] (blocks_at (count - 0) bytes) ≡ blocks_at count bytes
at_first count bytes = front_none (blocks_at (count - 0) bytes) ∙ ap (λ n. blocks_at n bytes) (omega arith)

-- one more IDCODE is written down
pub ids_more : (front : List (List ℕ)) (block ids : List ℕ) (i place id : ℕ) → map block_id front ≡ take i ids → place ≡ i → id ≡ block_id block → i < length ids
    → map block_id (front ++ block ∷ []) ≡ take (i + 1) (slice_set ids place id)
ids_more front block ids i place id so_far at is lt = rw (at, is) (map_push block_id front block ∙ ap (λ x. x ++ block_id block ∷ []) so_far ∙ sym (take_more_set ids i (block_id block) lt))
