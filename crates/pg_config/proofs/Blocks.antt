-- What a block that was read is, and that each block is read.
use Rattle.std.proofs.Common.{◌≡◌, ℕ, ◌+◌, ◌*◌, ◌/◌, ◌%◌, ◌<◌, ◌≤◌, List, ◌++◌, length, take, drop, Result, Ok, Err, sym, ap, ap₂, ◌∙◌, subst, arith, length-append, length-drop, IfOk, nat_lt, ◌==◌, not, if◌then◌else◌}
use Rattle.std.proofs.lemmas.List.{take-append-drop, length-take-le, get_or_append_left}
use Rattle.std.proofs.Math.Seq.{take-append_seam, drop-append_seam}
use Rattle.std.proofs.lemmas.Bool.{cond_both, eqb-true, not-false, ltb-false}
use Rattle.std.proofs.lemmas.Bool.Decides.{nat_tests}
use Rattle.pg_wire.specs.declared.refusal.Refusal.{Refusal}
use Rattle.pg_wire.specs.declared.refusal.Refusal.TheVariants.{BadLength, FloatFormat, ConfigTooLarge}
use Rattle.pg_wire.specs.Head.{two_at}
use Rattle.pg_config.specs.Parts.{IsBlock, size_by_counts}
use Rattle.pg_config.specs.Reading.{block_at}

-- a block at the front of these bytes, and what is left behind it
pub record Found (bytes : List ℕ) (x : List ℕ × List ℕ) : Type 0 where
  pub block : IsBlock x.0
  pub whole : bytes ≡ x.0 ++ x.1
  pub left : 4 ≤ length x.1

-- the front of the bytes has their counts
two-front : (xs ys : List ℕ) (i : ℕ) → i + 1 < length xs → two_at (xs ++ ys) i ≡ two_at xs i
two-front xs ys i lt = ap₂ (λ a b. 256 * a + b) (get_or_append_left xs ys 0 i (omega arith)) (get_or_append_left xs ys 0 (i + 1) lt)

size-front : (xs ys : List ℕ) → 26 ≤ length xs → size_by_counts (xs ++ ys) ≡ size_by_counts xs
size-front xs ys long =
    let a : two_at (xs ++ ys) 20 ≡ two_at xs 20 = two-front xs ys 20 (omega arith) in
    let b : two_at (xs ++ ys) 22 ≡ two_at xs 22 = two-front xs ys 22 (omega arith) in
    let c : two_at (xs ++ ys) 24 ≡ two_at xs 24 = two-front xs ys 24 (omega arith) in
    ap₂ (λ x y. x + y) (ap₂ (λ x y. 30 + 20 * x + 20 * y) a b) (ap (λ x. 260 * x) c)

-- what stands at the front, where the bytes are long enough
found_at : (bytes : List ℕ) → size_by_counts bytes + 4 ≤ length bytes → size_by_counts bytes ≤ 2000 → two_at bytes 18 / 2 % 8 ≡ 0
    → Found bytes (take (size_by_counts bytes) bytes, drop (size_by_counts bytes) bytes)
found_at bytes sized small fixed =
    let block = take (size_by_counts bytes) bytes in
    let rest = drop (size_by_counts bytes) bytes in
    let len : length block ≡ size_by_counts bytes = length-take-le (size_by_counts bytes) bytes (omega arith) in
    let whole : block ++ rest ≡ bytes = take-append-drop (size_by_counts bytes) bytes in
    let same : size_by_counts bytes ≡ size_by_counts block = ap size_by_counts (sym whole) ∙ size-front block rest (omega arith) in
    let format : two_at bytes 18 ≡ two_at block 18 = ap (λ l. two_at l 18) (sym whole) ∙ two-front block rest 18 (omega arith) in
    record {
      block = record { size = len ∙ same; bounded = omega arith; fixed = ap (λ x. x / 2 % 8) (sym format) ∙ fixed };
      whole = sym whole;
      left = omega (arith, length-drop (size_by_counts bytes) bytes);
    }

pub block-found : (bytes : List ℕ) → IfOk (block_at bytes) (Found bytes)
unfolding block_at
block-found bytes =
    cond_both (nat_lt (length bytes) 34) (Err BadLength) _ (λ r. IfOk r (Found bytes)) (λ _. tt)
    (λ long. cond_both (not (two_at bytes 18 / 2 % 8 == 0)) (Err FloatFormat) _ (λ r. IfOk r (Found bytes)) (λ _. tt)
    (λ fixed. cond_both (nat_lt 2000 (size_by_counts bytes)) (Err ConfigTooLarge) _ (λ r. IfOk r (Found bytes)) (λ _. tt)
    (λ small. cond_both (nat_lt (length bytes) (size_by_counts bytes + 4)) (Err BadLength) (Ok (take (size_by_counts bytes) bytes, drop (size_by_counts bytes) bytes)) (λ r. IfOk r (Found bytes)) (λ _. tt)
    (λ there. found_at bytes (ltb-false _ _ there) (ltb-false _ _ small) (eqb-true _ _ (not-false _ fixed))))))

-- a block that was read stands at the front
pub found-of : (bytes : List ℕ) (x : List ℕ × List ℕ) → block_at bytes ≡ Ok x → Found bytes x
found-of bytes x h = subst (λ r. IfOk r (Found bytes)) h (block-found bytes)

pub found_is_long : (bytes : List ℕ) (block after : List ℕ) → block_at bytes ≡ Ok (block, after) → 30 ≤ length block
found_is_long bytes block after h = let size : length block ≡ size_by_counts block = (found-of bytes (block, after) h).block.size in omega arith

-- a block with four bytes behind it is read
pub block-read : (block more : List ℕ) → IsBlock block → 4 ≤ length more → block_at (block ++ more) ≡ Ok (block, more)
unfolding block_at
block-read block more is left =
    let size : length block ≡ size_by_counts block = is.size in
    let bounded : length block ≤ 2000 = is.bounded in
    let len : length (block ++ more) ≡ length block + length more = length-append block more in
    let same : size_by_counts (block ++ more) ≡ size_by_counts block = size-front block more (omega arith) in
    let fixed : two_at (block ++ more) 18 / 2 % 8 ≡ 0 = ap (λ x. x / 2 % 8) (two-front block more 18 (omega arith)) ∙ is.fixed in
    let by : size_by_counts (block ++ more) ≡ length block = same ∙ sym size in
    go (length (block ++ more)) (two_at (block ++ more) 18 / 2 % 8) (size_by_counts (block ++ more)) (Ok (take (size_by_counts (block ++ more)) (block ++ more), drop (size_by_counts (block ++ more)) (block ++ more)))
    (omega arith) fixed (omega arith) (omega arith)
    ∙ ap (λ n. Ok (take n (block ++ more), drop n (block ++ more))) by
    ∙ ap₂ (λ x y. Ok (x, y)) (take-append_seam block more) (drop-append_seam block more)
  where
    go : (len format size : ℕ) (x : Result (List ℕ × List ℕ) Refusal) → 34 ≤ len → format ≡ 0 → size ≤ 2000 → size + 4 ≤ len
        → (if nat_lt len 34 then Err BadLength else if not (format == 0) then Err FloatFormat else if nat_lt 2000 size then Err ConfigTooLarge else
        if nat_lt len (size + 4) then Err BadLength else x) ≡ x
    go len format size x a b c d = grind (arith, nat_tests)
