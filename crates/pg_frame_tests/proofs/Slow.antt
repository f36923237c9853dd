-- Steps of the loops over all arrivals and over the open slots' numbers.
use Rattle.std.proofs.Common.{◌≡◌, ◌∙◌, ℕ, zero, suc, ◌+◌, ◌<◌, ◌≤◌, List, [], ◌∷◌, ◌++◌, length, get_or, take, drop, ap, sym, refl, arith}
use Rattle.std.specs.Prelude.{insert}
use Rattle.std.proofs.lemmas.List.{drop_more, drop_all, take_all}
use Rattle.std.proofs.lemmas.Grind.{common_steps}
use Rattle.pg_align.specs.Histories.{Arrival, arrived, parts_from, put_number}

-- a number that is less than the first of these comes before it
put_before : (n m : ℕ) (ms : List ℕ) → n < m → put_number n (m ∷ ms) ≡ n ∷ m ∷ ms
put_before n m ms h = grind (arith, common_steps)

-- a number that is the first of these is there
put_there : (n m : ℕ) (ms : List ℕ) → n ≡ m → put_number n (m ∷ ms) ≡ m ∷ ms
put_there n m ms e = grind (arith, common_steps)

-- putting it before the first number above it puts it into its place
pub put_inserts : (n : ℕ) (ns : List ℕ) (at : ℕ) → at < length ns → n < get_or ns at 0 → take at ns ++ put_number n (drop at ns) ≡ put_number n ns → insert ns at n ≡ put_number n ns
put_inserts n ns at h l past =
    let rest = drop_more ns at 0 h in
    let here = ap (put_number n) rest ∙ put_before n (get_or ns at 0) (drop (at + 1) ns) l in
    let whole : put_number n (drop at ns) ≡ n ∷ drop at ns = here ∙ ap (λ (xs : List ℕ). n ∷ xs) (sym rest) in
    ap (λ (xs : List ℕ). take at ns ++ xs) (sym whole) ∙ past

-- a number that is there stays
pub put_finds : (n : ℕ) (ns : List ℕ) (at : ℕ) → at < length ns → n ≡ get_or ns at 0 → take at ns ++ put_number n (drop at ns) ≡ put_number n ns → ns ≡ put_number n ns
put_finds n ns at h e past =
    let rest = drop_more ns at 0 h in
    let here : put_number n (drop at ns) ≡ drop at ns = ap (put_number n) rest ∙ (put_there n (get_or ns at 0) (drop (at + 1) ns) e ∙ sym rest) in
    let whole : take at ns ++ drop at ns ≡ put_number n ns = ap (λ (xs : List ℕ). take at ns ++ xs) (sym here) ∙ past in
    grind (arith, common_steps)

-- past all of them it is the last
pub put_last : (n : ℕ) (ns : List ℕ) (at : ℕ) → length ns ≤ at → take at ns ++ put_number n (drop at ns) ≡ put_number n ns → ns ++ n ∷ [] ≡ put_number n ns
put_last n ns at h past = let g = rw (take_all at ns h, drop_all at ns h) at past in g

module _ {X : Type 0} where
  -- as many parts as places
  pub length-parts : (arrivals : List (Arrival X)) (slot from n : ℕ) → length (parts_from arrivals slot from n) ≡ n
  length-parts arrivals slot from zero = refl
  length-parts arrivals slot from (suc n) = ap suc (length-parts arrivals slot (from + 1) n)

  -- one place more
  parts_more : (arrivals : List (Arrival X)) (slot from n : ℕ) → parts_from arrivals slot from (n + 1) ≡ parts_from arrivals slot from n ++ arrived arrivals slot (from + n) ∷ []
  parts_more arrivals slot from zero = grind (arith, common_steps)
  parts_more arrivals slot from (suc n) =
      let below = parts_more arrivals slot (from + 1) n in
      let same : from + 1 + n ≡ from + suc n = omega arith in
      let more : suc n + 1 ≡ suc (n + 1) = omega arith in
      rw (more, ← same) (ap (λ xs. arrived arrivals slot from ∷ xs) below)

  -- the same from the first place on
  pub parts_so_far : (arrivals : List (Arrival X)) (slot n : ℕ) → parts_from arrivals slot 0 n ++ arrived arrivals slot n ∷ [] ≡ parts_from arrivals slot 0 (n + 1)
  parts_so_far arrivals slot n =
      let same : 0 + n ≡ n = omega arith in
      ap (λ (k : ℕ). parts_from arrivals slot 0 n ++ arrived arrivals slot k ∷ []) (sym same) ∙ sym (parts_more arrivals slot 0 n)
