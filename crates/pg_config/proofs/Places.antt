-- Where the data blocks of a frame begin and end.
use Rattle.std.proofs.Common.{append_assoc, subst, ◌≡◌, ℕ, zero, suc, ◌+◌, ◌<◌, ◌≤◌, List, [], ◌∷◌, ◌++◌, length, take, drop, map, get_or, refl, sym, ap, ◌∙◌, add_assoc, add-zero, arith}
use Rattle.pg_config.specs.Parts.{Part, data_len, data_lens, ends_from}

pub ends_from-length : (at : ℕ) (ps : List Part) → length (ends_from at ps) ≡ length ps
ends_from-length at [] = refl
ends_from-length at (p ∷ ps) = ap suc (ends_from-length (at + data_len p) ps)

pub place-at : (at : ℕ) (ps : List Part) (i d : ℕ) → i ≤ length ps → get_or (at ∷ ends_from at ps) i d ≡ at + data_lens (take i ps)
place-at at ps zero d h = sym (add-zero at)
place-at at [] (suc i) d h = absurd (omega arith)
place-at at (p ∷ ps) (suc i) d h = place-at (at + data_len p) ps i d (omega arith) ∙ add_assoc at (data_len p) (data_lens (take i ps))

-- one more data block's end
pub ends_from-more : {A : Type 0} (f : A → Part) (xs : List A) (i at : ℕ) (x : A) (front whole : List ℕ) → i < length xs → x ≡ get_or xs i x
    → front ++ ends_from at (drop i (map f xs)) ≡ whole → (front ++ (at + data_len (f x)) ∷ []) ++ ends_from (at + data_len (f x)) (drop (suc i) (map f xs)) ≡ whole
ends_from-more f [] i at x front whole h is old = absurd (omega arith)
ends_from-more f (y ∷ ys) zero at x front whole h is old = subst (λ z. (front ++ (at + data_len (f z)) ∷ []) ++ ends_from (at + data_len (f z)) (map f ys) ≡ whole) (sym is) (append_assoc front ((at + data_len (f y)) ∷ []) _ ∙ old)
ends_from-more f (y ∷ ys) (suc i) at x front whole h is old = ends_from-more f ys i at x front whole (omega arith) is old
