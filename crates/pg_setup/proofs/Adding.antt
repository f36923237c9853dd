-- A step of a loop that adds what is made of an edit, or passes it over.
use Rattle.std.proofs.Common.{◌≡◌, ◌∙◌, sym, ap, refl, ℕ, ◌+◌, ◌<◌, ◌≤◌, Bool, true, false, List, [], ◌∷◌, ◌++◌, drop, length, get_or, Option, Some, None, append_assoc, append-nil}
use Rattle.std.specs.Prelude.{if◌then◌else◌, map, ◌||◌}
use Rattle.std.specs.List.{cons_option, filter_map, list_any}
use Rattle.pg_gateway.specs.declared.edit.Edit.{Edit}
use Rattle.pg_setup.specs.Alike.{has}
use Rattle.pg_setup.specs.Edits.{once_after}
use Rattle.std.proofs.lemmas.List.{at_drop_more, at_drop_all}

-- what is made of the rest stands behind what is there
abbrev pub with_rest : {X Y : Type 0} → (X → Option Y) → List Y → List X → List Y
with_rest f out xs = out ++ filter_map f xs

pub one_added : {X Y : Type 0} (f : X → Option Y) (out : List Y) (x : X) (xs : List X) (y : Y) → f x ≡ Some y
    → with_rest f (out ++ y ∷ []) xs ≡ with_rest f out (x ∷ xs)
one_added f out x xs y h = append_assoc out (y ∷ []) (filter_map f xs) ∙ sym (ap (λ o. out ++ cons_option o (filter_map f xs)) h)

pub one_passed : {X Y : Type 0} (f : X → Option Y) (out : List Y) (x : X) (xs : List X) → f x ≡ None
    → with_rest f out xs ≡ with_rest f out (x ∷ xs)
one_passed f out x xs h = sym (ap (λ o. out ++ cons_option o (filter_map f xs)) h)

-- the same, at place i of a list
pub next_added : {X Y : Type 0} (f : X → Option Y) (all : List X) (i : ℕ) (x : X) (y : Y) (out new whole : List Y)
    → i < length all → x ≡ get_or all i x → f x ≡ Some y → new ≡ out ++ y ∷ [] → with_rest f out (drop i all) ≡ whole
    → with_rest f new (drop (i + 1) all) ≡ whole
next_added f all i x y out new whole l at h grown so_far =
    ap (λ ys. with_rest f ys (drop (i + 1) all)) grown ∙ one_added f out x (drop (i + 1) all) y h
    ∙ ap (λ z. with_rest f out (z ∷ drop (i + 1) all)) at ∙ sym (at_drop_more (with_rest f out) all i x l) ∙ so_far

pub next_passed : {X Y : Type 0} (f : X → Option Y) (all : List X) (i : ℕ) (x : X) (out whole : List Y)
    → i < length all → x ≡ get_or all i x → f x ≡ None → with_rest f out (drop i all) ≡ whole
    → with_rest f out (drop (i + 1) all) ≡ whole
next_passed f all i x out whole l at h so_far =
    one_passed f out x (drop (i + 1) all) h
    ∙ ap (λ z. with_rest f out (z ∷ drop (i + 1) all)) at ∙ sym (at_drop_more (with_rest f out) all i x l) ∙ so_far

pub none_left : {X Y : Type 0} (f : X → Option Y) (all : List X) (i : ℕ) (out whole : List Y)
    → length all ≤ i → with_rest f out (drop i all) ≡ whole → out ≡ whole
none_left f all i out whole l so_far = sym (append-nil out) ∙ sym (at_drop_all (with_rest f out) all i l) ∙ so_far

-- ---- each edit once

pub once_added : (all : List Edit) (i : ℕ) (x : Edit) (copies new whole : List Edit) → i < length all → x ≡ get_or all i x → has copies x ≡ false
    → new ≡ copies ++ x ∷ [] → once_after copies (drop i all) ≡ whole → once_after new (drop (i + 1) all) ≡ whole
once_added all i x copies new whole l at absent grown so_far =
    let rest : List Edit = drop (i + 1) all in
    ap (λ ys. once_after ys rest) grown
    ∙ sym (ap (λ t. if t then once_after copies rest else once_after (copies ++ x ∷ []) rest) absent)
    ∙ ap (λ z. once_after copies (z ∷ rest)) at ∙ sym (at_drop_more (once_after copies) all i x l) ∙ so_far

pub once_passed : (all : List Edit) (i : ℕ) (x : Edit) (copies whole : List Edit) → i < length all → x ≡ get_or all i x → has copies x ≡ true
    → once_after copies (drop i all) ≡ whole → once_after copies (drop (i + 1) all) ≡ whole
once_passed all i x copies whole l at there so_far =
    let rest : List Edit = drop (i + 1) all in
    sym (ap (λ t. if t then once_after copies rest else once_after (copies ++ x ∷ []) rest) there)
    ∙ ap (λ z. once_after copies (z ∷ rest)) at ∙ sym (at_drop_more (once_after copies) all i x l) ∙ so_far

-- ---- lists made of lists

pub made_of : {X Y Z : Type 0} (f : Y → Option Z) (g : X → Y) (xs : List X) → filter_map f (map g xs) ≡ filter_map (λ x. f (g x)) xs
made_of f g [] = refl
made_of f g (x ∷ xs) = ap (cons_option (f (g x))) (made_of f g xs)

pub any_made : {X Y : Type 0} (p : Y → Bool) (g : X → Y) (xs : List X) → list_any p (map g xs) ≡ list_any (λ x. p (g x)) xs
any_made p g [] = refl
any_made p g (x ∷ xs) = ap (λ r. p (g x) || r) (any_made p g xs)

pub pushed_so : {X Y : Type 0} (g : X → Y) (xs : List X) (x : X) → map g (xs ++ x ∷ []) ≡ map g xs ++ g x ∷ []
pushed_so g [] x = refl
pushed_so g (y ∷ ys) x = ap (λ l. g y ∷ l) (pushed_so g ys x)
