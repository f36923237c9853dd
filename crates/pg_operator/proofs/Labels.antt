-- Whether digits alone end a name, told byte by byte.
use Rattle.std.proofs.Common.{◌≡◌, ◌∙◌, sym, refl, ℕ, Bool, true, false, List, [], ◌∷◌, cond}
use Rattle.std.specs.Prelude.{◌==◌, ◌&&◌, ◌||◌}
use Rattle.std.specs.Char.{is_ascii_digit}
use Rattle.std.specs.List.{list_all, onto_first}
use Rattle.pg_lines.specs.Words.{Text}
use Rattle.pg_operator.specs.Addresses.{labels_of, last_of}

-- after the bytes before these, which are digits alone behind their last dot or not
abbrev pub digits_end : Bool → Text → Bool
digits_end b [] = b
digits_end b (x ∷ xs) = digits_end (x == 46 || (b && is_ascii_digit x)) xs

-- the same of what stands between dots
abbrev digits_last : Bool → List Text → Bool
digits_last b [] = b
digits_last b (w ∷ []) = b && list_all is_ascii_digit w
digits_last b (w ∷ x ∷ ws) = list_all is_ascii_digit (last_of (x ∷ ws))

and_assoc : (a b c : Bool) → ((a && b) && c) ≡ (a && (b && c))
and_assoc true b c = refl
and_assoc false b c = refl

and_true : (a : Bool) → (a && true) ≡ a
and_true true = refl
and_true false = refl

-- what is left is never no text
data Parts : List Text → Type 0 where
  parts : (w : Text) (ws : List Text) → Parts (w ∷ ws)

parts_cond : (b : Bool) (x : ℕ) (ws : List Text) → Parts ws → Parts (cond b ([] ∷ ws) (onto_first x ws))
parts_cond true x ws p = parts [] ws
parts_cond false x _ (parts w ws) = parts (x ∷ w) ws

are_parts : (xs : Text) → Parts (labels_of xs)
are_parts [] = parts [] []
are_parts (x ∷ xs) = parts_cond (x == 46) x (labels_of xs) (are_parts xs)

after_dot : (b : Bool) (ws : List Text) → Parts ws → digits_last true ws ≡ digits_last b ([] ∷ ws)
after_dot b _ (parts w []) = refl
after_dot b _ (parts w (x ∷ ws)) = refl

after_other : (b : Bool) (x : ℕ) (ws : List Text) → Parts ws → digits_last (b && is_ascii_digit x) ws ≡ digits_last b (onto_first x ws)
after_other b x _ (parts w []) = and_assoc b (is_ascii_digit x) (list_all is_ascii_digit w)
after_other b x _ (parts w (y ∷ ws)) = refl

one_more : (dot b : Bool) (x : ℕ) (ws : List Text) → Parts ws → digits_last (dot || (b && is_ascii_digit x)) ws ≡ digits_last b (cond dot ([] ∷ ws) (onto_first x ws))
one_more true b x ws p = after_dot b ws p
one_more false b x ws p = after_other b x ws p

by_parts : (b : Bool) (xs : Text) → digits_end b xs ≡ digits_last b (labels_of xs)
by_parts b [] = sym (and_true b)
by_parts b (x ∷ xs) = by_parts (x == 46 || (b && is_ascii_digit x)) xs ∙ one_more (x == 46) b x (labels_of xs) (are_parts xs)

last_label : (ws : List Text) → Parts ws → digits_last true ws ≡ list_all is_ascii_digit (last_of ws)
last_label _ (parts w []) = refl
last_label _ (parts w (x ∷ ws)) = refl

pub digits_end_so : (xs : Text) → digits_end true xs ≡ list_all is_ascii_digit (last_of (labels_of xs))
digits_end_so xs = by_parts true xs ∙ last_label (labels_of xs) (are_parts xs)
