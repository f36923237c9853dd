-- The keys of a map, beside the members that it stands for.
use Rattle.std.proofs.Common.{◌≡◌, ap, refl, Bool, map, List, [], ◌∷◌, string_bytes}
use Rattle.std.specs.Prelude.{◌&&◌, ◌||◌}
use Rattle.std.specs.List.{list_all, list_any}
use Rattle.std.specs.Map.{keys_of}
use Rattle.toml.proofs.Views.{Entry}
use Rattle.toml.specs.View.{members_view}
use Rattle.pg_lines.specs.Words.{Text}
use Rattle.pg_operator.specs.Setups.{is_among, keys_within}

pub keys_within-list_all : (names : List Text) (es : List Entry) → list_all (λ k. is_among names (string_bytes k)) (keys_of es) ≡ keys_within names (members_view es)
keys_within-list_all names [] = refl
keys_within-list_all names (e ∷ es) = ap (λ b. is_among names (string_bytes e.0) && b) (keys_within-list_all names es)

pub list_any-map : {X Y : Type 0} (p : Y → Bool) (f : X → Y) (xs : List X) → list_any (λ x. p (f x)) xs ≡ list_any p (map f xs)
list_any-map p f [] = refl
list_any-map p f (x ∷ xs) = ap (λ b. p (f x) || b) (list_any-map p f xs)
