-- A text cut in two.
use Rattle.std.proofs.Common.{◌≡◌, ◌≢◌, ◌∙◌, sym, ap, refl, arith, ℕ, suc, ◌<◌, ◌++◌, [], ◌∷◌, length, get_or, Option, Some, None, option_map, Bor, eq-eqb, ne_eqb}
use Rattle.std.proofs.lemmas.Str.Pattern.{IsSplitOnceResult, split_parts}
use Rattle.pg_limits.specs.Tcp.{Text, halves}

at_first : (c : ℕ) (xs ys : Text) → ((i : ℕ) → i < length xs → get_or xs i 0 ≢ c) → halves c (xs ++ (c ∷ ys)) ≡ Some (xs, ys)
at_first c [] ys free = rw (eq-eqb c c refl) refl
at_first c (x ∷ xs) ys free =
    rw (ne_eqb x c (free 0 (omega arith))) (ap (option_map (λ (p : Text × Text). (x ∷ p.0, p.1))) (at_first c xs ys (λ i l. free (suc i) (omega (arith, l)))))

nowhere : (c : ℕ) (xs : Text) → ((i : ℕ) → i < length xs → get_or xs i 0 ≢ c) → halves c xs ≡ None
nowhere c [] free = refl
nowhere c (x ∷ xs) free =
    rw (ne_eqb x c (free 0 (omega arith))) (ap (option_map (λ (p : Text × Text). (x ∷ p.0, p.1))) (nowhere c xs (λ i l. free (suc i) (omega (arith, l)))))

pub halves_are : (c : ℕ) (bs : Text) (r : Option (Bor Text × Bor Text)) → IsSplitOnceResult c bs r → c < 128 → option_map (λ p. (p.0.now, p.1.now)) r ≡ halves c bs
halves_are c bs None h low = sym (nowhere c bs (split_parts c bs None h low))
halves_are c bs (Some p) h low = let parts = split_parts c bs (Some p) h low in sym (ap (halves c) parts.0 ∙ at_first c p.0.now p.1.now parts.1)
