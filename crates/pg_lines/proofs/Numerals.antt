-- A number's text, and what `parse` gives of it.
use Rattle.std.proofs.Common.{◌≡◌, ◌&&◌, ℕ, true, not, refl, arith, length, Result, Ok, nat_lt, nat_le, leb-true, le-leb, ltb-true}
use Rattle.std.proofs.lemmas.Bool.{and_parts}
use Rattle.std.specs.Prelude.{◌==◌, slice_index}
use Rattle.std.specs.List.{list_all}
use Rattle.std.specs.Char.{is_ascii_digit}
use Rattle.std.specs.Str.Parse.{digits_value, ParsesUnsigned}
use Rattle.std.proofs.lemmas.Str.Parse.{IsDigitsTest, numerals_by_value, digits_value_short, parse_gives}
use Rattle.pg_lines.specs.Words.{Text, is_number}

tells : IsDigitsTest (λ ds. list_all is_ascii_digit ds ≡ true)
tells = record {
  empty = refl;
  parts = λ c cs e. let k = and_parts (is_ascii_digit c) (list_all is_ascii_digit cs) e in let m = and_parts (nat_le 48 c) (nat_le c 57) k.0 in ((leb-true 48 c m.0, leb-true c 57 m.1), k.1);
  more = λ c cs k e i. (le-leb 48 c k.0 i && le-leb c 57 k.1 i) && e i;
}

pub number_value : (w : Text) {E : Type 0} (r : Result ℕ E) → ParsesUnsigned 64 10 w r → is_number w ≡ true → r ≡ Ok (digits_value 10 w)
number_value w r h e =
    let both = and_parts (nat_lt 0 (length w) && nat_le (length w) 10) (not (slice_index w 0 == 48 && nat_lt 1 (length w)) && list_all is_ascii_digit w) e in
    let size = and_parts (nat_lt 0 (length w)) (nat_le (length w) 10) both.0 in
    let digits = and_parts (not (slice_index w 0 == 48 && nat_lt 1 (length w))) (list_all is_ascii_digit w) both.1 in
    let own = numerals_by_value (λ ds. list_all is_ascii_digit ds ≡ true) tells in
    parse_gives own 64 w r h digits.1 (ltb-true 0 (length w) size.0) (omega (arith, digits_value_short own w 10 digits.1 (leb-true (length w) 10 size.1)))
