-- What is appended, piece by piece.
use Rattle.std.proofs.Common.{◌≡◌, ℕ, suc, ◌+◌, ◌<◌, List, [], ◌∷◌, ◌++◌, length, take, get_or, Option, Some, None, sym, ap, ◌∙◌, arith}
use Rattle.std.specs.Io.KnownBytes.{Appends}
use Rattle.std.proofs.Math.Seq.{take-suc}
use Rattle.std.proofs.lemmas.List.{append_assoc, append-nil, length-take}
use Rattle.pg_lines.specs.Printing.{reason_text, reasons_from}

pub appends_more : (a b c : Option (List ℕ)) (xs ys : List ℕ) → Appends a b xs → Appends b c ys → Appends a c (xs ++ ys)
appends_more None b c xs ys first second = tt
appends_more (Some x) None c xs ys first second = absurd first
appends_more (Some x) (Some y) None xs ys first second = absurd second
appends_more (Some x) (Some y) (Some z) xs ys first second = second ∙ ap (λ l. l ++ ys) first ∙ append_assoc x xs ys

reasons_more : (n : ℕ) (xs : List ℕ) (c : ℕ) → reasons_from n (xs ++ c ∷ []) ≡ reasons_from n xs ++ reason_text (n + length xs) c
reasons_more n [] c = append-nil _ ∙ ap (λ k. reason_text k c) (omega arith)
reasons_more n (x ∷ xs) c =
    ap (λ t. reason_text n x ++ t) (reasons_more (n + 1) xs c ∙ ap (λ k. reasons_from (n + 1) xs ++ reason_text k c) (omega arith))
    ∙ sym (append_assoc (reason_text n x) (reasons_from (n + 1) xs) (reason_text (n + length (x ∷ xs)) c))

pub reasons_taken : (l : List ℕ) (n d : ℕ) → n < length l → reasons_from 0 (take (n + 1) l) ≡ reasons_from 0 (take n l) ++ reason_text n (get_or l n d)
reasons_taken l n d less =
    let on : n + 1 ≡ suc n = omega arith in
    let len : 0 + length (take n l) ≡ n = omega (arith, length-take n l) in
    ap (λ k. reasons_from 0 (take k l)) on ∙ ap (reasons_from 0) (take-suc l n d less) ∙ reasons_more 0 (take n l) (get_or l n d)
    ∙ ap (λ k. reasons_from 0 (take n l) ++ reason_text k (get_or l n d)) len
