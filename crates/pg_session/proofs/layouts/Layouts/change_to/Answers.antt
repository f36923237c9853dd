use Rattle.std.proofs.Common.{rules, ◌≡◌, ℕ, ◌+◌, ◌%◌, length, take, List, [], ◌∷◌, ◌++◌, slice_set, ap, ◌∙◌, arith, append-nil, drop_of_length-le}
use Rattle.std.specs.List.{copy_within}
use Rattle.pg_session.proofs.layouts.Layouts.change_to.Goals as goal

-- all lengths but the last one move back by one place, and the new one is the first
moved : (old : List ℕ) (len : ℕ) → length old ≡ 32 → slice_set (copy_within old 0 31 1) 0 len ≡ take 32 (len ∷ old)
moved [] len h = absurd (cc h)
moved (first ∷ rest) len h =
    ap (λ others. len ∷ (take 31 (first ∷ rest) ++ others)) (drop_of_length-le (first ∷ rest) {i = 32} (omega (arith, h)))
    ∙ ap (λ others. len ∷ others) (append-nil (take 31 (first ∷ rest)))

pub returns : goal.returns
returns c =
    let old = c.args.self.now in
    let here = ap (λ lengths. slice_set lengths 0 c.args.len) c.copy_within.ensures.after ∙ moved old.lengths c.args.len (search rules) in
    ap (λ lengths. record { definition = old.definition; number = (old.number + 1) % 18446744073709551616; lengths = lengths }) here
