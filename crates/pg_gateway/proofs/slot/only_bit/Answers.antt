use Rattle.std.proofs.Common.{rules, arith, ap, sym, ◌∙◌}
use Rattle.std.specs.Int.{bit_at}
use Rattle.std.proofs.lemmas.Nat.Bits.{bit_at-zero}
use Rattle.pg_gateway.proofs.RouteLaws.{note_granted}
use Rattle.pg_gateway.proofs.slot.only_bit.Goals as goal

pub returns : goal.returns
returns c =
    let t = note_granted c.args.number (omega (arith, c.if-number-eq0.false)) (search rules) in
    (t.1, λ j other. sym (t.5 j other) ∙ ap (λ n. bit_at n j) (omega (arith, c.if-more-ne0.false)) ∙ bit_at-zero j)
