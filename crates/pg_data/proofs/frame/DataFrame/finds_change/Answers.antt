use Rattle.std.proofs.Common.{below_more, sym, ap, ◌∙◌}
use Rattle.std.proofs.lemmas.Bool.{false≢true}
use Rattle.std.specs.Int.{bit_at}
use Rattle.pg_data.proofs.frame.DataFrame.finds_change.Goals as goal

pub loop-i-preserved : goal.loop-i-preserved
loop-i-preserved c = below_more _ _ c.loop-i.invariant
    (λ set. false≢true (sym c.if-has_change_bit.false ∙ c.has_change_bit.ensures.1 (ap (λ n. bit_at n 10) c.stat.ensures ∙ set)))
