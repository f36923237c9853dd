use Rattle.std.proofs.Common.{◌≡◌, ◌≤◌, ◌+◌, ◌∙◌, length, ap, sym, arith, add-zero}
use Rattle.std.specs.Arc.{arc_value}
use Rattle.pg_config.proofs.Copying.{none_left, len-more}
use Rattle.pg_config.proofs.write.blocks_len.Goals as goal

pub loop-part-preserved : goal.loop-part-preserved
loop-part-preserved c =
    let len : c.config_len.result ≡ length (arc_value c.part-item.result).block = c.config_len.ensures.value ∙ ap (λ p. length p.block) c.deref.ensures in
    let long : 2 ≤ length (arc_value c.part-item.result).block = omega (arith, c.config_len.ensures.counts) in
    record {
      small = omega (arith, c.config_len.ensures.most);
      counted = λ count. rw len (len-more arc_value c.args.parts.now c.loop-part.part-index c.part-item.result count c.loop-part.len _ c.loop-part-test.true c.part-item.is long (c.loop-part.invariant.counted count));
    }

pub returns-clause-value : goal.returns-clause-value
returns-clause-value c = λ count.
    sym (add-zero c.loop-part.len) ∙ ap (λ l. c.loop-part.len + length l) (sym (none_left arc_value c.args.parts.now c.loop-part.part-index count c.loop-part-test.false)) ∙ c.loop-part.invariant.counted count
