use Rattle.std.proofs.Common.{◌∙◌, arith, subst}
use Rattle.std.proofs.lemmas.List.{length-set}
use Rattle.pg_wire.specs.Check.{dividend_from, IsRemainder}
use Rattle.pg_data.specs.Measurements.{block_in}
use Rattle.pg_data.proofs.Setting.{set-more}
use Rattle.pg_data.proofs.frame.alone_of.Goals as goal

pub loop-i-preserved : goal.loop-i-preserved
loop-i-preserved c = record {
  room = length-set c.loop-i.alone c.loop-i.i c.check_alone.result ∙ c.loop-i.invariant.room;
  alone =
      set-more (λ k r. IsRemainder (dividend_from 0 (block_in c.args.config.now.parts c.args.body.now k)) r) c.loop-i.alone c.loop-i.i c.check_alone.result
      (omega (arith, c.loop-i.invariant.room)) c.loop-i.invariant.alone
      (subst (λ block. IsRemainder (dividend_from 0 block) c.check_alone.result) c.block_at.ensures c.check_alone.ensures);
}
