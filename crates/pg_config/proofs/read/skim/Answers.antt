use Rattle.std.proofs.Common.{◌≡◌, ◌++◌, ◌∷◌, [], refl, ◌∙◌, arith, ap, take}
use Rattle.std.proofs.lemmas.Result.{err_from_is_err_and}
use Rattle.std.proofs.lemmas.List.{length-set}
use Rattle.pg_config.specs.Reading.{blocks_at}
use Rattle.pg_config.proofs.Blocks.{found_is_long}
use Rattle.pg_config.proofs.Loop.{goes_on, ends, is_done, at_first, ids_more}
use Rattle.pg_config.proofs.read.skim.Goals as goal

pub loop-i-init : goal.loop-i-init
loop-i-init c = ([], refl, at_first c.args.count c.args.bytes.now, refl)

pub returns-in_err-block-clause-exact : goal.returns-in_err-block-clause-exact
returns-in_err-block-clause-exact c =
    let p = err_from_is_err_and c.from_residual.result c.from_residual.ensures.1 in
    rw (p.1, p.2) (ends c.in_err-block.field-0.0 c.loop-i.invariant.0 c.args.count c.loop-i.i c.loop-i.rest.now (blocks_at c.args.count c.args.bytes.now) c.loop-i-test.true c.in_err-block.ensures c.loop-i.invariant.2)

pub number_at-requires : goal.number_at-requires
number_at-requires c = omega (arith, found_is_long c.loop-i.rest.now c.in_ok-block.block.now c.in_ok-block.after.now c.in_ok-block.ensures)

pub loop-i-preserved : goal.loop-i-preserved
loop-i-preserved c = (
  c.loop-i.invariant.0 ++ c.in_ok-block.block.now ∷ [],
  ids_more c.loop-i.invariant.0 c.in_ok-block.block.now c.loop-i.ids c.loop-i.i c.from.result c.number_at.result c.loop-i.invariant.1 c.from.ensures c.number_at.ensures (omega (arith, c.loop-i.invariant.3, c.requires, c.loop-i-test.true)),
  goes_on c.loop-i.invariant.0 c.args.count c.loop-i.i c.loop-i.rest.now c.in_ok-block.block.now c.in_ok-block.after.now (blocks_at c.args.count c.args.bytes.now) c.loop-i-test.true c.in_ok-block.ensures c.loop-i.invariant.2,
  length-set c.loop-i.ids c.from.result c.number_at.result ∙ c.loop-i.invariant.3,
)

pub returns-clause-exact : goal.returns-clause-exact
returns-clause-exact c = (
  c.loop-i.invariant.0,
  is_done c.loop-i.invariant.0 c.args.count c.loop-i.i c.loop-i.rest.now (blocks_at c.args.count c.args.bytes.now) c.loop-i-test.false c.loop-i.invariant.2,
  c.loop-i.invariant.1 ∙ ap (λ n. take n c.loop-i.ids) (let at : c.loop-i.i ≡ c.args.count = omega (arith, c.loop-i-test.false, c.loop-i.auto.i-end) in at),
)
