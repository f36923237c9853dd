use Rattle.std.proofs.Common.{◌++◌, ◌∷◌, ◌-◌, ◌+◌, [], sym, ◌∙◌, ap, ap₂, map}
use Rattle.std.proofs.lemmas.List.{map_push}
use Rattle.std.specs.Arc.{arc_value}
use Rattle.pg_config.specs.Parts.{IsPart, part_with}
use Rattle.pg_config.specs.Reading.{blocks_at, base_at, rate_at}
use Rattle.pg_config.proofs.Loop.{goes_on, ends, is_done, is_among, no_refusal, same_blocks}
use Rattle.pg_config.proofs.read.parts_of.Goals as goal

pub returns-in_err-block-clause-memory : goal.returns-in_err-block-clause-memory
returns-in_err-block-clause-memory c = absurd (
    let failed = ends c.in_err-block.field-0.0 c.loop.invariant.0 c.args.count c.loop.counter c.loop.rest.now (blocks_at c.args.count c.args.bytes.now) c.loop-test.true c.in_err-block.ensures c.loop.invariant.2 in
    no_refusal c.in_err-block.field-0.0 _ _ failed c.requires.there.read)

pub part_of-requires : goal.part_of-requires
part_of-requires c = record {
  long = c.requires.long;
  part = is_among (λ block. IsPart (part_with (base_at c.args.frame.now) (rate_at c.args.frame.now) block)) c.loop.invariant.0 c.in_ok-block.block.now
      (blocks_at (c.args.count - (c.loop.counter + 1)) c.in_ok-block.after.now) c.requires.there.list c.requires.there.rest
      (goes_on c.loop.invariant.0 c.args.count c.loop.counter c.loop.rest.now c.in_ok-block.block.now c.in_ok-block.after.now (blocks_at c.args.count c.args.bytes.now) c.loop-test.true c.in_ok-block.ensures c.loop.invariant.2
      ∙ c.requires.there.read)
      c.requires.there.each;
}

pub loop-preserved : goal.loop-preserved
loop-preserved c = (
  c.loop.invariant.0 ++ c.in_ok-block.block.now ∷ [],
  ap (map arc_value) c.in_ok-push.ensures.items
      ∙ map_push arc_value c.loop.parts.items c.in_ok-part_of.field-0
      ∙ ap₂ (λ x y. x ++ y ∷ []) c.loop.invariant.1 c.in_ok-part_of.ensures
      ∙ sym (map_push (part_with (base_at c.args.frame.now) (rate_at c.args.frame.now)) c.loop.invariant.0 c.in_ok-block.block.now),
  goes_on c.loop.invariant.0 c.args.count c.loop.counter c.loop.rest.now c.in_ok-block.block.now c.in_ok-block.after.now (blocks_at c.args.count c.args.bytes.now) c.loop-test.true c.in_ok-block.ensures c.loop.invariant.2,
)

pub returns-clause-read : goal.returns-clause-read
returns-clause-read c = λ blocks rest read.
    let done = is_done c.loop.invariant.0 c.args.count c.loop.counter c.loop.rest.now (blocks_at c.args.count c.args.bytes.now) c.loop-test.false c.loop.invariant.2 in
    c.loop.invariant.1 ∙ ap (map (part_with (base_at c.args.frame.now) (rate_at c.args.frame.now))) (same_blocks _ _ _ _ _ done read)
