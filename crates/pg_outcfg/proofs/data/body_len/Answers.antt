use Rattle.std.proofs.Common.{◌<◌, ◌∙◌, Some, ap, length, arith}
use Rattle.pg_outcfg.proofs.Blocks.{next-block, next-absent, counted}
use Rattle.pg_outcfg.proofs.data.body_len.Goals as goal
use Rattle.pg_outcfg.proofs.data.body_len.Goals.{in-Some, in_default}

pub loop-i-preserved : goal.loop-i-preserved
loop-i-preserved c =
    let within : c.loop-i.i < length c.args.parts.now = omega (arith, c.requires.parts, c.loop-i-test.true) in
    elim c.match-get_next.branch [
      | in-Some w ↦
          let left = next-block c.args.listed.now c.args.members.now c.args.parts.now c.loop-i.i c.index-members-i.result w.index-parts-i.result w.deref.result.now
          c.loop-i-test.true c.index-members-i.is within w.index-parts-i.is (ap Some w.deref.ensures ∙ w.in-Some.ensures.value) in
          let first = counted _ _ _ left in
          record {
            small = omega (arith, w.len-is, w.part_len-len.ensures.most, c.loop-i.invariant.small);
            counted = omega (arith, w.len-is, first, w.part_len-len.ensures.value, c.loop-i.invariant.counted);
          }
      | in_default w ↦
          let left = next-absent c.args.listed.now c.args.members.now c.args.parts.now c.loop-i.i c.index-members-i.result
          c.loop-i-test.true c.index-members-i.is within w.in_default.ensures.value in
          record {
            small = omega (arith, w.len-is, c.loop-i.invariant.small);
            counted = rw (w.len-is, ← left) c.loop-i.invariant.counted;
          }
    ]
