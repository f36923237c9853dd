use Rattle.std.proofs.Common.{◌<◌, length, arith}
use Rattle.pg_align.proofs.Parts.{has_all_more, part_steps}
use Rattle.pg_frame_tests.proofs.plain.has_all.Goals as goal

pub returns-then-is_none : goal.returns-then-is_none
returns-then-is_none c =
    let within : c.loop-place.place < length c.args.parts.now = omega arith in
    let more = has_all_more c.args.effective.now c.args.parts.now c.loop-place.place c.loop-place-test.true within in
    grind (arith, part_steps, more)

pub loop-place-preserved : goal.loop-place-preserved
loop-place-preserved c =
    let within : c.loop-place.place < length c.args.parts.now = omega arith in
    let more = has_all_more c.args.effective.now c.args.parts.now c.loop-place.place c.loop-place-test.true within in
    grind (arith, part_steps, more)
