use Rattle.std.proofs.Common.{rules, arith, ◌≡◌, ◌≤◌, ◌-◌, ◌∙◌, drop, length, length-take-le}
use Rattle.std.proofs.lemmas.Fmt.{length-decimal-le}
use Rattle.std.proofs.lemmas.List.{length-drop}
use Rattle.pg_lines.proofs.answers.print_done.Goals as goal

pub write_digits-kept_at-requires : goal.write_digits-kept_at-requires
write_digits-kept_at-requires g c = (omega (arith, length-decimal-le 20 c.args.kept (omega arith) (omega arith) c.ranges.kept.fits), omega arith)

pub overflow_sub-line : goal.overflow_sub-line
overflow_sub-line g c = omega (arith, c.write_digits-kept_at.ensures.start, length-decimal-le 20 c.args.kept (omega arith) (omega arith) c.ranges.kept.fits)

pub overflow_sub-kept_at : goal.overflow_sub-kept_at
overflow_sub-kept_at g c = omega (arith, c.write_digits-kept_at.ensures.start, length-decimal-le 20 c.args.kept (omega arith) (omega arith) c.ranges.kept.fits)

pub write_digits-made_at-requires : goal.write_digits-made_at-requires
write_digits-made_at-requires g c =
    let kept = length-decimal-le 20 c.args.kept (omega arith) (omega arith) c.ranges.kept.fits in
    let made = length-decimal-le 20 c.args.made (omega arith) (omega arith) c.ranges.made.fits in
    (omega (arith, c.write_digits-kept_at.ensures.start, kept, made), search rules)

pub overflow_sub-start : goal.overflow_sub-start
overflow_sub-start g c =
    let kept = length-decimal-le 20 c.args.kept (omega arith) (omega arith) c.ranges.kept.fits in
    let made = length-decimal-le 20 c.args.made (omega arith) (omega arith) c.ranges.made.fits in
    omega (arith, c.write_digits-kept_at.ensures.start, c.write_digits-made_at.ensures.start, kept, made)

pub copy_from_slice-requires : goal.copy_from_slice-requires
copy_from_slice-requires g c =
    let kept = length-decimal-le 20 c.args.kept (omega arith) (omega arith) c.ranges.kept.fits in
    let made = length-decimal-le 20 c.args.made (omega arith) (omega arith) c.ranges.made.fits in
    let buf = c.write_digits-made_at.new.buf in
    let at = c.write_digits-made_at.result in
    let start : 5 ≤ at = omega (arith, c.write_digits-kept_at.ensures.start, c.write_digits-made_at.ensures.start, kept, made) in
    let five : at - (at - 5) ≡ 5 = omega arith in
    let left = length-drop (at - 5) buf in
    let room : at ≤ length buf = omega (arith, c.write_digits-made_at.auto.buf, c.write_digits-kept_at.ensures.start, c.write_digits-made_at.ensures.start) in
    length-take-le (at - (at - 5)) (drop (at - 5) buf) (omega (arith, left)) ∙ five
