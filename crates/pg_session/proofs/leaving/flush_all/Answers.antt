use Rattle.std.proofs.Common.{◌≡◌, length, Some, sym, ap, ◌∙◌, arith}
use Rattle.pg_align.specs.Slots.{all_flushed, after_flush, flushed_of, head_with}
use Rattle.pg_align.proofs.Leaving.{all_flushed-first}
use Rattle.pg_session.specs.Streams.{slot_frame}
use Rattle.pg_session.proofs.Departing.{left-none, left-one, flushed-one}
use Rattle.pg_session.proofs.leaving.flush_all.Goals as goal

pub loop-left-init : goal.loop-left-init
loop-left-init c =
    (left-none (slot_frame c.args.definition.now c.args.listed.now) (all_flushed c.args.align.now) c.args.output.now, c.requires.places, c.requires.timed, c.requires.few, omega arith)

pub loop-left-preserved : goal.loop-left-preserved
loop-left-preserved c =
    let align = c.loop-left.align in
    let first = head_with c.in-Some.left.slot c.in-Some.left.parts.now in
    let leaves : flushed_of align ≡ Some first = sym c.in-Some.ensures.leaves in
    let after : c.flush_next.follows.lender-at-none ≡ after_flush align = c.flush_next.follows.holds-at-none in
    let one = flushed-one c.args.definition.now.rate align first leaves c.loop-left.invariant.2 in
    let sent = c.send_slot.ensures.sends in
    let more = left-one (slot_frame c.args.definition.now c.args.listed.now) (all_flushed c.args.align.now) (all_flushed align) (all_flushed (after_flush align)) first
    c.args.output.now c.loop-left.output c.send_slot.new.output c.loop-left.invariant.0 (all_flushed-first align first leaves) sent in
    rw after (
      more,
      ap length one.effective ∙ c.loop-left.invariant.1,
      one.timed,
      omega (arith, sent.made, sent.kept, sent.few, c.loop-left.invariant.3),
      omega (arith, sent.made, one.fewer, c.loop-left.invariant.4),
    )
