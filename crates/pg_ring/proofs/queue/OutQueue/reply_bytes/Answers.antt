use Rattle.std.proofs.Common.{◌≡◌, [], ◌<◌, length, slice_get, Some, sym, ap, ◌∙◌, arith, drop_of_length-le}
use Rattle.std.proofs.lemmas.Option.{get_or_from_slice_get}
use Rattle.std.specs.Option.{option_copied}
use Rattle.pg_ring.proofs.Handing.{joined}
use Rattle.pg_ring.proofs.Waiting.{counted_next}
use Rattle.pg_ring.proofs.queue.OutQueue.reply_bytes.Goals as goal

pub loop-i-preserved : goal.loop-i-preserved
loop-i-preserved c =
    let replies = c.args.self.now.replies in
    let within : c.loop-i.i < length replies = omega (arith, c.loop-i-test.true, c.replies-i-end.ensures.count) in
    let there : slice_get replies c.loop-i.i ≡ Some c.in-Some.reply.now = sym c.reply_at.ensures ∙ ap option_copied c.in-Some.is in
    let is = get_or_from_slice_get replies c.loop-i.i c.in-Some.reply.now [] there in
    let next = counted_next c.loop-i.bytes replies c.loop-i.i c.in-Some.reply.now within is in
    (rw c.saturating_add-bytes.ensures (next ∙ c.loop-i.invariant.0), c.saturating_add-bytes.type_inv)

pub returns : goal.returns
returns c =
    let replies = c.args.self.now.replies in
    let all = drop_of_length-le replies {i = c.loop-i.i} (omega (arith, c.loop-i-test.false, c.replies-i-end.ensures.count)) in
    let none = ap (λ l. length (joined l)) all in
    omega (arith, c.loop-i.invariant.0, c.loop-i.invariant.1, none)
