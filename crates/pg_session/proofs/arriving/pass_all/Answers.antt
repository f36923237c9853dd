use Rattle.std.proofs.Common.{ap, sym, ◌∙◌, drop}
use Rattle.circular_buffer.specs.Buffer.{Buffer}
use Rattle.pg_data.specs.Pieces.{Piece}
use Rattle.pg_session.specs.Output.{one_past}
use Rattle.pg_session.specs.Sending.{Sending}
use Rattle.pg_session.specs.Fields.{with_stats}
use Rattle.pg_session.proofs.Arrivals.{times_more, dropped_more}
use Rattle.pg_session.proofs.arriving.pass_all.Goals as goal

pub loop-preserved : goal.loop-preserved
loop-preserved c =
    let n = c.loop.counter in
    let before = c.args.output.now in
    let popped = c.pop_front-passed.ensures.items in (
      c.count_past.ensures ∙ ap (λ (q : Sending). with_stats q (one_past q.output.stats)) c.loop.invariant.0
          ∙ ap (with_stats before) (sym (times_more n one_past before.output.stats)),
      ap (λ (b : Buffer Piece). b.items) popped ∙ ap (drop 1) c.loop.invariant.1 ∙ dropped_more n c.args.blocks.now.items,
      ap (λ (b : Buffer Piece). b.capacity) popped ∙ c.loop.invariant.2,
    )
