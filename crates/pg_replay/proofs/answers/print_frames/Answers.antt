use Rattle.std.proofs.Common.{sym, subst}
use Rattle.std.specs.Io.KnownBytes.{Appends}
use Rattle.pg_replay.specs.Printing.{frame_line}
use Rattle.pg_lines.proofs.PrintLaws.{appends_more}
use Rattle.pg_replay.proofs.PrintLaws.{flat_taken}
use Rattle.pg_replay.proofs.answers.print_frames.Goals as goal

pub loop-i-preserved : goal.loop-i-preserved
loop-i-preserved g c =
    subst (λ t. Appends (g.W.Write.contents c.args.out.now) (g.W.Write.contents c.print_hex.new.out) t)
    (sym (flat_taken frame_line c.args.queue.now.frames c.loop-i.i (record { bytes = c.in-Some.frame.now; gap = c.in-Some.gap }) c.in-Some.ensures))
    (appends_more _ _ _ _ _ c.loop-i.invariant (appends_more _ _ _ _ _ c.in_ok-write.ensures.bytes c.in_ok-print_hex.ensures.prints))
