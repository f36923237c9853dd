use Rattle.std.proofs.Common.{arith}
use Rattle.pg_replay.proofs.PrintLaws.{command_more}
use Rattle.pg_replay.proofs.answers.print_commands.Goals as goal

pub loop-rest-preserved : goal.loop-rest-preserved
loop-rest-preserved g c =
    command_more (g.W.Write.contents c.args.out.now) (g.W.Write.contents c.loop-rest.out) (g.W.Write.contents c.write.new.self) (g.W.Write.contents c.print_hex.new.out)
    c.loop-rest.rest.now c.args.bytes.now c.loop-rest.invariant.0 c.split_at.result.0.now c.split_at.result.1.now c.min.result (grind (arith, c.is_empty.ensures, c.loop-rest-test.true)) c.min.ensures
    c.split_at.ensures.front c.split_at.ensures.back c.loop-rest.invariant.1 c.loop-rest.invariant.2 c.in_ok-write.ensures.bytes c.in_ok-print_hex.ensures.prints
