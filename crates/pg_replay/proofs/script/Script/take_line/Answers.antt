use Rattle.std.proofs.Common.{Some, sym, subst}
use Rattle.pg_replay.specs.Lines.{asked}
use Rattle.pg_replay.specs.Answering.{DoesAsked}
use Rattle.pg_replay.proofs.ReplayLaws.{does-nothing, does-queue, does-link, does-session}
use Rattle.pg_replay.proofs.script.Script.take_line.Goals as goal

pub returns-in-Nothing : goal.returns-in-Nothing
returns-in-Nothing g c = record {
  does = subst (λ l. DoesAsked c.args.self.now.world (Some (asked l)) (g.W.Write.contents c.args.out.now) (g.W.Write.contents c.args.out.now) c.args.self.now.world)
      (sym c.in-Nothing.is) (does-nothing c.args.self.now.world (g.W.Write.contents c.args.out.now));
}

pub returns-in_ok-print_queue-in-Queue : goal.returns-in_ok-print_queue-in-Queue
returns-in_ok-print_queue-in-Queue g c = record {
  does = subst (λ l. DoesAsked c.args.self.now.world (Some (asked l)) (g.W.Write.contents c.args.out.now) (g.W.Write.contents c.print_queue.new.out) c.args.self.now.world)
      (sym c.in-Queue.is) (does-queue c.args.self.now.world c.in-Queue.sub (g.W.Write.contents c.args.out.now) (g.W.Write.contents c.print_queue.new.out) c.in_ok-print_queue-in-Queue.ensures.prints);
}

pub returns-in_ok-print_link_stats-in-LinkStats : goal.returns-in_ok-print_link_stats-in-LinkStats
returns-in_ok-print_link_stats-in-LinkStats g c = record {
  does = subst (λ l. DoesAsked c.args.self.now.world (Some (asked l)) (g.W.Write.contents c.args.out.now) (g.W.Write.contents c.print_link_stats.new.out) c.args.self.now.world)
      (sym c.in-LinkStats.is) (does-link c.args.self.now.world c.in-LinkStats.source (g.W.Write.contents c.args.out.now) (g.W.Write.contents c.print_link_stats.new.out) c.in_ok-print_link_stats-in-LinkStats.ensures.prints);
}

pub returns-in_ok-print_session_stats-in-SessionStats : goal.returns-in_ok-print_session_stats-in-SessionStats
returns-in_ok-print_session_stats-in-SessionStats g c = record {
  does = subst (λ l. DoesAsked c.args.self.now.world (Some (asked l)) (g.W.Write.contents c.args.out.now) (g.W.Write.contents c.print_session_stats.new.out) c.args.self.now.world)
      (sym c.in-SessionStats.is) (does-session c.args.self.now.world c.in-SessionStats.sub (g.W.Write.contents c.args.out.now) (g.W.Write.contents c.print_session_stats.new.out) c.in_ok-print_session_stats-in-SessionStats.ensures.prints);
}
