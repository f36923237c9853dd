use Rattle.std.proofs.Common.{subst, sym}
use Rattle.pg_ingest.specs.Runs.{wires}
use Rattle.pg_ingest.specs.Served.{IsCall}
use Rattle.pg_service.specs.Posts.{passes}
use Rattle.pg_sources.proofs.source.run_guarded.Goals as goal

pub returns : goal.returns
returns g c = record {
  call = subst (λ w. IsCall c.run_link.result 10000 c.args.link.now c.run_link.new.link
      (wires (g.R.Read.remaining c.args.reader.now.reader) (g.W.Write.contents c.args.writer.now) (g.G.Gate.posts w.gate) (passes w.check (g.G.Gate.takes w.gate)))
      (wires (g.R.Read.remaining c.run_link.new.reader.reader) (g.W.Write.contents c.run_link.new.writer) (g.G.Gate.posts c.run_link.new.gate.gate.gate)
      (passes c.run_link.new.gate.gate.check (g.G.Gate.takes c.run_link.new.gate.gate.gate)))) c.guard.ensures.state c.run_link.ensures.call;
}
