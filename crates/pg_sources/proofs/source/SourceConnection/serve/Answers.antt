use Rattle.std.proofs.Common.{Bool, List, Option, ap, ap₂, sym, ◌∙◌}
use Rattle.std.specs.Time.{instant_nanos}
use Rattle.pg_sources.specs.Connections.{SourceState, hearing, settled}
use Rattle.pg_gateway.specs.GatewayEvents.{GatewayEvent}
use Rattle.pg_gateway.specs.Posting.{Posted}
use Rattle.pg_ingest.specs.Runs.{wires}
use Rattle.pg_service.specs.Posts.{passes}
use Rattle.pg_sources.proofs.Calls.{call_of}
use Rattle.pg_sources.proofs.source.SourceConnection.serve.Goals as goal

pub returns : goal.returns
returns g c =
    let link = c.run_guarded-end.new.link in
    let seen = c.take_stats-seen.result in
    let now = instant_nanos c.args.now in
    let heard = λ (l : SourceState). settled c.run_guarded-end.result now (record l { link = link; plan = hearing seen now l.plan }) in
    let taken = c.take_stats-seen.ensures in
    let same = ap₂ (λ (posts : Option (List Posted)) (takes : GatewayEvent → Bool). wires (g.R.Read.remaining c.run_guarded-end.new.reader.reader)
    (g.W.Write.contents c.run_guarded-end.new.writer) posts takes)
    (ap g.G.Gate.posts (sym taken.gate)) (ap₂ passes (sym taken.same) (ap g.G.Gate.takes (sym taken.gate))) in
    record {
      turned = record {
        end = c.run_guarded-end.result;
        link = link;
        call = call_of _ _ _ _ _ _ _ _ _ _ _ _ c.self.view_is same c.run_guarded-end.ensures.call;
        line = c.settle.ensures.line ∙ ap (settled c.run_guarded-end.result now) c.hear.ensures ∙ ap heard c.self.view_is;
        used_up = c.is_used_up.result;
        used = c.is_used_up.ensures;
        turn_is = c.settle.ensures.turn;
      };
    }
