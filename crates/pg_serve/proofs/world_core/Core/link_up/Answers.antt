use Rattle.std.proofs.Common.{sym, ap, nat_eq}
use Rattle.pg_gateway.proofs.RelatedLaws.{lookup-none, lookup-some}
use Rattle.pg_serve.specs.Inputs.{all_noted}
use Rattle.pg_serve.specs.Shown.{SourceLinkShows}
use Rattle.pg_serve.proofs.Taking.{up_none, up_some}
use Rattle.pg_serve.proofs.world_core.Core.link_up.Goals as goal

pub returns-in_ok-refused-in-None : goal.returns-in_ok-refused-in-None
returns-in_ok-refused-in-None c = record {
  takes = λ m h.
      rw c.get_mut.follows.holds-at-none (up_none m c.args.source _ _ _ _ (lookup-none SourceLinkShows (nat_eq c.args.source) _ _ h.lines (sym c.in-None.ensures.value)) c.in_ok-refused-in-None.ensures.outcome h);
}

pub returns-in_ok-to_pmu-in-Some : goal.returns-in_ok-to_pmu-in-Some
returns-in_ok-to_pmu-in-Some c = record {
  takes = λ m h.
      let found = lookup-some SourceLinkShows (nat_eq c.args.source) _ _ _ h.lines (sym c.in-Some.ensures.value) in
      let wrote = c.get_mut.follows.holds c.go_up.new.self in
      rw wrote.0 (up_some m c.args.source found.0 _ _ _ _ _ found.1 (ap all_noted c.new.ensures.items) (c.in_ok-to_pmu-in-Some.ensures.goes found.0 found.2) h);
}
