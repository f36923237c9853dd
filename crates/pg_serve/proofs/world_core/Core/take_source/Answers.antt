use Rattle.std.proofs.Common.{sym, nat_eq}
use Rattle.pg_gateway.proofs.RelatedLaws.{lookup-none, lookup-some}
use Rattle.pg_serve.specs.Shown.{SourceLinkShows}
use Rattle.pg_serve.proofs.Taking.{bytes_none, bytes_some}
use Rattle.pg_serve.proofs.world_core.Core.take_source.Goals as goal

pub returns-in_ok-refuse-in-None : goal.returns-in_ok-refuse-in-None
returns-in_ok-refuse-in-None c = record {
  takes = λ m h.
      rw c.get_mut.follows.holds-at-none (bytes_none m c.args.source c.args.bytes.now _ _ _ _ (lookup-none SourceLinkShows (nat_eq c.args.source) _ _ h.lines (sym c.in-None.ensures.value)) c.in_ok-refuse-in-None.ensures.outcome h);
}

pub returns-in_ok-take-in-Some : goal.returns-in_ok-take-in-Some
returns-in_ok-take-in-Some c = record {
  takes = λ m h.
      let found = lookup-some SourceLinkShows (nat_eq c.args.source) _ _ _ h.lines (sym c.in-Some.ensures.value) in
      let wrote = c.get_mut.follows.holds c.take.new.self in
      rw wrote.0 (bytes_some m c.args.source c.args.bytes.now found.0 _ c.args.self.now.gateway _ _ _ _ found.1 (c.in_ok-take-in-Some.ensures.takes m.shared found.0 h.gateway found.2) h);
}
