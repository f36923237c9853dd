use Rattle.std.proofs.Common.{ap, sym, ◌∙◌, subst}
use Rattle.pg_ingest.specs.Shown.{feeding}
use Rattle.pg_serve.specs.Inputs.{all_noted}
use Rattle.pg_serve.specs.Feeding.{TakesPiece}
use Rattle.pg_serve.proofs.Lines.{bytes_quiet, bytes_answered}
use Rattle.pg_serve.proofs.source_link.SourceLink.take.Goals as goal

pub returns-then-not-self : goal.returns-then-not-self
returns-then-not-self c = record {
  takes = λ S line shown shows.
      bytes_quiet S line c.args.bytes.now _ _ _ shows.is_up (sym shows.is_up ∙ c.if-not-self.true)
      (subst (λ notes. TakesPiece S (feeding line.link c.args.bytes.now) notes (all_noted c.feed_link.new.notes.items) c.feed_link.new.gateway c.feed_link.new.link)
      (ap all_noted c.clear.ensures.items) (c.in_ok-feed_link.ensures.taken S line.link shown shows.shows))
      c.clear-2.ensures.items;
}

pub returns : goal.returns
returns c = record {
  takes = λ S line shown shows.
      bytes_answered S line c.args.bytes.now _ _ _ _ shows.is_up (sym shows.is_up ∙ c.if-not-self.false)
      (subst (λ notes. TakesPiece S (feeding line.link c.args.bytes.now) notes (all_noted c.feed_link.new.notes.items) c.feed_link.new.gateway c.feed_link.new.link)
      (ap all_noted c.clear.ensures.items) (c.in_ok-feed_link.ensures.taken S line.link shown shows.shows))
      c.in_ok-give_commands.ensures.given;
}
