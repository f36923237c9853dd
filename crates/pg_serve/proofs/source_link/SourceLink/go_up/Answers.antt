use Rattle.pg_serve.proofs.Lines.{goes_up}
use Rattle.pg_serve.proofs.source_link.SourceLink.go_up.Goals as goal

pub returns : goal.returns
returns c = record { goes = λ line shows. goes_up line _ _ _ (c.reset.ensures.shows line.link shows.shows) c.in_ok-commands_owed.ensures.given }
