use Rattle.pg_serve.proofs.Lines.{line_new}
use Rattle.pg_serve.proofs.source_link.SourceLink.new.Goals as goal

pub returns : goal.returns
returns c = record { shows = line_new _ c.args.source c.in_ok-new.ensures.shows }
