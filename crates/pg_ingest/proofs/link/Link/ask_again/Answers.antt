use Rattle.std.proofs.Common.{ap, sym, ◌∙◌}
use Rattle.std.specs.Arc.{arc_value}
use Rattle.pg_ingest.specs.Asked.{asking_again}
use Rattle.pg_ingest.proofs.Again.{again_shown, mapped_some}
use Rattle.pg_ingest.proofs.link.Link.ask_again.Goals as goal

pub returns-clause-shows : goal.returns-clause-shows
returns-clause-shows c past shown =
    again_shown _ c.ask_again.new.self past (rw (← c.self.view_is) at shown)
    (c.ask_again.ensures ∙ ap (λ b. asking_again b c.self.inside.asking) (c.is_some.ensures ∙ sym (mapped_some arc_value c.self.inside.known)))
