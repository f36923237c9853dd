use Rattle.std.proofs.Common.{ap, ◌∙◌, Some}
use Rattle.pg_command.specs.Spelling.{written}
use Rattle.pg_ingest.proofs.Telling.{command_shown, command_framed}
use Rattle.pg_ingest.proofs.link.Link.next_out.Goals as goal

pub returns-clause-gives : goal.returns-clause-gives
returns-clause-gives c past shown =
    let shows = rw (← c.self.view_is) at shown in (
      ap Some (c.write_command.ensures ∙ ap (λ n. written c.self.inside.source 0 n) c.number.ensures)
          ∙ command_framed _ past (Some c.in_ok-word.word) shows c.in_ok-word.ensures.word,
      command_shown _ c.next_word.new.self past shows c.next_word.ensures.state,
    )
