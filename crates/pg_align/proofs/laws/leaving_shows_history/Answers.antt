use Rattle.pg_align.proofs.Leaving.{Shows-next, Shows-leaving, Shows-frames, Shows-end}
use Rattle.pg_align.proofs.laws.leaving_shows_history.Goals as goal

pub returns-clause-next : goal.returns-clause-next
returns-clause-next c align h s = Shows-next align h s

pub returns-clause-after : goal.returns-clause-after
returns-clause-after c align h s = Shows-leaving align h s

pub returns-clause-frames : goal.returns-clause-frames
returns-clause-frames c align h s = Shows-frames align h s

pub returns-clause-end : goal.returns-clause-end
returns-clause-end c align h s = Shows-end align h s
