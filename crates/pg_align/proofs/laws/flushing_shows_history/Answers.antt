use Rattle.pg_align.proofs.Leaving.{Shows-next_flushed, Shows-flushing, Shows-flushed_frames, Shows-flushed_end}
use Rattle.pg_align.proofs.laws.flushing_shows_history.Goals as goal

pub returns-clause-next : goal.returns-clause-next
returns-clause-next c align h s = Shows-next_flushed align h s

pub returns-clause-after : goal.returns-clause-after
returns-clause-after c align h s = Shows-flushing align h s

pub returns-clause-frames : goal.returns-clause-frames
returns-clause-frames c align h s = Shows-flushed_frames align h s

pub returns-clause-end : goal.returns-clause-end
returns-clause-end c align h s = Shows-flushed_end align h s
