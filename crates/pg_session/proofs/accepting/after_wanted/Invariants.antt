use Rattle.std.proofs.Common.{drop}
use Rattle.pg_session.specs.Events.{samples_at}
use Rattle.pg_session.specs.Wanted.{all_wanted}
use Rattle.pg_session.proofs.Going.{PassedSoFar}
use Rattle.pg_session.proofs.accepting.after_wanted.Given as goal

abbrev pub invariant-loop-s : goal.invariant-loop-s
invariant-loop-s l =
    PassedSoFar l.blocks.items 0 (all_wanted l.streams l.frame.quality (samples_at l.frame l.places))
    (all_wanted (drop l.s-index l.streams) l.frame.quality (samples_at l.frame l.places)) l.at
