use Rattle.std.proofs.Common.{◌≡◌, drop}
use Rattle.pg_session.specs.Events.{samples_at}
use Rattle.pg_session.specs.Filling.{all_fill}
use Rattle.pg_session.proofs.streams.are_filled.Given as goal

abbrev pub invariant-loop-s : goal.invariant-loop-s
invariant-loop-s l =
    all_fill l.streams l.frame.soc l.frame.quality l.frame.frac (samples_at l.frame l.places)
    ≡ all_fill (drop l.s-index l.streams) l.frame.soc l.frame.quality l.frame.frac (samples_at l.frame l.places)
