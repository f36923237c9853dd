use Rattle.std.specs.Duration.{as_nanos}
use Rattle.std.specs.List.{IsFirstMaxByKey}
use Rattle.pg_status.proofs.places.longest_of.Given as goal

abbrev pub invariant-loop-at : goal.invariant-loop-at
invariant-loop-at l = IsFirstMaxByKey as_nanos l.idle l.at l.longest
