use Rattle.std.proofs.Common.{◌≡◌, drop}
use Rattle.std.specs.List.{fold}
use Rattle.std.specs.Int.{int_min}
use Rattle.pg_service.specs.Advising.{least_of}
use Rattle.pg_service.proofs.advice.least_of.Given as goal

abbrev pub invariant-loop-source : goal.invariant-loop-source
invariant-loop-source l = fold (λ least s. int_min least s.delays.least) l.least (drop l.source-index l.sources) ≡ least_of l.sources
