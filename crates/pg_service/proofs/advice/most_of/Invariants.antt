use Rattle.std.proofs.Common.{◌≡◌, drop}
use Rattle.std.specs.List.{fold}
use Rattle.std.specs.Int.{int_max}
use Rattle.pg_service.specs.Advising.{most_in, most_of}
use Rattle.pg_service.proofs.advice.most_of.Given as goal

abbrev pub invariant-loop-source : goal.invariant-loop-source
invariant-loop-source l = fold (λ most s. int_max most (most_in s.delays)) l.most (drop l.source-index l.sources) ≡ most_of l.sources
