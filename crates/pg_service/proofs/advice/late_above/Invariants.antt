use Rattle.std.proofs.Common.{◌≡◌, ◌+◌, drop}
use Rattle.std.specs.List.{fold}
use Rattle.pg_service.specs.Advising.{capped, late_above, late_in}
use Rattle.pg_service.proofs.advice.late_above.Given as goal

abbrev pub invariant-loop-source : goal.invariant-loop-source
invariant-loop-source l =
    fold (λ late s. capped (late + late_in l.bound s)) l.late (drop l.source-index l.sources) ≡ late_above l.bound l.sources
