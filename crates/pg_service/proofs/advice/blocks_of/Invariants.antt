use Rattle.std.proofs.Common.{◌≡◌, ◌+◌, drop}
use Rattle.std.specs.List.{fold}
use Rattle.pg_service.specs.Advising.{blocks_in, capped}
use Rattle.pg_service.proofs.advice.blocks_of.Given as goal

abbrev pub invariant-loop-source : goal.invariant-loop-source
invariant-loop-source l =
    fold (λ blocks s. capped (blocks + blocks_in s)) l.blocks (drop l.source-index l.sources) ≡ fold (λ blocks s. capped (blocks + blocks_in s)) 0 l.sources
