use Rattle.std.proofs.Common.{sym, subst, true≢false, ◌∙◌}
use Rattle.pg_gateway.specs.Consistent.{IsReached}
use Rattle.pg_gateway.proofs.TargetLaws.{reached_first}
use Rattle.pg_gateway.proofs.gateway.Gateway.new.Goals as goal

pub invariant_of-result : goal.invariant_of-result
invariant_of-result c = (
  subst IsReached (sym c.in_ok-new.ensures.empty) reached_first,
  λ fresh. absurd (true≢false (sym fresh ∙ c.in_ok-new-2.ensures.stale)),
)
