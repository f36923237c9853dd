use Rattle.pg_gateway.proofs.PmuLaws.{err_same, pmu_refused}
use Rattle.pg_gateway.proofs.state.GatewayState.add_pmu.Goals as goal

pub returns-in-Err-clause-goes : goal.returns-in-Err-clause-goes
returns-in-Err-clause-goes c = λ S h.
    let shown = rw (← c.self.view_is) at h in
    pmu_refused c.args.key S _ c.add.new.self c.in-Err.refusal shown c.in-Err.ensures.refused
    (λ is. err_same _ _ (c.in-Err.ensures.exists is)) (λ is le. err_same _ _ (c.in-Err.ensures.full is le)) c.in-Err.ensures.memory
