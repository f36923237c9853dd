use Rattle.std.proofs.Common.{length}
use Rattle.pg_session.specs.Events.{drain}
use Rattle.pg_gateway.proofs.OneLaws.{asks_goes}
use Rattle.pg_gateway.proofs.state.GatewayState.drain.Goals as goal

pub returns-clause-goes : goal.returns-clause-goes
returns-clause-goes c = λ S h.
    let shown = rw (← c.self.view_is) at h in
    let drained = c.drain_at.ensures.takes S.subs shown.subs in
    rw drained.is (asks_goes c.args.sub (drain (length c.args.buf.items)) drained.t S _ _ shown drained.takes)
