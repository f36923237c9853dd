use Rattle.pg_gateway.proofs.AskLaws.{waiting_told}
use Rattle.pg_gateway.proofs.state.GatewayState.who_waits.Goals as goal

pub returns-clause-goes : goal.returns-clause-goes
returns-clause-goes c = λ S h. waiting_told c.args.subs.items _ S _ h (rw (← c.self.view_is) c.waiting_among.ensures)
