use Rattle.pg_session.specs.Events.{subscriber_event}
use Rattle.pg_session.specs.Private.{told}
use Rattle.pg_gateway.proofs.OneLaws.{asks_goes}
use Rattle.pg_gateway.proofs.state.GatewayState.ask.Goals as goal

pub returns : goal.returns
returns c = record {
  goes = λ S h.
      let shown = rw (← c.self.view_is) at h in
      rw c.reply_of.ensures.told (asks_goes c.args.sub (subscriber_event c.args.event) (told c.ask_at.result) S _ _ shown (c.ask_at.ensures.takes S.subs shown.subs));
  plain = c.reply_of.ensures.plain c.ask_at.ensures.plain;
}
