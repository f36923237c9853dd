use Rattle.std.proofs.Common.{◌≡◌, true, sym, ap, ◌∙◌}
use Rattle.pg_session.specs.Private.{asks_reply}
use Rattle.pg_session.specs.Sending.{Sending}
use Rattle.pg_session.specs.Shown.{Own, SubscriberValue}
use Rattle.pg_session.proofs.Obeying.{may_refuse, counted_refusal}
use Rattle.pg_session.proofs.subscriber.Subscriber.command.Goals as goal

pub returns-in-Err-clause-steps : goal.returns-in-Err-clause-steps
returns-in-Err-clause-steps c =
    let p = c.args.self.now.own in
    let number = c.args.asked.now.stream in
    let word = c.args.asked.now.word in
    let own : Own = record {
      connected = c.self-2.inside.connected;
      grants = c.self-2.inside.grants;
      listed = c.self-2.inside.listed;
      streams = c.self-2.inside.streams.items;
      output = c.self-2.inside.output.output;
      last_tick = c.self-2.inside.last_tick;
      definitions = c.self-2.inside.definitions;
    } in
    let connected : p.connected ≡ true = ap (λ (v : SubscriberValue). v.own.connected) (sym c.self.view_is) ∙ c.if-not-self.false in
    let same : own ≡ p = ap (λ (v : SubscriberValue). v.own) c.self-2.view_is ∙ c.in-Err.ensures.unchanged in
    record {
      may = may_refuse _ _ c.in-Err.refusal (asks_reply word) c.in-Err.ensures.refused;
      state = ap (λ (s : Sending). record own { output = s.output }) c.count_refusal.ensures ∙ counted_refusal p own number word c.in-Err.refusal same connected;
    }
