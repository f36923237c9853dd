use Rattle.std.proofs.Common.{◌≡◌, sym, subst}
use Rattle.pg_data.specs.Measurements.{Measurement}
use Rattle.pg_session.specs.declared.event.PrivateEvent.{PrivateEvent}
use Rattle.pg_session.specs.Events.{subscriber_event, measure, drain, samples_at}
use Rattle.pg_session.specs.Private.{told}
use Rattle.pg_session.specs.Ready.{configs_wanted}
use Rattle.pg_session.specs.Steps.{Steps}
use Rattle.pg_session.proofs.Stepping.{steps_taken}
use Rattle.pg_session.proofs.subscriber.Subscriber.take.Goals as goal

pub returns-in-Revoke-clause-steps : goal.returns-in-Revoke-clause-steps
returns-in-Revoke-clause-steps c =
    subst (λ (e : PrivateEvent). Steps c.args.self.now (subscriber_event e) c.args.lost (told c.revoke.result) c.revoke.new.self) (sym c.in-Revoke.is) c.revoke.ensures.steps

pub returns-in-Announce-clause-steps : goal.returns-in-Announce-clause-steps
returns-in-Announce-clause-steps c =
    subst (λ (e : PrivateEvent). Steps c.args.self.now (subscriber_event e) c.args.lost (told c.announce.result) c.announce.new.self) (sym c.in-Announce.is) c.announce.ensures.steps

pub returns-in-Define-clause-steps : goal.returns-in-Define-clause-steps
returns-in-Define-clause-steps c =
    subst (λ (e : PrivateEvent). Steps c.args.self.now (subscriber_event e) c.args.lost (told c.define.result) c.define.new.self) (sym c.in-Define.is) c.define.ensures.steps

pub returns-in-Remove-clause-steps : goal.returns-in-Remove-clause-steps
returns-in-Remove-clause-steps c =
    subst (λ (e : PrivateEvent). Steps c.args.self.now (subscriber_event e) c.args.lost (told c.remove.result) c.remove.new.self) (sym c.in-Remove.is) c.remove.ensures.steps

pub returns-in-Tick-clause-steps : goal.returns-in-Tick-clause-steps
returns-in-Tick-clause-steps c =
    subst (λ (e : PrivateEvent). Steps c.args.self.now (subscriber_event e) c.args.lost (told c.tick.result) c.tick.new.self) (sym c.in-Tick.is) c.tick.ensures.steps

pub returns-in-Connect-clause-steps : goal.returns-in-Connect-clause-steps
returns-in-Connect-clause-steps c =
    subst (λ (e : PrivateEvent). Steps c.args.self.now (subscriber_event e) c.args.lost (told c.connect.result) c.connect.new.self) (sym c.in-Connect.is) c.connect.ensures.steps

pub returns-in-Hangup-clause-steps : goal.returns-in-Hangup-clause-steps
returns-in-Hangup-clause-steps c =
    subst (λ (e : PrivateEvent). Steps c.args.self.now (subscriber_event e) c.args.lost (told c.hang_up.result) c.hang_up.new.self) (sym c.in-Hangup.is) c.hang_up.ensures.steps

pub returns-in-Command-clause-steps : goal.returns-in-Command-clause-steps
returns-in-Command-clause-steps c =
    subst (λ (e : PrivateEvent). Steps c.args.self.now (subscriber_event e) c.args.lost (told c.command.result) c.command.new.self) (sym c.in-Command.is) c.command.ensures.steps

pub returns-in-Drain-clause-steps : goal.returns-in-Drain-clause-steps
returns-in-Drain-clause-steps c =
    subst (λ (e : PrivateEvent). Steps c.args.self.now (subscriber_event e) c.args.lost (told c.drain.result) c.drain.new.self) (sym c.in-Drain.is)
    (subst (λ n. Steps c.args.self.now (drain n) c.args.lost (told c.drain.result) c.drain.new.self) c.in-Drain.buf.ok.0 c.drain.ensures.steps)

pub returns-in-Grant-clause-steps : goal.returns-in-Grant-clause-steps
returns-in-Grant-clause-steps c =
    let ready = subst (λ (e : PrivateEvent). c.args.self.now.configs ≡ configs_wanted c.args.self.now.own (subscriber_event e)) c.in-Grant.is c.requires.ready.configs in
    subst (λ (e : PrivateEvent). Steps c.args.self.now (subscriber_event e) c.args.lost (told c.grant.result) c.grant.new.self) (sym c.in-Grant.is)
    (c.grant.ensures.steps _ ready)

pub returns-in-Measure-clause-steps : goal.returns-in-Measure-clause-steps
returns-in-Measure-clause-steps c =
    let places = c.in-Measure.places.now in
    let step = subst (λ (m : Measurement). Steps c.args.self.now (measure m.soc m.quality m.frac (samples_at m places)) c.args.lost (told c.measure.result) c.measure.new.self)
    c.deref.ensures c.measure.ensures.steps in
    subst (λ (e : PrivateEvent). Steps c.args.self.now (subscriber_event e) c.args.lost (told c.measure.result) c.measure.new.self) (sym c.in-Measure.is) step

pub returns-in-Revoke-clause-takes : goal.returns-in-Revoke-clause-takes
returns-in-Revoke-clause-takes c =
    steps_taken c.args.self.now (subscriber_event c.args.event) c.args.lost (told c.revoke.result) c.revoke.new.self (returns-in-Revoke-clause-steps c)

pub returns-in-Announce-clause-takes : goal.returns-in-Announce-clause-takes
returns-in-Announce-clause-takes c =
    steps_taken c.args.self.now (subscriber_event c.args.event) c.args.lost (told c.announce.result) c.announce.new.self (returns-in-Announce-clause-steps c)

pub returns-in-Define-clause-takes : goal.returns-in-Define-clause-takes
returns-in-Define-clause-takes c =
    steps_taken c.args.self.now (subscriber_event c.args.event) c.args.lost (told c.define.result) c.define.new.self (returns-in-Define-clause-steps c)

pub returns-in-Remove-clause-takes : goal.returns-in-Remove-clause-takes
returns-in-Remove-clause-takes c =
    steps_taken c.args.self.now (subscriber_event c.args.event) c.args.lost (told c.remove.result) c.remove.new.self (returns-in-Remove-clause-steps c)

pub returns-in-Tick-clause-takes : goal.returns-in-Tick-clause-takes
returns-in-Tick-clause-takes c =
    steps_taken c.args.self.now (subscriber_event c.args.event) c.args.lost (told c.tick.result) c.tick.new.self (returns-in-Tick-clause-steps c)

pub returns-in-Connect-clause-takes : goal.returns-in-Connect-clause-takes
returns-in-Connect-clause-takes c =
    steps_taken c.args.self.now (subscriber_event c.args.event) c.args.lost (told c.connect.result) c.connect.new.self (returns-in-Connect-clause-steps c)

pub returns-in-Hangup-clause-takes : goal.returns-in-Hangup-clause-takes
returns-in-Hangup-clause-takes c =
    steps_taken c.args.self.now (subscriber_event c.args.event) c.args.lost (told c.hang_up.result) c.hang_up.new.self (returns-in-Hangup-clause-steps c)

pub returns-in-Command-clause-takes : goal.returns-in-Command-clause-takes
returns-in-Command-clause-takes c =
    steps_taken c.args.self.now (subscriber_event c.args.event) c.args.lost (told c.command.result) c.command.new.self (returns-in-Command-clause-steps c)

pub returns-in-Drain-clause-takes : goal.returns-in-Drain-clause-takes
returns-in-Drain-clause-takes c =
    steps_taken c.args.self.now (subscriber_event c.args.event) c.args.lost (told c.drain.result) c.drain.new.self (returns-in-Drain-clause-steps c)

pub returns-in-Grant-clause-takes : goal.returns-in-Grant-clause-takes
returns-in-Grant-clause-takes c =
    steps_taken c.args.self.now (subscriber_event c.args.event) c.args.lost (told c.grant.result) c.grant.new.self (returns-in-Grant-clause-steps c)

pub returns-in-Measure-clause-takes : goal.returns-in-Measure-clause-takes
returns-in-Measure-clause-takes c =
    steps_taken c.args.self.now (subscriber_event c.args.event) c.args.lost (told c.measure.result) c.measure.new.self (returns-in-Measure-clause-steps c)
