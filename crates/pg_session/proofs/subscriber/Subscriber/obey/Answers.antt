use Rattle.std.proofs.Common.{◌≡◌, true, Some, length, map, sym, ap, ap₂, ◌∙◌, subst, arith}
use Rattle.std.proofs.lemmas.List.{length-map}
use Rattle.pg_session.specs.Private.{at_stream, switched, stream_at, asks_reply, with_reply, reply_frame, frame_asked}
use Rattle.pg_session.specs.Kept.{by_slots, by_gaps}
use Rattle.pg_session.specs.Fields.{AreFitted}
use Rattle.pg_session.specs.Shown.{Own, SubscriberValue}
use Rattle.pg_session.specs.Sending.{Sending}
use Rattle.pg_session.specs.Fields.{Obeys}
use Rattle.pg_session.proofs.Fitting.{whole_slice}
use Rattle.pg_session.proofs.Obeying.{fitted_switched, obeys_question}
use Rattle.pg_session.proofs.subscriber.Subscriber.obey.Goals as goal

pub invariant_of-self : goal.invariant_of-self
invariant_of-self c =
    let i = c.self.invariant in
    let ss = c.self.inside.streams.items in
    let number = c.args.asked.now.stream in
    let word = c.args.asked.now.word in
    let switch = at_stream by_slots by_gaps number (switched by_slots by_gaps word) in
    let after = c.switch_streams.ensures ∙ ap (map switch) c.deref_mut.ensures.value in
    let long : length c.switch_streams.new.streams ≡ length ss = ap length after ∙ length-map ss switch in
    let shown = whole_slice c.switch_streams.new.streams ss c.self.inside.streams.len (c.self.inside.streams.ok.0 ∙ sym long) in
    rw shown record {
      few = omega (arith, i.few, long);
      room = i.room;
      fitted = subst (AreFitted c.self.inside.listed) (sym after) (fitted_switched c.self.inside.listed number word ss i.fitted);
      granted = i.granted;
      blocks = i.blocks;
      configs = i.configs;
    }

pub returns-clause-done : goal.returns-clause-done
returns-clause-done c =
    let own : Own = record {
      connected = c.self.inside.connected;
      grants = c.self.inside.grants;
      listed = c.self.inside.listed;
      streams = c.self.inside.streams.items;
      output = c.self.inside.output.output;
      last_tick = c.self.inside.last_tick;
      definitions = c.self.inside.definitions;
    } in
    let number = c.args.asked.now.stream in
    let word = c.args.asked.now.word in
    let known = c.in_ok-word.ensures in
    let sent = c.in_ok-send_reply.ensures in
    let connected : own.connected ≡ true = ap (λ (v : SubscriberValue). v.own.connected) c.self.view_is ∙ c.requires.connected in
    let found : stream_at own.streams number ≡ Some c.in-Some.stream.now = ap (λ ss. stream_at ss number) (sym c.deref.ensures.value) ∙ sym c.in-Some.ensures in
    let asks : asks_reply word ≡ true = ap asks_reply (sym known.word) ∙ sym c.is_question.ensures ∙ c.if-not-is_question.false in
    let out : c.send_reply.new.output.output ≡ with_reply by_slots by_gaps own.output (Some (reply_frame by_slots by_gaps own word c.in-Some.stream.now)) =
    ap (λ (s : Sending). s.output) sent.sent
    ∙ ap₂ (λ soc w. with_reply by_slots by_gaps own.output (Some (frame_asked own.listed soc w c.in-Some.stream.now))) c.unwrap_or-soc.ensures known.word in
    subst (λ (v : SubscriberValue). Obeys v.own number word (record own { output = c.send_reply.new.output.output })) c.self.view_is
    (obeys_question own number word c.in-Some.stream.now c.send_reply.new.output.output connected found known.known asks sent.room out)
