use Rattle.std.proofs.Common.{◌≡◌, ◌++◌, Some, length, take, drop, map, inl, refl, sym, ap, ap₂, ◌∙◌, subst, arith}
use Rattle.std.proofs.lemmas.List.{length-map}
use Rattle.std.specs.Arc.{arc_value}
use Rattle.pg_session.specs.Events as event
use Rattle.pg_session.specs.Private.{done, told, next}
use Rattle.pg_session.specs.Streams.{tick_turn}
use Rattle.pg_session.specs.Kept.{by_slots, by_gaps}
use Rattle.pg_session.specs.Fields.{AreFitted, stream_after}
use Rattle.pg_session.specs.Shown.{Own, SubscriberValue}
use Rattle.pg_session.specs.Steps.{Steps}
use Rattle.pg_session.specs.Taking.{Taken}
use Rattle.pg_session.proofs.Turning.{all-turned, own_with}
use Rattle.pg_session.proofs.Fitting.{fitted_map, tick-fits}
use Rattle.pg_session.proofs.Fitting.{whole_slice}
use Rattle.pg_session.proofs.subscriber.Subscriber.tick.Goals as goal

pub invariant_of-self : goal.invariant_of-self
invariant_of-self c =
    let i = c.self.invariant in
    let ss = c.self.inside.streams.items in
    let turn = tick_turn by_slots c.self.inside.listed in
    let after = c.tick_all.ensures.streams ∙ ap (map (λ s. stream_after (turn s))) c.deref_mut.ensures.value in
    let long : length c.tick_all.new.streams ≡ length ss = ap length after ∙ length-map ss (λ s. stream_after (turn s)) in
    let shown = whole_slice c.tick_all.new.streams ss c.self.inside.streams.len (c.self.inside.streams.ok.0 ∙ sym long) in
    rw shown record {
      few = omega (arith, i.few, long);
      room = i.room;
      fitted = subst (AreFitted c.self.inside.listed) (sym after) (fitted_map c.self.inside.listed c.self.inside.listed turn (tick-fits c.self.inside.listed) ss i.fitted);
      granted = i.granted;
      blocks = i.blocks;
      configs = i.configs;
    }

pub returns-clause-steps : goal.returns-clause-steps
returns-clause-steps c =
    let ss = c.self.inside.streams.items in
    let own : Own = record {
      connected = c.self.inside.connected;
      grants = c.self.inside.grants;
      listed = c.self.inside.listed;
      streams = ss;
      output = c.self.inside.output.output;
      last_tick = c.self.inside.last_tick;
      definitions = c.self.inside.definitions;
    } in
    let turn = tick_turn by_slots c.self.inside.listed in
    let e = event.tick c.args.soc in
    let after = c.tick_all.ensures.streams ∙ ap (map (λ s. stream_after (turn s))) c.deref_mut.ensures.value in
    let long : length c.tick_all.new.streams ≡ length ss = ap length after ∙ length-map ss (λ s. stream_after (turn s)) in
    let shown = whole_slice c.tick_all.new.streams ss c.self.inside.streams.len (c.self.inside.streams.ok.0 ∙ sym long) in
    let taken : Taken (map turn ss) c.begin.new.self c.tick_all.new.output =
    subst (λ xs. Taken (map turn xs) c.begin.new.self c.tick_all.new.output) c.deref_mut.ensures.value c.tick_all.ensures.taken in
    let turned = all-turned own e c.args.lost turn c.tick_all.new.streams c.begin.new.self c.tick_all.new.output refl after c.begin.ensures taken in
    let state = ap₂ (own_with own (Some c.args.soc)) (shown ∙ turned.streams_are) turned.output_is in
    let new : SubscriberValue = record {
      own = own_with own (Some c.args.soc) (take c.self.inside.streams.len (c.tick_all.new.streams ++ drop (length c.tick_all.new.streams) ss)) c.tick_all.new.output.output;
      blocks = c.self.inside.blocks.items;
      configs = map arc_value c.self.inside.configs.items;
    } in
    subst (λ (v : SubscriberValue). Steps v e c.args.lost (told c.done.result) new) c.self.view_is
    (record {
      may = inl (c.tick_all.new.output.kept, turned.few, turned.none, c.done.ensures ∙ ap (λ n. done n c.tick_all.new.output.kept) turned.made);
      state = state ∙ ap (next by_slots by_gaps own e) (sym c.done.ensures);
    })
