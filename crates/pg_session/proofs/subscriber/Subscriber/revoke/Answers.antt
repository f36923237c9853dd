use Rattle.std.proofs.Common.{◌≡◌, ◌++◌, true, length, take, drop, map, inl, refl, sym, ap, ◌∙◌, subst, arith}
use Rattle.std.proofs.lemmas.List.{length-map}
use Rattle.std.specs.Arc.{arc_value}
use Rattle.pg_entitle.specs.Grants.{has_key}
use Rattle.pg_outcfg.specs.Listing.{without_config}
use Rattle.pg_session.specs.Events as event
use Rattle.pg_session.specs.Private.{done, told, next}
use Rattle.pg_session.specs.Streams.{reshape_turn}
use Rattle.pg_session.specs.Kept.{by_slots, by_gaps}
use Rattle.pg_session.specs.Fields.{AreFitted, stream_after}
use Rattle.pg_session.specs.Shown.{Own, SubscriberValue}
use Rattle.pg_session.specs.Steps.{Steps}
use Rattle.pg_session.specs.Taking.{Taken}
use Rattle.pg_session.proofs.Turning.{all-turned, own_changed, same_changed}
use Rattle.pg_session.proofs.Fitting.{fitted_map, reshape-fits}
use Rattle.pg_session.proofs.Fitting.{revoked_granted, whole_slice}
use Rattle.pg_session.proofs.subscriber.Subscriber.revoke.Goals as goal

pub invariant_of-self : goal.invariant_of-self
invariant_of-self c =
    let i = c.self.invariant in
    let ss = c.self.inside.streams.items in
    let turn = reshape_turn by_slots c.self.inside.listed (without_config c.self.inside.listed c.args.key) in
    let after = c.reshape_all.ensures.streams ∙ ap (map (λ s. stream_after (turn s))) c.deref_mut.ensures.value in
    let long : length c.reshape_all.new.streams ≡ length ss = ap length after ∙ length-map ss (λ s. stream_after (turn s)) in
    let shown = whole_slice c.reshape_all.new.streams ss c.self.inside.streams.len (c.self.inside.streams.ok.0 ∙ sym long) in
    rw (shown, c.remove.ensures.list, c.revoke-revoked.ensures.list) record {
      few = omega (arith, i.few, long);
      room = i.room;
      fitted = subst (AreFitted (without_config c.self.inside.listed c.args.key)) (sym after) (fitted_map c.self.inside.listed (without_config c.self.inside.listed c.args.key) turn (reshape-fits c.self.inside.listed (without_config c.self.inside.listed c.args.key)) ss i.fitted);
      granted = revoked_granted c.args.key c.self.inside.grants c.self.inside.listed i.granted;
      blocks = i.blocks;
      configs = i.configs;
    }

pub returns-clause-steps : goal.returns-clause-steps
returns-clause-steps c =
    let ss = c.self.inside.streams.items in
    let own : Own = record {
      connected = c.self.inside.connected;
      grants = c.self.inside.grants;
      listed = c.self.inside.listed;
      streams = ss;
      output = c.self.inside.output.output;
      last_tick = c.self.inside.last_tick;
      definitions = c.self.inside.definitions;
    } in
    let turn = reshape_turn by_slots c.self.inside.listed (without_config c.self.inside.listed c.args.key) in
    let e = event.revoke c.args.key in
    let after = c.reshape_all.ensures.streams ∙ ap (map (λ s. stream_after (turn s))) c.deref_mut.ensures.value in
    let long : length c.reshape_all.new.streams ≡ length ss = ap length after ∙ length-map ss (λ s. stream_after (turn s)) in
    let shown = whole_slice c.reshape_all.new.streams ss c.self.inside.streams.len (c.self.inside.streams.ok.0 ∙ sym long) in
    let taken : Taken (map turn ss) c.begin.new.self c.reshape_all.new.output =
    subst (λ xs. Taken (map turn xs) c.begin.new.self c.reshape_all.new.output) c.deref_mut.ensures.value c.reshape_all.ensures.taken in
    let turned = all-turned own e c.args.lost turn c.reshape_all.new.streams c.begin.new.self c.reshape_all.new.output refl after c.begin.ensures taken in
    let state = same_changed own c.revoke-revoked.ensures.list c.remove.ensures.list (shown ∙ turned.streams_are) turned.output_is in
    let held : has_key own.grants c.args.key ≡ true = sym c.holds.ensures.value ∙ c.if-not-holds.false in
    let new : SubscriberValue = record {
      own = own_changed own c.revoke-revoked.new.self c.remove.new.self
          (take c.self.inside.streams.len (c.reshape_all.new.streams ++ drop (length c.reshape_all.new.streams) ss)) c.reshape_all.new.output.output;
      blocks = c.self.inside.blocks.items;
      configs = map arc_value c.self.inside.configs.items;
    } in
    subst (λ (v : SubscriberValue). Steps v e c.args.lost (told c.done.result) new) c.self.view_is
    (record {
      may = rw held (inl (c.reshape_all.new.output.kept, turned.few, turned.none, c.done.ensures ∙ ap (λ n. done n c.reshape_all.new.output.kept) turned.made));
      state = state ∙ ap (next by_slots by_gaps own e) (sym c.done.ensures);
    })
