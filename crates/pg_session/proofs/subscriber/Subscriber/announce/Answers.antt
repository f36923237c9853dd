use Rattle.std.proofs.Common.{◌≡◌, ◌++◌, length, take, drop, map, refl, sym, ap, ◌∙◌, subst, arith}
use Rattle.std.proofs.lemmas.List.{length-map}
use Rattle.std.specs.Arc.{arc_value}
use Rattle.pg_session.specs.Events as event
use Rattle.pg_session.specs.Events.{announced_at}
use Rattle.pg_session.specs.Private.{done, told, next, put_all}
use Rattle.pg_session.specs.Streams.{reshape_turn}
use Rattle.pg_session.specs.Kept.{by_slots, by_gaps}
use Rattle.pg_session.specs.Fields.{AreFitted, stream_after}
use Rattle.pg_session.specs.Shown.{Own, SubscriberValue}
use Rattle.pg_session.specs.Steps.{Steps}
use Rattle.pg_session.specs.Taking.{Taken}
use Rattle.pg_session.proofs.Turning.{all-turned, may-done, own_changed, same_changed}
use Rattle.pg_session.proofs.Fitting.{fitted_map, reshape-fits, whole_slice}
use Rattle.pg_session.proofs.Preparing.{places_within}
use Rattle.pg_session.proofs.Granting.{granted_put_all, granted_few, rising_put_all, announces}
use Rattle.pg_session.proofs.subscriber.Subscriber.announce.Goals as goal

pub list_all-requires-clause-room : goal.list_all-requires-clause-room
list_all-requires-clause-room c =
    let list = announced_at c.args.config.now c.args.places.now in
    let own = subst (λ gs. announces gs list) (ap (λ v. v.own.grants) (sym c.self.view_is)) c.requires.own in
    omega (
      arith,
      granted_few (put_all c.self.inside.listed list) c.self.inside.grants (rising_put_all c.self.inside.listed list c.len-rising.ensures.rising)
          (granted_put_all c.self.inside.grants c.self.inside.listed list own c.self.invariant.granted),
      c.len-few.ensures.few,
      c.len-few.ensures.value,
    )

pub invariant_of-self : goal.invariant_of-self
invariant_of-self c =
    let i = c.self.invariant in
    let ss = c.self.inside.streams.items in
    let list = announced_at c.args.config.now c.args.places.now in
    let own = subst (λ gs. announces gs list) (ap (λ v. v.own.grants) (sym c.self.view_is)) c.requires.own in
    let other = put_all c.self.inside.listed list in
    let turn = reshape_turn by_slots c.self.inside.listed other in
    let after = c.list_all.ensures.streams ∙ ap (map (λ s. stream_after (turn s))) c.deref_mut.ensures.value in
    let long : length c.list_all.new.streams ≡ length ss = ap length after ∙ length-map ss (λ s. stream_after (turn s)) in
    let shown = whole_slice c.list_all.new.streams ss c.self.inside.streams.len (c.self.inside.streams.ok.0 ∙ sym long) in
    rw (shown, c.list_all.ensures.listed) record {
      few = omega (arith, i.few, long);
      room = i.room;
      fitted = subst (AreFitted other) (sym after) (fitted_map c.self.inside.listed other turn (reshape-fits c.self.inside.listed other) ss i.fitted);
      granted = granted_put_all c.self.inside.grants c.self.inside.listed list own i.granted;
      blocks = i.blocks;
      configs = c.list_all.ensures.capacity ∙ i.configs;
    }

pub returns-clause-steps : goal.returns-clause-steps
returns-clause-steps c =
    let ss = c.self.inside.streams.items in
    let own : Own = record {
      connected = c.self.inside.connected;
      grants = c.self.inside.grants;
      listed = c.self.inside.listed;
      streams = ss;
      output = c.self.inside.output.output;
      last_tick = c.self.inside.last_tick;
      definitions = c.self.inside.definitions;
    } in
    let list = announced_at c.args.config.now c.args.places.now in
    let turn = reshape_turn by_slots own.listed (put_all own.listed list) in
    let e = event.announce list in
    let after = c.list_all.ensures.streams ∙ ap (map (λ s. stream_after (turn s))) c.deref_mut.ensures.value in
    let long : length c.list_all.new.streams ≡ length ss = ap length after ∙ length-map ss (λ s. stream_after (turn s)) in
    let shown = whole_slice c.list_all.new.streams ss c.self.inside.streams.len (c.self.inside.streams.ok.0 ∙ sym long) in
    let taken : Taken (map turn ss) c.begin.new.self c.list_all.new.output =
    subst (λ xs. Taken (map turn xs) c.begin.new.self c.list_all.new.output) c.deref_mut.ensures.value c.list_all.ensures.taken in
    let turned = all-turned own e c.args.lost turn c.list_all.new.streams c.begin.new.self c.list_all.new.output refl after c.begin.ensures taken in
    let state = same_changed own refl c.list_all.ensures.listed (shown ∙ turned.streams_are) turned.output_is in
    let new : SubscriberValue = record {
      own = own_changed own own.grants c.list_all.new.listed
          (take c.self.inside.streams.len (c.list_all.new.streams ++ drop (length c.list_all.new.streams) ss)) c.list_all.new.output.output;
      blocks = c.self.inside.blocks.items;
      configs = map arc_value c.list_all.new.configs.items;
    } in
    subst (λ (v : SubscriberValue). Steps v e c.args.lost (told c.done.result) new) c.self.view_is
    (record {
      may = may-done own e c.args.lost (told c.done.result) c.list_all.new.output.kept refl turned.few turned.none
          (c.done.ensures ∙ ap (λ n. done n c.list_all.new.output.kept) turned.made);
      state = state ∙ ap (next by_slots by_gaps own e) (sym c.done.ensures);
    })

pub list_all-requires-clause-places : goal.list_all-requires-clause-places
list_all-requires-clause-places c = places_within _ c.args.places.now c.requires.places
