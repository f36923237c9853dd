use Rattle.std.proofs.Common.{◌≡◌, ◌++◌, true, false, length, take, drop, map, slice_get, option_map, Some, None, sym, ap, ◌∙◌, subst, arith}
use Rattle.std.proofs.lemmas.List.{length-map}
use Rattle.std.proofs.lemmas.Option.{slice_get-map}
use Rattle.std.specs.Arc.{arc_value}
use Rattle.pg_entitle.specs.Grants.{has_key, with_key}
use Rattle.pg_outcfg.specs.Listing.{with_config}
use Rattle.pg_session.specs.Events as event
use Rattle.pg_session.specs.Private.{done, told, next}
use Rattle.pg_session.specs.Streams.{reshape_turn}
use Rattle.pg_session.specs.Kept.{by_slots, by_gaps}
use Rattle.pg_session.specs.Fields.{AreFitted, stream_after}
use Rattle.pg_session.specs.Wanted.{granted_wanted}
use Rattle.pg_session.specs.Shown.{Own, SubscriberValue}
use Rattle.pg_session.specs.Steps.{Steps}
use Rattle.pg_session.specs.Taking.{Taken}
use Rattle.pg_session.proofs.Turning.{all-turned, may-done, own_changed, same_changed}
use Rattle.pg_session.proofs.Fitting.{fitted_map, reshape-fits, whole_slice}
use Rattle.pg_session.proofs.Granting.{again, unannounced, anew, anew_allowed, anew_after, wanted_now, granted_is, granted_more, granted_put, granted_now, granted_few, below_32}
use Rattle.pg_session.proofs.subscriber.Subscriber.grant.Goals as goal

pub returns-then-holds-clause-steps : goal.returns-then-holds-clause-steps
returns-then-holds-clause-steps c = λ config h.
    let own : Own = record {
      connected = c.self.inside.connected;
      grants = c.self.inside.grants;
      listed = c.self.inside.listed;
      streams = c.self.inside.streams.items;
      output = c.self.inside.output.output;
      last_tick = c.self.inside.last_tick;
      definitions = c.self.inside.definitions;
    } in
    let value : SubscriberValue = record { own = own; blocks = c.self.inside.blocks.items; configs = map arc_value c.self.inside.configs.items } in
    let held : has_key own.grants c.args.key ≡ true = sym c.holds.ensures.value ∙ c.if-holds.true in
    let one = again own c.args.key config c.args.lost held in
    subst (λ (v : SubscriberValue). Steps v (event.grant c.args.key config) c.args.lost (done 0 0) v) c.self.view_is (record { may = one.0; state = one.1 })

pub invariant_of-self : goal.invariant_of-self
invariant_of-self c =
    let i = c.self.invariant in
    let free : has_key c.self.inside.grants c.args.key ≡ false = sym c.holds.ensures.value ∙ c.if-holds.false in
    let room = below_32 (length c.self.inside.grants) (sym c.is_full.ensures.value ∙ c.if-is_full.false) in
    let grants = c.grant-granted.ensures.list ∙ granted_is c.self.inside.grants c.args.key free room in
    rw (grants) record {
      few = i.few;
      room = i.room;
      fitted = i.fitted;
      granted = granted_more c.self.inside.grants c.args.key c.self.inside.listed i.granted;
      blocks = i.blocks;
      configs = ap (λ b. b.capacity) c.pop_front.ensures.items ∙ i.configs;
    }

pub returns-in_default-clause-steps : goal.returns-in_default-clause-steps
returns-in_default-clause-steps c = λ config h.
    let own : Own = record {
      connected = c.self.inside.connected;
      grants = c.self.inside.grants;
      listed = c.self.inside.listed;
      streams = c.self.inside.streams.items;
      output = c.self.inside.output.output;
      last_tick = c.self.inside.last_tick;
      definitions = c.self.inside.definitions;
    } in
    let items = c.self.inside.configs.items in
    let free : has_key own.grants c.args.key ≡ false = sym c.holds.ensures.value ∙ c.if-holds.false in
    let room = below_32 (length own.grants) (sym c.is_full.ensures.value ∙ c.if-is_full.false) in
    let ready : map arc_value items ≡ granted_wanted own.grants c.args.key config =
    subst (λ (v : SubscriberValue). v.configs ≡ granted_wanted v.own.grants c.args.key config) (sym c.self.view_is) h in
    let none : config ≡ None = sym (wanted_now own.grants c.args.key config free room) ∙ sym (ap (λ xs. slice_get xs 0) ready)
    ∙ slice_get-map arc_value items 0 ∙ ap (option_map arc_value) (sym c.in_default.ensures.value) in
    let one = unannounced own c.args.key c.args.lost free room in
    let new : SubscriberValue = record {
      own = own_changed own c.grant-granted.new.self own.listed own.streams own.output;
      blocks = c.self.inside.blocks.items;
      configs = map arc_value c.pop_front.new.self.items;
    } in
    subst (λ o. Steps c.args.self.now (event.grant c.args.key o) c.args.lost (done 0 0) new) (sym none)
    (subst (λ (v : SubscriberValue). Steps v (event.grant c.args.key None) c.args.lost (done 0 0) new) c.self.view_is
    (record {
      may = one.0;
      state = ap (λ gs. own_changed own gs own.listed own.streams own.output) c.grant-granted.ensures.list ∙ one.1;
    }))

pub list_one-requires-clause-room : goal.list_one-requires-clause-room
list_one-requires-clause-room c =
    omega (
      arith,
      granted_few c.self.inside.listed c.self.inside.grants c.len-rising.ensures.rising c.self.invariant.granted,
      below_32 (length c.self.inside.grants) (sym c.is_full.ensures.value ∙ c.if-is_full.false),
    )

pub invariant_of-self-2 : goal.invariant_of-self-2
invariant_of-self-2 c =
    let i = c.self.invariant in
    let ss = c.self.inside.streams.items in
    let config = arc_value c.in-Some.copy in
    let other = with_config c.self.inside.listed c.args.key config in
    let turn = reshape_turn by_slots c.self.inside.listed other in
    let after = c.list_one.ensures.streams ∙ ap (map (λ s. stream_after (turn s))) c.deref_mut.ensures.value in
    let long : length c.list_one.new.streams ≡ length ss = ap length after ∙ length-map ss (λ s. stream_after (turn s)) in
    let shown = whole_slice c.list_one.new.streams ss c.self.inside.streams.len (c.self.inside.streams.ok.0 ∙ sym long) in
    let free : has_key c.self.inside.grants c.args.key ≡ false = sym c.holds.ensures.value ∙ c.if-holds.false in
    let room = below_32 (length c.self.inside.grants) (sym c.is_full.ensures.value ∙ c.if-is_full.false) in
    let grants = c.grant-granted.ensures.list ∙ granted_is c.self.inside.grants c.args.key free room in
    rw (shown, c.list_one.ensures.listed, grants) record {
      few = omega (arith, i.few, long);
      room = i.room;
      fitted = subst (AreFitted other) (sym after) (fitted_map c.self.inside.listed other turn (reshape-fits c.self.inside.listed other) ss i.fitted);
      granted = granted_put (with_key c.self.inside.grants c.args.key) c.self.inside.listed c.args.key config (granted_now c.self.inside.grants c.args.key)
          (granted_more c.self.inside.grants c.args.key c.self.inside.listed i.granted);
      blocks = i.blocks;
      configs = ap (λ b. b.capacity) c.pop_front.ensures.items ∙ i.configs;
    }

pub returns-clause-steps : goal.returns-clause-steps
returns-clause-steps c = λ config h.
    let ss = c.self.inside.streams.items in
    let own : Own = record {
      connected = c.self.inside.connected;
      grants = c.self.inside.grants;
      listed = c.self.inside.listed;
      streams = ss;
      output = c.self.inside.output.output;
      last_tick = c.self.inside.last_tick;
      definitions = c.self.inside.definitions;
    } in
    let items = c.self.inside.configs.items in
    let given = arc_value c.in-Some.copy in
    let free : has_key own.grants c.args.key ≡ false = sym c.holds.ensures.value ∙ c.if-holds.false in
    let room = below_32 (length own.grants) (sym c.is_full.ensures.value ∙ c.if-is_full.false) in
    let ready : map arc_value items ≡ granted_wanted own.grants c.args.key config =
    subst (λ (v : SubscriberValue). v.configs ≡ granted_wanted v.own.grants c.args.key config) (sym c.self.view_is) h in
    let some : config ≡ Some given = sym (wanted_now own.grants c.args.key config free room) ∙ sym (ap (λ xs. slice_get xs 0) ready)
    ∙ slice_get-map arc_value items 0 ∙ ap (option_map arc_value) (sym c.in-Some.ensures.value) in
    let turn = reshape_turn by_slots own.listed (with_config own.listed c.args.key given) in
    let e = event.grant c.args.key (Some given) in
    let after = c.list_one.ensures.streams ∙ ap (map (λ s. stream_after (turn s))) c.deref_mut.ensures.value in
    let long : length c.list_one.new.streams ≡ length ss = ap length after ∙ length-map ss (λ s. stream_after (turn s)) in
    let shown = whole_slice c.list_one.new.streams ss c.self.inside.streams.len (c.self.inside.streams.ok.0 ∙ sym long) in
    let taken : Taken (map turn ss) c.begin.new.self c.list_one.new.output =
    subst (λ xs. Taken (map turn xs) c.begin.new.self c.list_one.new.output) c.deref_mut.ensures.value c.list_one.ensures.taken in
    let turned = all-turned own e c.args.lost turn c.list_one.new.streams c.begin.new.self c.list_one.new.output (anew own c.args.key given free) after c.begin.ensures taken in
    let state = same_changed own c.grant-granted.ensures.list c.list_one.ensures.listed (shown ∙ turned.streams_are) turned.output_is in
    let new : SubscriberValue = record {
      own = own_changed own c.grant-granted.new.self c.list_one.new.listed
          (take c.self.inside.streams.len (c.list_one.new.streams ++ drop (length c.list_one.new.streams) ss)) c.list_one.new.output.output;
      blocks = c.self.inside.blocks.items;
      configs = map arc_value c.pop_front.new.self.items;
    } in
    subst (λ o. Steps c.args.self.now (event.grant c.args.key o) c.args.lost (told c.done.result) new) (sym some)
    (subst (λ (v : SubscriberValue). Steps v e c.args.lost (told c.done.result) new) c.self.view_is
    (record {
      may = may-done own e c.args.lost (told c.done.result) c.list_one.new.output.kept (anew_allowed own c.args.key (Some given) free room) turned.few turned.none
          (c.done.ensures ∙ ap (λ n. done n c.list_one.new.output.kept) turned.made);
      state = state ∙ anew_after own c.args.key given c.list_one.new.output.kept free ∙ ap (next by_slots by_gaps own e) (sym c.done.ensures);
    }))
