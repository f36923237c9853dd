use Rattle.std.proofs.Common.{◌≡◌, ◌≤◌, ◌++◌, [], ◌∷◌, replicate, length, take, drop, map, inl, refl, sym, ap, ap₂, ◌∙◌, subst, arith}
use Rattle.std.proofs.lemmas.List.{length-map}
use Rattle.std.specs.Arc.{arc_value}
use Rattle.pg_data.specs.Pieces.{piece_of}
use Rattle.pg_session.specs.Events as event
use Rattle.pg_session.specs.Events.{samples_at}
use Rattle.pg_session.specs.Private.{done, told, next}
use Rattle.pg_session.specs.Streams.{measure_turn}
use Rattle.pg_session.specs.Kept.{by_slots, by_gaps}
use Rattle.pg_session.specs.Fields.{AreFitted, all_kept, stream_after}
use Rattle.pg_session.specs.Ready.{AreHeld}
use Rattle.pg_session.proofs.Preparing.{held_listed}
use Rattle.pg_session.specs.Shown.{Own, SubscriberValue}
use Rattle.pg_session.specs.Steps.{Steps}
use Rattle.pg_session.specs.Taking.{Taken}
use Rattle.pg_session.proofs.Turning.{all-turned, own_with}
use Rattle.pg_session.proofs.Fitting.{fitted_map, measure-fits}
use Rattle.pg_session.proofs.Fitting.{whole_slice}
use Rattle.pg_session.proofs.subscriber.Subscriber.measure_one.Goals as goal

pub invariant_of-self : goal.invariant_of-self
invariant_of-self c =
    let i = c.self.invariant in
    let ss = c.self.inside.streams.items in
    let turn = measure_turn by_slots c.self.inside.listed c.args.frame.now.soc c.args.frame.now.quality c.args.frame.now.frac (samples_at c.args.frame.now (c.args.place ∷ [])) in
    let after = c.measure_all_one.ensures.streams ∙ ap (map (λ s. stream_after (turn s))) c.deref_mut.ensures.value in
    let long : length c.measure_all_one.new.streams ≡ length ss = ap length after ∙ length-map ss (λ s. stream_after (turn s)) in
    let shown = whole_slice c.measure_all_one.new.streams ss c.self.inside.streams.len (c.self.inside.streams.ok.0 ∙ sym long) in
    rw shown record {
      few = omega (arith, i.few, long);
      room = i.room;
      fitted = subst (AreFitted c.self.inside.listed) (sym after) (fitted_map c.self.inside.listed c.self.inside.listed turn (measure-fits c.self.inside.listed c.args.frame.now.soc c.args.frame.now.quality c.args.frame.now.frac (samples_at c.args.frame.now (c.args.place ∷ []))) ss i.fitted);
      granted = i.granted;
      blocks = c.measure_all_one.ensures.capacity ∙ i.blocks;
      configs = i.configs;
    }

pub returns-clause-steps : goal.returns-clause-steps
returns-clause-steps c =
    let ss = c.self.inside.streams.items in
    let own : Own = record {
      connected = c.self.inside.connected;
      grants = c.self.inside.grants;
      listed = c.self.inside.listed;
      streams = ss;
      output = c.self.inside.output.output;
      last_tick = c.self.inside.last_tick;
      definitions = c.self.inside.definitions;
    } in
    let turn = measure_turn by_slots c.self.inside.listed c.args.frame.now.soc c.args.frame.now.quality c.args.frame.now.frac (samples_at c.args.frame.now (c.args.place ∷ [])) in
    let e = event.measure c.args.frame.now.soc c.args.frame.now.quality c.args.frame.now.frac (samples_at c.args.frame.now (c.args.place ∷ [])) in
    let after = c.measure_all_one.ensures.streams ∙ ap (map (λ s. stream_after (turn s))) c.deref_mut.ensures.value in
    let long : length c.measure_all_one.new.streams ≡ length ss = ap length after ∙ length-map ss (λ s. stream_after (turn s)) in
    let shown = whole_slice c.measure_all_one.new.streams ss c.self.inside.streams.len (c.self.inside.streams.ok.0 ∙ sym long) in
    let taken : Taken (map turn ss) c.begin.new.self c.measure_all_one.new.output =
    subst (λ xs. Taken (map turn xs) c.begin.new.self c.measure_all_one.new.output) c.deref_mut.ensures.value c.measure_all_one.ensures.taken in
    let turned = all-turned own e c.args.lost turn c.measure_all_one.new.streams c.begin.new.self c.measure_all_one.new.output refl after c.begin.ensures taken in
    let state = ap₂ (own_with own c.self.inside.last_tick) (shown ∙ turned.streams_are) turned.output_is in
    let new : SubscriberValue = record {
      own = own_with own c.self.inside.last_tick (take c.self.inside.streams.len (c.measure_all_one.new.streams ++ drop (length c.measure_all_one.new.streams) ss)) c.measure_all_one.new.output.output;
      blocks = c.measure_all_one.new.blocks.items;
      configs = map arc_value c.self.inside.configs.items;
    } in
    subst (λ (v : SubscriberValue). Steps v e c.args.lost (told c.done.result) new) c.self.view_is
    (record {
      may = inl (c.measure_all_one.new.output.kept, turned.few, turned.none, c.done.ensures ∙ ap (λ n. done n c.measure_all_one.new.output.kept) turned.made);
      state = state ∙ ap (next by_slots by_gaps own e) (sym c.done.ensures);
    })

pub measure_all_one-requires-clause-listed : goal.measure_all_one-requires-clause-listed
measure_all_one-requires-clause-listed c =
    let samples = samples_at c.args.frame.now (c.args.place ∷ []) in
    held_listed c.self.inside.grants c.self.inside.listed samples
    (subst (λ (v : SubscriberValue). AreHeld v.own.grants v.own.listed samples) (sym c.self.view_is) c.requires.held)

pub measure_all_one-requires-clause-copies : goal.measure_all_one-requires-clause-copies
measure_all_one-requires-clause-copies c =
    subst (λ (v : SubscriberValue). v.blocks ≡ replicate (length v.blocks) (piece_of c.args.frame.now c.args.place)) (sym c.self.view_is) c.requires.serving.copies

pub measure_all_one-requires-clause-enough : goal.measure_all_one-requires-clause-enough
measure_all_one-requires-clause-enough c =
    let m = c.args.frame.now in
    let samples = samples_at m (c.args.place ∷ []) in
    let inside = subst (λ (v : SubscriberValue). all_kept v.own.streams m.quality samples ≤ length v.blocks) (sym c.self.view_is) c.requires.serving.enough in
    rw c.deref_mut.ensures.value inside
