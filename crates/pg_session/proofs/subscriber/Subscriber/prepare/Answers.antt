use Rattle.std.proofs.Common.{◌≡◌, [], length, map, ap, ◌∙◌, subst, arith}
use Rattle.std.proofs.lemmas.List.{length-map}
use Rattle.std.specs.Arc.{arc_value}
use Rattle.pg_session.specs.Events.{announced_at, config_of, subscriber_event}
use Rattle.pg_session.specs.declared.event.PrivateEvent.{PrivateEvent}
use Rattle.pg_session.specs.Ready.{ArePlaces, IsPlaced, configs_wanted}
use Rattle.pg_session.specs.Shown.{SubscriberValue}
use Rattle.pg_session.proofs.Preparing.{empty_list, places_within}
use Rattle.pg_session.proofs.Putting.{announced_length}
use Rattle.pg_session.proofs.subscriber.Subscriber.prepare.Goals as goal

pub copy_parts-requires-clause-empty : goal.copy_parts-requires-clause-empty
copy_parts-requires-clause-empty c =
    let items = c.self.inside.configs.items in
    let none : map arc_value items ≡ [] = ap (λ (v : SubscriberValue). v.configs) c.self.view_is ∙ c.requires.none.configs in
    let n = ap length none in
    let m = length-map items arc_value in
    empty_list items (omega (arith, n, m))

pub returns-in-Announce-clause-needless : goal.returns-in-Announce-clause-needless
returns-in-Announce-clause-needless c = λ none.
    let config = c.in-Announce.config.now in
    let places = c.in-Announce.places.now in
    let placed : ArePlaces (length config.parts) places = subst (λ (e : PrivateEvent). IsPlaced e) c.in-Announce.is c.requires.accepts.placed in
    let wanted : map config_of (announced_at config places) ≡ [] =
    subst (λ (e : PrivateEvent). configs_wanted c.args.self.now.own (subscriber_event e) ≡ []) c.in-Announce.is none.configs in
    let n = ap length wanted in
    let m = length-map (announced_at config places) config_of in
    let l = announced_length config places (places_within (length config.parts) places placed) in
    absurd (omega (arith, n, m, l, placed.some))
