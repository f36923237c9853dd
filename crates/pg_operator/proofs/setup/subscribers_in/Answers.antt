use Rattle.std.proofs.Common.{rules, ap, map, ◌≡◌, ◌∙◌, ◌++◌, [], ◌∷◌}
use Rattle.std.proofs.lemmas.List.{map-append}
use Rattle.toml.specs.View.{view}
use Rattle.pg_operator.specs.Setups.{subscriber_in, subscriber_value}
use Rattle.pg_operator.proofs.Lists.{all_read, items_listed, next_read, nothing_yet}
use Rattle.pg_operator.proofs.setup.subscribers_in.Goals as goal

pub items-init : goal.items-init
items-init c = nothing_yet subscriber_in c.deref-item-items.result.now (map subscriber_value c.new-subscribers.result.items) (ap (map subscriber_value) c.new-subscribers.ensures.items)

pub items-preserved : goal.items-preserved
items-preserved c =
    let old = c.items.subscribers.items in
    let s = c.in-Ok.subscriber in
    let grown : c.push.new.self.items ≡ old ++ s ∷ [] = search rules in
    next_read subscriber_in c.deref-item-items.result.now c.items.item-index c.item-item.result (subscriber_value s) (map subscriber_value old)
    (map subscriber_value c.push.new.self.items) _ c.items-test.true c.item-item.is c.in-Ok.ensures.ok
    (ap (map subscriber_value) grown ∙ map-append subscriber_value old (s ∷ [])) c.items.invariant

pub returns-clause-ok : goal.returns-clause-ok
returns-clause-ok c =
    items_listed subscriber_in (view c.args.value.now) c.in-Some.items.now.items c.deref-item-items.result.now c.in-Some.ensures c.deref-item-items.ensures.value
    ∙ all_read subscriber_in c.deref-item-items.result.now c.items.item-index (map subscriber_value c.items.subscribers.items) _ c.items-test.false c.items.invariant
