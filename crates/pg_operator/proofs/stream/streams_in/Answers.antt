use Rattle.std.proofs.Common.{◌∙◌}
use Rattle.toml.specs.View.{view}
use Rattle.pg_operator.specs.Setups.{stream_in}
use Rattle.pg_operator.proofs.Lists.{all_read, items_listed, next_read, nothing_yet}
use Rattle.pg_operator.proofs.stream.streams_in.Goals as goal

pub items-init : goal.items-init
items-init c = nothing_yet stream_in c.deref-item-items.result.now c.new-streams.result.items c.new-streams.ensures.items

pub items-preserved : goal.items-preserved
items-preserved c =
    next_read stream_in c.deref-item-items.result.now c.items.item-index c.item-item.result c.in-Ok.definition
    c.items.streams.items c.push.new.self.items _ c.items-test.true c.item-item.is c.in-Ok.ensures.ok c.in_ok-push.ensures.items c.items.invariant

pub returns-clause-ok : goal.returns-clause-ok
returns-clause-ok c =
    items_listed stream_in (view c.args.value.now) c.in-Some.items.now.items c.deref-item-items.result.now c.in-Some.ensures c.deref-item-items.ensures.value
    ∙ all_read stream_in c.deref-item-items.result.now c.items.item-index c.items.streams.items _ c.items-test.false c.items.invariant
