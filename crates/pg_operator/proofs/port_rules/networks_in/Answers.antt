use Rattle.std.proofs.Common.{refl, sym, inr, ◌∙◌}
use Rattle.toml.specs.View.{view}
use Rattle.pg_operator.specs.Setups.{network_text_in}
use Rattle.pg_operator.proofs.Lists.{all_read, items_listed, next_read, not_read, nothing_yet}
use Rattle.pg_operator.proofs.port_rules.networks_in.Goals as goal

pub items-init : goal.items-init
items-init c = nothing_yet network_text_in c.deref-item-items.result.now c.new-networks.result.items c.new-networks.ensures.items

pub returns-in_default-network-clause-err : goal.returns-in_default-network-clause-err
returns-in_default-network-clause-err c =
    inr (
      refl,
      items_listed network_text_in (view c.args.value.now) c.in-Some.items.now.items c.deref-item-items.result.now c.in-Some.ensures c.deref-item-items.ensures.value
          ∙ not_read network_text_in c.deref-item-items.result.now c.items.item-index c.item-item.result c.items.networks.items _
          c.items-test.true c.item-item.is (sym c.in_default-network.ensures) c.items.invariant,
    )

pub items-preserved : goal.items-preserved
items-preserved c =
    next_read network_text_in c.deref-item-items.result.now c.items.item-index c.item-item.result c.in-Some-network.network c.items.networks.items c.push.new.self.items _
    c.items-test.true c.item-item.is (sym c.in-Some-network.ensures) c.in_ok-push.ensures.items c.items.invariant

pub returns-clause-ok : goal.returns-clause-ok
returns-clause-ok c =
    items_listed network_text_in (view c.args.value.now) c.in-Some.items.now.items c.deref-item-items.result.now c.in-Some.ensures c.deref-item-items.ensures.value
    ∙ all_read network_text_in c.deref-item-items.result.now c.items.item-index c.items.networks.items _ c.items-test.false c.items.invariant
