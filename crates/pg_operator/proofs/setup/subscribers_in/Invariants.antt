use Rattle.std.proofs.Common.{◌≡◌, drop, map}
use Rattle.std.specs.Prelude.{option_map, ◌++◌}
use Rattle.toml.specs.View.{items_view}
use Rattle.pg_operator.specs.Setups.{each, subscriber_in, subscriber_value}
use Rattle.pg_operator.proofs.setup.subscribers_in.Given as goal

abbrev pub invariant-items : goal.invariant-items
invariant-items l =
    each subscriber_in (items_view l.item-items)
    ≡ option_map (λ rest. map subscriber_value l.subscribers.items ++ rest) (each subscriber_in (items_view (drop l.item-index l.item-items)))
