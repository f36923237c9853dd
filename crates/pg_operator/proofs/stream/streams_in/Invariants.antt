use Rattle.std.proofs.Common.{◌≡◌, drop}
use Rattle.std.specs.Prelude.{option_map, ◌++◌}
use Rattle.toml.specs.View.{items_view}
use Rattle.pg_operator.specs.Setups.{each, stream_in}
use Rattle.pg_operator.proofs.stream.streams_in.Given as goal

abbrev pub invariant-items : goal.invariant-items
invariant-items l =
    each stream_in (items_view l.item-items) ≡ option_map (λ rest. l.streams.items ++ rest) (each stream_in (items_view (drop l.item-index l.item-items)))
