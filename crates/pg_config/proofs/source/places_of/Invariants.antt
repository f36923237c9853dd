use Rattle.std.proofs.Common.{◌≡◌, ◌*◌, ◌≤◌, ◌++◌, ◌∷◌, drop, map}
use Rattle.std.specs.Arc.{arc_value}
use Rattle.pg_config.specs.Parts.{ends_from}
use Rattle.pg_config.proofs.source.places_of.Given as goal

abbrev pub invariant-loop-part : goal.invariant-loop-part
invariant-loop-part l = record {
  small : l.place ≤ 2000 * l.part-index;
  made : l.found.items ++ ends_from l.place (drop l.part-index (map arc_value l.parts)) ≡ 0 ∷ ends_from 0 (map arc_value l.parts);
}
