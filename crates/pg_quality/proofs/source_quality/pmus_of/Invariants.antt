use Rattle.std.proofs.Common.{◌≡◌, ◌*◌, ◌≤◌, ◌++◌, drop, map}
use Rattle.std.specs.Arc.{arc_value}
use Rattle.pg_quality.specs.Announcing.{pmus_from}
use Rattle.pg_quality.proofs.source_quality.pmus_of.Given as goal

-- those so far, with those that are left
abbrev pub invariant-loop-part : goal.invariant-loop-part
invariant-loop-part l = record {
  small : l.start ≤ 2000 * l.part-index;
  made : l.pmus.items ++ pmus_from l.start l.known (drop l.part-index (map arc_value l.parts)) ≡ pmus_from 0 l.known (map arc_value l.parts);
}
