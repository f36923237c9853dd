use Rattle.std.proofs.Common.{◌≡◌, ◌+◌, ◌≤◌, [], drop}
use Rattle.pg_align.specs.Fields.{lacking}
use Rattle.pg_align.proofs.slot.count_effective.Given as goal

abbrev pub invariant-loop-wanted : goal.invariant-loop-wanted
invariant-loop-wanted l = record {
  few : l.count ≤ l.wanted-index;
  counted : l.count + lacking (drop l.wanted-index l.effective) [] ≡ lacking l.effective [];
}
