use Rattle.std.proofs.Common.{◌≡◌, drop}
use Rattle.pg_operator.specs.Made.{are_carried}
use Rattle.pg_operator.proofs.shown.are_carried.Given as goal

abbrev pub invariant-loop-key : goal.invariant-loop-key
invariant-loop-key l = are_carried l.grants l.left (drop l.key-index l.members) ≡ are_carried l.grants l.effective l.members
