use Rattle.std.proofs.Common.{◌≡◌, ◌++◌, length}
use Rattle.pg_record.specs.Taping.{spelled}
use Rattle.pg_record.proofs.tape.TapedCalls.write_to.Given as goal

abbrev pub decreases-calls : goal.decreases-calls
decreases-calls l = length l.left

abbrev pub invariant-calls : goal.invariant-calls
invariant-calls l = l.out.items ++ spelled l.self.bodies.items l.left ≡ l.initial.out.items ++ spelled l.self.bodies.items l.self.calls.items
