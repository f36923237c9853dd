use Rattle.std.proofs.Common.{◌≡◌}
use Rattle.pg_record.proofs.merge.Merge.add.Given as goal

abbrev pub invariant-records : goal.invariant-records
invariant-records l = l.self ≡ l.fn.self
