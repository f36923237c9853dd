use Rattle.std.proofs.Common.{rules, ◌<◌, ◌≤◌, length}
use Rattle.pg_lines.specs.Words.{pmu_id_in}
use Rattle.pg_lines.specs.Addresses.{endpoint_in}
use Rattle.pg_lines.proofs.Counts.{few, many}
use borrow.Author.Tests.{tests}
use Rattle.pg_lines.proofs.steer.source_and_address.Goals as goal
use Rattle.pg_lines.proofs.steer.source_and_address.Goals.{in_default-via-then-args-lt2, in_default-via-else-args-lt2+else-args-lt3}

pub returns-in_default : goal.returns-in_default
returns-in_default c = elim c.in_default.branch [
  | in_default-via-then-args-lt2 w ↦ let below : length c.args.args.now < 2 = search (rules, tests) in few pmu_id_in endpoint_in (λ w. w.now) c.args.args.now below
  | in_default-via-else-args-lt2+else-args-lt3 w ↦ let above : 3 ≤ length c.args.args.now = search (rules, tests) in many pmu_id_in endpoint_in (λ w. w.now) c.args.args.now above
]
