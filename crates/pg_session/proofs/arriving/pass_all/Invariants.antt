use Rattle.std.proofs.Common.{◌≡◌, drop}
use Rattle.pg_session.specs.Output.{all_ignored}
use Rattle.pg_session.specs.Fields.{with_stats}
use Rattle.pg_session.proofs.arriving.pass_all.Given as goal

abbrev pub invariant-loop : goal.invariant-loop
invariant-loop l =
    (l.output ≡ with_stats l.fn.output (all_ignored 0 0 l.counter l.fn.output.output.stats))
    × (l.blocks.items ≡ drop l.counter l.fn.blocks.items)
    × (l.blocks.capacity ≡ l.fn.blocks.capacity)
