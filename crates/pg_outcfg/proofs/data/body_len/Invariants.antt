use Rattle.std.proofs.Common.{◌≡◌, ◌+◌, ◌*◌, ◌≤◌, length, drop}
use Rattle.pg_wire.specs.Stream.{joined}
use Rattle.pg_outcfg.specs.Frames.{data_blocks}
use Rattle.pg_outcfg.proofs.data.body_len.Given as goal

abbrev pub invariant-loop-i : goal.invariant-loop-i
invariant-loop-i l = record {
  small : l.len ≤ 398 * l.i;
  counted : l.len + length (joined (data_blocks l.listed (drop l.i l.members) (drop l.i l.parts))) ≡ length (joined (data_blocks l.listed l.members l.parts));
}
