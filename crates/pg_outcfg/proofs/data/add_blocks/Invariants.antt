use Rattle.std.proofs.Common.{◌≡◌, ◌+◌, ◌++◌, ◌≤◌, length, drop, vec_len, vec_capacity}
use Rattle.pg_wire.specs.Check.{IsRemainder, dividend}
use Rattle.pg_wire.specs.Stream.{joined}
use Rattle.pg_outcfg.specs.Frames.{data_blocks}
use Rattle.pg_outcfg.proofs.data.add_blocks.Given as goal

abbrev pub invariant-loop-i : goal.invariant-loop-i
invariant-loop-i l = record {
  bytes : l.frame.items ++ joined (data_blocks l.listed (drop l.i l.members) (drop l.i l.parts)) ≡ l.fn.frame.items ++ joined (data_blocks l.listed l.members l.parts);
  len : vec_len l.frame + length (joined (data_blocks l.listed (drop l.i l.members) (drop l.i l.parts))) ≡ vec_len l.fn.frame + length (joined (data_blocks l.listed l.members l.parts));
  check : IsRemainder (dividend l.frame.items) l.crc;
  room : vec_capacity l.fn.frame ≤ vec_capacity l.frame;
}
