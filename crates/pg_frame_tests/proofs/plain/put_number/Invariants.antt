use Rattle.std.proofs.Common.{◌≡◌, ◌++◌, take, drop}
use Rattle.pg_align.specs.Histories.{put_number}
use Rattle.pg_frame_tests.proofs.plain.put_number.Given as goal

abbrev pub invariant-loop-at : goal.invariant-loop-at
invariant-loop-at l = record {
  same : l.numbers ≡ l.fn.numbers;
  past : take l.at l.numbers.items ++ put_number l.number (drop l.at l.numbers.items) ≡ put_number l.number l.numbers.items;
}
