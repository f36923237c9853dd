use Rattle.std.proofs.Common.{◌≡◌, ◌+◌, ◌*◌, ◌++◌, vec_len, vec_capacity}
use Rattle.pg_data.specs.Filler.{words}
use Rattle.pg_data.proofs.filler.push_words.Given as goal

abbrev pub invariant-loop : goal.invariant-loop
invariant-loop l = record {
  items : l.out.items ≡ l.fn.out.items ++ words l.counter l.word;
  len : vec_len l.out ≡ vec_len l.fn.out + 2 * l.counter;
  capacity : vec_capacity l.out ≡ vec_capacity l.fn.out;
}
