use Rattle.std.proofs.Common.{rules}
use Rattle.pg_lines.proofs.Numerals.{number_value}
use Rattle.pg_lines.proofs.words.value_of.Goals as goal

pub unwrap-requires : goal.unwrap-requires
unwrap-requires c = let is = number_value c.args.word.now c.parse.result c.parse.ensures.value.0 c.requires in rw is (search rules)

pub returns : goal.returns
returns c = let is = number_value c.args.word.now c.parse.result c.parse.ensures.value.0 c.requires in search rules
