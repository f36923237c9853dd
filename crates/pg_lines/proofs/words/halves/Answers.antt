use Rattle.pg_lines.proofs.Cutting.{halves_are}
use Rattle.pg_lines.proofs.words.halves.Goals as goal

pub returns : goal.returns
returns c = halves_are c.args.at c.args.word.now c.split_once.result c.split_once.ensures.cases c.requires
