use Rattle.std.proofs.Common.{rules, not, length, lit<}
use Rattle.std.specs.Prelude.{◌==◌}
use Rattle.std.proofs.lemmas.Iterator.Consumers.{map_from_collect, YieldsList-from_filter, YieldsList-at}
use Rattle.std.proofs.lemmas.Iterator.Splits.{YieldsList-from_str_split}
use borrow.Author.Tests.{tests}
use Rattle.pg_lines.proofs.line.words_of.Goals as goal

pub returns : goal.returns
returns c = map_from_collect _ c.collect.ensures.ran (YieldsList-from_filter _ (λ w. not (length w == 0))
    (YieldsList-at c.filter.ensures.source (YieldsList-from_str_split 32 c.args.line.now (lit< tt) c.split.ensures.text c.split.ensures.has_more c.split.ensures.pattern))
    c.filter.ensures.closure (λ x r q k. search (rules, tests)))
