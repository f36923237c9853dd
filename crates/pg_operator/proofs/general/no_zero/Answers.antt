use Rattle.std.proofs.Common.{rules, not, ◌==◌}
use Rattle.std.proofs.lemmas.Iterator.{YieldsList-from_slice}
use Rattle.std.proofs.lemmas.Iterator.Search.{all_from_yields_List}
use borrow.Author.Tests.{tests}
use Rattle.pg_operator.proofs.general.no_zero.Goals as goal

pub returns : goal.returns
returns c = all_from_yields_List (λ b. not (b == 0)) _ _ _ c.all.ensures.ran (YieldsList-from_slice c.args.bytes.now (search rules)) (λ x r q k. search (rules, tests))
