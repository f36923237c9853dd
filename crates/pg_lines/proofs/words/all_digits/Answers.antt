use Rattle.std.proofs.Common.{rules}
use Rattle.std.specs.Char.{is_ascii_digit}
use Rattle.std.proofs.lemmas.Iterator.{YieldsList-from_slice}
use Rattle.std.proofs.lemmas.Iterator.Search.{all_from_yields_List}
use borrow.Author.Tests.{tests}
use Rattle.pg_lines.proofs.words.all_digits.Goals as goal

pub returns : goal.returns
returns c = all_from_yields_List is_ascii_digit _ _ _ c.all.ensures.ran (YieldsList-from_slice c.args.digits.now (search rules)) (λ x r q k. search (rules, tests))
