use Rattle.std.proofs.Common.{rules, lit<}
use Rattle.std.proofs.lemmas.Iterator.Splits.{YieldsList-from_str_split}
use Rattle.std.proofs.lemmas.Iterator.Search.{all_from_yields_List}
use borrow.Author.Tests.{tests}
use Rattle.pg_operator.specs.Addresses.{is_label}
use Rattle.pg_operator.proofs.address.all_labels.Goals as goal

pub returns : goal.returns
returns c = all_from_yields_List is_label _ _ _ c.all.ensures.ran
    (YieldsList-from_str_split 46 c.args.word.now (lit< tt) c.split.ensures.text c.split.ensures.has_more c.split.ensures.pattern) (λ x r q k. search (rules, tests))
