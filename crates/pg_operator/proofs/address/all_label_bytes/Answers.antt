use Rattle.std.proofs.Common.{rules}
use Rattle.std.proofs.lemmas.Iterator.{YieldsList-from_slice}
use Rattle.std.proofs.lemmas.Iterator.Search.{all_from_yields_List}
use borrow.Author.Tests.{tests}
use Rattle.pg_operator.specs.Addresses.{is_label_byte}
use Rattle.pg_operator.proofs.address.all_label_bytes.Goals as goal

pub returns : goal.returns
returns c = all_from_yields_List is_label_byte _ _ _ c.all.ensures.ran (YieldsList-from_slice c.args.label.now (search rules)) (λ x r q k. search (rules, tests))
