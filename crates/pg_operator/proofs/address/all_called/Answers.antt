use Rattle.std.proofs.Common.{rules}
use Rattle.std.specs.Prelude.{is_some}
use Rattle.std.proofs.lemmas.Iterator.{YieldsList-from_slice}
use Rattle.std.proofs.lemmas.Iterator.Search.{all_from_yields_List}
use borrow.Author.Tests.{tests}
use Rattle.toml.specs.View.{view}
use Rattle.pg_operator.specs.Setups.{address_in}
use Rattle.pg_operator.proofs.address.all_called.Goals as goal

pub returns : goal.returns
returns c = all_from_yields_List (λ v. is_some (address_in (view v))) _ _ _ c.all.ensures.ran (YieldsList-from_slice c.args.values.now (search rules)) (λ x r q k. search (rules, tests))
