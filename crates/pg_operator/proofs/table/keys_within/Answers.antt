use Rattle.std.proofs.Common.{rules, ◌∙◌, map, string_bytes}
use Rattle.std.proofs.lemmas.Iterator.Consumers.{YieldsList-from_rest}
use Rattle.std.proofs.lemmas.Iterator.Search.{all_from_yields_List}
use Rattle.std.specs.Map.{keys_of}
use borrow.Author.Tests.{tests}
use Rattle.pg_operator.specs.Setups.{is_among}
use Rattle.pg_operator.proofs.Names.{keys_within-list_all}
use Rattle.pg_operator.proofs.table.keys_within.Goals as goal

pub returns : goal.returns
returns c = all_from_yields_List (λ k. is_among (map (λ n. n.name.now) c.args.keys.now) (string_bytes k)) _ _ _ c.all.ensures.ran (YieldsList-from_rest (keys_of c.args.table.now.entries) (search rules)) (λ x r q k. search (rules, tests))
    ∙ keys_within-list_all (map (λ n. n.name.now) c.args.keys.now) c.args.table.now.entries
