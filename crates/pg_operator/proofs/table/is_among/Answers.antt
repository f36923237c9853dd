use Rattle.std.proofs.Common.{rules, ◌∙◌}
use Rattle.std.specs.Str.{bytes_eq}
use Rattle.std.proofs.lemmas.Iterator.{YieldsList-from_slice}
use Rattle.std.proofs.lemmas.Iterator.Search.{any_from_yields_List}
use Rattle.pg_operator.proofs.Names.{list_any-map}
use borrow.Author.Tests.{tests}
use Rattle.pg_operator.proofs.table.is_among.Goals as goal

pub returns : goal.returns
returns c = any_from_yields_List (λ key. bytes_eq key.name.now c.args.name.now) _ _ _ c.any.ensures.ran (YieldsList-from_slice c.args.keys.now (search rules)) (λ x r q k. search (rules, tests))
    ∙ list_any-map (λ name. bytes_eq name c.args.name.now) (λ k. k.name.now) c.args.keys.now
