use Rattle.std.proofs.Common.{rules, ◌∙◌}
use Rattle.std.proofs.lemmas.Iterator.{YieldsList-from_slice}
use Rattle.std.proofs.lemmas.Iterator.Search.{all_from_yields_List}
use Rattle.std.proofs.lemmas.List.Folds.{list_all-map}
use Rattle.pg_lines.specs.Lines.{is_plain}
use borrow.Author.Tests.{tests}
use Rattle.pg_lines.proofs.line.all_plain.Goals as goal

pub returns : goal.returns
returns c = all_from_yields_List (λ w. is_plain w.now) _ _ _ c.all.ensures.ran (YieldsList-from_slice c.args.words.now (search rules)) (λ x r q k. search (rules, tests))
    ∙ search (rules, list_all-map)
