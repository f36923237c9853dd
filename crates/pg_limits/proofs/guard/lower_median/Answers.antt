use Rattle.std.proofs.Common.{rules, ◌∙◌, sym, tests}
use Rattle.std.proofs.lemmas.Iterator.{YieldsList-from_slice}
use Rattle.std.proofs.lemmas.Iterator.Adapters.{option_map_id}
use Rattle.std.proofs.lemmas.Iterator.Consumers.{YieldsList-at, YieldsList-from_copied, YieldsList-from_filter, min_from_yields_List}
use Rattle.pg_limits.specs.Clocks.{has_half}
use Rattle.pg_limits.proofs.guard.lower_median.Goals as goal

pub returns : goal.returns
returns c =
    sym (option_map_id c.min.result) ∙ min_from_yields_List c.filter.result c.min.result c.min.ensures.ran
    (YieldsList-from_filter _ (λ time. has_half c.args.times.now time)
    (YieldsList-at c.filter.ensures.source (YieldsList-from_copied (YieldsList-from_slice c.args.times.now cc)))
    c.filter.ensures.closure (λ x r q k. search (rules, tests)))
