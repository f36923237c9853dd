use Rattle.std.proofs.Common.{◌∙◌, sym}
use Rattle.pg_outcfg.specs.Places.{shown}
use Rattle.pg_outcfg.proofs.Places.{stands-here}
use Rattle.pg_outcfg.proofs.list.place_near.Goals as goal

pub returns-then-eq-clause-found : goal.returns-then-eq-clause-found
returns-then-eq-clause-found c =
    stands-here shown c.args.entries.now c.args.key.now c.args.guess c.index-entries-guess.result c.if-guess-entries.true (sym c.eq.ensures ∙ c.if-eq.true)
