use Rattle.std.proofs.Common.{rules}
use Rattle.std.proofs.lemmas.List.Sorted.{answers_always}
use Rattle.pg_outcfg.specs.Places.{shown}
use Rattle.pg_outcfg.proofs.Places.{searched-found, searched-absent}
use Rattle.pg_outcfg.proofs.list.place_of.Goals as goal

pub returns-clause-found : goal.returns-clause-found
returns-clause-found c =
    let facts = c.binary_search_by_key.ensures in
    searched-found shown c.args.key.now c.args.entries.now _ facts.bound
    (facts.position (λ listed. listed.key) (answers_always _ _ _ (λ f a r g called. search rules)))

pub returns-clause-absent : goal.returns-clause-absent
returns-clause-absent c =
    let facts = c.binary_search_by_key.ensures in
    searched-absent shown c.args.key.now c.args.entries.now _ c.requires facts.bound
    (facts.position (λ listed. listed.key) (answers_always _ _ _ (λ f a r g called. search rules)))
