use Rattle.pg_entitle.proofs.Searches.{gap_found}
use Rattle.pg_entitle.proofs.grants.place_of.Goals as goal

pub returns-clause-absent : goal.returns-clause-absent
returns-clause-absent c =
    let facts = c.binary_search.ensures in
    gap_found c.args.keys.now c.requires.rising c.args.key.now _ facts.bound facts.position
