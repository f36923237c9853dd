use Rattle.pg_entitle.proofs.Sets.{list-granted, has-granted, list-without_key, has-without_key}
use Rattle.pg_entitle.proofs.laws.grants_stay_sorted.Goals as goal

pub returns-clause-granted : goal.returns-clause-granted
returns-clause-granted c = list-granted

pub returns-clause-held : goal.returns-clause-held
returns-clause-held c = has-granted

pub returns-clause-revoked : goal.returns-clause-revoked
returns-clause-revoked c = list-without_key

pub returns-clause-left : goal.returns-clause-left
returns-clause-left c = has-without_key
