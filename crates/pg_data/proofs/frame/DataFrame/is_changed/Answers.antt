use Rattle.pg_data.proofs.Changes.{same_from_finding}
use Rattle.pg_data.proofs.frame.DataFrame.is_changed.Goals as goal

pub returns-clause-value : goal.returns-clause-value
returns-clause-value c = same_from_finding c.args.self.now c.finds_change.result c.finds_change.ensures
