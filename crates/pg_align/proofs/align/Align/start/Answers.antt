use Rattle.std.proofs.Common.{rules}
use Rattle.pg_align.proofs.Histories.{Shows-start}
use Rattle.pg_align.proofs.align.Align.start.Goals as goal

pub returns-then-not-self-clause-shown : goal.returns-then-not-self-clause-shown
returns-then-not-self-clause-shown c = search rules

pub returns-then-not-self-clause-history : goal.returns-then-not-self-clause-history
returns-then-not-self-clause-history c h s = rw (returns-then-not-self-clause-shown c) (Shows-start c.args.self.now h s)

pub returns-else-not-self-clause-shown : goal.returns-else-not-self-clause-shown
returns-else-not-self-clause-shown c = search rules

pub returns-else-not-self-clause-history : goal.returns-else-not-self-clause-history
returns-else-not-self-clause-history c h s = rw (returns-else-not-self-clause-shown c) (Shows-start c.args.self.now h s)
