use Rattle.std.proofs.Common.{rules}
use Rattle.pg_align.proofs.Histories.{Shows-reshape}
use Rattle.pg_align.proofs.align.Align.reshape.Goals as goal

pub returns-clause-shown : goal.returns-clause-shown
returns-clause-shown c = search rules

pub returns-clause-history : goal.returns-clause-history
returns-clause-history c h s = rw (returns-clause-shown c) (Shows-reshape c.args.self.now h c.args.effective.now s c.requires.none_open)
