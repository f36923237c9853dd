use Rattle.std.proofs.Common.{arith, rules}
use Rattle.pg_align.proofs.Kept.{kept_steps}
use Rattle.pg_align.proofs.Histories.{Shows-tick}
use Rattle.pg_align.proofs.align.Align.tick.Goals as goal

pub returns-clause-shown : goal.returns-clause-shown
returns-clause-shown c = grind (arith, kept_steps)

pub returns-clause-history : goal.returns-clause-history
returns-clause-history c h s = rw (returns-clause-shown c) (Shows-tick c.args.self.now h s)

pub invariant_of-self : goal.invariant_of-self
invariant_of-self c =
    let counted = c.tick_all.ensures.counted c.self.inside.effective.items (rw c.deref_mut.ensures.value c.self.invariant.counted) in
    search (rules, kept_steps)
