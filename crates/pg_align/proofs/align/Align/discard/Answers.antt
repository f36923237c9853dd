use Rattle.std.proofs.Common.{rules}
use Rattle.pg_align.proofs.Histories.{Shows-discard}
use Rattle.pg_align.proofs.Keeping.{taken_back, kept_none}
use Rattle.pg_align.proofs.align.Align.discard.Goals as goal

pub invariant_of-self : goal.invariant_of-self
invariant_of-self c =
    let a = c.self.inside in
    let k = c.self.invariant in
    let back = taken_back a c.take_back.new.lent c.take_back.new.spare k c.take_back.ensures.none c.take_back.ensures.len c.take_back.ensures.free c.take_back.ensures.capacity in
    let all = c.free_all.ensures in
    kept_none a c.take_back.new.lent c.free_all.new.slots c.take_back.new.spare c.free_all.new.spare k back all.none all.len all.capacity.0 all.capacity.1 (all.free _ back.free k.slots_places)

pub returns-clause-shown : goal.returns-clause-shown
returns-clause-shown c = search rules

pub returns-clause-history : goal.returns-clause-history
returns-clause-history c h s = rw (returns-clause-shown c) (Shows-discard c.args.self.now h s)
