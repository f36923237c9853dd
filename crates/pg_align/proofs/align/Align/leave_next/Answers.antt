use Rattle.std.proofs.Common.{arith, rules}
use Rattle.pg_align.proofs.Kept.{kept_steps}
use Rattle.pg_align.proofs.Keeping.{taken_back, kept_back, kept_least}
use Rattle.pg_align.proofs.align.Align.leave_next.Goals as goal

pub invariant_of-self : goal.invariant_of-self
invariant_of-self c =
    let a = c.self.inside in
    let k = c.self.invariant in
    let back = taken_back a c.take_back.new.lent c.take_back.new.spare k c.take_back.ensures.none c.take_back.ensures.len c.take_back.ensures.free c.take_back.ensures.capacity in
    kept_back a c.take_back.new.lent c.take_back.new.spare k back

pub invariant_of-self-2 : goal.invariant_of-self-2
invariant_of-self-2 c =
    let a = c.self.inside in
    let k = c.self.invariant in
    let back = taken_back a c.take_back.new.lent c.take_back.new.spare k c.take_back.ensures.none c.take_back.ensures.len c.take_back.ensures.free c.take_back.ensures.capacity in
    let least = c.take_least-least in
    kept_least a c.take_back.new.lent least.new.slots c.take_back.new.spare c.push_reserved.new.self least.result c.count_left.new.self k back least.ensures.whole least.ensures.slots least.ensures.len least.ensures.capacity c.push_reserved.ensures.items (grind (arith, kept_steps)) (grind (arith, kept_steps))

pub returns-then-not-least_is_leaving : goal.returns-then-not-least_is_leaving
returns-then-not-least_is_leaving c =
    let leaves = c.least_is_leaving.ensures.leaves c.self.inside.effective.items (rw c.deref.ensures.value c.self.invariant.counted) in
    search (rules, kept_steps)

pub returns : goal.returns
returns c =
    let leaves = c.least_is_leaving.ensures.leaves c.self.inside.effective.items (rw c.deref.ensures.value c.self.invariant.counted) in
    search (rules, kept_steps)
