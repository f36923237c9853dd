use Rattle.std.proofs.Common.{arith}
use Rattle.pg_align.proofs.Kept.{kept_steps}
use Rattle.pg_align.proofs.Keeping.{taken_back, kept_back, kept_least}
use Rattle.pg_align.proofs.align.Align.flush_next.Goals as goal

pub invariant_of-self : goal.invariant_of-self
invariant_of-self c =
    let a = c.self.inside in
    let k = c.self.invariant in
    let back = taken_back a c.take_back.new.lent c.take_back.new.spare k c.take_back.ensures.none c.take_back.ensures.len c.take_back.ensures.free c.take_back.ensures.capacity in
    kept_back a c.take_back.new.lent c.take_back.new.spare k back

pub invariant_of-self-2 : goal.invariant_of-self-2
invariant_of-self-2 c =
    let a = c.self.inside in
    let k = c.self.invariant in
    let back = taken_back a c.take_back.new.lent c.take_back.new.spare k c.take_back.ensures.none c.take_back.ensures.len c.take_back.ensures.free c.take_back.ensures.capacity in
    let least = c.take_least-first in
    kept_least a c.take_back.new.lent least.new.slots c.take_back.new.spare c.push_reserved.new.self least.result c.count_left.new.self k back least.ensures.whole least.ensures.slots least.ensures.len least.ensures.capacity c.push_reserved.ensures.items (grind (arith, kept_steps)) (grind (arith, kept_steps))
