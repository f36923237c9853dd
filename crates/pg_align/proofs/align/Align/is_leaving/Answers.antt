use Rattle.std.proofs.Common.{◌≡◌, is_some, rules}
use Rattle.pg_align.specs.Slots.{leaving_of}
use Rattle.pg_align.proofs.Leaving.{Shows-next}
use Rattle.pg_align.proofs.align.Align.is_leaving.Goals as goal

pub returns-clause-history : goal.returns-clause-history
returns-clause-history c h s =
    let leaves = c.least_is_leaving.ensures.leaves c.self.inside.effective.items (rw c.deref.ensures.value c.self.invariant.counted) in
    let shown : c.least_is_leaving.result ≡ is_some (leaving_of c.args.self.now) = search rules in
    rw (← Shows-next c.args.self.now h s) shown
