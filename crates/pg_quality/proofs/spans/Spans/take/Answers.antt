use Rattle.std.proofs.Common.{rules}
use Rattle.std.proofs.lemmas.Int.{to_z-of_z}
use Rattle.pg_quality.proofs.spans.Spans.take.Goals as goal
use mir.Val.{SFits}
use mir.Syntax.{w16}

pub invariant_of-self : goal.invariant_of-self
invariant_of-self c =
    let fits : SFits w16 c.self.inside.rate = search rules in
    (c.self.invariant.0, simp to_z-of_z at c.after-self-inside.ensures)
