use Rattle.std.proofs.Common.{rules, arith, ap, ◌∙◌}
use Rattle.std.specs.Int.{bit_at}
use Rattle.std.proofs.lemmas.Nat.Bits.{bit_at-zero}
use Rattle.pg_gateway.proofs.RouteLaws.{one_zero}
use Rattle.pg_gateway.proofs.MaskLaws.{between}
use Rattle.pg_gateway.proofs.routes.Routes.shares_of.Goals as goal

pub returns-then-some-ne0-clause-granted_blocks : goal.returns-then-some-ne0-clause-granted_blocks
returns-then-some-ne0-clause-granted_blocks c = λ j granted part.
    c.note_granted.ensures j (between c.granted_to-granted_some.result.0 c.granted_to-granted_some.result.1 j (search rules) (search rules) granted part)

pub returns-else-some-ne0-clause-granted_blocks : goal.returns-else-some-ne0-clause-granted_blocks
returns-else-some-ne0-clause-granted_blocks c = λ j granted part.
    let one = between c.granted_to-granted_some.result.0 c.granted_to-granted_some.result.1 j (search rules) (search rules) granted part in
    absurd (one_zero _ one (ap (λ m. bit_at m j) (omega (arith, c.if-some-ne0.false)) ∙ bit_at-zero j))
