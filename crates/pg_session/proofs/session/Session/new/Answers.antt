use Rattle.std.proofs.Common.{sym, subst}
use Rattle.pg_wire.specs.Held.{IsHeld}
use Rattle.pg_wire.proofs.Holding.{fresh_held}
use Rattle.pg_session.proofs.session.Session.new.Goals as goal

pub invariant_of-result : goal.invariant_of-result
invariant_of-result c = subst IsHeld (sym c.in_ok-new.ensures.state) fresh_held
