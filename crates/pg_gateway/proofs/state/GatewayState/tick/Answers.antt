use Rattle.std.proofs.Common.{sym, subst}
use Rattle.pg_gateway.specs.Taking.{Awaits, HasNone}
use Rattle.pg_gateway.specs.Frugal.{AllSlots}
use Rattle.pg_gateway.specs.Sharing.{ticks}
use Rattle.pg_gateway.proofs.AllLaws.{slots-map, awaits_tick}
use Rattle.pg_gateway.proofs.state.GatewayState.tick.Goals as goal

pub broadcast-made-requires-clause-awaits : goal.broadcast-made-requires-clause-awaits
broadcast-made-requires-clause-awaits c =
    subst (λ o. AllSlots (Awaits o) c.self.inside.subs.entries) (sym c.requires.event)
    (slots-map HasNone (Awaits (ticks c.args.soc)) (awaits_tick c.args.soc) c.self.inside.subs.entries c.self.invariant.1)
