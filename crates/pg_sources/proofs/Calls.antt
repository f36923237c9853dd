-- A call of a link's loop, of the line that it is one of.
use Rattle.std.proofs.Common.{◌≡◌, subst, Bool, ℕ, List, Option}
use Rattle.pg_gateway.specs.GatewayEvents.{GatewayEvent}
use Rattle.pg_gateway.specs.Posting.{Posted}
use Rattle.pg_ingest.specs.declared.run.End.{End}
use Rattle.pg_ingest.specs.Linking.{Linking}
use Rattle.pg_ingest.specs.Runs.{Wires, wires}
use Rattle.pg_ingest.specs.Served.{IsCall}
use Rattle.pg_sources.specs.Connections.{SourceState, check}
use Rattle.pg_service.specs.Posts.{passes}

pub call_of : (end : End) (l0 l : SourceState) (link : Linking) (r w : Option (List ℕ)) (p : Option (List Posted)) (takes : GatewayEvent → Bool) (clock reference : ℕ)
    (after after' : Wires) → l0 ≡ l → after ≡ after'
    → IsCall end 10000 l0.link link (wires r w p (passes (check l0 clock reference) takes)) after
    → IsCall end 10000 l.link link (wires r w p (passes (check l clock reference) takes)) after'
call_of end l0 l link r w p takes clock reference after after' e f h =
    subst (λ x. IsCall end 10000 l.link link (wires r w p (passes (check l clock reference) takes)) x) f
    (subst (λ x. IsCall end 10000 x.link link (wires r w p (passes (check x clock reference) takes)) after) e h)
