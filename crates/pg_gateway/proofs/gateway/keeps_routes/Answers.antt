use Rattle.pg_gateway.proofs.RouteKept.{else_keeps}
use Rattle.pg_gateway.proofs.gateway.keeps_routes.Goals as goal

pub returns-in_default : goal.returns-in_default
returns-in_default c = λ _. else_keeps c.args.event.now c.in_default.not-AddPmu c.in_default.not-DropPmu c.in_default.not-AddSub c.in_default.not-DropSub c.in_default.not-Grant c.in_default.not-Revoke
