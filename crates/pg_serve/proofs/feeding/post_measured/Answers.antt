use Rattle.std.specs.Arc.{arc_value}
use Rattle.pg_session.specs.Private.{done, refused}
use Rattle.pg_gateway.specs.GatewayEvents.{measure, tells}
use Rattle.pg_serve.proofs.Doing.{Did-event}
use Rattle.pg_serve.proofs.feeding.post_measured.Goals as goal

pub returns : goal.returns
returns c = record { did = λ S shows. Did-event S (measure (arc_value c.args.frame.now)) (tells (done c.in-Ok.counts.0 c.in-Ok.counts.1)) _ _ c.args.gateway.now c.measure.new.self shows c.in-Ok.ensures.goes c.in_ok-note.ensures.noted }

pub returns-in-Err : goal.returns-in-Err
returns-in-Err c = record { did = λ S shows. Did-event S (measure (arc_value c.args.frame.now)) (tells (refused c.in-Err.refusal)) _ _ c.args.gateway.now c.measure.new.self shows c.in-Err.ensures.goes c.in_ok-note_refused-in-Err.ensures.noted }
