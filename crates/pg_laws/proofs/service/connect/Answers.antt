use Rattle.std.proofs.Common.{◌≡◌, ◌∙◌, inl, refl, sym, subst, [], ◌∷◌}
use Rattle.std.proofs.lemmas.List.{append_cancel_left}
use Rattle.pg_session.specs.Events.{connect}
use Rattle.pg_gateway.specs.declared.event.Event.TheVariants as event
use Rattle.pg_gateway.specs.GatewayEvents.{asks, told}
use Rattle.pg_gateway.specs.Posting.{Posted}
use Rattle.pg_shared.specs.Gates.{said_at}
use Rattle.pg_shared.specs.Onward.{own_in}
use Rattle.pg_shared.specs.Delivery.{NoneDrains, ArePassed}
use Rattle.pg_laws.proofs.Joining.{gone_on}
use Rattle.pg_laws.proofs.service.connect.Goals as goal

pub returns : goal.returns
returns g c =
    let u = c.args.sub in
    let v = c.args.gate.now in
    let on = c.post.ensures.goes_on in
    let post : Posted = (asks u connect, told c.post.result) in
    let said : own_in on.pieces ≡ post ∷ [] =
    append_cancel_left (said_at v.seen v.own) (own_in on.pieces) (post ∷ []) (sym on.said ∙ c.post.ensures.posted) in
    let none : NoneDrains u (post ∷ []) = (λ size is_drain. let other = is_drain in cc, tt) in
    let passed : ArePassed u (post ∷ []) [] = (inl refl, tt) in
    record {
      delivers = λ w. c.deliveries_go_on.ensures.meanwhile u v c.post.new.self [] w on (subst (NoneDrains u) (sym said) none);
      heard = λ session r sub shows.
          c.deliveries_go_on.ensures.heard_none u session v c.post.new.self r on sub shows (subst (λ posts. ArePassed u posts []) (sym said) passed);
      connects = record {
        between = c.post.ensures.seat.between;
        call = (event.Connect u, c.post.result);
        asks = refl;
        seat = gone_on v c.post.new.self c.post.ensures.seat.between (event.Connect u, c.post.result) on.table c.post.ensures.seat.seen c.post.ensures.seat.own;
        legal = c.post.ensures.seat.legal;
      };
      onward = on;
    }
