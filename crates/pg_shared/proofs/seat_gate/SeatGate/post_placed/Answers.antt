use Rattle.std.proofs.Common.{rules, ◌≡◌, subst}
use Rattle.pg_shared.specs.Sharing.{PostedCall}
use Rattle.pg_shared.proofs.Gating.{said_more, goes_on_posted}
use Rattle.pg_shared.proofs.seat_gate.SeatGate.post_placed.Goals as goal

pub returns-clause-posted : goal.returns-clause-posted
returns-clause-posted g c =
    let v = c.args.self.now in
    let got = c.post_placed-seat.result in
    let same : c.in-Some.seat ≡ v = search rules in
    said_more v got.0 c.args.event got.1 (subst (λ x. PostedCall x c.args.event got.1 got.0) same c.post_placed-seat.ensures.posted)

pub returns-clause-goes_on : goal.returns-clause-goes_on
returns-clause-goes_on g c =
    let v = c.args.self.now in
    let got = c.post_placed-seat.result in
    let same : c.in-Some.seat ≡ v = search rules in
    goes_on_posted v got.0 c.args.event got.1 (subst (λ x. PostedCall x c.args.event got.1 got.0) same c.post_placed-seat.ensures.posted)
    (subst (λ x. got.0.table ≡ x.table) same c.post_placed-seat.ensures.seat)
