use Rattle.std.proofs.Common.{◌≡◌, [], IfOk, rules, subst}
use Rattle.pg_shared.specs.Delivery.{Delivers, HasHeard}
use Rattle.pg_shared.specs.Onward.{GoesOn}
use Rattle.pg_laws.specs.Threads.{beside}
use Rattle.pg_laws.proofs.Joining.{first_begins, second_begins, is_served, is_beside, both_legal}
use Rattle.pg_laws.proofs.service.serve_both.Goals as goal

pub returns-clause-both : goal.returns-clause-both
returns-clause-both g c =
    let seat = c.args.seat in
    let split = c.split-seat_one.result in
    let got = c.join-seat_one.result in
    let joined = c.join.result in
    let one = got.0.0 in
    let two = got.1.0 in
    let served_one = got.0.1 in
    let served_two = got.1.1 in
    let R = g.R.Read.remaining in
    let W = g.W.Write.contents in
    let first_same : split.0 ≡ seat = c.split-seat_one.ensures.first in
    let is = c.split-seat_one.ensures.second in
    let second_same : split.1 ≡ beside seat = is_beside seat split.1 is.0 is.1 is.2 in
    let onward_one : GoesOn split.0 one = search rules in
    let onward_two : GoesOn split.1 two = search rules in
    let delivers_one : IfOk served_one.session (λ s. Delivers c.args.first split.0 one [] s.left (W c.args.one.writer) (W served_one.connection.writer)) = search rules in
    let delivers_two : IfOk served_two.session (λ s. Delivers c.args.second split.1 two [] s.left (W c.args.other.writer) (W served_two.connection.writer)) = search rules in
    let heard_one : IfOk served_one.session (λ s. HasHeard c.args.first s split.0 one (R c.args.one.reader) (R served_one.connection.reader)) = search rules in
    let heard_two : IfOk served_two.session (λ s. HasHeard c.args.second s split.1 two (R c.args.other.reader) (R served_two.connection.reader)) = search rules in
    let longer = c.join.ensures.seen in
    let whole = c.deliveries_agree.ensures.whole in
    record {
      one = one;
      two = two;
      history = longer;
      legal = both_legal seat one two joined (subst (λ v. GoesOn v one) first_same onward_one) (subst (λ v. GoesOn v two) second_same onward_two) longer;
      own = c.join.ensures.own;
      apart = c.join.ensures.apart;
      first = is_served whole served_one.session joined.seen c.args.first split.0 seat one _ _ _ _ first_same
          (first_begins one.seen two.seen joined.seen longer) delivers_one heard_one;
      second = is_served whole served_two.session joined.seen c.args.second split.1 (beside seat) two _ _ _ _ second_same
          (second_begins one.seen two.seen joined.seen longer) delivers_two heard_two;
    }
