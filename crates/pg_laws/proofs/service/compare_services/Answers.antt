use Rattle.pg_laws.proofs.service.compare_services.Goals as goal
use Rattle.pg_laws.proofs.Lasting.{same_before}

pub returns-clause-alike : goal.returns-clause-alike
returns-clause-alike g c =
    c.deliveries_agree.ensures.alike _ _ _ _ _ _ _ _ _ _ _ c.in_ok-session.ensures.delivers c.in_ok-other_session.ensures.delivers

pub returns-clause-views : goal.returns-clause-views
returns-clause-views g c =
    let one = c.in_ok-session.ensures.since in
    let two = c.in_ok-other_session.ensures.since in
    record {
      one = one;
      two = two;
      last = λ full own full' own' connects connects' whole.
          c.deliveries_agree.ensures.views _ _ _ _ _ _ _ _ _ _ _ one.delivers two.delivers full own full' own'
          (same_before _ _ _ _ _ _ _ one.delivers.seen two.delivers.seen connects connects' whole) whole;
      alike = c.deliveries_agree.ensures.views _ _ _ _ _ _ _ _ _ _ _ one.delivers two.delivers;
    }
