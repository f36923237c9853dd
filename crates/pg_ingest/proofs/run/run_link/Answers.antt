use Rattle.std.proofs.Common.{◌∙◌, arith}
use Rattle.pg_ingest.proofs.Stepping.{ran_as, ran_on, on_retaken, ran_retaken}
use Rattle.pg_ingest.proofs.Turns.{Turned, turned_none, turned_more, ends_call, ends_all}
use Rattle.pg_ingest.proofs.run.run_link.Goals as goal

pub turns-init : goal.turns-init
turns-init g c = record {
  ran = ran_as _ (Turned 0) (turned_none _) _ _ _ _ _ _ _ _ (c.post_events.ensures.ran _ _);
  takes = c.post_events.ensures.takes;
  onward = c.post_events.ensures.onward;
  room = c.post_events.ensures.room;
  whole = λ h. absurd (omega (arith, h));
}

pub returns-in-Some : goal.returns-in-Some
returns-in-Some g c = record {
  call = record {
    ran = ran_retaken _ _ _ _ _ _ _ _ _ _ _ (c.in-Some.ensures.takes ∙ c.turns.invariant.takes)
        (ran_on (Turned c.turns.counter) _ _ (ends_call _ c.turns.counter _ _ _ c.turns-test.true) (λ past a turned. turned.told) _ _ _ _ _ _ _ _ _ _ _ _ c.turns.invariant.ran
        (on_retaken _ _ _ _ _ _ _ _ _ _ _ c.turns.invariant.takes c.in-Some.ensures.ran));
    whole = λ some. c.in-Some.ensures.whole;
  };
  onward = g.met.G.Gate.joins _ _ _ c.turns.invariant.onward c.in-Some.ensures.onward;
}

pub turns-preserved : goal.turns-preserved
turns-preserved g c = record {
  ran = ran_on (Turned c.turns.counter) _ _ (turned_more c.turns.counter _ c.in_default.is _ _) (λ past a turned. turned.told) _ _ _ _ _ _ _ _ _ _ _ _ c.turns.invariant.ran
      (on_retaken _ _ _ _ _ _ _ _ _ _ _ c.turns.invariant.takes c.turn.ensures.ran);
  takes = c.turn.ensures.takes ∙ c.turns.invariant.takes;
  onward = g.met.G.Gate.joins _ _ _ c.turns.invariant.onward c.turn.ensures.onward;
  room = c.turn.ensures.room;
  whole = λ h. c.turn.ensures.goes c.in_default.is;
}

pub returns : goal.returns
returns g c = record {
  call = record {
    ran = ran_retaken _ _ _ _ _ _ _ _ _ _ _ c.turns.invariant.takes
        (ran_as (Turned c.turns.counter) _ (ends_all c.turns.counter _ _ _ (omega (arith, c.turns-test.false, c.turns.auto.counter-end))) _ _ _ _ _ _ _ _ c.turns.invariant.ran);
    whole = λ some e. c.turns.invariant.whole (omega (arith, some, c.turns-test.false, c.turns.auto.counter-end));
  };
  onward = c.turns.invariant.onward;
}
