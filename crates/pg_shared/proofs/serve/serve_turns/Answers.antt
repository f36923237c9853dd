use Rattle.std.proofs.Common.{arith, refl, inl, inr, false}
use Rattle.pg_shared.proofs.Sessions.{turned_more, turned_end, turned_whole, turned_to}
use Rattle.pg_shared.proofs.serve.serve_turns.Goals as goal

pub turns-init : goal.turns-init
turns-init g c = record {
  ran = c.post_commands.ensures.ran _ _ _;
  onward = c.post_commands.ensures.onward;
  room = c.post_commands.ensures.room;
  given = c.post_commands.ensures.given;
  whole = λ h. absurd (omega (arith, h));
}

pub returns-in-Some-clause-ran : goal.returns-in-Some-clause-ran
returns-in-Some-clause-ran g c = turned_to _ _ _ _ _ _ _ _ _ _ _ _ _ c.turns.invariant.ran c.in-Some.ensures.ran

pub turns-preserved : goal.turns-preserved
turns-preserved g c = record {
  ran = turned_more _ _ _ _ _ _ _ _ _ _ _ _ _ _ _ _ _ _ c.turns.invariant.ran (turned_whole _ _ _ _ _ _ _ _ c.in_default.ensures.ran);
  onward = g.met.G.Gate.joins _ _ _ c.turns.invariant.onward c.turn.ensures.onward;
  room = c.turn.ensures.room;
  given = c.turn.ensures.given;
  whole = λ h. c.turn.ensures.goes c.in_default.is;
}

pub returns-clause-ran : goal.returns-clause-ran
returns-clause-ran g c = (false, false, inr refl, turned_end _ _ _ _ _ _ _ _ _ _ _ _ tt c.turns.invariant.ran)

pub returns-clause-ends : goal.returns-clause-ends
returns-clause-ends g c = λ some. inl (refl, c.turns.invariant.whole (omega (arith, some, c.turns-test.false, c.turns.auto.counter-end)))

pub returns-in-Some-clause-onward : goal.returns-in-Some-clause-onward
returns-in-Some-clause-onward g c = g.met.G.Gate.joins _ _ _ c.turns.invariant.onward c.in-Some.ensures.onward
