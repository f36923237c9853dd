use Rattle.std.proofs.Common.{◌≡◌, true, arith}
use Rattle.pg_quality.specs.NextStamps.{is_among}
use Rattle.pg_quality.proofs.Stamps.{next_place_in, next_taken}
use Rattle.pg_quality.proofs.spans.Spans.take_next.Goals as goal

pub returns-clause-place : goal.returns-clause-place
returns-clause-place c =
    let h : is_among c.self.inside.next c.args.time.now ≡ true = grind arith in
    λ _. rw (← c.self.view_is) (next_place_in _ c.self.inside.next c.args.time.now c.self.invariant.0 c.self.invariant.1 h)

pub returns-clause-spans : goal.returns-clause-spans
returns-clause-spans c =
    let h : is_among c.self.inside.next c.args.time.now ≡ true = grind arith in
    λ _. rw (← c.self.view_is, c.moved.ensures) (next_taken (record { rate = c.self.inside.rate; base = c.self.inside.base; span = c.self.inside.span; counts = c.self.inside.counts }) c.self.inside.next c.args.time.now c.self.invariant.0 c.self.invariant.1 h)
