use Rattle.std.proofs.Common.{ap, ◌∙◌, length}
use Rattle.pg_data.specs.Pieces.{Piece}
use Rattle.pg_align.specs.Slots.{Aligned, with_tick}
use Rattle.pg_align.proofs.Leaving.{all_leaving-few}
use Rattle.pg_session.proofs.Simulating.{leaving-effective}
use Rattle.pg_session.proofs.Members.{timed-tick, timed-left, window-left}
use Rattle.pg_session.proofs.stream.Stream.tick.Goals as goal

pub leave_all-requires-clause-timed : goal.leave_all-requires-clause-timed
leave_all-requires-clause-timed c = rw c.tick.ensures.shown (timed-tick _ _ c.self.invariant.timed)

pub invariant_of-self : goal.invariant_of-self
invariant_of-self c =
    let i = c.self.invariant in
    let ticked : Aligned Piece = with_tick c.self.inside.align in
    rw (c.leave_all.ensures.slots, c.tick.ensures.shown) record {
      limits = i.limits;
      places = ap length (leaving-effective ticked _) ∙ i.places;
      window = window-left ticked ∙ i.window;
      few = rw (window-left ticked) (all_leaving-few ticked);
      timed = timed-left _ ticked (timed-tick _ _ i.timed);
    }
