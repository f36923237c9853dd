-- What is under way while an event makes frames: the queue and counters, and what was made and kept so far.
use Rattle.std.specs.Prelude.{◌≡◌, ◌+◌, ◌≤◌, ℕ, Bool, true, false, List, length}
use Rattle.pg_ring.specs.Shown.{Queue}
use Rattle.pg_session.specs.Output.{Output, frames_made}
use Rattle.pg_session.specs.Kept.{by_gaps}

pub record Sending : Type 0 where
  pub output : Output Queue
  pub made : ℕ
  pub kept : ℕ
  -- a frame was lost, and so all later ones of the event are
  pub lost : Bool

-- These frames were made: the first `some` of them are kept. All are where none is lost in the end, none where one was
-- lost before.
pub record Sends (frames : List (List ℕ)) (old new : Sending) : Type 0 where
  pub some : ℕ
  pub few : some ≤ length frames
  pub none : old.lost ≡ true → some ≡ 0
  pub all : new.lost ≡ false → some ≡ length frames
  pub lost : new.lost ≡ false → old.lost ≡ false
  pub output : new.output ≡ frames_made by_gaps some frames old.output
  pub made : new.made ≡ old.made + length frames
  pub kept : new.kept ≡ old.kept + some
