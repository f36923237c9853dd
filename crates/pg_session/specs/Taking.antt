-- All streams take their turns, one after another, while an event makes frames.
use Rattle.std.specs.Prelude.{◌≡◌, ◌+◌, ◌≤◌, ℕ, true, false, List, [], ◌∷◌, length}
use Rattle.pg_data.specs.Pieces.{Piece}
use Rattle.pg_align.specs.Slots.{Aligned}
use Rattle.pg_session.specs.Streams.{Turn}
use Rattle.pg_session.specs.Output.{turns_taken}
use Rattle.pg_session.specs.Kept.{by_gaps}
use Rattle.pg_session.specs.Sending.{Sending}

-- how many frames they make
abbrev pub frames_in_all : List (Turn (Aligned Piece)) → ℕ
frames_in_all [] = 0
frames_in_all (turn ∷ turns) = length turn.frames + frames_in_all turns

-- These turns were taken: the first `some` of their frames are kept. All are where none is lost in the end, none where one was
-- lost before.
pub record Taken (turns : List (Turn (Aligned Piece))) (old new : Sending) : Type 0 where
  pub some : ℕ
  pub few : some ≤ frames_in_all turns
  pub none : old.lost ≡ true → some ≡ 0
  pub all : new.lost ≡ false → some ≡ frames_in_all turns
  pub lost : new.lost ≡ false → old.lost ≡ false
  pub output : new.output ≡ turns_taken by_gaps some turns old.output
  pub made : new.made ≡ old.made + frames_in_all turns
  pub kept : new.kept ≡ old.kept + some
