-- What a private gateway asks of a stream's slots and of an output queue. The private gateway is defined over these words:
-- over all arrivals and all frames ever made it is the model (ByAll), over open slots and queued frames it is what the
-- code keeps (Kept).
use Rattle.std.specs.Prelude.{ℕ, Bool, List}
use Rattle.pg_data.specs.Pieces.{Piece}
use Rattle.pg_align.specs.declared.answer.Arrived.{Arrived}
use Rattle.pg_align.specs.declared.counts.SlotCounts.{SlotCounts}
use Rattle.pg_align.specs.Histories.{Departures}
use Rattle.pg_stream.specs.declared.definition.Definition.{Definition}

pub record Alignment (A : Type 0) : Type 0 where
  -- a stream that was just defined: off, and no member effective
  pub opening : Definition → A
  pub is_on : A → Bool
  -- what becomes of an arrival for a slot and a member's place
  pub answer : A → ℕ → ℕ → Arrived
  pub arrive : A → ℕ → ℕ → Piece → A
  pub tick : A → A
  -- the slots that are to leave, and all open slots; and what is left behind
  pub leave : A → Departures Piece A
  pub flush : A → Departures Piece A
  -- the members that are effective, a Bool for each
  pub reshape : A → List Bool → A
  pub start : A → A
  pub discard : A → A
  -- how many slots left since the definition, and which members were missing or late
  pub counts : A → SlotCounts

pub record Queueing (Q : Type 0) : Type 0 where
  -- a data frame is pushed; how many frames that drops
  pub push : Q → List ℕ → Q
  pub dropped : Q → List ℕ → ℕ
  -- a number without a frame
  pub lose : Q → Q
  pub takes_reply : Q → Bool
  pub reply : Q → List ℕ → Q
  -- the bytes that stand; the frames that a drain of n bytes begins, and the sum of their gaps
  pub bytes : Q → List ℕ
  pub begun : Q → ℕ → ℕ
  pub gap : Q → ℕ → ℕ
  pub drain : Q → ℕ → Q
  -- a hang-up; how many data frames that clears
  pub clear : Q → Q
  pub cleared : Q → ℕ
