-- Which frames a subscriber has to receive, and when all of them have come.
use Rattle.std.specs.Prelude.{◌≡◌, ℕ, ◌++◌, Option, None, Some, List, [], ◌∷◌}
use Rattle.pg_tools.specs.declared.watcher.Stamp.{Stamp}
use Rattle.pg_tools.specs.declared.expected_frames.ExpectedFrame.{ExpectedFrame}
use Rattle.pg_tools.specs.declared.expected_frames.WrongFrame.{WrongFrame}
use Rattle.pg_tools.specs.declared.expected_frames.ExpectedFrames.{ExpectedFrames}

-- What is compared of a data frame: its stamp, and the bytes of its blocks.
pub record FrameContent : Type 0 where
  pub stamp : Stamp
  pub bytes : List ℕ

abbrev pub content : ExpectedFrame → FrameContent
content frame = record { stamp = frame.stamp; bytes = frame.blocks.items }

abbrev pub contents : List ExpectedFrame → List FrameContent
contents [] = []
contents (frame ∷ frames) = content frame ∷ contents frames

-- What happens at a stream: a frame is sent for it, or comes at its subscriber.
pub data Step : Type 0 where
  sent : FrameContent → Step
  received : FrameContent → Step

-- All frames that were sent, and all that came, in their order. Of steps the last one stands first.
abbrev pub all_sent : List Step → List FrameContent
all_sent [] = []
all_sent (sent frame ∷ past) = all_sent past ++ (frame ∷ [])
all_sent (received frame ∷ past) = all_sent past

abbrev pub all_received : List Step → List FrameContent
all_received [] = []
all_received (sent frame ∷ past) = all_received past
all_received (received frame ∷ past) = all_received past ++ (frame ∷ [])

-- One list is the beginning of another.
abbrev pub IsPrefix : List FrameContent → List FrameContent → Type 0
IsPrefix part whole = (rest : List FrameContent) × (whole ≡ part ++ rest)

-- At no time had anything come but what was sent before, in order and byte for byte.
abbrev pub InOrder : List Step → Type 0
InOrder [] = Unit {0}
InOrder (step ∷ past) = InOrder past × IsPrefix (all_received (step ∷ past)) (all_sent (step ∷ past))

-- And all of it has come.
abbrev pub Whole : List Step → Type 0
Whole steps = InOrder steps × (all_received steps ≡ all_sent steps)

-- A frame by its stamp and its bytes.
abbrev pub content_of : Stamp → List ℕ → FrameContent
content_of stamp bytes = record { stamp = stamp; bytes = bytes }

-- This frame is the first that waits.
abbrev pub IsFirst : List ExpectedFrame → FrameContent → Type 0
IsFirst [] frame = ⊥
IsFirst (first ∷ rest) frame = content first ≡ frame

-- What the fields hold after these steps: whether all came in order, and while they did the frames that wait.
abbrev pub Keeps : Option WrongFrame → List ExpectedFrame → List Step → Type 0
Keeps None waiting steps = InOrder steps × (all_sent steps ≡ all_received steps ++ contents waiting)
Keeps (Some wrong) waiting steps = InOrder steps → ⊥

abbrev pub Records : ExpectedFrames → List Step → Type 0
Records expected steps = Keeps expected.wrong expected.waiting.items steps
