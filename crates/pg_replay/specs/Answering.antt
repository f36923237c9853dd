-- What the parts of a replay print.
use Rattle.std.specs.Prelude.{◌≡◌, ℕ, List, Option, Some}
use Rattle.std.specs.Io.KnownBytes.{Appends}
use Rattle.pg_serve.specs.Inputs.{Outcome}
use Rattle.pg_serve.specs.Shown.{WorldValue, session_counted}
use Rattle.pg_replay.specs.Lines.{Asked, asked_in}
use Rattle.pg_lines.specs.Words.{Text}
use Rattle.pg_replay.specs.Replaying.{SessionText, Does, Runs, asked_of}

pub record PrintsSession (w : WorldValue) (u : ℕ) (old new : Option (List ℕ)) : Type 0 where
  pub text : Text
  pub is : SessionText w u text (session_counted u w)
  pub appends : Appends old new text

pub record DoesAsked (w : WorldValue) (m : Option Asked) (old new : Option (List ℕ)) (v : WorldValue) : Type 0 where
  pub told : List Outcome
  pub text : Text
  pub does : Does w m told text v
  pub appends : Appends old new text

-- A line is answered.
pub record AnswersLine (w : WorldValue) (line : Text) (old new : Option (List ℕ)) (v : WorldValue) : Type 0 where
  pub asked : Option Asked
  pub asks : asked_in line ≡ asked
  pub does : DoesAsked w asked old new v

-- All lines of a script are answered.
pub record AnswersScript (w : WorldValue) (script : Text) (old new : Option (List ℕ)) : Type 0 where
  pub asked : List (Option Asked)
  pub lines : asked_of script ≡ asked
  pub told : List Outcome
  pub text : Text
  pub later : WorldValue
  pub runs : Runs w asked told text later
  pub appends : Appends old new text

-- The same, where it is known what a reader has left.
abbrev pub AnswersAll : WorldValue → Option (List ℕ) → Option (List ℕ) → Option (List ℕ) → Type 0
AnswersAll w remaining old new = (script : Text) → remaining ≡ Some script → AnswersScript w script old new
