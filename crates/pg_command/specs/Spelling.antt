-- The spelling of command frames.
use Rattle.std.specs.Prelude.{◌≡◌, ◌≢◌, ℕ, ◌^◌, ◌<◌, List, [], ◌++◌}
use Rattle.std.specs.Int.{w16, to_be_bytes}
use Rattle.pg_wire.specs.Head.{Heading, HeadFits, frame_of}
use Rattle.pg_command.specs.declared.command.Command.{Command}

-- The bytes are a frame of this command. What follows the word stands only behind the word 8, and is forgotten.
pub record SpellsCommand (bytes : List ℕ) (c : Command) : Type 0 where
  pub head : Heading
  pub fits : HeadFits head
  pub kind : head.kind ≡ 4
  pub stream : head.id ≡ c.stream
  pub word : c.word < 2 ^ 16
  pub more : List ℕ
  pub extended : more ≢ [] → c.word ≡ 8
  pub whole : bytes ≡ frame_of head (to_be_bytes w16 c.word ++ more)

-- the head of a command that is written: version 2, no reliable clock
abbrev pub heading_to : ℕ → ℕ → Heading
heading_to id soc = record { kind = 4; version = 2; id = id; soc = soc; quality = 15; frac = 0 }

-- the one spelling of a command that is written
abbrev pub written : ℕ → ℕ → ℕ → List ℕ
written id soc word = frame_of (heading_to id soc) (to_be_bytes w16 word)
