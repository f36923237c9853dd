-- What a link shows of its past.
use Rattle.std.specs.Prelude.{◌≡◌, ℕ, List, [], ◌∷◌, ◌++◌, map, reverse, Option, option_map}
use Rattle.std.specs.Option.{option_to_list}
use Rattle.pg_wire.specs.Stream as wire
use Rattle.pg_wire.specs.Split.{frames_in}
use Rattle.pg_command.specs.declared.word.Word.{Word}
use Rattle.pg_command.specs.Words.{word_number}
use Rattle.pg_command.specs.Spelling.{written}
use Rattle.pg_ingest.specs.Items.{Item, announced_last, AreTold}
use Rattle.pg_ingest.specs.Commands.{Act, asks, tells, told_in, owed_word}
use Rattle.pg_ingest.specs.Asked.{asking_of}
use Rattle.pg_ingest.specs.Linking.{Linking, link_stats}

-- What happened to a link: its source, what it told before the last reset, and the bytes that it was fed and what it did
-- since then (or since it was new).
pub record LinkPast : Type 0 where
  pub source : ℕ
  pub earlier : List Item
  pub stream : List ℕ
  pub acts : List Act

-- a new link
abbrev pub beginning : ℕ → LinkPast
beginning source = record { source = source; earlier = []; stream = []; acts = [] }

-- the next piece of its source's bytes came
abbrev pub feeding : LinkPast → List ℕ → LinkPast
feeding past piece = record past { stream = past.stream ++ piece }

-- it did this
abbrev pub doing : LinkPast → Act → LinkPast
doing past act = record past { acts = past.acts ++ act ∷ [] }

-- it was reset
abbrev pub renewed : LinkPast → LinkPast
renewed past = record { source = past.source; earlier = past.earlier ++ told_in past.acts; stream = []; acts = [] }

-- its source is asked again: as if it had been asked for nothing yet
abbrev pub asked_again : LinkPast → LinkPast
asked_again past = record past { acts = map tells (told_in past.acts) }

-- what it told since the last reset, the newest first
abbrev pub told_before : LinkPast → List Item
told_before past = reverse (told_in past.acts)

-- The link shows its past: it gave these items of the frames of its stream, and holds what follows of them.
pub record ShowsLink (v : Linking) (past : LinkPast) : Type 0 where
  pub source : v.source ≡ past.source
  pub frames : List (List ℕ)
  pub bytes : wire.ShowsStream v.bytes past.stream frames
  pub told : AreTold past.source (reverse frames) (told_before past)
  pub known : v.known ≡ announced_last (told_before past)
  pub asking : v.asking ≡ asking_of (reverse past.acts)
  pub stats : v.stats ≡ link_stats (past.earlier ++ told_in past.acts)

-- All of a stream's frames were told.
abbrev pub IsAllTold : LinkPast → Type 0
IsAllTold past = AreTold past.source (reverse (frames_in past.stream)) (told_before past)

-- the command that the link owes its source, if any
abbrev pub word_due : LinkPast → Option Word
word_due past = owed_word (reverse past.acts)

-- its frame: of this source, SOC 0
abbrev pub command_due : LinkPast → Option (List ℕ)
command_due past = option_map (λ word. written past.source 0 (word_number word)) (word_due past)

-- after it gave that command, if any
abbrev pub commanding : LinkPast → LinkPast
commanding past = record past { acts = past.acts ++ option_to_list (option_map asks (word_due past)) }
