-- What the calls of a link answer.
use Rattle.std.specs.Prelude.{◌≡◌, ◌<◌, length, Some, None}
use Rattle.std.specs.Arc.{arc_value}
use Rattle.pg_wire.specs.Stream.{stopped}
use Rattle.pg_audit.specs.declared.counters.PmuStats.{PmuStats}
use Rattle.pg_ingest.specs.declared.link.LinkEvent.{LinkEvent}
use Rattle.pg_ingest.specs.declared.link.LinkEvent.TheVariants.{Announce, Measure, Ignored, Ended, More}
use Rattle.pg_ingest.specs.Items.{Item, announces, measures, reason_of, break_in}
use Rattle.pg_ingest.specs.Commands.{tells}
use Rattle.pg_wire.specs.Held.{IsBreak}
use Rattle.pg_ingest.specs.Linking.{Linking, taking, ignoring}
use Rattle.pg_ingest.specs.Shown.{LinkPast, doing, ShowsLink, IsAllTold}

-- the event that an item is given as
abbrev pub IsEventOf : LinkEvent → Item → Type 0
IsEventOf (Announce config) item = item ≡ announces (arc_value config)
IsEventOf (Measure frame) item = item ≡ measures (arc_value frame)
IsEventOf (Ignored r) item = reason_of item ≡ Some r
IsEventOf (Ended r) item = ⊥
IsEventOf More item = ⊥

-- What a call gives of the past that was shown before: what is told of the next frame, and More or Ended only where all
-- of the stream's frames were told.
abbrev pub GivesEventOf : LinkPast → LinkEvent → Linking → Type 0
GivesEventOf past (Announce config) new = ShowsLink new (doing past (tells (announces (arc_value config))))
GivesEventOf past (Measure frame) new = ShowsLink new (doing past (tells (measures (arc_value frame))))
GivesEventOf past (Ignored r) new = (item : Item) × (reason_of item ≡ Some r) × ShowsLink new (doing past (tells item))
GivesEventOf past (Ended r) new = IsAllTold past × (break_in past.stream ≡ Some r) × ShowsLink new past
GivesEventOf past More new = IsAllTold past × (break_in past.stream ≡ None) × ShowsLink new past

-- Whatever past the link shows before a call, it shows what follows of it after it.
abbrev pub GivesEvent : Linking → LinkEvent → Linking → Type 0
GivesEvent old event new = (past : LinkPast) → ShowsLink old past → GivesEventOf past event new

-- What an event says by itself of the link: a frame came off the bytes that are held, or they broke and nothing else
-- changed, or they are less than a frame, so that there is room, and nothing changed.
abbrev pub Holds : Linking → LinkEvent → Linking → Type 0
Holds old (Announce config) new = length new.bytes.held < length old.bytes.held
Holds old (Measure frame) new = length new.bytes.held < length old.bytes.held
Holds old (Ignored r) new = length new.bytes.held < length old.bytes.held
Holds old (Ended r) new = IsBreak r × (new ≡ record old { bytes = stopped r })
Holds old More new = (new ≡ old) × (length new.bytes.held < 65535)

-- each event is counted as taken, each ignored frame under its reason, and nothing else
abbrev pub Counts : PmuStats → LinkEvent → PmuStats → Type 0
Counts old (Announce config) new = new ≡ taking old
Counts old (Measure frame) new = new ≡ taking old
Counts old (Ignored r) new = new ≡ ignoring old r
Counts old (Ended r) new = new ≡ old
Counts old More new = new ≡ old
