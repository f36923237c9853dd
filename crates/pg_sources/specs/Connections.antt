-- The line to a source.
use Rattle.std.specs.Prelude.{◌≡◌, ◌↔◌, ℕ, zero, suc, ℤ, Bool, true, false, is_some, IsTrue, Option, Some, None}
use Rattle.pg_ingest.specs.declared.run.End.{End}
use Rattle.pg_ingest.specs.declared.run.End.TheVariants.{Closed, Quiet, Stalled, Fault}
use Rattle.pg_ingest.specs.Asked.{asking_again}
use Rattle.pg_ingest.specs.Linking.{Linking, unfed}
use Rattle.pg_ingest.specs.Runs.{Wires}
use Rattle.pg_ingest.specs.Served.{IsCall}
use Rattle.pg_service.specs.declared.metered_gate.Guards.{Guards}
use Rattle.pg_service.specs.declared.metered_gate.ClockCheck.{ClockCheck}
use Rattle.pg_sources.specs.declared.source.Turn.{Turn}
use Rattle.pg_sources.specs.declared.source.Turn.TheVariants.{Waits, More, Ended}
use Rattle.pg_service.specs.declared.metered_gate.GateStats.{GateStats}
use Rattle.pg_limits.specs.Plans.{Plan, announced, ended, measured}

-- its link, when it is called, and the guards of its measurements
pub record SourceState : Type 0 where
  pub link : Linking
  pub plan : Plan
  pub guards : Guards

-- Its link starts anew; its counters stay.
abbrev pub unlinked : SourceState → SourceState
unlinked l = record l { link = unfed l.link.source l.link.stats }

-- Its link asks the source again, and keeps all else.
abbrev pub questioned : SourceState → SourceState
questioned l = record l { link = record l.link { asking = asking_again (is_some l.link.known) l.link.asking } }

-- the line with another plan
abbrev pub with_plan : Plan → SourceState → SourceState
with_plan plan l = record l { plan = plan }

-- its guards, by these clocks: this machine's, and the reference
abbrev pub check : SourceState → ℕ → ℕ → ClockCheck
check l clock reference = record { guards = l.guards; clock = clock; reference = reference }

-- the plan after what went through the gate: the DATA_RATE of the last announcement, if there was one, and so many measurements
abbrev pub announcing : Option ℤ → ℕ → Plan → Plan
announcing None now p = p
announcing (Some rate) now p = announced now rate p

abbrev pub measuring : ℕ → ℕ → Plan → Plan
measuring zero now p = p
measuring (suc n) now p = measured now p

abbrev pub hearing : GateStats → ℕ → Plan → Plan
hearing seen now p = measuring seen.measured now (announcing seen.rate now p)

-- Where the connection ended or failed, the link starts anew and the plan has ended.
abbrev pub settled : End → ℕ → SourceState → SourceState
settled Closed now l = with_plan (ended now l.plan) (unlinked l)
settled Quiet now l = l
settled Stalled now l = l
settled (Fault n) now l = with_plan (ended now l.plan) (unlinked l)

abbrev pub turn_after : End → Bool → Turn
turn_after Closed used_up = Ended Closed
turn_after Quiet true = More
turn_after Quiet false = Waits
turn_after Stalled used_up = Waits
turn_after (Fault n) used_up = Ended (Fault n)

-- A turn of a source is one call of its link's loop, which posts what its bytes tell, as far as its gate takes it, and nothing else; then its plan hears what
-- went through the gate, and the line settles as the call ended.
pub record Turned (now reads : ℕ) (turn : Turn) (seen : GateStats) (l l' : SourceState) (before after : Wires) : Type 0 where
  pub end : End
  pub link : Linking
  pub call : IsCall end 10000 l.link link before after
  pub line : l' ≡ settled end now (record l { link = link; plan = hearing seen now l.plan })
  pub used_up : Bool
  pub used : IsTrue used_up ↔ (reads ≡ 0)
  pub turn_is : turn ≡ turn_after end used_up
