-- What happens to the gateway, and what it answers, wherever it lies in memory.
use Rattle.std.specs.Prelude.{ℕ, List, length, Option}
use Rattle.std.specs.Arc.{arc_value}
use Rattle.pg_wire.specs.declared.ids.PmuKey.{PmuKey}
use Rattle.pg_config.specs.Parts.{Source}
use Rattle.pg_data.specs.Measurements.{Measurement}
use Rattle.pg_audit.specs.declared.counters.Stats.{Stats}
use Rattle.pg_audit.specs.declared.counters.PmuStats.{PmuStats}
use Rattle.pg_audit.specs.declared.audit.Entry.{Entry}
use Rattle.pg_session.specs.Events as session
use Rattle.pg_session.specs.Events.{SubscriberEvent}
use Rattle.pg_session.specs.Private as session_reply
use Rattle.pg_session.specs.Private.{ReplyValue, drain_told}
use Rattle.pg_session.specs.declared.standing.MemberPlace.{MemberPlace}
use Rattle.pg_session.specs.declared.standing.Standing.{Standing}
use Rattle.pg_gateway.specs.declared.event.Event.{Event}
use Rattle.pg_gateway.specs.declared.event.Event.TheVariants as event
use Rattle.pg_gateway.specs.declared.event.Reply.{Reply}
use Rattle.pg_gateway.specs.declared.event.Reply.TheVariants as reply

-- what may be asked for: counters of a subscriber, counters of a PMU, an entry of a subscriber's audit, how a subscriber, its stream and that
-- stream's member at a place stand, and for which of these subscribers something waits
pub data Question : Type 0 where
  stats : ℕ → Question
  pmu_stats : PmuKey → Question
  audit : ℕ → ℕ → Question
  standing : ℕ → MemberPlace → Question
  who_waits : List ℕ → Question

pub data GatewayEvent : Type 0 where
  add_pmu : PmuKey → GatewayEvent
  drop_pmu : PmuKey → GatewayEvent
  -- a subscriber's number, ring size and ring bytes
  add_sub : ℕ → ℕ → ℕ → GatewayEvent
  drop_sub : ℕ → GatewayEvent
  -- a PMU is granted to a subscriber
  grant : ℕ → PmuKey → GatewayEvent
  -- what concerns one subscriber alone: revoke, define, remove, connect, hangup, command, drain
  asks : ℕ → SubscriberEvent → GatewayEvent
  -- a source announced a configuration
  announce : Source → GatewayEvent
  -- a source's data frame came, with the configuration by which it was read
  measure : Measurement → GatewayEvent
  -- a tick, with its SOC
  tick : ℕ → GatewayEvent
  -- a question, which changes nothing
  inquires : Question → GatewayEvent

-- what an event says
abbrev pub gateway_event : Event → GatewayEvent
gateway_event (event.AddPmu key) = add_pmu key
gateway_event (event.DropPmu key) = drop_pmu key
gateway_event (event.AddSub u size bytes) = add_sub u size bytes
gateway_event (event.DropSub u) = drop_sub u
gateway_event (event.Grant u key) = grant u key
gateway_event (event.Revoke u key) = asks u (session.revoke key)
gateway_event (event.Define u definition) = asks u (session.define definition)
gateway_event (event.Remove u number) = asks u (session.remove number)
gateway_event (event.Announce config) = announce (arc_value config)
gateway_event (event.Measure frame) = measure (arc_value frame)
gateway_event (event.Tick soc) = tick soc
gateway_event (event.Connect u) = asks u session.connect
gateway_event (event.Hangup u) = asks u session.hangup
gateway_event (event.Command u asked) = asks u (session.command asked.stream asked.word)
gateway_event (event.Drain u buf) = asks u (session.drain (length buf.items))
gateway_event (event.Stats u) = inquires (stats u)
gateway_event (event.PmuStats key) = inquires (pmu_stats key)
gateway_event (event.Audit u index) = inquires (audit u index)
gateway_event (event.Standing u place) = inquires (standing u place)
gateway_event (event.WhoWaits subs) = inquires (who_waits subs.items)

pub data Answer : Type 0 where
  -- done, refused or handed out, as one subscriber tells it
  tells : ReplyValue → Answer
  sub_counts : Stats → Answer
  pmu_counts : PmuStats → Answer
  entry : Option Entry → Answer
  stands : Standing → Answer
  those_waiting : List ℕ → Answer

-- what a reply tells
abbrev pub told : Reply → Answer
told (reply.Done made kept) = tells (session_reply.done made kept)
told (reply.Refused r) = tells (session_reply.refused r)
told (reply.Drained buf out) = tells (drain_told buf.items out)
told (reply.Stats s) = sub_counts s
told (reply.PmuStats s) = pmu_counts s
told (reply.Audit e) = entry e
told (reply.Standing s) = stands s
told (reply.Waiting subs) = those_waiting subs.items
