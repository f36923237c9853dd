-- What a world shows of its model.
use Rattle.std.specs.Prelude.{◌≡◌, ℕ, Bool, false, nat_eq, List, Option, None, option_map}
use Rattle.std.specs.Map.{lookup}
use Rattle.pg_ring.specs.Shown.{Queue}
use Rattle.pg_audit.specs.declared.counters.PmuStats.{PmuStats}
use Rattle.pg_session.specs.Commands as session
use Rattle.pg_session.specs.Commands.{Hearing, items_of, break_in}
use Rattle.pg_ingest.specs.Shown as link
use Rattle.pg_ingest.specs.Shown.{IsAllTold}
use Rattle.pg_gateway.specs.Related.{Related}
use Rattle.pg_gateway.specs.Shown.{GatewayValue, GatewayShows}
use Rattle.pg_serve.specs.declared.source_link.SourceLink.{SourceLink}
use Rattle.pg_serve.specs.WorldStates.{SourceLinkPast, WorldState, opening, Turns, LegalTurns, after_turns}

-- What is kept of a world.
pub record WorldValue : Type 0 where
  pub gateway : GatewayValue
  pub lines : List (ℕ × SourceLink)
  pub sessions : List (ℕ × Hearing)
  pub failed : Bool

-- what a subscriber's queue shows, where the subscriber is there
abbrev pub queue_shown : ℕ → WorldValue → Option Queue
queue_shown u w = option_map (λ v. v.subscriber.own.output.queue) (lookup (nat_eq u) w.gateway.subs)

-- what the link of a source counts, where the source has one
abbrev pub link_counted : ℕ → WorldValue → Option PmuStats
link_counted s w = option_map (λ line. line.link.stats) (lookup (nat_eq s) w.lines)

-- what a subscriber's session counts, where it has one
abbrev pub session_counted : ℕ → WorldValue → Option PmuStats
session_counted u w = option_map (λ hearing. hearing.stats) (lookup (nat_eq u) w.sessions)

-- The link shows what happened to it, and told all that it was fed.
pub record SourceLinkShows (v : SourceLink) (line : SourceLinkPast) : Type 0 where
  pub shows : link.ShowsLink v.link line.link
  pub told : IsAllTold line.link
  pub is_up : v.is_up ≡ line.is_up

-- Fed this stream, the session has given all its items, and it is not broken.
pub record SessionShows (v : Hearing) (stream : List ℕ) : Type 0 where
  pub shows : session.ShowsHearing v stream (items_of stream)
  pub whole : break_in stream ≡ None

-- the gateway, the links of sources and the sessions of subscribers
pub record Holding : Type 0 where
  pub gateway : GatewayValue
  pub lines : List (ℕ × SourceLink)
  pub sessions : List (ℕ × Hearing)

-- what a world holds, whether it failed or not
abbrev pub holding : WorldValue → Holding
holding w = record { gateway = w.gateway; lines = w.lines; sessions = w.sessions }

pub record WorldStateShows (h : Holding) (m : WorldState) : Type 0 where
  pub gateway : GatewayShows h.gateway m.shared
  pub lines : Related SourceLinkShows h.lines m.lines
  pub sessions : Related SessionShows h.sessions m.fed

-- The world may have taken these turns since it was new, and no call of `run` found no memory for its answer.
pub record ShowsTurns (w : WorldValue) (turns : Turns) : Type 0 where
  pub legal : LegalTurns opening turns
  pub shows : WorldStateShows (holding w) (after_turns opening turns)
  pub ready : w.failed ≡ false
