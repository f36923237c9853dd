-- What the world does with the bytes of an input.
use Rattle.std.specs.Prelude.{◌≡◌, ℕ, List, ◌++◌, map, Option}
use Rattle.pg_wire.specs.declared.refusal.Refusal.{Refusal}
use Rattle.pg_session.specs.Commands as session
use Rattle.pg_session.specs.Commands.{Hearing, items_of}
use Rattle.pg_ingest.specs.Items as link
use Rattle.pg_ingest.specs.Linking.{Linking}
use Rattle.pg_ingest.specs.Shown as ingest
use Rattle.pg_ingest.specs.Shown.{LinkPast, IsAllTold}
use Rattle.pg_gateway.specs.State.{SharedMachine}
use Rattle.pg_gateway.specs.Histories.{Legal, state_after}
use Rattle.pg_gateway.specs.Shown.{GatewayValue, GatewayShows}
use Rattle.pg_serve.specs.Inputs.{Noted}
use Rattle.pg_serve.specs.Actions.{Action, Effect, action_of, notes_of, pairs_of, item_action, told_action, link_action, words_due, frames_of, gave, telling_so}

-- From this state, what was due was done, and noted.
pub record Did (S : SharedMachine) (actions : List Action) (before after : List Noted) (g : GatewayValue) : Type 0 where
  pub effects : List Effect
  pub are : map action_of effects ≡ actions
  pub legal : Legal S (pairs_of effects)
  pub shows : GatewayShows g (state_after S (pairs_of effects))
  pub notes : after ≡ before ++ notes_of effects

-- Of a source's bytes some items more were told, and what they make was done.
pub record Tells (S : SharedMachine) (past : LinkPast) (before after : List Noted) (g : GatewayValue) (v : Linking) : Type 0 where
  pub items : List link.Item
  pub shows : ingest.ShowsLink v (telling_so past items)
  pub did : Did S (map told_action items) before after g

-- All of them were told, and behind them the bytes broke or not.
pub record TellsAll (S : SharedMachine) (past : LinkPast) (broken : Option Refusal)
    (before after : List Noted) (g : GatewayValue) (v : Linking) : Type 0 where
  pub items : List link.Item
  pub all : IsAllTold (telling_so past items)
  pub end : link.break_in past.stream ≡ broken
  pub shows : ingest.ShowsLink v (telling_so past items)
  pub did : Did S (map told_action items) before after g

-- All of them were told, and a break was noted.
pub record TakesPiece (S : SharedMachine) (past : LinkPast) (before after : List Noted) (g : GatewayValue) (v : Linking) : Type 0 where
  pub items : List link.Item
  pub all : IsAllTold (telling_so past items)
  pub shows : ingest.ShowsLink v (telling_so past items)
  pub did : Did S (link_action items (link.break_in past.stream)) before after g

-- All commands that the source was owed were given.
pub record GivesAll (past : LinkPast) (sent : List ℕ) (v : Linking) : Type 0 where
  pub frames : sent ≡ frames_of past.source (words_due past)
  pub shows : ingest.ShowsLink v (gave past (words_due past))

-- Of a subscriber's bytes some items more were given, and what they make was done.
pub record Hears (S : SharedMachine) (u : ℕ) (stream : List ℕ) (given : List session.Item)
    (before after : List Noted) (g : GatewayValue) (v : Hearing) : Type 0 where
  pub more : List session.Item
  pub shows : session.ShowsHearing v stream (given ++ more)
  pub did : Did S (map (item_action u) more) before after g

-- All of them were given, and behind them the bytes broke or not.
pub record HearsAll (S : SharedMachine) (u : ℕ) (stream : List ℕ) (given : List session.Item) (broken : Option Refusal)
    (before after : List Noted) (g : GatewayValue) (v : Hearing) : Type 0 where
  pub more : List session.Item
  pub all : given ++ more ≡ items_of stream
  pub end : session.break_in stream ≡ broken
  pub shows : session.ShowsHearing v stream (given ++ more)
  pub did : Did S (map (item_action u) more) before after g
