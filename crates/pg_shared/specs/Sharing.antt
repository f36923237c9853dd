-- What those who share a gateway are told: its calls are one legal history, and in one without loss drains go by views alone.
use Rattle.std.specs.Prelude.{◌≡◌, ℕ, List, [], ◌∷◌, ◌++◌, length, map, Some, None}
use mathlib.Core.List.{IsPrefix}
use Rattle.pg_session.specs.Events.{SubscriberEvent}
use Rattle.pg_session.specs.Shown.{Model}
use Rattle.pg_turn.specs.Known.{Known, StandsIn}
use Rattle.pg_turn.specs.Counting.{capped}
use Rattle.pg_gateway.specs.declared.event.Event.{Event}
use Rattle.pg_gateway.specs.declared.event.Reply.{Reply}
use Rattle.pg_gateway.specs.GatewayEvents.{GatewayEvent, gateway_event, asks, Answer, told, tells}
use Rattle.pg_gateway.specs.State.{opening, May}
use Rattle.pg_gateway.specs.Shown.{GatewayValue, GatewayShows}
use Rattle.pg_gateway.specs.Posting.{Answers}
use Rattle.pg_gateway.specs.Histories.{Legal, state_after, said}
use Rattle.pg_gateway.specs.Laws.{events_of, answers_of}
use Rattle.pg_gateway.specs.Views.{view, private_run, full_told, AllLossless, handed_to, handed_in}

-- an event with its reply
abbrev pub Call : Type 0
Call = Event × Reply

-- what these calls say
abbrev pub history_of : List Call → List (GatewayEvent × Answer)
history_of calls = map said calls

-- each reply is one that may come to its event, by its form
abbrev pub AreAnswered : List Call → Type 0
AreAnswered [] = Unit {0}
AreAnswered (call ∷ calls) = Answers call.0 call.1 × AreAnswered calls

-- The call (e, r) is the last of a legal history of the gateway that begins with all that the caller had seen. Its place is one
-- more of the caller's own, and the others stand in what the caller had seen, so that the calls in between are those of others
pub record PostedCall (v : Known Event Reply) (e : Event) (r : Reply) (w : Known Event Reply) : Type 0 where
  pub between : List Call
  pub seen : w.seen ≡ (v.seen ++ between) ++ (e, r) ∷ []
  pub own : w.own ≡ v.own ++ length (v.seen ++ between) ∷ []
  pub others : StandsIn v.own v.seen
  pub legal : Legal opening (history_of w.seen)
  -- the reply is one that the gateway of one thread gives after the calls before it
  pub may : May (state_after opening (history_of (v.seen ++ between))) (gateway_event e) (told r)
  pub answers : Answers e r
  pub between_answers : AreAnswered between

-- the number is the last of these places, as a u64
abbrev pub IsLastPlace : ℕ → List ℕ → Type 0
IsLastPlace number own = (before : List ℕ) × (place : ℕ) × (own ≡ before ++ place ∷ []) × (number ≡ capped place)

-- Where no answer of the history tells a loss or want of memory, its drains hand to each subscriber, all told, what a private
-- gateway of that subscriber's view hands out: bytes, frames begun, gaps
abbrev pub HandsByViews : List (GatewayEvent × Answer) → Type 0
HandsByViews h = AllLossless (answers_of h) → (u : ℕ)
    → handed_to u (events_of h) (answers_of h) ≡ handed_in None (view u opening (events_of h))

-- And where the history's last call asks something for a subscriber, a drain among others, its answer is what the private
-- gateway of the view before it answers
abbrev pub AnswersByView : List (GatewayEvent × Answer) → Type 0
AnswersByView h = (before : List (GatewayEvent × Answer)) (u : ℕ) (x : SubscriberEvent) (a : Answer) (p : Model)
    → h ≡ before ++ (asks u x, a) ∷ [] → AllLossless (answers_of h)
    → private_run None (view u opening (events_of before)) ≡ Some p → a ≡ tells (full_told p x)

-- The gateway is where a legal history leaves it that begins with all that the caller had seen
pub record Closed (v : Known Event Reply) (g : GatewayValue) : Type 0 where
  pub calls : List Call
  pub begins : IsPrefix v.seen calls
  pub legal : Legal opening (history_of calls)
  pub shows : GatewayShows g (state_after opening (history_of calls))
