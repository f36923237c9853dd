-- Legal histories: events with their answers, each of which may come at its point, from the empty gateway.
use Rattle.std.specs.Prelude.{List, [], ◌∷◌, map}
use Rattle.pg_gateway.specs.declared.event.Event.{Event}
use Rattle.pg_gateway.specs.declared.event.Reply.{Reply}
use Rattle.pg_gateway.specs.GatewayEvents.{GatewayEvent, gateway_event, Answer, told}
use Rattle.pg_gateway.specs.State.{SharedMachine, opening, May, next}
use Rattle.pg_gateway.specs.Shown.{GatewayValue, GatewayShows}
use Rattle.pg_gateway.specs.Posting.{Answers}

abbrev pub Legal : SharedMachine → List (GatewayEvent × Answer) → Type 0
Legal S [] = Unit {0}
Legal S (x ∷ xs) = May S x.0 x.1 × Legal (next S x.0 x.1) xs

abbrev pub state_after : SharedMachine → List (GatewayEvent × Answer) → SharedMachine
state_after S [] = S
state_after S (x ∷ xs) = state_after (next S x.0 x.1) xs

-- The history is legal, and the value shows the state that it leaves.
pub record ShowsHistory (v : GatewayValue) (history : List (GatewayEvent × Answer)) : Type 0 where
  pub legal : Legal opening history
  pub shows : GatewayShows v (state_after opening history)

-- what an event and its reply say
abbrev pub said : Event × Reply → GatewayEvent × Answer
said x = (gateway_event x.0, told x.1)

-- The same for calls: the value is one that these events with these replies left.
abbrev pub ShowsCalls : GatewayValue → List (Event × Reply) → Type 0
ShowsCalls v calls = ShowsHistory v (map said calls)

-- After these calls the event may get this reply.
pub record MayCall (calls : List (Event × Reply)) (e : Event) (r : Reply) : Type 0 where
  pub may : May (state_after opening (map said calls)) (gateway_event e) (told r)
  pub answers : Answers e r
