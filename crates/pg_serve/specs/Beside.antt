-- A subscriber in two worlds, of which it sees the same: it queues the same in both, and both hand it the same.
use Rattle.std.specs.Prelude.{◌≡◌, ◌≤◌, ℕ, List, [], ◌∷◌, None}
use Rattle.std.specs.List.{flat_map}
use Rattle.pg_data.specs.Measurements.{Measurement}
use Rattle.pg_gateway.specs.GatewayEvents.{GatewayEvent, measure}
use Rattle.pg_gateway.specs.State.{SharedMachine, opening as shared_opening, refusal}
use Rattle.pg_gateway.specs.Views.{part, shared_run}
use Rattle.pg_gateway.specs.Laws.{AgreeOn}
use Rattle.pg_serve.specs.Inputs.{InputValue, Outcome}
use Rattle.pg_serve.specs.Shown.{WorldValue, queue_shown}
use Rattle.pg_serve.specs.Others.{adds_in}
use Rattle.pg_serve.specs.Framed.{SameButUngranted}
use Rattle.pg_serve.specs.Full.{events_made, view_of, handed_over}
use Rattle.pg_serve.specs.Headline.{OutcomesLossless, HasAnswered}

-- events of two worlds, side by side
pub data Beside : Type 0 where
  -- a data frame of each
  frames : Measurement → Measurement → Beside
  -- any event of each
  events : GatewayEvent → GatewayEvent → Beside
  -- an event of one of them alone
  mine : GatewayEvent → Beside
  other : GatewayEvent → Beside

abbrev pub mine_by : Beside → List GatewayEvent
mine_by (frames m n) = measure m ∷ []
mine_by (events e f) = e ∷ []
mine_by (mine e) = e ∷ []
mine_by (other f) = []

abbrev pub other_by : Beside → List GatewayEvent
other_by (frames m n) = measure n ∷ []
other_by (events e f) = f ∷ []
other_by (mine e) = []
other_by (other f) = f ∷ []

-- all events of the one world, and of the other
abbrev pub mine_of : List Beside → List GatewayEvent
mine_of pairs = flat_map mine_by pairs

abbrev pub other_of : List Beside → List GatewayEvent
other_of pairs = flat_map other_by pairs

-- What u is to see of both agrees: data frames that both worlds take agree on the blocks that u is granted of them, and may
-- differ otherwise in any way; other events agree on u's part, and an event of one world alone gives u none.
abbrev pub AgreeAt : ℕ → SharedMachine → SharedMachine → Beside → Type 0
AgreeAt u S T (frames m n) = (refusal S (measure m) ≡ None) × (refusal T (measure n) ≡ None) × AgreeOn u S m T n
AgreeAt u S T (events e f) = part u S e ≡ part u T f
AgreeAt u S T (mine e) = part u S e ≡ []
AgreeAt u S T (other f) = part u T f ≡ []

-- So they do one after another, from these states.
abbrev pub Agree : ℕ → SharedMachine → SharedMachine → List Beside → Type 0
Agree u S T [] = Unit {0}
Agree u S T (x ∷ pairs) = AgreeAt u S T x × Agree u (shared_run S (mine_by x)) (shared_run T (other_by x)) pairs

-- The events that two lists of inputs make lie side by side so that they agree on what u is to see.
pub record SeeAlike (u : ℕ) (inputs others : List InputValue) : Type 0 where
  pub pairs : List Beside
  pub mine : mine_of pairs ≡ events_made inputs
  pub other : other_of pairs ≡ events_made others
  pub agree : Agree u shared_opening shared_opening pairs

-- A subscriber's queue shows the same in both worlds, and both handed it the same.
pub record ServesAlike (u : ℕ) (w : WorldValue) (inputs : List InputValue) (told : List Outcome)
    (v : WorldValue) (others : List InputValue) (answers : List Outcome) : Type 0 where
  pub queued : queue_shown u w ≡ queue_shown u v
  pub handed : handed_over u inputs told ≡ handed_over u others answers

-- Beside any other world that has answered without a loss and without want of memory: a subscriber whose view of both is
-- the same is served alike; and so is one that sees both alike but for blocks of shared frames that it is not granted. So it is
-- where the inputs are the same but for the bytes of such blocks, and add subscribers at most 64 times.
pub record StandsBeside (w : WorldValue) (inputs : List InputValue) (told : List Outcome) : Type 0 where
  pub views : (u : ℕ) (v : WorldValue) (others : List InputValue) (answers : List Outcome) → HasAnswered v others answers → OutcomesLossless answers
      → view_of u inputs ≡ view_of u others → ServesAlike u w inputs told v others answers
  pub frames : (u : ℕ) (v : WorldValue) (others : List InputValue) (answers : List Outcome) → HasAnswered v others answers → OutcomesLossless answers
      → SeeAlike u inputs others → ServesAlike u w inputs told v others answers
  pub bytes : (u : ℕ) (v : WorldValue) (others : List InputValue) (answers : List Outcome) → HasAnswered v others answers → OutcomesLossless answers
      → adds_in inputs ≤ 64 → SameButUngranted u inputs others → ServesAlike u w inputs told v others answers
