-- What holds of each subscriber, whatever the others do, where no memory is refused.
use Rattle.std.specs.Prelude.{◌≡◌, ℕ, List, [], ◌∷◌, ◌++◌, map, filter, Option, Some, None}
use Rattle.pg_entitle.specs.Grants.{has_key}
use Rattle.pg_data.specs.Measurements.{Measurement}
use Rattle.pg_session.specs.Events.{SubscriberEvent, Sample}
use Rattle.pg_session.specs.Shown.{Model}
use Rattle.pg_session.specs.declared.standing.MemberPlace.{MemberPlace}
use Rattle.pg_session.specs.Standing.{standing_of}
use Rattle.pg_gateway.specs.GatewayEvents.{GatewayEvent, asks, measure, stats, standing, Answer, tells, sub_counts, stands, inquires}
use Rattle.pg_gateway.specs.State.{SharedMachine, opening, own_of, taken_in, refusal, May}
use Rattle.pg_gateway.specs.Views.{shared_run, private_run, part, view, full_told, full_answer, full_answers, Lossless, AllLossless, handed_to, handed_in}
use Rattle.pg_gateway.specs.Histories.{Legal, state_after}

-- the state after events
abbrev pub after : List GatewayEvent → SharedMachine
after es = shared_run opening es

-- After any events, what a subscriber is, is what the private gateway makes of its view; and so is what it was handed.
pub record Isolation : Type 0 where
  pub states : (u : ℕ) (es : List GatewayEvent) → own_of u (after es) ≡ private_run None (view u opening es)
  pub handed : (u : ℕ) (es : List GatewayEvent) → handed_to u es (full_answers opening es) ≡ handed_in None (view u opening es)
  -- one event more: each goes on by its part, and stays where it has none
  pub steps : (u : ℕ) (es : List GatewayEvent) (e : GatewayEvent)
      → own_of u (after (es ++ e ∷ [])) ≡ private_run (own_of u (after es)) (part u (after es) e)
  -- the replies to its own events, its counters and how it stands are the private gateway's
  pub replies : (u : ℕ) (es : List GatewayEvent) (x : SubscriberEvent) (p : Model) → own_of u (after es) ≡ Some p
      → full_answer (after es) (asks u x) ≡ tells (full_told p x)
  pub counters : (u : ℕ) (es : List GatewayEvent) (p : Model) → own_of u (after es) ≡ Some p
      → full_answer (after es) (inquires (stats u)) ≡ sub_counts p.output.stats
  pub standings : (u : ℕ) (place : MemberPlace) (es : List GatewayEvent) (p : Model) → own_of u (after es) ≡ Some p
      → full_answer (after es) (inquires (standing u place)) ≡ stands (standing_of p place)

-- Two lists of events that give a subscriber equal views leave it alike, and hand it the same.
pub record EqualViews : Type 0 where
  pub states : (u : ℕ) (es fs : List GatewayEvent) → view u opening es ≡ view u opening fs
      → own_of u (after es) ≡ own_of u (after fs)
  pub handed : (u : ℕ) (es fs : List GatewayEvent) → view u opening es ≡ view u opening fs
      → handed_to u es (full_answers opening es) ≡ handed_to u fs (full_answers opening fs)

-- the blocks of a frame that are taken and granted to the subscriber, where it is there
abbrev pub granted_blocks : Option Model → List Sample → List Sample
granted_blocks None taken = []
granted_blocks (Some p) taken = filter (λ s. has_key p.grants s.key) taken

-- the frames agree on what u is granted of them
pub record AgreeOn (u : ℕ) (S : SharedMachine) (m : Measurement) (T : SharedMachine) (n : Measurement) : Type 0 where
  pub soc : m.soc ≡ n.soc
  pub quality : m.quality ≡ n.quality
  pub frac : m.frac ≡ n.frac
  pub blocks : granted_blocks (own_of u S) (taken_in S m) ≡ granted_blocks (own_of u T) (taken_in T n)

-- Of a frame a subscriber has its granted blocks alone. Where two gateways take frames that agree on these, it goes on alike,
-- however the frames and the gateways differ otherwise; and so it does after any two events that agree on its part.
pub record SharedFrame : Type 0 where
  pub parts : (u : ℕ) (es fs : List GatewayEvent) (e f : GatewayEvent) → own_of u (after es) ≡ own_of u (after fs)
      → part u (after es) e ≡ part u (after fs) f → own_of u (after (es ++ e ∷ [])) ≡ own_of u (after (fs ++ f ∷ []))
  pub frames : (u : ℕ) (es fs : List GatewayEvent) (m n : Measurement) → own_of u (after es) ≡ own_of u (after fs)
      → refusal (after es) (measure m) ≡ None → refusal (after fs) (measure n) ≡ None → AgreeOn u (after es) m (after fs) n
      → own_of u (after (es ++ measure m ∷ [])) ≡ own_of u (after (fs ++ measure n ∷ []))

abbrev pub events_of : List (GatewayEvent × Answer) → List GatewayEvent
events_of history = map (λ x. x.0) history

abbrev pub answers_of : List (GatewayEvent × Answer) → List Answer
answers_of history = map (λ x. x.1) history

-- A legal history that tells no loss and no want of memory is the one where none is refused.
pub record NothingLost : Type 0 where
  pub one : (S : SharedMachine) (e : GatewayEvent) (a : Answer) → May S e a → Lossless a → a ≡ full_answer S e
  pub answers : (h : List (GatewayEvent × Answer)) → Legal opening h → AllLossless (answers_of h)
      → answers_of h ≡ full_answers opening (events_of h)
  pub state : (h : List (GatewayEvent × Answer)) → Legal opening h → AllLossless (answers_of h)
      → state_after opening h ≡ after (events_of h)
