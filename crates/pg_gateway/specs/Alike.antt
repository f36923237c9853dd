-- Two gateways that agree on a subscriber's part of what they take leave it alike.
use Rattle.std.specs.Prelude.{◌≡◌, ℕ, List, [], ◌∷◌, ◌++◌, None}
use Rattle.pg_data.specs.Measurements.{Measurement}
use Rattle.pg_gateway.specs.GatewayEvents.{GatewayEvent, measure, Answer}
use Rattle.pg_gateway.specs.State.{opening, own_of, refusal, next}
use Rattle.pg_gateway.specs.Views.{part, Lossless}
use Rattle.pg_gateway.specs.Shown.{GatewayValue}
use Rattle.pg_gateway.specs.Histories.{Legal, state_after, ShowsHistory}
use Rattle.pg_gateway.specs.Laws.{AgreeOn}

-- After whatever pasts, in which the subscriber became the same: where this gateway takes one event and another gateway another,
-- of which the subscriber's parts are the same, and neither reply tells a loss, it stays the same. So nothing else of the events
-- or of the gateways reaches it.
abbrev pub LeavesAlike : GatewayValue → GatewayEvent → Answer → Type 0
LeavesAlike v e a =
    (u : ℕ) (h k : List (GatewayEvent × Answer)) (f : GatewayEvent) (b : Answer) → ShowsHistory v h → Legal opening (k ++ (f, b) ∷ [])
    → Lossless a → Lossless b → own_of u (state_after opening h) ≡ own_of u (state_after opening k)
    → part u (state_after opening h) e ≡ part u (state_after opening k) f
    → own_of u (next (state_after opening h) e a) ≡ own_of u (next (state_after opening k) f b)

-- And so of two data frames that agree on the blocks that it is granted, and differ otherwise in any way.
abbrev pub TakesOwnBlocks : GatewayValue → GatewayEvent → Answer → Type 0
TakesOwnBlocks v e a =
    (u : ℕ) (h k : List (GatewayEvent × Answer)) (m n : Measurement) (b : Answer) → e ≡ measure m → ShowsHistory v h
    → Legal opening (k ++ (measure n, b) ∷ []) → Lossless a → Lossless b → own_of u (state_after opening h) ≡ own_of u (state_after opening k)
    → refusal (state_after opening h) (measure m) ≡ None → refusal (state_after opening k) (measure n) ≡ None
    → AgreeOn u (state_after opening h) m (state_after opening k) n
    → own_of u (next (state_after opening h) e a) ≡ own_of u (next (state_after opening k) (measure n) b)
