-- Two gateways that agree on a subscriber's part of what they take leave it alike.
use Rattle.std.proofs.Common.{◌≡◌, ℕ, List, [], ◌∷◌, ◌++◌, sym, ap, ◌∙◌}
use Rattle.pg_gateway.specs.GatewayEvents.{GatewayEvent, measure, Answer}
use Rattle.pg_gateway.specs.State.{SharedMachine, opening, own_of, May, next}
use Rattle.pg_gateway.specs.Views.{Lossless, part, private_run}
use Rattle.pg_gateway.specs.Shown.{GatewayValue, Goes}
use Rattle.pg_gateway.specs.Histories.{Legal, state_after}
use Rattle.pg_gateway.specs.Alike.{LeavesAlike, TakesOwnBlocks}
use Rattle.pg_gateway.proofs.SlotLaws.{Alone}
use Rattle.pg_gateway.proofs.ViewLaws.{Alone-next, own-step}
use Rattle.pg_gateway.proofs.AnswerLaws.{lossless_full}
use Rattle.pg_gateway.proofs.RunLaws.{agreeing_parts}

Alone-after : (S : SharedMachine) (h : List (GatewayEvent × Answer)) → Alone S.subs → Alone (state_after S h).subs
Alone-after S [] alone = alone
Alone-after S (x ∷ h) alone = Alone-after (next S x.0 x.1) h (Alone-next S x.0 x.1 alone)

last-legal : (S : SharedMachine) (h : List (GatewayEvent × Answer)) (e : GatewayEvent) (a : Answer) → Legal S (h ++ (e, a) ∷ []) → May (state_after S h) e a
last-legal S [] e a legal = legal.0
last-legal S (x ∷ h) e a legal = last-legal (next S x.0 x.1) h e a legal.1

-- one event, so answered, is its part's
one_step : (u : ℕ) (h : List (GatewayEvent × Answer)) (e : GatewayEvent) (a : Answer) → May (state_after opening h) e a → Lossless a
    → own_of u (next (state_after opening h) e a) ≡ private_run (own_of u (state_after opening h)) (part u (state_after opening h) e)
one_step u h e a may full =
    ap (λ b. own_of u (next (state_after opening h) e b)) (lossless_full (state_after opening h) e a may full)
    ∙ own-step u (state_after opening h) e (Alone-after opening h tt)

pub leaves_alike : (old new : GatewayValue) (e : GatewayEvent) (a : Answer) → Goes old e a new → LeavesAlike old e a
leaves_alike old new e a goes = λ u h k f b shown legal full other own same.
    one_step u h e a (goes (state_after opening h) shown.shows).may full
    ∙ ap (λ o. private_run o (part u (state_after opening h) e)) own ∙ ap (λ v. private_run (own_of u (state_after opening k)) v) same
    ∙ sym (one_step u k f b (last-legal opening k f b legal) other)

pub own_blocks : (old new : GatewayValue) (e : GatewayEvent) (a : Answer) → Goes old e a new → TakesOwnBlocks old e a
own_blocks old new e a goes = λ u h k m n b is shown legal full other own first second agree.
    leaves_alike old new e a goes u h k (measure n) b shown legal full other own
    (ap (λ x. part u (state_after opening h) x) is ∙ agreeing_parts u (state_after opening h) (state_after opening k) m n own first second agree)
