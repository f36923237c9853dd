-- Inputs are taken one after another.
use Rattle.std.proofs.Common.{◌≡◌, false, List, [], ◌∷◌, ◌++◌, refl, sym, ap, ap₂, ◌∙◌, subst}
use Rattle.std.proofs.lemmas.List.{map-append}
use Rattle.pg_serve.specs.Inputs.{InputValue, Outcome}
use Rattle.pg_serve.specs.WorldStates.{WorldState, opening, Turns, LegalTurns, after_turn, after_turns, outcome_of, all_outcomes}
use Rattle.pg_serve.specs.Shown.{Holding, holding, WorldStateShows, WorldValue}
use Rattle.pg_serve.specs.Taking.{TakesInput, TakesInputs}
use Rattle.pg_serve.specs.Headline.{HasAnswered}

pub after_turns-append : (m : WorldState) (ts us : Turns) → after_turns m (ts ++ us) ≡ after_turns (after_turns m ts) us
after_turns-append m [] us = refl
after_turns-append m (t ∷ ts) us = after_turns-append (after_turn m t) ts us

pub LegalTurns-append : (m : WorldState) (ts us : Turns) → LegalTurns m ts → LegalTurns (after_turns m ts) us → LegalTurns m (ts ++ us)
LegalTurns-append m [] us legal more = more
LegalTurns-append m (t ∷ ts) us legal more = (legal.0, LegalTurns-append (after_turn m t) ts us legal.1 more)

pub outcomes-append : (m : WorldState) (ts us : Turns) → all_outcomes m (ts ++ us) ≡ all_outcomes m ts ++ all_outcomes (after_turns m ts) us
outcomes-append m [] us = refl
outcomes-append m (t ∷ ts) us = ap (λ os. outcome_of m t ∷ os) (outcomes-append (after_turn m t) ts us)

pub many_more : (u v w : Holding) (inputs : List InputValue) (told : List Outcome) (f : InputValue) (o : Outcome) → TakesInputs u inputs told v → TakesInput v f o w
    → TakesInputs u (inputs ++ f ∷ []) (told ++ o ∷ []) w
many_more u v w inputs told f o all takes m shows =
    let many = all m shows in
    let mid = after_turns m many.turns in
    let one = takes mid many.shows in
    record {
      turns = many.turns ++ one.turn ∷ [];
      taken = map-append _ many.turns (one.turn ∷ []) ∙ ap₂ (λ (fs : List InputValue) (x : InputValue). fs ++ x ∷ []) many.taken one.is;
      legal = LegalTurns-append m many.turns (one.turn ∷ []) many.legal (one.legal, tt);
      outcomes = ap₂ (λ (os : List Outcome) (x : Outcome). os ++ x ∷ []) many.outcomes one.outcome ∙ sym (outcomes-append m many.turns (one.turn ∷ []));
      shows = subst (WorldStateShows w) (sym (after_turns-append m many.turns (one.turn ∷ []))) one.shows;
    }

pub one_taken : (v w : Holding) (f : InputValue) (o : Outcome) → TakesInput v f o w → TakesInputs v (f ∷ []) (o ∷ []) w
one_taken v w f o takes = many_more v v w [] [] f o (λ m shows. record { turns = []; taken = refl; legal = tt; outcomes = refl; shows = shows }) takes

pub answered_more : (v w : WorldValue) (before inputs : List InputValue) (told more : List Outcome) → HasAnswered v before told
    → TakesInputs (holding v) inputs more (holding w) → w.failed ≡ false
    → HasAnswered w (before ++ inputs) (told ++ more)
answered_more v w before inputs told more has all ready =
    let many = all (after_turns opening has.turns) has.shows.shows in
    record {
      turns = has.turns ++ many.turns;
      taken = map-append _ has.turns many.turns ∙ ap₂ (λ (x y : List InputValue). x ++ y) has.taken many.taken;
      outcomes = ap₂ (λ (x y : List Outcome). x ++ y) has.outcomes many.outcomes ∙ sym (outcomes-append opening has.turns many.turns);
      shows = record {
        legal = LegalTurns-append opening has.turns many.turns has.shows.legal many.legal;
        shows = subst (WorldStateShows (holding w)) (sym (after_turns-append opening has.turns many.turns)) many.shows;
        ready = ready;
      };
    }
