-- Seats of a split and of a join.
use Rattle.std.proofs.Common.{◌≡◌, ◌⊎◌, ⊎_elim, inl, inr, refl, sym, ap, subst, ◌∙◌, ℕ, List, [], ◌∷◌, ◌++◌, length, append-nil, Option}
use Rattle.std.specs.Prelude.{Result, Ok, Err, IfOk}
use Rattle.pg_session.specs.Commands.{Hearing}
use mathlib.Core.List.{IsPrefix}
use Rattle.pg_turn.specs.Turns.{IsLonger}
use Rattle.pg_gateway.specs.State.{opening}
use Rattle.pg_gateway.specs.Histories.{Legal}
use Rattle.pg_shared.specs.Both.{DeliversIn, IsServed}
use Rattle.pg_shared.specs.Delivery.{Delivers, HasHeard}
use Rattle.pg_shared.specs.Sharing.{Call, history_of}
use Rattle.pg_shared.specs.Gates.{said_at}
use Rattle.pg_shared.specs.Onward.{GoesOn, calls_in}
use Rattle.pg_laws.specs.Since.{going_on}
use Rattle.pg_laws.specs.Threads.{Seat, beside}

module _ {A : Type 0} where
  pub first_begins : (xs ys zs : List A) → IsLonger xs ys zs → IsPrefix xs zs
  first_begins xs ys zs longer =
      ⊎_elim (λ one. ([], append-nil xs ∙ sym one.1)) (λ other. subst (IsPrefix xs) (sym other.1) other.0) longer

  pub second_begins : (xs ys zs : List A) → IsLonger xs ys zs → IsPrefix ys zs
  second_begins xs ys zs longer =
      ⊎_elim (λ one. subst (IsPrefix ys) (sym one.1) one.0) (λ other. ([], append-nil ys ∙ sym other.1)) longer

-- the law of a longer history, as a clause states it
abbrev pub Whole : Type 0
Whole = (history : List Call) (u : ℕ) (v v' : Seat) (left left' : List ℕ) (w w' : Option (List ℕ)) → IsPrefix v'.seen history
    → Delivers u v v' left left' w w' → DeliversIn history u v v' left left' w w'

-- What a thread's seat went through, stated of the one history.
pub is_served : Whole → {E : Type 0} (session : Result Hearing E) (history : List Call) (u : ℕ) (v start v' : Seat) (r r' w w' : Option (List ℕ)) → v ≡ start
    → IsPrefix v'.seen history → IfOk session (λ s. Delivers u v v' [] s.left w w') → IfOk session (λ s. HasHeard u s v v' r r')
    → IfOk session (λ s. IsServed history u s start v' r r' w w')
is_served whole (Ok s) history u v start v' r r' w w' same begins delivers heard = record {
  delivers = whole history u start v' [] s.left w w' begins (subst (λ x. Delivers u x v' [] s.left w w') same delivers);
  heard = subst (λ x. HasHeard u s x v' r r') same heard;
}
is_served whole (Err e) history u v start v' r r' w w' same begins delivers heard = tt

pub is_beside : (v w : Seat) → w.table ≡ v.table → w.seen ≡ v.seen → w.own ≡ [] → w ≡ beside v
is_beside v w table seen own =
    ap (λ t. record { table = t; seen = w.seen; own = w.own }) table
    ∙ ap (λ s. record { table = v.table; seen = s; own = w.own }) seen
    ∙ ap (λ o. record { table = v.table; seen = v.seen; own = o }) own

-- a seat behind a call of its own
pub gone_on : (v w : Seat) (between : List Call) (call : Call) → w.table ≡ v.table → w.seen ≡ (v.seen ++ between) ++ call ∷ []
    → w.own ≡ v.own ++ length (v.seen ++ between) ∷ [] → w ≡ going_on v between call
gone_on v w between call table seen own =
    ap (λ t. record { table = t; seen = w.seen; own = w.own }) table
    ∙ ap (λ s. record { table = v.table; seen = s; own = w.own }) seen
    ∙ ap (λ o. record { table = v.table; seen = (v.seen ++ between) ++ call ∷ []; own = o }) own

-- a seat that made no call goes on
abbrev pub staying : (v : Seat) → GoesOn v v
staying v = record {
  table = refl;
  pieces = [];
  seen = sym (append-nil v.seen);
  own = sym (append-nil v.own);
  said = sym (append-nil (said_at v.seen v.own));
  answered = tt;
  legal = inl refl;
}

-- a legal history goes on as one
pub still_legal : (v w : Seat) → GoesOn v w → Legal opening (history_of v.seen) → Legal opening (history_of w.seen)
still_legal v w on before =
    ⊎_elim (λ none. subst (λ calls. Legal opening (history_of calls))
    (sym (on.seen ∙ ap (λ pieces. v.seen ++ calls_in pieces) none ∙ append-nil v.seen)) before)
    (λ legal. legal) on.legal

legal_went : (v w x : Seat) → GoesOn v w → x.seen ≡ w.seen → (x.seen ≡ v.seen) ⊎ Legal opening (history_of x.seen)
legal_went v w x on same =
    ⊎_elim (λ none. inl (same ∙ on.seen ∙ ap (λ pieces. v.seen ++ calls_in pieces) none ∙ append-nil v.seen))
    (λ legal. inr (subst (λ calls. Legal opening (history_of calls)) (sym same) legal)) on.legal

pub both_legal : (v one two joined : Seat) → GoesOn v one → GoesOn (beside v) two → IsLonger one.seen two.seen joined.seen
    → (joined.seen ≡ v.seen) ⊎ Legal opening (history_of joined.seen)
both_legal v one two joined first second longer =
    ⊎_elim (λ is. legal_went v one joined first is.1) (λ is. legal_went (beside v) two joined second is.1) longer
