-- What a gate that holds a seat has posted, call after call.
use Rattle.std.proofs.Common.{◌≡◌, ◌∙◌, ◌<◌, zero, suc, Bool, cond, eqb, eq-eqb, ap, ap₂, refl, inr, arith, ℕ, List, [], ◌∷◌, ◌++◌, length, append_assoc, length-append, Some}
use Rattle.std.specs.Prelude.{slice_get}
use Rattle.std.proofs.lemmas.Grind.{flat_map-append}
use Rattle.std.proofs.lemmas.List.Sums.{sum_by-cons}
use Rattle.pg_turn.specs.Known.{Known, StandsIn}
use Rattle.pg_gateway.specs.declared.event.Event.{Event}
use Rattle.pg_gateway.specs.declared.event.Reply.{Reply}
use Rattle.pg_gateway.specs.Histories.{said}
use Rattle.pg_shared.specs.Sharing.{Call, PostedCall}
use Rattle.pg_shared.specs.Onward.{GoesOn}
use Rattle.pg_shared.specs.Continuing.{answered_more}
use Rattle.pg_shared.specs.Gates.{said_by, said_at}

get_here : (xs : List Call) (x : Call) → slice_get (xs ++ x ∷ []) (length xs) ≡ Some x
get_here [] x = refl
get_here (z ∷ xs) x = get_here xs x

get_front : (xs ys : List Call) (n : ℕ) → n < length xs → slice_get (xs ++ ys) n ≡ slice_get xs n
get_front [] ys n h = absurd (omega (arith, h))
get_front (x ∷ xs) ys zero h = refl
get_front (x ∷ xs) ys (suc n) h = get_front xs ys n (omega (arith, h))

counts : (place : ℕ) → ℕ → ℕ
counts place p = cond (eqb p place) 1 0

stands_first : (p : ℕ) (own : List ℕ) (history : List Call) → StandsIn (p ∷ own) history → p < length history
unfolding counts
stands_first p own history h =
    h p (let one : ◌≡◌ {A = ℕ} (cond {A = ℕ} (eqb p p) 1 0) 1 = ap (λ (b : Bool). cond {A = ℕ} b 1 0) (eq-eqb p p refl) in
    omega (arith, one, sum_by-cons (counts p) p own))

stands_rest : (p : ℕ) (own : List ℕ) (history : List Call) → StandsIn (p ∷ own) history → StandsIn own history
unfolding counts
stands_rest p own history h place some = h place (omega (arith, some, sum_by-cons (counts place) p own))

-- what was said at places stays
said_stays : (own : List ℕ) (history more : List Call) → StandsIn own history → said_at (history ++ more) own ≡ said_at history own
said_stays [] history more h = refl
said_stays (p ∷ own) history more h =
    ap₂ (λ x y. said_by x ++ y) (get_front history more p (stands_first p own history h)) (said_stays own history more (stands_rest p own history h))

pub said_more : (v w : Known Event Reply) (e : Event) (r : Reply) → PostedCall v e r w → said_at w.seen w.own ≡ said_at v.seen v.own ++ said (e, r) ∷ []
said_more v w e r posted =
    let before = v.seen ++ posted.between in
    let here : said_by (slice_get (before ++ (e, r) ∷ []) (length before)) ≡ said (e, r) ∷ [] = ap said_by (get_here before (e, r)) in
    let old : said_at (before ++ (e, r) ∷ []) v.own ≡ said_at v.seen v.own =
    ap (λ h. said_at h v.own) (append_assoc v.seen posted.between ((e, r) ∷ [])) ∙ said_stays v.own v.seen (posted.between ++ (e, r) ∷ []) posted.others in
    ap₂ said_at posted.seen posted.own
    ∙ flat_map-append (λ place. said_by (slice_get (before ++ (e, r) ∷ []) place)) v.own (length before ∷ [])
    ∙ ap₂ (λ x y. x ++ (y ++ [])) old here

-- a call makes a seat go on
pub goes_on_posted : (v w : Known Event Reply) (e : Event) (r : Reply) → PostedCall v e r w → w.table ≡ v.table → GoesOn v w
goes_on_posted v w e r posted table = record {
  table = table;
  pieces = (posted.between, (e, r)) ∷ [];
  seen = posted.seen ∙ append_assoc v.seen posted.between ((e, r) ∷ []);
  own = posted.own ∙ ap (λ n. v.own ++ n ∷ []) (length-append v.seen posted.between);
  said = said_more v w e r posted;
  answered = answered_more posted.between ((e, r) ∷ []) posted.between_answers (posted.answers, tt);
  legal = inr posted.legal;
}
