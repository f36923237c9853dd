-- Seats that are joined one after another.
use Rattle.std.proofs.Common.{◌≡◌, ⊎_elim, refl, sym, ap, subst, ◌∙◌, List, [], ◌∷◌, ◌++◌, append_assoc, append-nil, Option, Some, None}
use mathlib.Core.List.{IsPrefix}
use Rattle.pg_turn.specs.Turns.{IsLonger}
use Rattle.pg_console.specs.Joining.{Place, own_of_all, Joins, Begins}

prefix_trans : {A : Type 0} (xs ys zs : List A) → IsPrefix xs ys → IsPrefix ys zs → IsPrefix xs zs
prefix_trans xs ys zs p q = (p.0 ++ q.0, sym (append_assoc xs p.0 q.0) ∙ (ap (λ w. w ++ q.0) p.1 ∙ q.1))

prefix_self : {A : Type 0} (xs : List A) → IsPrefix xs xs
prefix_self xs = ([], append-nil xs)

-- the longer of two is begun by both
longer_first : {A : Type 0} (xs ys zs : List A) → IsLonger xs ys zs → IsPrefix xs zs
longer_first xs ys zs h = ⊎_elim
    (λ (p : IsPrefix ys xs × (zs ≡ xs)). subst (λ l. IsPrefix xs l) (sym p.1) (prefix_self xs))
    (λ (p : IsPrefix xs ys × (zs ≡ ys)). subst (λ l. IsPrefix xs l) (sym p.1) p.0) h

longer_second : {A : Type 0} (xs ys zs : List A) → IsLonger xs ys zs → IsPrefix ys zs
longer_second xs ys zs h = ⊎_elim
    (λ (p : IsPrefix ys xs × (zs ≡ xs)). subst (λ l. IsPrefix ys l) (sym p.1) p.0)
    (λ (p : IsPrefix xs ys × (zs ≡ ys)). subst (λ l. IsPrefix ys l) (sym p.1) (prefix_self ys)) h

-- with no worker left the seat is the joined one
pub joins_none : {W : Type 0} (gives : W → Option Place → Type 0) (v : Place) → Joins gives v [] v
joins_none gives v = record {
  given = [];
  gave = tt;
  table = refl;
  begins = prefix_self v.seen;
  seen = tt;
  own = sym (append-nil v.own);
}

-- the next worker gave nothing
pub joins_idle : {W : Type 0} (gives : W → Option Place → Type 0) (v end : Place) (worker : W) (rest : List W)
    → gives worker None → Joins gives v rest end → Joins gives v (worker ∷ rest) end
joins_idle gives v end worker rest g h = record {
  given = None ∷ h.given;
  gave = (g, h.gave);
  table = h.table;
  begins = h.begins;
  seen = (tt, h.seen);
  own = h.own;
}

-- the next worker gave a seat, which was joined
pub joins_next : {W : Type 0} (gives : W → Option Place → Type 0) (v other next end : Place) (worker : W) (rest : List W)
    → gives worker (Some other) → next.table ≡ v.table → IsLonger v.seen other.seen next.seen → next.own ≡ v.own ++ other.own
    → Joins gives next rest end → Joins gives v (worker ∷ rest) end
joins_next gives v other next end worker rest g table seen own h = record {
  given = Some other ∷ h.given;
  gave = (g, h.gave);
  table = h.table ∙ table;
  begins = prefix_trans v.seen next.seen end.seen (longer_first v.seen other.seen next.seen seen) h.begins;
  seen = (prefix_trans other.seen next.seen end.seen (longer_second v.seen other.seen next.seen seen) h.begins, h.seen);
  own = h.own ∙ ap (λ l. l ++ own_of_all h.given) own ∙ append_assoc v.own other.own (own_of_all h.given);
}

-- what is joined begins with what was before
pub joined_begins : {W : Type 0} (gives : W → Option Place → Type 0) (v end : Place) (workers : List W) → Joins gives v workers end → Begins v end
joined_begins gives v end workers h = record { seen = h.begins; later = own_of_all h.given; own = h.own }
