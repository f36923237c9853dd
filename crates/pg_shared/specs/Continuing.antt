-- Nothing to be believed: proofs that a seat which made no call goes on, and that going on twice is going on.
use Rattle.std.proofs.Common.{◌≡◌, ◌⊎◌, ⊎_elim, inl, inr, refl, sym, ap, subst, ◌∙◌, ℕ, ◌+◌, suc, suc-add, add-suc, add-zero, add_assoc, length-append, List, [], ◌∷◌, ◌++◌, length, append_assoc}
use Rattle.std.proofs.lemmas.List.{append-nil, map-append}
use Rattle.pg_turn.specs.Known.{Known}
use Rattle.pg_gateway.specs.declared.event.Event.{Event}
use Rattle.pg_gateway.specs.declared.event.Reply.{Reply}
use Rattle.pg_gateway.specs.State.{opening}
use Rattle.pg_gateway.specs.Histories.{said, Legal}
use Rattle.pg_shared.specs.Sharing.{Call, AreAnswered, history_of}
use Rattle.pg_shared.specs.Gates.{said_at}
use Rattle.pg_shared.specs.Onward.{Piece, calls_in, own_in, places_in, GoesOn}

pub calls_more : (ps qs : List Piece) → calls_in (ps ++ qs) ≡ calls_in ps ++ calls_in qs
calls_more [] qs = refl
calls_more (p ∷ ps) qs = ap (λ l. p.0 ++ p.1 ∷ l) (calls_more ps qs) ∙ sym (append_assoc p.0 (p.1 ∷ calls_in ps) (calls_in qs))

pub answered_more : (xs ys : List Call) → AreAnswered xs → AreAnswered ys → AreAnswered (xs ++ ys)
answered_more [] ys h k = k
answered_more (x ∷ xs) ys h k = (h.0, answered_more xs ys h.1 k)

pub goes_on_same : (v : Known Event Reply) → GoesOn v v
goes_on_same v = record {
  table = refl;
  pieces = [];
  seen = sym (append-nil v.seen);
  own = sym (append-nil v.own);
  said = sym (append-nil (said_at v.seen v.own));
  answered = tt;
  legal = inl refl;
}

-- a piece more is behind so many calls more
piece_more : (n k l : ℕ) → suc (n + k) + l ≡ n + (k + suc l)
piece_more n k l = suc-add (n + k) l ∙ ap suc (add_assoc n k l) ∙ sym (add-suc n (k + l)) ∙ ap (λ m. n + m) (sym (add-suc k l))

places_more : (n : ℕ) (ps qs : List Piece)
    → places_in n (ps ++ qs) ≡ places_in n ps ++ places_in (n + length (calls_in ps)) qs
places_more n [] qs = ap (λ m. places_in m qs) (sym (add-zero n))
places_more n (p ∷ ps) qs =
    let behind = piece_more n (length p.0) (length (calls_in ps)) ∙ ap (λ m. n + m) (sym (length-append p.0 (p.1 ∷ calls_in ps))) in
    ap (λ l. (n + length p.0) ∷ l)
    (places_more (suc (n + length p.0)) ps qs ∙ ap (λ m. places_in (suc (n + length p.0)) ps ++ places_in m qs) behind)

pub owned_more : (v w x : Known Event Reply) (ps qs : List Piece) → w.seen ≡ v.seen ++ calls_in ps
    → w.own ≡ v.own ++ places_in (length v.seen) ps → x.own ≡ w.own ++ places_in (length w.seen) qs
    → x.own ≡ v.own ++ places_in (length v.seen) (ps ++ qs)
owned_more v w x ps qs seen first later =
    later ∙ ap (λ l. l ++ places_in (length w.seen) qs) first
    ∙ append_assoc v.own (places_in (length v.seen) ps) (places_in (length w.seen) qs)
    ∙ ap (λ l. v.own ++ l)
    (ap (λ n. places_in (length v.seen) ps ++ places_in n qs) (ap length seen ∙ length-append v.seen (calls_in ps))
    ∙ sym (places_more (length v.seen) ps qs))

-- what comes behind a legal history, where it is nothing
legal_more : (w x : Known Event Reply) (ps qs : List Piece) → x.seen ≡ w.seen ++ calls_in qs
    → (ps ≡ []) ⊎ Legal opening (history_of w.seen) → (qs ≡ []) ⊎ Legal opening (history_of x.seen)
    → (ps ++ qs ≡ []) ⊎ Legal opening (history_of x.seen)
legal_more w x ps qs seen first later =
    ⊎_elim (λ none. let same : x.seen ≡ w.seen = seen ∙ ap (λ l. w.seen ++ calls_in l) none ∙ append-nil w.seen in
    ⊎_elim (λ empty. inl (ap (λ l. l ++ qs) empty ∙ none)) (λ legal. inr (subst (λ calls. Legal opening (history_of calls)) (sym same) legal)) first)
    (λ legal. inr legal) later

pub goes_on_more : (v w x : Known Event Reply) → GoesOn v w → GoesOn w x → GoesOn v x
goes_on_more v w x h k = record {
  table = k.table ∙ h.table;
  pieces = h.pieces ++ k.pieces;
  seen = k.seen ∙ ap (λ l. l ++ calls_in k.pieces) h.seen ∙ append_assoc v.seen (calls_in h.pieces) (calls_in k.pieces)
      ∙ ap (λ l. v.seen ++ l) (sym (calls_more h.pieces k.pieces));
  own = owned_more v w x h.pieces k.pieces h.seen h.own k.own;
  said = k.said ∙ ap (λ l. l ++ own_in k.pieces) h.said ∙ append_assoc (said_at v.seen v.own) (own_in h.pieces) (own_in k.pieces)
      ∙ ap (λ l. said_at v.seen v.own ++ l) (sym (map-append (λ piece. said piece.1) h.pieces k.pieces));
  answered = subst AreAnswered (sym (calls_more h.pieces k.pieces)) (answered_more (calls_in h.pieces) (calls_in k.pieces) h.answered k.answered);
  legal = legal_more w x h.pieces k.pieces k.seen h.legal k.legal;
}
