-- Where two calls stand in a history: of two seats that were joined, and of one seat.
use Rattle.std.proofs.Common.{◌≡◌, ℕ, ◌+◌, ◌≤◌, Bool, List, [], ◌∷◌, ◌++◌, length, eqb, eq-eqb, cond, sym, refl, ap, ◌∙◌, subst, ⊎_elim, append_assoc, append-nil, arith, Some}
use Rattle.std.specs.Prelude.{slice_get}
use Rattle.std.proofs.lemmas.List.Sums.{sum_by_push}
use Rattle.std.proofs.lemmas.List.{length-append}
use mathlib.Core.List.{IsPrefix}
use Rattle.pg_turn.specs.Known.{Known, times}
use Rattle.pg_turn.specs.Turns.{IsLonger, IsLegal, Called}
use Rattle.pg_laws.specs.TwoCalls.{BothStand, InOrder}

module _ {A : Type 0} where
  get_here : (xs ys : List A) (x : A) → slice_get (xs ++ x ∷ ys) (length xs) ≡ Some x
  get_here [] ys x = refl
  get_here (z ∷ xs) ys x = get_here xs ys x

  get_longer : (xs whole : List A) (x : A) → IsPrefix (xs ++ x ∷ []) whole → slice_get whole (length xs) ≡ Some x
  get_longer xs whole x p = subst (λ w. slice_get w (length xs) ≡ Some x) (sym (append_assoc xs (x ∷ []) p.0) ∙ p.1) (get_here xs p.0 x)

  whole : (xs ys : List A) → xs ≡ ys → IsPrefix xs ys
  whole xs ys e = ([], append-nil xs ∙ e)

times_of_last : (place : ℕ) (xs own : List ℕ) → own ≡ xs ++ place ∷ [] → 1 ≤ times place own
times_of_last place xs own e =
    let sums = sum_by_push (λ (x : ℕ). cond (eqb x place) 1 0) xs place in
    let one : ◌≡◌ {A = ℕ} (cond {A = ℕ} (eqb place place) 1 0) 1 = ap (λ (b : Bool). cond {A = ℕ} b 1 0) (eq-eqb place place refl) in
    let had : times place own ≡ times place (xs ++ place ∷ []) = ap (times place) e in omega (arith, sums)

module _ {E R : Type 0} (may : List (E × R) → E → R → Type 0) where
  pub both_stand : (v w v' w' : Known E R) (e : E) (r : R) (f : E) (q : R) (history : List (E × R)) → Called may v e r w → Called may v' f q w' → IsLonger w.seen w'.seen history
      → ((place : ℕ) → times place w.own + times place w'.own ≤ 1) → BothStand may e r f q history
  both_stand v w v' w' e r f q history c d longer apart =
      let pre : IsPrefix w.seen history × IsPrefix w'.seen history × IsLegal may history =
      ⊎_elim (λ (x : IsPrefix w'.seen w.seen × (history ≡ w.seen)). (whole w.seen history (sym x.1), subst (IsPrefix w'.seen) (sym x.1) x.0, subst (IsLegal may) (sym x.1) c.3))
      (λ (x : IsPrefix w.seen w'.seen × (history ≡ w'.seen)). (subst (IsPrefix w.seen) (sym x.1) x.0, whole w'.seen history (sym x.1), subst (IsLegal may) (sym x.1) d.3)) longer in
      let a : ℕ = length (v.seen ++ c.0) in
      let b : ℕ = length (v'.seen ++ d.0) in (
        pre.2,
        (
          a,
          b,
          λ (same : a ≡ b).
              let one : 1 ≤ times b w.own = subst (λ k. 1 ≤ times k w.own) same (times_of_last a v.own w.own c.2) in
              let two : 1 ≤ times b w'.own = times_of_last b v'.own w'.own d.2 in
              let most : times b w.own + times b w'.own ≤ 1 = apart b in omega arith,
          get_longer (v.seen ++ c.0) history (e, r) (subst (λ l. IsPrefix l history) c.1 pre.0),
          get_longer (v'.seen ++ d.0) history (f, q) (subst (λ l. IsPrefix l history) d.1 pre.1),
        ),
      )

  pub in_order : (v w u : Known E R) (e : E) (r : R) (f : E) (q : R) → Called may v e r w → Called may w f q u → InOrder may v e r f q u
  in_order v w u e r f q c d =
      let a : ℕ = length (v.seen ++ c.0) in
      let b : ℕ = length (w.seen ++ d.0) in
      let longer : length w.seen ≡ a + 1 = ap (λ (l : List (E × R)). length l) c.1 ∙ length-append (v.seen ++ c.0) ((e, r) ∷ []) in
      let sums : b ≡ length w.seen + length d.0 = length-append w.seen d.0 in
      let begins : IsPrefix w.seen u.seen = (d.0 ++ (f, q) ∷ [], sym (append_assoc w.seen d.0 ((f, q) ∷ [])) ∙ sym d.1) in (
        d.3,
        (
          a,
          b,
          omega arith,
          d.2 ∙ (ap (λ (l : List ℕ). l ++ b ∷ []) c.2 ∙ append_assoc v.own (a ∷ []) (b ∷ [])),
          get_longer (v.seen ++ c.0) u.seen (e, r) (subst (λ l. IsPrefix l u.seen) c.1 begins),
          get_longer (w.seen ++ d.0) u.seen (f, q) (whole ((w.seen ++ d.0) ++ (f, q) ∷ []) u.seen (sym d.1)),
        ),
      )
