-- Frames that are made one after another.
use Rattle.std.proofs.Common.{◌≡◌, ℕ, zero, suc, ◌+◌, ◌≤◌, List, [], ◌∷◌, ◌++◌, length, Bool, true, false, refl, sym, ap, ◌∙◌, arith, length-append}
use Rattle.pg_ring.specs.Shown.{Queue}
use Rattle.pg_session.specs.Output.{Output, frames_made, kept_frame, lost_frame}
use Rattle.pg_session.specs.Kept.{by_gaps}
use Rattle.pg_session.specs.Sending.{Sending, Sends}

abbrev made : ℕ → List (List ℕ) → Output Queue → Output Queue
made = frames_made by_gaps

made-all : (fs gs : List (List ℕ)) (n k s : ℕ) (out : Output Queue) → n ≡ length fs → s ≡ n + k → made s (fs ++ gs) out ≡ made k gs (made n fs out)
made-all [] gs zero k s out e h = ap (λ m. made m gs out) (omega arith)
made-all [] gs (suc n) k s out e h = absurd (omega arith)
made-all (f ∷ fs) gs zero k s out e h = absurd (omega arith)
made-all (f ∷ fs) gs (suc n) k zero out e h = absurd (omega arith)
made-all (f ∷ fs) gs (suc n) k (suc s) out e h = made-all fs gs n k s (kept_frame by_gaps out f) (omega arith) (omega arith)

made-some : (fs gs : List (List ℕ)) (s : ℕ) (out : Output Queue) → s ≤ length fs → made s (fs ++ gs) out ≡ made 0 gs (made s fs out)
made-some [] [] zero out h = refl
made-some [] (g ∷ gs) zero out h = refl
made-some [] gs (suc s) out h = absurd (omega arith)
made-some (f ∷ fs) gs zero out h = made-some fs gs zero (lost_frame by_gaps out) (omega arith)
made-some (f ∷ fs) gs (suc s) out h = made-some fs gs s (kept_frame by_gaps out f) (omega arith)

pub sends-none : (o : Sending) → Sends [] o o
sends-none o = record {
  some = 0;
  few = omega arith;
  none = λ h. refl;
  all = λ h. refl;
  lost = λ h. h;
  output = refl;
  made = omega arith;
  kept = omega arith;
}

pub sends-append : (fs gs : List (List ℕ)) (a b c : Sending) → Sends fs a b → Sends gs b c → Sends (fs ++ gs) a c
sends-append fs gs a b c x y = record {
  some = x.some + y.some;
  few = omega (arith, x.few, y.few, length-append fs gs);
  none = none b.lost refl;
  all = λ h. omega (arith, x.all (y.lost h), y.all h, length-append fs gs);
  lost = λ h. x.lost (y.lost h);
  output = output b.lost refl;
  made = omega (arith, x.made, y.made, length-append fs gs);
  kept = omega (arith, x.kept, y.kept);
}
  where
    none : (l : Bool) → b.lost ≡ l → a.lost ≡ true → x.some + y.some ≡ 0
    none true e h = omega (arith, x.none h, y.none e)
    none false e h = absurd (cc (x.lost e, h))

    output : (l : Bool) → b.lost ≡ l → c.output ≡ made (x.some + y.some) (fs ++ gs) a.output
    output true e =
        let zero_more : x.some + y.some ≡ x.some = omega (arith, y.none e) in
        y.output ∙ ap (λ k. made k gs b.output) (y.none e) ∙ ap (made 0 gs) x.output ∙ sym (made-some fs gs x.some a.output x.few)
        ∙ ap (λ k. made k (fs ++ gs) a.output) (sym zero_more)
    output false e =
        let full : x.some ≡ length fs = x.all e in
        y.output ∙ ap (made y.some gs) x.output ∙ sym (made-all fs gs x.some y.some (x.some + y.some) a.output full refl)
