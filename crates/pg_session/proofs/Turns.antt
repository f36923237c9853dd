-- Turns that are taken one after another.
use Rattle.std.proofs.Common.{◌≡◌, ℕ, zero, suc, ◌+◌, ◌-◌, ◌≤◌, List, [], ◌∷◌, ◌++◌, length, Bool, true, false, refl, sym, ap, ◌∙◌, arith}
use Rattle.pg_data.specs.Pieces.{Piece}
use Rattle.pg_align.specs.Slots.{Aligned}
use Rattle.pg_ring.specs.Shown.{Queue}
use Rattle.pg_session.specs.Streams.{Turn}
use Rattle.pg_session.specs.Output.{Output, kept_frame, frames_made, ignored, turns_taken}
use Rattle.pg_session.specs.Kept.{by_gaps}
use Rattle.pg_session.specs.Sending.{Sending, Sends}
use Rattle.pg_session.specs.Fields.{with_stats, turn_stats}
use Rattle.pg_session.specs.Taking.{Taken, frames_in_all}

abbrev made : ℕ → List (List ℕ) → Output Queue → Output Queue
made = frames_made by_gaps

abbrev taken : ℕ → List (Turn (Aligned Piece)) → Output Queue → Output Queue
taken = turns_taken by_gaps

made-full : (fs : List (List ℕ)) (n : ℕ) (out : Output Queue) → length fs ≤ n → made n fs out ≡ made (length fs) fs out
made-full [] n out h = made-none n out where
  made-none : (k : ℕ) (o : Output Queue) → made k [] o ≡ made 0 [] o
  made-none k o = refl
made-full (f ∷ fs) zero out h = absurd (omega arith)
made-full (f ∷ fs) (suc n) out h = made-full fs n (kept_frame by_gaps out f) (omega arith)

-- one turn more, where a frame was lost before
taken-lost : (ts : List (Turn (Aligned Piece))) (t : Turn (Aligned Piece)) (k : ℕ) (out : Output Queue) → k ≤ frames_in_all ts
    → taken k (ts ++ t ∷ []) out ≡ made 0 t.frames (ignored by_gaps t (taken k ts out))
taken-lost [] t k out h = ap (λ n. made n t.frames (ignored by_gaps t out)) (omega arith)
taken-lost (u ∷ ts) t k out h = taken-lost ts t (k - length u.frames) (made k u.frames (ignored by_gaps u out)) (omega arith)

-- one turn more, where none was
taken-all : (ts : List (Turn (Aligned Piece))) (t : Turn (Aligned Piece)) (k j n : ℕ) (out : Output Queue) → k ≡ frames_in_all ts → n ≡ k + j
    → taken n (ts ++ t ∷ []) out ≡ made j t.frames (ignored by_gaps t (taken k ts out))
taken-all [] t k j n out h e = ap (λ m. made m t.frames (ignored by_gaps t out)) (omega arith)
taken-all (u ∷ ts) t k j n out h e =
    let full : made n u.frames (ignored by_gaps u out) ≡ made k u.frames (ignored by_gaps u out) =
    made-full u.frames n (ignored by_gaps u out) (omega arith) ∙ sym (made-full u.frames k (ignored by_gaps u out) (omega arith)) in
    taken-all ts t (k - length u.frames) j (n - length u.frames) (made n u.frames (ignored by_gaps u out)) (omega arith) (omega arith)
    ∙ ap (λ o. made j t.frames (ignored by_gaps t (taken (k - length u.frames) ts o))) full

total-push : (ts : List (Turn (Aligned Piece))) (t : Turn (Aligned Piece)) → frames_in_all (ts ++ t ∷ []) ≡ frames_in_all ts + length t.frames
total-push [] t = omega arith
total-push (u ∷ ts) t = omega (arith, total-push ts t)

pub taken-none : (o : Sending) → Taken [] o o
taken-none o = record {
  some = 0;
  few = omega arith;
  none = λ h. refl;
  all = λ h. refl;
  lost = λ h. h;
  output = refl;
  made = omega arith;
  kept = omega arith;
}

pub taken-one : (ts : List (Turn (Aligned Piece))) (t : Turn (Aligned Piece)) (a b c : Sending) → Taken ts a b
    → Sends t.frames (with_stats b (turn_stats t b.output.stats)) c → Taken (ts ++ t ∷ []) a c
taken-one ts t a b c x y = record {
  some = x.some + y.some;
  few = omega (arith, x.few, y.few, total-push ts t);
  none = none b.lost refl;
  all = λ h. omega (arith, x.all (y.lost h), y.all h, total-push ts t);
  lost = λ h. x.lost (y.lost h);
  output = output b.lost refl;
  made = omega (arith, x.made, y.made, total-push ts t);
  kept = omega (arith, x.kept, y.kept);
}
  where
    none : (l : Bool) → b.lost ≡ l → a.lost ≡ true → x.some + y.some ≡ 0
    none true e h = omega (arith, x.none h, y.none e)
    none false e h = absurd (cc (x.lost e, h))

    here : c.output ≡ made y.some t.frames (ignored by_gaps t (taken x.some ts a.output))
    here = y.output ∙ ap (λ o. made y.some t.frames (ignored by_gaps t o)) x.output

    output : (l : Bool) → b.lost ≡ l → c.output ≡ taken (x.some + y.some) (ts ++ t ∷ []) a.output
    output true e =
        let zero_more : x.some + y.some ≡ x.some = omega (arith, y.none e) in
        here ∙ ap (λ k. made k t.frames (ignored by_gaps t (taken x.some ts a.output))) (y.none e)
        ∙ sym (taken-lost ts t x.some a.output x.few) ∙ ap (λ k. taken k (ts ++ t ∷ []) a.output) (sym zero_more)
    output false e = here ∙ sym (taken-all ts t x.some y.some (x.some + y.some) a.output (x.all e) refl)
