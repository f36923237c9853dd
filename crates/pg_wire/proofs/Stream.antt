-- Laws of streams of frames.
use Rattle.std.proofs.Common.{◌≡◌, ℕ, ◌+◌, ◌<◌, ◌≤◌, ◌≢◌, List, [], ◌∷◌, ◌++◌, length, take, get_or, Option, Some, None, refl, sym, ap, ap₂, ◌∙◌, subst, arith, append_assoc, length-append, MatchOption, is_none, if◌then◌else◌}
use Rattle.std.proofs.Math.ListN.{get_or-append}
use Rattle.std.proofs.lemmas.Grind.{flat_map-append}
use Rattle.std.proofs.lemmas.List.{append-nil, append_cancel_left}
use Rattle.std.proofs.Math.Seq.{take-append_seam}
use Rattle.std.proofs.lemmas.List.Elements.{All-push, All-head, All-tail}
use Rattle.std.proofs.lemmas.Bool.Decides.{nat_tests}
use Rattle.pg_wire.specs.declared.refusal.Refusal.{Refusal}
use Rattle.pg_wire.specs.declared.deframer.Taken.{Taken}
use Rattle.pg_wire.specs.declared.deframer.Taken.TheVariants as taken
use Rattle.pg_wire.specs.Frame.{IsWhole, IsPartial, break_of, size_of}
use Rattle.pg_wire.specs.Stream.{Deframing, ShowsStream, Splits, joined, fed}
use Rattle.pg_wire.specs.Taking.{Takes, TakesFrame, GivesFrame}

joined-more : (frames : List (List ℕ)) (frame : List ℕ) → joined (frames ++ frame ∷ []) ≡ joined frames ++ frame
joined-more frames frame = flat_map-append (λ f. f) frames (frame ∷ []) ∙ ap (λ x. joined frames ++ x) (append-nil frame)

-- ---- what follows changes nothing

same_front : (bytes more : List ℕ) (i : ℕ) → i < length bytes → get_or (bytes ++ more) i 0 ≡ get_or bytes i 0
same_front bytes more i h = get_or-append bytes more 0 i h

-- FRAMESIZE stays as it is
pub size_stays : (bytes more : List ℕ) → 4 ≤ length bytes → size_of (bytes ++ more) ≡ size_of bytes
size_stays bytes more h = omega (arith, same_front bytes more 2 (omega arith), same_front bytes more 3 (omega arith))

-- where a break shows, it shows whatever follows
break_stays : (bytes more : List ℕ) (refusal : Refusal) → break_of bytes ≡ Some refusal → break_of (bytes ++ more) ≡ Some refusal
break_stays bytes more refusal h =
    let a : 0 < length bytes → get_or (bytes ++ more) 0 0 ≡ get_or bytes 0 0 = same_front bytes more 0 in
    let b : 1 < length bytes → get_or (bytes ++ more) 1 0 ≡ get_or bytes 1 0 = same_front bytes more 1 in
    let c : 3 < length bytes → size_of (bytes ++ more) ≡ size_of bytes = size_stays bytes more in
    let e : length (bytes ++ more) ≡ length bytes + length more = length-append bytes more in
    grind (arith, nat_tests)

unbroken_stays : (bytes more : List ℕ) → 4 ≤ length bytes → break_of bytes ≡ None → break_of (bytes ++ more) ≡ None
unbroken_stays bytes more h unbroken =
    let a : get_or (bytes ++ more) 0 0 ≡ get_or bytes 0 0 = same_front bytes more 0 (omega arith) in
    let b : get_or (bytes ++ more) 1 0 ≡ get_or bytes 1 0 = same_front bytes more 1 (omega arith) in
    let c : get_or (bytes ++ more) 2 0 ≡ get_or bytes 2 0 = same_front bytes more 2 (omega arith) in
    let d : get_or (bytes ++ more) 3 0 ≡ get_or bytes 3 0 = same_front bytes more 3 (omega arith) in
    let e : length (bytes ++ more) ≡ length bytes + length more = length-append bytes more in
    grind (arith, nat_tests)

pub unbroken_before : (bytes more : List ℕ) → 4 ≤ length bytes → break_of (bytes ++ more) ≡ None → break_of bytes ≡ None
unbroken_before bytes more h unbroken =
    let a : get_or (bytes ++ more) 0 0 ≡ get_or bytes 0 0 = same_front bytes more 0 (omega arith) in
    let b : get_or (bytes ++ more) 1 0 ≡ get_or bytes 1 0 = same_front bytes more 1 (omega arith) in
    let c : get_or (bytes ++ more) 2 0 ≡ get_or bytes 2 0 = same_front bytes more 2 (omega arith) in
    let d : get_or (bytes ++ more) 3 0 ≡ get_or bytes 3 0 = same_front bytes more 3 (omega arith) in
    let e : length (bytes ++ more) ≡ length bytes + length more = length-append bytes more in
    grind (arith, nat_tests)

pub whole_at_front : (frame more : List ℕ) → IsWhole frame → (break_of (frame ++ more) ≡ None) × (size_of (frame ++ more) ≡ length frame)
whole_at_front frame more whole =
    (unbroken_stays frame more whole.sized whole.unbroken, size_stays frame more whole.sized ∙ sym whole.size)

-- no frame is a proper prefix of another
pub nothing_behind : (frame more : List ℕ) → IsWhole frame → IsWhole (frame ++ more) → more ≡ []
nothing_behind frame more first second =
    let same : length (frame ++ more) ≡ length frame = second.size ∙ (whole_at_front frame more first).1 in
    let none : length more ≡ 0 = omega (arith, length-append frame more) in
    is_empty more none
  where
    is_empty : (l : List ℕ) → length l ≡ 0 → l ≡ []
    is_empty [] none = refl
    is_empty (x ∷ xs) none = absurd (omega arith)

-- ---- one call of `next`

still_held : (d : Deframing) (rest : List ℕ) → d.broken ≡ None
    → MatchOption d.broken (rest ≡ d.held) (λ refusal. (d.held ≡ []) × (break_of rest ≡ Some refusal)) → rest ≡ d.held
still_held d rest unbroken state = subst (λ b. MatchOption b (rest ≡ d.held) (λ refusal. (d.held ≡ []) × (break_of rest ≡ Some refusal))) unbroken state

pub shows_next : (old new : Deframing) (stream : List ℕ) (frames : List (List ℕ)) (frame : List ℕ) (skipped : Option Refusal)
    → TakesFrame old new frame skipped → ShowsStream old stream frames → ShowsStream new stream (frames ++ frame ∷ [])
shows_next old new stream frames frame skipped takes shows = record {
  each = All-push IsWhole frames frame shows.each takes.whole;
  rest = new.held;
  whole = shows.whole
      ∙ ap (λ x. joined frames ++ x) (still_held old shows.rest takes.unbroken shows.state ∙ takes.front)
      ∙ sym (append_assoc (joined frames) frame new.held) ∙ ap (λ x. x ++ new.held) (sym (joined-more frames frame));
  state = subst (λ b. MatchOption b (new.held ≡ new.held) (λ refusal. (new.held ≡ []) × (break_of new.held ≡ Some refusal))) (sym takes.still) refl;
}

-- less than a frame has no whole frame at its front
no_frame_in_part : (rest frame more : List ℕ) → IsPartial rest → IsWhole frame → rest ≢ frame ++ more
no_frame_in_part rest frame more part whole is =
    let size : size_of rest ≡ length frame = ap size_of is ∙ (whole_at_front frame more whole).1 in
    let len : length rest ≡ length frame + length more = ap length is ∙ length-append frame more in
    let short : length rest < size_of rest = part.short (let sized : 4 ≤ length frame = whole.sized in omega arith) in
    omega arith

no_frame_at_break : (rest frame more : List ℕ) (refusal : Refusal) → break_of rest ≡ Some refusal → IsWhole frame → rest ≢ frame ++ more
no_frame_at_break rest frame more refusal broken whole is =
    let none : break_of rest ≡ None = ap break_of is ∙ (whole_at_front frame more whole).0 in
    cc

-- the break that a deframer shows or finds
breaks : (old : Deframing) (rest : List ℕ) (refusal : Refusal)
    → MatchOption old.broken (break_of old.held ≡ Some refusal) (λ before. before ≡ refusal)
    → MatchOption old.broken (rest ≡ old.held) (λ before. (old.held ≡ []) × (break_of rest ≡ Some before)) → break_of rest ≡ Some refusal
breaks old rest refusal found state = go old.broken found state where
  go : (b : Option Refusal) → MatchOption b (break_of old.held ≡ Some refusal) (λ before. before ≡ refusal)
      → MatchOption b (rest ≡ old.held) (λ before. (old.held ≡ []) × (break_of rest ≡ Some before)) → break_of rest ≡ Some refusal
  go None found state = ap break_of state ∙ found
  go (Some before) found state = state.1 ∙ ap Some found

pub gives : (old new : Deframing) (t : Taken) → Takes old t new → GivesFrame old t new
gives old new (taken.Frame frame) takes stream frames shows = (takes.skip, shows_next old new stream frames frame.now None takes shows)
gives old new (taken.Skipped refusal) takes stream frames shows = (takes.0, takes.1.skip, shows_next old new stream frames takes.0 (Some refusal) takes.1 shows)
gives old new taken.More takes stream frames shows =
    let is : shows.rest ≡ old.held = still_held old shows.rest takes.0 shows.state in
    let splits : Splits stream frames old.held = record {
      whole = shows.whole ∙ ap (λ x. joined frames ++ x) is;
      each = shows.each;
      end = λ frame more whole. no_frame_in_part old.held frame more takes.1 whole;
    } in
    subst (λ d. Splits stream frames d.held × (break_of d.held ≡ None) × ShowsStream d stream frames) (sym takes.2) (splits, takes.1.unbroken, shows)
gives old new (taken.Broken refusal) takes stream frames shows =
    let broken : break_of shows.rest ≡ Some refusal = breaks old shows.rest refusal takes.1 shows.state in
    let splits : Splits stream frames shows.rest = record {
      whole = shows.whole;
      each = shows.each;
      end = λ frame more whole. no_frame_at_break shows.rest frame more refusal broken whole;
    } in (
      (shows.rest, splits, broken),
      subst (λ d. ShowsStream d stream frames) (sym takes.0) (record { each = shows.each; rest = shows.rest; whole = shows.whole; state = (refl, broken) }),
    )

-- ---- a piece more

pub shows_fed : (d : Deframing) (piece stream : List ℕ) (frames : List (List ℕ)) → ShowsStream d stream frames → ShowsStream (fed d piece) (stream ++ piece) frames
shows_fed d piece stream frames shows = record {
  each = shows.each;
  rest = shows.rest ++ piece;
  whole = ap (λ x. x ++ piece) shows.whole ∙ append_assoc (joined frames) shows.rest piece;
  state = go d.broken shows.state;
} where
  go : (b : Option Refusal) → MatchOption b (shows.rest ≡ d.held) (λ refusal. (d.held ≡ []) × (break_of shows.rest ≡ Some refusal))
      → MatchOption b (shows.rest ++ piece ≡ if is_none b then d.held ++ piece else d.held)
      (λ refusal. ((if is_none b then d.held ++ piece else d.held) ≡ []) × (break_of (shows.rest ++ piece) ≡ Some refusal))
  go None state = ap (λ x. x ++ piece) state
  go (Some refusal) state = (state.0, break_stays shows.rest piece refusal state.1)

-- ---- one split

-- no frame begins another
pub same_first : (f g x y : List ℕ) → IsWhole f → IsWhole g → f ++ x ≡ g ++ y → (f ≡ g) × (x ≡ y)
same_first f g x y first second h =
    let same : length f ≡ length g = sym (whole_at_front f x first).1 ∙ ap size_of h ∙ (whole_at_front g y second).1 in
    let front : f ≡ g = sym (take-append_seam f x) ∙ ap₂ take same h ∙ take-append_seam g y in
    (front, append_cancel_left g x y (ap (λ z. z ++ x) (sym front) ∙ h))

pub one_split : (stream : List ℕ) (fs gs : List (List ℕ)) (x y : List ℕ) → Splits stream fs x → Splits stream gs y → (fs ≡ gs) × (x ≡ y)
one_split stream [] [] x y a b = (refl, sym a.whole ∙ b.whole)
one_split stream [] (g ∷ gs) x y a b =
    absurd (a.end g (joined gs ++ y) (All-head IsWhole g gs b.each) (sym a.whole ∙ b.whole ∙ append_assoc g (joined gs) y))
one_split stream (f ∷ fs) [] x y a b =
    absurd (b.end f (joined fs ++ x) (All-head IsWhole f fs a.each) (sym b.whole ∙ a.whole ∙ append_assoc f (joined fs) x))
one_split stream (f ∷ fs) (g ∷ gs) x y a b =
    let first = same_first f g (joined fs ++ x) (joined gs ++ y) (All-head IsWhole f fs a.each) (All-head IsWhole g gs b.each)
    (sym (append_assoc f (joined fs) x) ∙ sym a.whole ∙ b.whole ∙ append_assoc g (joined gs) y) in
    let rest = one_split (joined fs ++ x) fs gs x y
    (record { whole = refl; each = All-tail IsWhole f fs a.each; end = a.end })
    (record { whole = first.1; each = All-tail IsWhole g gs b.each; end = b.end }) in
    (ap₂ (λ h t. h ∷ t) first.0 rest.0, rest.1)

-- a stream that goes on keeps its frames
pub split_goes_on : (stream more : List ℕ) (fs gs : List (List ℕ)) (x y : List ℕ) → Splits stream fs x → Splits (stream ++ more) gs y
    → (hs : List (List ℕ)) × (gs ≡ fs ++ hs)
split_goes_on stream more [] gs x y a b = (gs, refl)
split_goes_on stream more (f ∷ fs) [] x y a b =
    absurd (b.end f (joined fs ++ x ++ more) (All-head IsWhole f fs a.each)
    (sym b.whole ∙ ap (λ z. z ++ more) a.whole ∙ simp append_assoc))
split_goes_on stream more (f ∷ fs) (g ∷ gs) x y a b =
    let first = same_first f g (joined fs ++ x ++ more) (joined gs ++ y) (All-head IsWhole f fs a.each) (All-head IsWhole g gs b.each)
    (let is : f ++ (joined fs ++ x ++ more) ≡ stream ++ more = sym (ap (λ z. z ++ more) a.whole ∙ simp append_assoc) in
    is ∙ b.whole ∙ append_assoc g (joined gs) y) in
    let rest = split_goes_on (joined fs ++ x) more fs gs x y
    (record { whole = refl; each = All-tail IsWhole f fs a.each; end = a.end })
    (record { whole = first.1; each = All-tail IsWhole g gs b.each; end = b.end }) in
    (rest.0, ap₂ (λ h t. h ∷ t) (sym first.0) rest.1)
