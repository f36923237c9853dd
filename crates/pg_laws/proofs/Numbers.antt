-- No number stands twice among a subscriber's streams, so that the frames of a number are one stream's.
use Rattle.std.proofs.Common.{◌≡◌, ℕ, ◌==◌, Bool, true, false, not, if◌then◌else◌, List, [], ◌∷◌, ◌++◌, map, filter, Some, None, refl, sym, ap, ◌∙◌, subst, append-nil, arith}
use Rattle.std.proofs.lemmas.Grind.{common_steps}
use Rattle.std.specs.List.{AllByRecursion}
use Rattle.pg_session.specs.Private.{stream_at}
use Rattle.pg_session.specs.Stamps.{made_of}
use Rattle.pg_laws.proofs.Turns.{OneStream, OneTurn}

-- no stream has this number
abbrev pub NoneHas : ℕ → List OneStream → Type 0
NoneHas number streams = AllByRecursion (λ s. (s.definition.stream == number) ≡ false) streams

-- no number stands twice
abbrev pub AreDistinct : List OneStream → Type 0
AreDistinct [] = Unit {0}
AreDistinct (s ∷ streams) = NoneHas s.definition.stream streams × AreDistinct streams

-- a change of each stream keeps the numbers
abbrev pub KeepsNumbers : (OneStream → OneStream) → List OneStream → Type 0
KeepsNumbers f streams = AllByRecursion (λ s. (f s).definition.stream ≡ s.definition.stream) streams

none_map : (f : OneStream → OneStream) (number : ℕ) (ss : List OneStream) → KeepsNumbers f ss → NoneHas number ss → NoneHas number (map f ss)
none_map f number [] keeps h = tt
none_map f number (s ∷ ss) keeps h = (ap (λ n. n == number) keeps.0 ∙ h.0, none_map f number ss keeps.1 h.1)

pub distinct-map : (f : OneStream → OneStream) (ss : List OneStream) → KeepsNumbers f ss → AreDistinct ss → AreDistinct (map f ss)
distinct-map f [] keeps h = tt
distinct-map f (s ∷ ss) keeps h =
    (subst (λ n. NoneHas n (map f ss)) (sym keeps.0) (none_map f s.definition.stream ss keeps.1 h.0), distinct-map f ss keeps.1 h.1)

none_push : (number : ℕ) (ss : List OneStream) (x : OneStream) → NoneHas number ss → (x.definition.stream == number) ≡ false → NoneHas number (ss ++ x ∷ [])
none_push number [] x h e = (e, tt)
none_push number (s ∷ ss) x h e = (h.0, none_push number ss x h.1 e)

other_number : (a b : ℕ) → (a == b) ≡ false → (b == a) ≡ false
other_number a b e = grind (arith, common_steps)

-- a stream more, of a number that is free
pub distinct-push : (ss : List OneStream) (x : OneStream) → AreDistinct ss → stream_at ss x.definition.stream ≡ None → AreDistinct (ss ++ x ∷ [])
distinct-push [] x h e = (tt, tt)
distinct-push (s ∷ ss) x h e = by (s.definition.stream == x.definition.stream) refl e (distinct-push ss x h.1)
  where
    by : (b : Bool) → (s.definition.stream == x.definition.stream) ≡ b → (if b then Some s else stream_at ss x.definition.stream) ≡ None
        → (stream_at ss x.definition.stream ≡ None → AreDistinct (ss ++ x ∷ [])) → AreDistinct (s ∷ (ss ++ x ∷ []))
    by true t none rest = absurd (cc none)
    by false t none rest = (none_push s.definition.stream ss x h.0 (other_number s.definition.stream x.definition.stream t), rest none)

-- all streams but those of a number
abbrev pub others : ℕ → List OneStream → List OneStream
others gone ss = filter (λ (s : OneStream). not (s.definition.stream == gone)) ss

-- what holds of each stream holds of each that stays
pub each-other : (P : OneStream → Type 0) (gone : ℕ) (ss : List OneStream) → AllByRecursion P ss → AllByRecursion P (others gone ss)
each-other P gone [] h = tt
each-other P gone (s ∷ ss) h = by (not (s.definition.stream == gone)) (each-other P gone ss h.1)
  where
    by : (b : Bool) → AllByRecursion P (others gone ss) → AllByRecursion P (if b then s ∷ others gone ss else others gone ss)
    by true rest = (h.0, rest)
    by false rest = rest

pub distinct-others : (gone : ℕ) (ss : List OneStream) → AreDistinct ss → AreDistinct (others gone ss)
distinct-others gone [] h = tt
distinct-others gone (s ∷ ss) h = by (not (s.definition.stream == gone)) (distinct-others gone ss h.1)
  where
    by : (b : Bool) → AreDistinct (others gone ss) → AreDistinct (if b then s ∷ others gone ss else others gone ss)
    by true rest = (each-other (λ x. (x.definition.stream == s.definition.stream) ≡ false) gone ss h.0, rest)
    by false rest = rest

-- what holds of each stream holds of the stream of a number
pub found-so : (P : OneStream → Type 0) (number : ℕ) (ss : List OneStream) (s : OneStream) → AllByRecursion P ss → stream_at ss number ≡ Some s → P s
found-so P number [] s h e = absurd (cc e)
found-so P number (x ∷ xs) s h e = by (x.definition.stream == number) e (found-so P number xs s h.1)
  where
    by : (b : Bool) → (if b then Some x else stream_at xs number) ≡ Some s → (stream_at xs number ≡ Some s → P s) → P s
    by true found rest = subst P (let same : x ≡ s = cc found in same) h.0
    by false found rest = rest found

same_number : (a b : ℕ) → (a == b) ≡ true → a ≡ b
same_number a b e = grind (arith, common_steps)

made_none : (f : OneStream → OneTurn) (number : ℕ) (ss : List OneStream) → KeepsNumbers (λ s. (f s).stream) ss → NoneHas number ss
    → made_of number (map f ss) ≡ []
made_none f number [] keeps h = refl
made_none f number (s ∷ ss) keeps h =
    ap (λ b. if b then (f s).frames ++ made_of number (map f ss) else made_of number (map f ss)) (ap (λ n. n == number) keeps.0 ∙ h.0)
    ∙ made_none f number ss keeps.1 h.1

-- the frames that the stream of a number makes are those of its turn
pub made-found : (f : OneStream → OneTurn) (number : ℕ) (ss : List OneStream) (s : OneStream) → KeepsNumbers (λ x. (f x).stream) ss → AreDistinct ss
    → stream_at ss number ≡ Some s → made_of number (map f ss) ≡ (f s).frames
made-found f number [] s keeps h e = absurd (cc e)
made-found f number (x ∷ xs) s keeps h e = by (x.definition.stream == number) refl e (made-found f number xs s keeps.1 h.1)
  where
    there : (b : Bool) → (x.definition.stream == number) ≡ b → ((f x).stream.definition.stream == number) ≡ b
    there b t = ap (λ n. n == number) keeps.0 ∙ t

    by : (b : Bool) → (x.definition.stream == number) ≡ b → (if b then Some x else stream_at xs number) ≡ Some s
        → (stream_at xs number ≡ Some s → made_of number (map f xs) ≡ (f s).frames)
        → (if (f x).stream.definition.stream == number then (f x).frames ++ made_of number (map f xs) else made_of number (map f xs)) ≡ (f s).frames
    by true t found rest =
        let same : x ≡ s = cc found in
        let none = made_none f number xs keeps.1 (subst (λ n. NoneHas n xs) (same_number x.definition.stream number t) h.0) in
        ap (λ b. if b then (f x).frames ++ made_of number (map f xs) else made_of number (map f xs)) (there true t)
        ∙ ap (λ fs. (f x).frames ++ fs) none ∙ append-nil (f x).frames ∙ ap (λ (y : OneStream). (f y).frames) same
    by false t found rest =
        ap (λ b. if b then (f x).frames ++ made_of number (map f xs) else made_of number (map f xs)) (there false t) ∙ rest found

-- ---- the stream of a number, after a change

pub found-map : (f : OneStream → OneStream) (number : ℕ) (ss : List OneStream) (s : OneStream) → KeepsNumbers f ss → stream_at ss number ≡ Some s
    → stream_at (map f ss) number ≡ Some (f s)
found-map f number [] s keeps e = absurd (cc e)
found-map f number (x ∷ xs) s keeps e = by (x.definition.stream == number) refl e (found-map f number xs s keeps.1)
  where
    there : (b : Bool) → (x.definition.stream == number) ≡ b → ((f x).definition.stream == number) ≡ b
    there b t = ap (λ n. n == number) keeps.0 ∙ t

    by : (b : Bool) → (x.definition.stream == number) ≡ b → (if b then Some x else stream_at xs number) ≡ Some s
        → (stream_at xs number ≡ Some s → stream_at (map f xs) number ≡ Some (f s))
        → (if (f x).definition.stream == number then Some (f x) else stream_at (map f xs) number) ≡ Some (f s)
    by true t found rest =
        let same : x ≡ s = cc found in
        ap (λ b. if b then Some (f x) else stream_at (map f xs) number) (there true t) ∙ ap (λ (y : OneStream). Some (f y)) same
    by false t found rest = ap (λ b. if b then Some (f x) else stream_at (map f xs) number) (there false t) ∙ rest found

pub found-push : (number : ℕ) (ss : List OneStream) (x s : OneStream) → stream_at ss number ≡ Some s → stream_at (ss ++ x ∷ []) number ≡ Some s
found-push number [] x s e = absurd (cc e)
found-push number (t ∷ ss) x s e = by (t.definition.stream == number) e (found-push number ss x s)
  where
    by : (b : Bool) → (if b then Some t else stream_at ss number) ≡ Some s → (stream_at ss number ≡ Some s → stream_at (ss ++ x ∷ []) number ≡ Some s)
        → (if b then Some t else stream_at (ss ++ x ∷ []) number) ≡ Some s
    by true found rest = found
    by false found rest = rest found

none_found : (number : ℕ) (ss : List OneStream) → NoneHas number ss → stream_at ss number ≡ None
none_found number [] h = refl
none_found number (s ∷ ss) h = ap (λ b. if b then Some s else stream_at ss number) h.0 ∙ none_found number ss h.1

pub found-others : (number gone : ℕ) (ss : List OneStream) (t : OneStream) → AreDistinct ss → stream_at (others gone ss) number ≡ Some t
    → stream_at ss number ≡ Some t
found-others number gone [] t h e = e
found-others number gone (s ∷ ss) t h e = by (s.definition.stream == gone) (s.definition.stream == number) refl e (found-others number gone ss t h.1)
  where
    by : (b q : Bool) → (s.definition.stream == number) ≡ q → stream_at (if not b then s ∷ others gone ss else others gone ss) number ≡ Some t
        → (stream_at (others gone ss) number ≡ Some t → stream_at ss number ≡ Some t) → (if q then Some s else stream_at ss number) ≡ Some t
    by false true u found rest = sym (ap (λ b. if b then Some s else stream_at (others gone ss) number) u) ∙ found
    by false false u found rest = rest (sym (ap (λ b. if b then Some s else stream_at (others gone ss) number) u) ∙ found)
    by true true u found rest =
        absurd (let none = none_found number ss (subst (λ n. NoneHas n ss) (same_number s.definition.stream number u) h.0) in
        let some = rest found in
        cc (none, some))
    by true false u found rest = rest found
