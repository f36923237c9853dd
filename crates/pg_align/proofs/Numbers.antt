-- Rising lists of numbers, into which a number is put once.
use Rattle.std.proofs.Common.{◌≡◌, ◌≢◌, ℕ, ◌<◌, Bool, true, false, List, [], ◌∷◌, Option, Some, None, refl, inl, inr, ◌⊎◌, arith}
use Rattle.std.specs.Prelude.{nat_lt, ◌==◌, if◌then◌else◌}
use Rattle.std.proofs.lemmas.Grind.{common_steps}
use Rattle.pg_align.specs.Histories.{is_above, put_number}

-- each number of a rising list is above this one
abbrev pub AllAbove : ℕ → List ℕ → Type 0
AllAbove n [] = Unit {0}
AllAbove n (m ∷ ms) = (n < m) × AllAbove n ms

abbrev pub Rising : List ℕ → Type 0
Rising [] = Unit {0}
Rising (n ∷ ns) = AllAbove n ns × Rising ns

abbrev pub NotIn : ℕ → List ℕ → Type 0
NotIn n [] = Unit {0}
NotIn n (m ∷ ms) = (m ≢ n) × NotIn n ms

abbrev pub In : ℕ → List ℕ → Type 0
In n [] = ⊥
In n (m ∷ ms) = (m ≡ n) ⊎ In n ms

above_step : (n m k : ℕ) (ks : List ℕ) (b q : Bool) → nat_lt m k ≡ b → (k == m) ≡ q → n < m → AllAbove n (k ∷ ks) → AllAbove n (put_number m ks) → AllAbove n (put_number m (k ∷ ks))
above_step n m k ks true q e f l h below = rw e (l, h)
above_step n m k ks false true e f l h below = rw (e, f) h
above_step n m k ks false false e f l h below = rw (e, f) (h.0, below)

AllAbove-put : (n m : ℕ) (ms : List ℕ) → n < m → AllAbove n ms → AllAbove n (put_number m ms)
AllAbove-put n m [] l h = (l, tt)
AllAbove-put n m (k ∷ ks) l h = above_step n m k ks _ _ refl refl l h (AllAbove-put n m ks l h.1)

below_all : (n m : ℕ) (ms : List ℕ) → n < m → AllAbove m ms → AllAbove n ms
below_all n m [] l h = tt
below_all n m (k ∷ ks) l h = (omega (arith, h.0), below_all n m ks l h.1)

rising_step : (m n : ℕ) (ns : List ℕ) (b q : Bool) → nat_lt m n ≡ b → (n == m) ≡ q → Rising (n ∷ ns) → Rising (put_number m ns) → Rising (put_number m (n ∷ ns))
rising_step m n ns true q e f h below =
    let l : m < n = grind (arith, common_steps) in
    rw e ((l, below_all m n ns l h.0), h)
rising_step m n ns false true e f h below = rw (e, f) h
rising_step m n ns false false e f h below =
    let l : n < m = grind (arith, common_steps) in
    rw (e, f) (AllAbove-put n m ns l h.0, below)

pub Rising-put : (m : ℕ) (ns : List ℕ) → Rising ns → Rising (put_number m ns)
Rising-put m [] h = (tt, tt)
Rising-put m (n ∷ ns) h = rising_step m n ns _ _ refl refl h (Rising-put m ns h.1)

pub NotIn-above : (n : ℕ) (ns : List ℕ) → AllAbove n ns → NotIn n ns
NotIn-above n [] h = tt
NotIn-above n (m ∷ ms) h = (λ e. absurd (omega (arith, h.0, e)), NotIn-above n ms h.1)

pub In-above : (n m : ℕ) (ms : List ℕ) → AllAbove n ms → In m ms → n < m
In-above n m [] h i = absurd i
In-above n m (k ∷ ks) h (inl e) = omega (arith, h.0, e)
In-above n m (k ∷ ks) h (inr i) = In-above n m ks h.1 i

in_here_step : (m n : ℕ) (ns : List ℕ) (b q : Bool) → nat_lt m n ≡ b → (n == m) ≡ q → In m (put_number m ns) → In m (put_number m (n ∷ ns))
in_here_step m n ns true q e f below = rw e (inl refl)
in_here_step m n ns false true e f below = let same : n ≡ m = grind (arith, common_steps) in rw (e, f) (inl same)
in_here_step m n ns false false e f below = rw (e, f) (inr below)

pub In-put_here : (m : ℕ) (ns : List ℕ) → In m (put_number m ns)
In-put_here m [] = inl refl
In-put_here m (n ∷ ns) = in_here_step m n ns _ _ refl refl (In-put_here m ns)

in_step : (m n k : ℕ) (ks : List ℕ) (b q : Bool) → nat_lt m k ≡ b → (k == m) ≡ q → In n (k ∷ ks) → (In n ks → In n (put_number m ks)) → In n (put_number m (k ∷ ks))
in_step m n k ks true q e f i below = rw e (inr i)
in_step m n k ks false true e f i below = rw (e, f) i
in_step m n k ks false false e f (inl s) below = rw (e, f) (inl s)
in_step m n k ks false false e f (inr i) below = rw (e, f) (inr (below i))

pub In-put : (m n : ℕ) (ns : List ℕ) → In n ns → In n (put_number m ns)
In-put m n [] i = absurd i
In-put m n (k ∷ ks) i = in_step m n k ks _ _ refl refl i (In-put m n ks)

not_in_step : (n m k : ℕ) (ks : List ℕ) (b q : Bool) → nat_lt m k ≡ b → (k == m) ≡ q → m ≢ n → NotIn n (k ∷ ks) → NotIn n (put_number m ks) → NotIn n (put_number m (k ∷ ks))
not_in_step n m k ks true q e f ne h below = rw e (ne, h)
not_in_step n m k ks false true e f ne h below = rw (e, f) h
not_in_step n m k ks false false e f ne h below = rw (e, f) (h.0, below)

pub NotIn-put : (n m : ℕ) (ms : List ℕ) → m ≢ n → NotIn n ms → NotIn n (put_number m ms)
NotIn-put n m [] ne h = (ne, tt)
NotIn-put n m (k ∷ ks) ne h = not_in_step n m k ks _ _ refl refl ne h (NotIn-put n m ks ne h.1)

-- the numbers above this one
abbrev pub above : ℕ → List ℕ → List ℕ
above s [] = []
above s (n ∷ ns) = if nat_lt s n then n ∷ above s ns else above s ns

put_step : (s m n : ℕ) (ns : List ℕ) (b q t : Bool) → nat_lt m n ≡ b → (n == m) ≡ q → nat_lt s n ≡ t → nat_lt s m ≡ true → above s (put_number m ns) ≡ put_number m (above s ns) → above s (put_number m (n ∷ ns)) ≡ put_number m (above s (n ∷ ns))
put_step s m n ns true q t e f g l below =
    let kept : nat_lt s n ≡ true = grind (arith, common_steps) in
    rw (e, l, kept, e)
put_step s m n ns false true t e f g l below =
    let kept : nat_lt s n ≡ true = grind (arith, common_steps) in
    rw (e, f, kept, e, f)
put_step s m n ns false false true e f g l below = rw (e, f, g, e, f, below)
put_step s m n ns false false false e f g l below = rw (e, f, g) below

pub above-put : (s m : ℕ) (ns : List ℕ) → nat_lt s m ≡ true → above s (put_number m ns) ≡ put_number m (above s ns)
above-put s m [] l = rw l
above-put s m (n ∷ ns) l = put_step s m n ns _ _ _ refl refl refl l (above-put s m ns l)

drop_step : (s m n : ℕ) (ns : List ℕ) (b q : Bool) → nat_lt m n ≡ b → (n == m) ≡ q → nat_lt s m ≡ false → above s (put_number m ns) ≡ above s ns → above s (put_number m (n ∷ ns)) ≡ above s (n ∷ ns)
drop_step s m n ns true q e f l below = rw (e, l)
drop_step s m n ns false true e f l below = rw (e, f)
drop_step s m n ns false false e f l below = rw (e, f, below)

pub above-put_below : (s m : ℕ) (ns : List ℕ) → nat_lt s m ≡ false → above s (put_number m ns) ≡ above s ns
above-put_below s m [] l = rw l
above-put_below s m (n ∷ ns) l = drop_step s m n ns _ _ refl refl l (above-put_below s m ns l)

pub above-all : (s : ℕ) (ns : List ℕ) → AllAbove s ns → above s ns ≡ ns
above-all s [] h = refl
above-all s (n ∷ ns) h = let kept : nat_lt s n ≡ true = grind (arith, common_steps, h.0) in rw (kept, above-all s ns h.1)

back_in : (m n k : ℕ) (ks : List ℕ) → (In n (put_number m ks) → (m ≡ n) ⊎ In n ks) → (k ≡ n) ⊎ In n (put_number m ks) → (m ≡ n) ⊎ In n (k ∷ ks)
back_in m n k ks below (inl e) = inr (inl e)
back_in m n k ks below (inr i) = elim (below i) [ inl e ↦ inl e | inr j ↦ inr (inr j) ]

back_step : (m n k : ℕ) (ks : List ℕ) (b q : Bool) → nat_lt m k ≡ b → (k == m) ≡ q → (In n (put_number m ks) → (m ≡ n) ⊎ In n ks) → In n (put_number m (k ∷ ks)) → (m ≡ n) ⊎ In n (k ∷ ks)
back_step m n k ks true q e f below i = rw e at i
back_step m n k ks false true e f below i = inr (rw (e, f) at i)
back_step m n k ks false false e f below i = back_in m n k ks below (rw (e, f) at i)

pub In-put_back : (m n : ℕ) (ns : List ℕ) → In n (put_number m ns) → (m ≡ n) ⊎ In n ns
In-put_back m n [] i = i
In-put_back m n (k ∷ ks) i = back_step m n k ks _ _ refl refl (In-put_back m n ks) i

pub higher : (last : Option ℕ) (s x : ℕ) → is_above last s ≡ true → nat_lt s x ≡ true → is_above last x ≡ true
higher None s x h l = refl
higher (Some last) s x h l = grind (arith, common_steps)
