-- Keys that rise, with one more and with one less: in order again, at most 32, and a set.
use Rattle.std.proofs.Common.{◌≡◌, zero, suc, ◌+◌, ◌<◌, ◌≤◌, Bool, true, false, true≢false, ◌||◌, ◌&&◌, not, List, [], ◌∷◌, length, All, if◌then◌else◌, refl, sym, ap, subst, ◌∙◌, inl, inr, arith}
use Rattle.std.proofs.lemmas.Bool.{cases_lt}
use Rattle.std.proofs.lemmas.Bool.Decides.{nat_tests}
use Rattle.std.proofs.lemmas.List.Kept.{AllPairs-cons}
use Rattle.pg_wire.specs.declared.ids.PmuKey.{PmuKey}
use Rattle.pg_wire.specs.Keys.{key_eq, key_before}
use Rattle.pg_entitle.specs.Grants.{IsRising, IsGrantList, has_key, with_key, without_key, has_room, granted}
use Rattle.pg_entitle.proofs.Orders.{eq_refl, same_of_eq, before_is_other, before_not_after, else_after, before_trans, before_eq, eq_before, eq_alike, unlike}

-- the key comes before each of these
abbrev pub IsBefore : PmuKey → List PmuKey → Type 0
IsBefore key keys = All (λ k. key_before key k ≡ true) keys

pub first_before : (k : PmuKey) (ks : List PmuKey) → IsRising (k ∷ ks) → IsBefore k ks
first_before k ks rising j d inside = rising 0 (suc j) d (omega arith) (omega arith)

pub later_rise : (k : PmuKey) (ks : List PmuKey) → IsRising (k ∷ ks) → IsRising ks
later_rise k ks rising i j d less inside = rising (suc i) (suc j) d (omega arith) (omega arith)

rises : (k : PmuKey) (ks : List PmuKey) → IsBefore k ks → IsRising ks → IsRising (k ∷ ks)
rises k ks first rising = AllPairs-cons (λ a b. key_before a b ≡ true) k ks first rising

before_first : (key k : PmuKey) (ks : List PmuKey) → IsBefore key (k ∷ ks) → key_before key k ≡ true
before_first key k ks all = all 0 k (omega arith)

before_later : (key k : PmuKey) (ks : List PmuKey) → IsBefore key (k ∷ ks) → IsBefore key ks
before_later key k ks all j d inside = all (suc j) d (omega arith)

before_cons : (key k : PmuKey) (ks : List PmuKey) → key_before key k ≡ true → IsBefore key ks → IsBefore key (k ∷ ks)
before_cons key k ks first later zero d inside = first
before_cons key k ks first later (suc j) d inside = later j d (omega arith)

-- what comes before the first comes before all
before_all : (key k : PmuKey) (ks : List PmuKey) → key_before key k ≡ true → IsRising (k ∷ ks) → IsBefore key (k ∷ ks)
before_all key k ks first rising = before_cons key k ks first (λ j d inside. before_trans key k _ first (first_before k ks rising j d inside))

-- a key that comes before all is not held
pub absent_before : (key : PmuKey) (ks : List PmuKey) → IsBefore key ks → has_key ks key ≡ false
absent_before key [] before = refl
absent_before key (k ∷ ks) before = rw ((before_is_other key k (before_first key k ks before)).0) (absent_before key ks (before_later key k ks before))

-- and it comes before any that is held
before_held : (k : PmuKey) (ks : List PmuKey) (key : PmuKey) → IsBefore k ks → has_key ks key ≡ true → key_before k key ≡ true
before_held k [] key before held = absurd (true≢false (sym held))
before_held k (x ∷ xs) key before held = by (key_eq key x) refl (before_held k xs key (before_later k x xs before)) held
  where
    by : (b : Bool) → key_eq key x ≡ b → (has_key xs key ≡ true → key_before k key ≡ true) → (b || has_key xs key) ≡ true → key_before k key ≡ true
    by true e rest held = before_eq k x key (before_first k x xs before) e
    by false e rest held = rest held

-- a key that is held already changes nothing
pub with_key-held : (keys : List PmuKey) (key : PmuKey) → IsRising keys → has_key keys key ≡ true → with_key keys key ≡ keys
with_key-held [] key rising held = absurd (true≢false (sym held))
with_key-held (k ∷ ks) key rising held = by (key_eq key k) (with_key-held ks key (later_rise k ks rising)) held
  where
    by : (b : Bool) → (has_key ks key ≡ true → with_key ks key ≡ ks) → (b || has_key ks key) ≡ true → (if b then k ∷ ks else if key_before key k then key ∷ k ∷ ks else k ∷ with_key ks key) ≡ k ∷ ks
    by true rest held = refl
    by false rest held = rw (before_not_after k key (before_held k ks key (first_before k ks rising) held)) (ap (λ l. k ∷ l) (rest held))

before-with_key : (k : PmuKey) (keys : List PmuKey) (key : PmuKey) → key_before k key ≡ true → IsBefore k keys → IsBefore k (with_key keys key)
before-with_key k [] key e before = before_cons k key [] e before
before-with_key k (x ∷ xs) key e before = by (key_eq key x) (key_before key x) (before-with_key k xs key e (before_later k x xs before))
  where
    by : (same first : Bool) → IsBefore k (with_key xs key) → IsBefore k (if same then x ∷ xs else if first then key ∷ x ∷ xs else x ∷ with_key xs key)
    by true first rest = before
    by false true rest = before_cons k key (x ∷ xs) e before
    by false false rest = before_cons k x (with_key xs key) (before_first k x xs before) rest

pub rising-with_key : (keys : List PmuKey) (key : PmuKey) → IsRising keys → IsRising (with_key keys key)
rising-with_key [] key rising = λ i j d less inside. absurd (omega arith)
rising-with_key (k ∷ ks) key rising = by (key_eq key k) refl (key_before key k) refl (rising-with_key ks key (later_rise k ks rising))
  where
    by : (same : Bool) → key_eq key k ≡ same → (first : Bool) → key_before key k ≡ first → IsRising (with_key ks key) → IsRising (if same then k ∷ ks else if first then key ∷ k ∷ ks else k ∷ with_key ks key)
    by true e first f rest = rising
    by false e true f rest = rises key (k ∷ ks) (before_all key k ks f rising) rising
    by false e false f rest = rises k (with_key ks key) (before-with_key k ks key (else_after key k e f) (first_before k ks rising)) rest

before-without_key : (k : PmuKey) (keys : List PmuKey) (key : PmuKey) → IsBefore k keys → IsBefore k (without_key keys key)
before-without_key k [] key before = before
before-without_key k (x ∷ xs) key before = by (key_eq key x) (before-without_key k xs key (before_later k x xs before))
  where
    by : (same : Bool) → IsBefore k (without_key xs key) → IsBefore k (if same then xs else x ∷ without_key xs key)
    by true rest = before_later k x xs before
    by false rest = before_cons k x (without_key xs key) (before_first k x xs before) rest

pub rising-without_key : (keys : List PmuKey) (key : PmuKey) → IsRising keys → IsRising (without_key keys key)
rising-without_key [] key rising = rising
rising-without_key (k ∷ ks) key rising = by (key_eq key k) (rising-without_key ks key (later_rise k ks rising))
  where
    by : (same : Bool) → IsRising (without_key ks key) → IsRising (if same then ks else k ∷ without_key ks key)
    by true rest = later_rise k ks rising
    by false rest = rises k (without_key ks key) (before-without_key k ks key (first_before k ks rising)) rest

length-with_key : (keys : List PmuKey) (key : PmuKey) → length (with_key keys key) ≤ length keys + 1
length-with_key [] key = omega arith
length-with_key (k ∷ ks) key = by (key_eq key k) (key_before key k) (length-with_key ks key)
  where
    by : (same first : Bool) → length (with_key ks key) ≤ length ks + 1 → length (if same then k ∷ ks else if first then key ∷ k ∷ ks else k ∷ with_key ks key) ≤ length (k ∷ ks) + 1
    by true first rest = omega arith
    by false true rest = omega arith
    by false false rest = omega (arith, rest)

length-without_key : (keys : List PmuKey) (key : PmuKey) → length (without_key keys key) ≤ length keys
length-without_key [] key = omega arith
length-without_key (k ∷ ks) key = by (key_eq key k) (length-without_key ks key)
  where
    by : (same : Bool) → length (without_key ks key) ≤ length ks → length (if same then ks else k ∷ without_key ks key) ≤ length (k ∷ ks)
    by true rest = omega arith
    by false rest = omega (arith, rest)

-- What the room and the answer are in each case.
pub room_held : (keys : List PmuKey) (key : PmuKey) → has_key keys key ≡ true → has_room keys key ≡ true
room_held keys key held = rw held refl

pub room_left : (keys : List PmuKey) (key : PmuKey) → has_key keys key ≡ false → length keys < 32 → has_room keys key ≡ true
room_left keys key none few = rw none (grind (arith, nat_tests))

pub no_room : (keys : List PmuKey) (key : PmuKey) → has_key keys key ≡ false → 32 ≤ length keys → has_room keys key ≡ false
no_room keys key none many = rw none (grind (arith, nat_tests))

pub granted_held : (keys : List PmuKey) (key : PmuKey) → IsRising keys → has_key keys key ≡ true → granted keys key ≡ keys
granted_held keys key rising held = rw (room_held keys key held) (with_key-held keys key rising held)

pub granted_new : (keys : List PmuKey) (key : PmuKey) → has_key keys key ≡ false → length keys < 32 → granted keys key ≡ with_key keys key
granted_new keys key none few = rw (room_left keys key none few) refl

pub granted_full : (keys : List PmuKey) (key : PmuKey) → has_key keys key ≡ false → 32 ≤ length keys → granted keys key ≡ keys
granted_full keys key none many = rw (no_room keys key none many) refl

-- Grants stay in order and few.
pub list-granted : (keys : List PmuKey) (key : PmuKey) → IsGrantList keys → IsGrantList (granted keys key)
list-granted keys key list = by (has_key keys key) refl
  where
    by : (b : Bool) → has_key keys key ≡ b → IsGrantList (granted keys key)
    by true e = subst IsGrantList (sym (granted_held keys key list.rising e)) list
    by false e = elim (cases_lt (length keys) 32) [
      | inl few ↦ subst IsGrantList (sym (granted_new keys key e few)) (record { rising = rising-with_key keys key list.rising; few = omega (arith, length-with_key keys key, few) })
      | inr many ↦ subst IsGrantList (sym (granted_full keys key e many)) list
    ]

pub list-without_key : (keys : List PmuKey) (key : PmuKey) → IsGrantList keys → IsGrantList (without_key keys key)
list-without_key keys key list = record { rising = rising-without_key keys key list.rising; few = omega (arith, length-without_key keys key, list.few) }

-- What is held after a grant.
or_self : (a b : Bool) → (a || b) ≡ ((a || b) || a)
or_self true b = refl
or_self false true = refl
or_self false false = refl

or_pass : (a b c : Bool) → (a || (b || c)) ≡ ((a || b) || c)
or_pass true b c = refl
or_pass false b c = refl

or_last : (a b : Bool) → (a || b) ≡ (b || a)
or_last true true = refl
or_last true false = refl
or_last false true = refl
or_last false false = refl

or_none : (a : Bool) → a ≡ (a || false)
or_none true = refl
or_none false = refl

and_none : (a : Bool) → false ≡ (a && false)
and_none true = refl
and_none false = refl

has-with_key : (keys : List PmuKey) (key k : PmuKey) → has_key (with_key keys key) k ≡ (has_key keys k || key_eq k key)
has-with_key [] key k = or_last (key_eq k key) false
has-with_key (x ∷ xs) key k = by (has-with_key xs key k) (key_eq key x) refl (key_before key x)
  where
    by : has_key (with_key xs key) k ≡ (has_key xs k || key_eq k key) → (same : Bool) → key_eq key x ≡ same → (first : Bool) → has_key (if same then x ∷ xs else if first then key ∷ x ∷ xs else x ∷ with_key xs key) k ≡ ((key_eq k x || has_key xs k) || key_eq k key)
    by rest true e first = rw (eq_alike k key x e) (or_self (key_eq k x) (has_key xs k))
    by rest false e true = or_last (key_eq k key) (key_eq k x || has_key xs k)
    by rest false e false = rw rest (or_pass (key_eq k x) (has_key xs k) (key_eq k key))

pub has-granted : (keys : List PmuKey) (key k : PmuKey) → has_key (granted keys key) k ≡ (has_key keys k || (has_room keys key && key_eq k key))
has-granted keys key k = by (has_room keys key)
  where
    by : (b : Bool) → has_key (if b then with_key keys key else keys) k ≡ (has_key keys k || (b && key_eq k key))
    by true = has-with_key keys key k
    by false = or_none (has_key keys k)

-- And after a revocation.
pub has-without_key : (keys : List PmuKey) (key k : PmuKey) → IsRising keys → has_key (without_key keys key) k ≡ (not (key_eq k key) && has_key keys k)
has-without_key [] key k rising = and_none (not (key_eq k key))
has-without_key (x ∷ xs) key k rising = by (has-without_key xs key k (later_rise x xs rising)) (key_eq key x) refl (key_eq k key) refl
  where
    by : has_key (without_key xs key) k ≡ (not (key_eq k key) && has_key xs k) → (same : Bool) → key_eq key x ≡ same → (this : Bool) → key_eq k key ≡ this → has_key (if same then xs else x ∷ without_key xs key) k ≡ (not this && (key_eq k x || has_key xs k))
    by rest true e true f = absent_before k xs (λ j d inside. eq_before k x _ (sym (eq_alike k key x e) ∙ f) (first_before x xs rising j d inside))
    by rest true e false f = rw (sym (eq_alike k key x e) ∙ f) refl
    by rest false e true f = rw (unlike k key x f e, rest, f) refl
    by rest false e false f = rw (rest, f) refl

pub without_key-absent : (keys : List PmuKey) (key : PmuKey) → has_key keys key ≡ false → without_key keys key ≡ keys
without_key-absent [] key none = refl
without_key-absent (k ∷ ks) key none = by (key_eq key k) (without_key-absent ks key) none
  where
    by : (b : Bool) → (has_key ks key ≡ false → without_key ks key ≡ ks) → (b || has_key ks key) ≡ false → (if b then ks else k ∷ without_key ks key) ≡ k ∷ ks
    by true rest none = absurd (true≢false none)
    by false rest none = ap (λ l. k ∷ l) (rest none)

-- One set of keys has one list that rises.
first_held : (k : PmuKey) (ks : List PmuKey) → has_key (k ∷ ks) k ≡ true
first_held k ks = rw (eq_refl k) refl

-- a key among these is the first, or comes after it
first_or_after : (k : PmuKey) (ks : List PmuKey) (key : PmuKey) → IsRising (k ∷ ks) → has_key (k ∷ ks) key ≡ true → key_eq key k ≡ false → key_before k key ≡ true
first_or_after k ks key rising held other = before_held k ks key (first_before k ks rising) (sym (ap (λ b. b || has_key ks key) other) ∙ held)

later_alike : (x : PmuKey) (xs ys : List PmuKey) → IsRising (x ∷ xs) → IsRising (x ∷ ys) → ((k : PmuKey) → has_key (x ∷ xs) k ≡ has_key (x ∷ ys) k) → (k : PmuKey) → has_key xs k ≡ has_key ys k
later_alike x xs ys rising other_rising alike k = by (key_eq k x) refl (alike k)
  where
    none : (zs : List PmuKey) → IsRising (x ∷ zs) → key_eq k x ≡ true → has_key zs k ≡ false
    none zs r e = absent_before k zs (λ j d inside. eq_before k x _ e (first_before x zs r j d inside))

    by : (b : Bool) → key_eq k x ≡ b → (b || has_key xs k) ≡ (b || has_key ys k) → has_key xs k ≡ has_key ys k
    by true e same = none xs rising e ∙ sym (none ys other_rising e)
    by false e same = same

pub one_list : (keys other : List PmuKey) → IsRising keys → IsRising other → ((key : PmuKey) → has_key keys key ≡ has_key other key) → keys ≡ other
one_list [] [] rising other_rising alike = refl
one_list [] (y ∷ ys) rising other_rising alike = absurd (true≢false (sym (first_held y ys) ∙ sym (alike y)))
one_list (x ∷ xs) [] rising other_rising alike = absurd (true≢false (sym (first_held x xs) ∙ alike x))
one_list (x ∷ xs) (y ∷ ys) rising other_rising alike = by (key_eq x y) refl (λ e. one_list xs ys (later_rise x xs rising) (later_rise y ys other_rising) (later_alike x xs ys rising (subst (λ k. IsRising (k ∷ ys)) (sym e) other_rising) (λ k. subst (λ z. has_key (x ∷ xs) k ≡ has_key (z ∷ ys) k) (sym e) (alike k))))
  where
    by : (b : Bool) → key_eq x y ≡ b → (x ≡ y → xs ≡ ys) → x ∷ xs ≡ y ∷ ys
    by true e rest = let same = same_of_eq x y e in ap (λ k. k ∷ xs) same ∙ ap (λ l. y ∷ l) (rest same)
    by false e rest =
        let below = first_or_after y ys x other_rising (sym (alike x) ∙ first_held x xs) e in
        let above = first_or_after x xs y rising (alike y ∙ first_held y ys) (before_is_other y x below).0 in
        absurd (true≢false (sym above ∙ before_not_after y x below))
