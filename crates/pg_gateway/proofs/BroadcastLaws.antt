-- An event for all, taken by one subscriber after another.
use Rattle.std.proofs.Common.{◌≡◌, ℕ, zero, suc, ◌+◌, ◌-◌, ◌<◌, ◌≤◌, min, ◌⊎◌, Bool, true, false, List, [], ◌∷◌, ◌++◌, length, take, drop, Some, None, refl, ap, subst, ◌∙◌, arith, inl, inr, add-one, append_assoc, length-take}
use Rattle.std.proofs.lemmas.List.{append-nil}
use Rattle.std.specs.Prelude.{slice_get}
use Rattle.std.specs.Map.{values_of}
use Rattle.indexmap.specs.IndexMap.{set_value_at}
use Rattle.pg_gateway.specs.Related.{Related}
use Rattle.pg_gateway.specs.Sharing.{SubscriberSlot, SubscriberSlots, Broadcast, frames_for, shared_to, total, broadcast}
use Rattle.pg_gateway.specs.Shown.{SlotValue, SlotShows}
use Rattle.pg_gateway.specs.Taking.{TakesShare, IsBroadcast}
use Rattle.pg_gateway.specs.Frugal.{AllSlots}

-- one more subscriber has taken its share
total-push : (o : Broadcast) (slots : SubscriberSlots) (s : ℕ × SubscriberSlot) → total o (slots ++ s ∷ []) ≡ total o slots + frames_for o s.1
total-push o [] s = omega arith
total-push o (q ∷ slots) s = let rest = total-push o slots s in omega arith

length-broadcast : (o : Broadcast) (slots : SubscriberSlots) (k : ℕ) → length (broadcast o slots k) ≡ length slots
length-broadcast o [] k = refl
length-broadcast o (s ∷ slots) k = ap suc (length-broadcast o slots _)

broadcast-push : (o : Broadcast) (slots : SubscriberSlots) (s : ℕ × SubscriberSlot) (k m : ℕ) → m ≤ frames_for o s.1 → k ≤ total o slots → ((k ≡ total o slots) ⊎ (m ≡ 0))
    → broadcast o (slots ++ s ∷ []) (k + m) ≡ broadcast o slots k ++ (s.0, shared_to o s.1 m) ∷ []
broadcast-push o [] s k m le few all =
    let same : min (k + m) (frames_for o s.1) ≡ m = first k m (frames_for o s.1) le few all in
    rw same refl
  where
    first : (k m c : ℕ) → m ≤ c → k ≤ 0 → ((k ≡ 0) ⊎ (m ≡ 0)) → min (k + m) c ≡ m
    first k m c le few all = omega arith
broadcast-push o (q ∷ slots) s k m le few all =
    let c = frames_for o q.1 in
    let first : min (k + m) c ≡ min k c = at_first k m c (total o slots) few all in
    let rest : k + m - c ≡ (k - c) + m = at_rest k m c (total o slots) few all in
    rw (first, rest) (ap (λ ss. (q.0, shared_to o q.1 (min k c)) ∷ ss) (broadcast-push o slots s (k - c) m le (fewer k c (total o slots) few) (left k m c (total o slots) all)))
  where
    fewer : (k c t : ℕ) → k ≤ c + t → k - c ≤ t
    fewer k c t few = omega arith

    at_first : (k m c t : ℕ) → k ≤ c + t → ((k ≡ c + t) ⊎ (m ≡ 0)) → min (k + m) c ≡ min k c
    at_first k m c t few (inl is) = omega arith
    at_first k m c t few (inr is) = omega arith

    at_rest : (k m c t : ℕ) → k ≤ c + t → ((k ≡ c + t) ⊎ (m ≡ 0)) → k + m - c ≡ (k - c) + m
    at_rest k m c t few (inl is) = omega arith
    at_rest k m c t few (inr is) = omega arith

    left : (k m c t : ℕ) → ((k ≡ c + t) ⊎ (m ≡ 0)) → ((k - c ≡ t) ⊎ (m ≡ 0))
    left k m c t (inl is) = inl (omega arith)
    left k m c t (inr is) = inr is

-- a list at one of its places
split_here : {X : Type 0} (xs : List X) (i : ℕ) → i < length xs → (x : X) × (take (i + 1) xs ≡ take i xs ++ x ∷ []) × (drop i xs ≡ x ∷ drop (i + 1) xs)
split_here xs i lt = rw add-one (by xs i lt)
  where
    by : {X : Type 0} (xs : List X) (i : ℕ) → i < length xs → (x : X) × (take (suc i) xs ≡ take i xs ++ x ∷ []) × (drop i xs ≡ x ∷ drop (suc i) xs)
    by [] i lt = absurd (omega arith)
    by (x ∷ xs) zero lt = (x, refl, refl)
    by (x ∷ xs) (suc i) lt = let rest = by xs i (omega arith) in (rest.0, ap (λ ys. x ∷ ys) rest.1, rest.2)

module _ {V W : Type 0} (R : V → W → Type 0) where
  -- the value at an index, and what a write there leaves
  Related-at : (front : List (ℕ × W)) (y : ℕ × W) (rest : List (ℕ × W)) (xs : List (ℕ × V)) (i : ℕ) (v : V) → Related R xs (front ++ y ∷ rest) → length front ≡ i → slice_get (values_of xs) i ≡ Some v → R v y.1
  Related-at [] y rest [] i v h len at = absurd h
  Related-at [] y rest (x ∷ xs) zero v h len at = let same : x.1 ≡ v = cc in subst (λ z. R z y.1) same h.1
  Related-at [] y rest (x ∷ xs) (suc i) v h len at = absurd (omega arith)
  Related-at (f ∷ front) y rest [] i v h len at = absurd h
  Related-at (f ∷ front) y rest (x ∷ xs) zero v h len at = absurd (omega arith)
  Related-at (f ∷ front) y rest (x ∷ xs) (suc i) v h len at = Related-at front y rest xs i v h.2 (omega arith) at

  Related-set_value_at : (front : List (ℕ × W)) (y : ℕ × W) (rest : List (ℕ × W)) (xs : List (ℕ × V)) (i : ℕ) (v : V) (w : W) → Related R xs (front ++ y ∷ rest) → length front ≡ i → R v w → Related R (set_value_at xs i v) (front ++ (y.0, w) ∷ rest)
  Related-set_value_at [] y rest [] i v w h len r = absurd h
  Related-set_value_at [] y rest (x ∷ xs) zero v w h len r = (h.0, r, h.2)
  Related-set_value_at [] y rest (x ∷ xs) (suc i) v w h len r = absurd (omega arith)
  Related-set_value_at (f ∷ front) y rest [] i v w h len r = absurd h
  Related-set_value_at (f ∷ front) y rest (x ∷ xs) zero v w h len r = absurd (omega arith)
  Related-set_value_at (f ∷ front) y rest (x ∷ xs) (suc i) v w h len r = (h.0, h.1, Related-set_value_at front y rest xs i v w h.2 (omega arith) r)

  -- a write that keeps what the value at an index is related to
  pub Related-kept : (xs : List (ℕ × V)) (ys : List (ℕ × W)) (i : ℕ) (v w : V) → Related R xs ys → slice_get (values_of xs) i ≡ Some v → ((y : W) → R v y → R w y) → Related R (set_value_at xs i w) ys
  Related-kept [] ys i v w h at keeps = h
  Related-kept (x ∷ xs) [] i v w h at keeps = absurd h
  Related-kept (x ∷ xs) (y ∷ ys) zero v w h at keeps = let same : x.1 ≡ v = cc in (h.0, keeps y.1 (subst (λ z. R z y.1) same h.1), h.2)
  Related-kept (x ∷ xs) (y ∷ ys) (suc i) v w h at keeps = (h.0, h.1, Related-kept xs ys i v w h.2 at keeps)

-- one turn of the loop over all subscribers
pub fan_step : (o : Broadcast) (ps : SubscriberSlots) (i made kept : ℕ) (lost : Bool) (more more_kept : ℕ) (xs : List (ℕ × SlotValue)) (v v' : SlotValue)
    → i < length ps → made ≡ total o (take i ps) → kept ≤ made → (lost ≡ false → kept ≡ made)
    → Related SlotShows xs (broadcast o (take i ps) kept ++ drop i ps)
    → slice_get (values_of xs) i ≡ Some v
    → ((s : SubscriberSlot) → SlotShows v s → TakesShare o lost more more_kept s v') → more_kept ≤ more
    → (made + more ≡ total o (take (i + 1) ps)) × Related SlotShows (set_value_at xs i v') (broadcast o (take (i + 1) ps) (kept + more_kept) ++ drop (i + 1) ps)
fan_step o ps i made kept lost more more_kept xs v v' lt count le all related at takes few =
    let sp = split_here ps i lt in
    let y = sp.0 in
    let front = broadcast o (take i ps) kept in
    let here : Related SlotShows xs (front ++ y ∷ drop (i + 1) ps) = rw sp.2 at related in
    let flen : length front ≡ i = length-broadcast o (take i ps) kept ∙ length_take i ps lt in
    let took = takes y.1 (Related-at SlotShows front y (drop (i + 1) ps) xs i v here flen at) in
    let fits : more_kept ≤ frames_for o y.1 = rw (← took.count) few in
    let within : kept ≤ total o (take i ps) = rw (← count) le in
    let push = broadcast-push o (take i ps) y kept more_kept fits within (whole lost (λ f. all f ∙ count) took.none_kept) in
    let written = Related-set_value_at SlotShows front y (drop (i + 1) ps) xs i v' (shared_to o y.1 more_kept) here flen took.shows in (
      rw (sp.1, total-push o (take i ps) y, count, took.count) refl,
      rw (sp.1, push, append_assoc) written,
    )
  where
    length_take : {X : Type 0} (i : ℕ) (xs : List X) → i < length xs → length (take i xs) ≡ i
    length_take i xs lt = simp length-take (omega arith)

    whole : {A B : Type 0} (l : Bool) → (l ≡ false → A) → (l ≡ true → B) → A ⊎ B
    whole true f g = inr (g refl)
    whole false f g = inl (f refl)

-- the end of the loop
pub fan_end : (o : Broadcast) (ps : SubscriberSlots) (i made kept : ℕ) (xs : List (ℕ × SlotValue)) → length ps ≤ i → made ≡ total o (take i ps) → Related SlotShows xs (broadcast o (take i ps) kept ++ drop i ps) → IsBroadcast o made kept ps xs
fan_end o ps i made kept xs past count related =
    let all : take i ps ≡ ps = take_past ps i past in
    let none : drop i ps ≡ [] = drop_past ps i past in
    record {
      count = count ∙ ap (λ qs. total o qs) all;
      shows = rw (all, none, append-nil) at related;
    }
  where
    take_past : {X : Type 0} (xs : List X) (i : ℕ) → length xs ≤ i → take i xs ≡ xs
    take_past [] zero le = refl
    take_past [] (suc i) le = refl
    take_past (x ∷ xs) zero le = absurd (omega arith)
    take_past (x ∷ xs) (suc i) le = ap (λ l. x ∷ l) (take_past xs i (omega arith))

    drop_past : {X : Type 0} (xs : List X) (i : ℕ) → length xs ≤ i → drop i xs ≡ []
    drop_past [] zero le = refl
    drop_past [] (suc i) le = refl
    drop_past (x ∷ xs) zero le = absurd (omega arith)
    drop_past (x ∷ xs) (suc i) le = drop_past xs i (omega arith)

-- what holds of each subscriber from an index on, and of those before it
module _ (P : SlotValue → Type 0) where
  pub slots-at : (xs : List (ℕ × SlotValue)) (i : ℕ) (v : SlotValue) → AllSlots P (drop i xs) → slice_get (values_of xs) i ≡ Some v → P v
  slots-at [] zero v all at = absurd (none_is v at)
    where
      none_is : (v : SlotValue) → None ≡ Some v → ⊥
      none_is v e = cc
  slots-at [] (suc i) v all at = absurd (none_is v at)
    where
      none_is : (v : SlotValue) → None ≡ Some v → ⊥
      none_is v e = cc
  slots-at (x ∷ xs) zero v all at = let same : x.1 ≡ v = cc in subst P same all.0
  slots-at (x ∷ xs) (suc i) v all at = slots-at xs i v all at

  pub slots-after : (xs : List (ℕ × SlotValue)) (i : ℕ) (w : SlotValue) → AllSlots P (drop i xs) → AllSlots P (drop (i + 1) (set_value_at xs i w))
  slots-after xs i w all = rw add-one (by xs i all)
    where
      by : (xs : List (ℕ × SlotValue)) (i : ℕ) → AllSlots P (drop i xs) → AllSlots P (drop (suc i) (set_value_at xs i w))
      by [] i all = tt
      by (x ∷ xs) zero all = all.1
      by (x ∷ xs) (suc i) all = by xs i all

  pub slots-before : (xs : List (ℕ × SlotValue)) (i : ℕ) (w : SlotValue) → AllSlots P (take i xs) → P w → AllSlots P (take (i + 1) (set_value_at xs i w))
  slots-before xs i w all p = rw add-one (by xs i all)
    where
      by : (xs : List (ℕ × SlotValue)) (i : ℕ) → AllSlots P (take i xs) → AllSlots P (take (suc i) (set_value_at xs i w))
      by [] i all = tt
      by (x ∷ xs) zero all = (p, tt)
      by (x ∷ xs) (suc i) all = (all.0, by xs i all.1)

  pub slots-all : (xs : List (ℕ × SlotValue)) (i : ℕ) → length xs ≤ i → AllSlots P (take i xs) → AllSlots P xs
  slots-all [] i past all = tt
  slots-all (x ∷ xs) zero past all = absurd (omega arith)
  slots-all (x ∷ xs) (suc i) past all = (all.0, slots-all xs i (omega arith) all.1)
