-- Marked subscribers, as the bits of a number.
use Rattle.std.proofs.Common.{◌≡◌, ◌≢◌, ℕ, zero, suc, ◌+◌, ◌*◌, ◌^◌, ◌%◌, ◌-◌, ◌<◌, ◌≤◌, ◌⊎◌, add-one, get_or, Bool, true, false, true≢false, List, [], ◌∷◌, ◌++◌, length, take, drop, Some, None, refl, sym, ap, subst, ◌∙◌, arith, inl, inr, w64}
use Rattle.std.proofs.lemmas.Bool.{cases_eq}
use Rattle.std.proofs.lemmas.Nat.{and_le_l}
use Rattle.std.proofs.lemmas.Nat.Bits.{bit_at-trailing_zeros, bit_at_clear_same, bit_at_clear_other, bit_at_above, bit_at-zero}
use Rattle.std.specs.Prelude.{slice_get, bit_and, if◌then◌else◌, All, filter}
use Rattle.pg_wire.specs.declared.ids.PmuKey.{PmuKey}
use Rattle.pg_entitle.specs.Grants.{has_key}
use Rattle.pg_session.specs.Events.{Sample}
use Rattle.std.specs.Int.{bit_at, bit_not, trailing_zeros}
use Rattle.std.specs.Map.{values_of}
use Rattle.indexmap.specs.IndexMap.{set_value_at}
use Rattle.pg_gateway.proofs.RelatedLaws.{Related-length}
use Rattle.pg_gateway.specs.Related.{Related}
use Rattle.pg_gateway.specs.Sharing.{SubscriberSlots, Broadcast, measures, some_measured, share, total, broadcast}
use Rattle.pg_gateway.specs.Shown.{SlotValue, SlotShows}
use Rattle.pg_gateway.specs.Taking.{TakesShare, IsBroadcast, HasNone, Awaits, IsFit}
use Rattle.pg_gateway.specs.Frugal.{AllSlots}
use Rattle.pg_gateway.specs.Routes.{WhereBit, IsPassed, IsMask, AreMasks, bit_of}
use Rattle.pg_gateway.proofs.BroadcastLaws.{fan_step, fan_end}
use Rattle.pg_gateway.proofs.Taking.{none_taken, prepares_none}

plus0 : (k : ℕ) → k + 0 ≡ k
plus0 k = omega arith

pub le_or_gt : (a b : ℕ) → (a ≤ b) ⊎ (b < a)
le_or_gt zero b = inl (omega arith)
le_or_gt (suc a) zero = inr (omega arith)
le_or_gt (suc a) (suc b) =
    elim (le_or_gt a b) [
      | inl le ↦ inl (omega arith)
      | inr gt ↦ inr (omega arith)
    ]

pub one_zero : (n : ℕ) → n ≡ 1 → n ≡ 0 → ⊥
one_zero n a b = omega arith

-- clearing a bit that is set makes the word smaller, and leaves the other bits
abbrev pub without : ℕ → ℕ → ℕ
without word k = bit_and word (bit_not w64 (1 * 2 ^ k % 2 ^ 64))

pub cleared : (word k : ℕ) → word < 2 ^ 64 → k < 64 → bit_at word k ≡ 1
    → (without word k < word) × (bit_at (without word k) k ≡ 0) × ((j : ℕ) → j ≢ k → bit_at (without word k) j ≡ bit_at word j)
cleared word k small within set =
    let gone : bit_at (without word k) k ≡ 0 = bit_at_clear_same w64 word k within in
    let le : without word k ≤ word = and_le_l word (bit_not w64 (1 * 2 ^ k % 2 ^ 64)) in (
      elim (cases_eq (without word k) word) [
        | inl same ↦ absurd (let both : bit_at (without word k) k ≡ bit_at word k = ap (λ x. bit_at x k) same in omega arith)
        | inr other ↦ omega arith
      ],
      gone,
      λ j other. others j other le,
    )
  where
    others : (j : ℕ) → j ≢ k → without word k ≤ word → bit_at (without word k) j ≡ bit_at word j
    others j other le =
        elim (le_or_gt 64 j) [
          | inl far ↦ bit_at_above (without word k) 64 j (omega arith) far ∙ sym (bit_at_above word 64 j small far)
          | inr near ↦ bit_at_clear_other w64 word k within j near other
        ]

-- the lowest bit that is set, and the word without it
pub note_granted : (left : ℕ) → 0 < left → left < 2 ^ 64
    → (trailing_zeros w64 left < 64) × (bit_at left (trailing_zeros w64 left) ≡ 1) × ((j : ℕ) → j < trailing_zeros w64 left → bit_at left j ≡ 0)
    × (without left (trailing_zeros w64 left) < left) × (bit_at (without left (trailing_zeros w64 left)) (trailing_zeros w64 left) ≡ 0)
    × ((j : ℕ) → j ≢ trailing_zeros w64 left → bit_at (without left (trailing_zeros w64 left)) j ≡ bit_at left j)
note_granted left some small =
    let lowest = bit_at-trailing_zeros w64 left some small in
    let c = cleared left (trailing_zeros w64 left) small lowest.0 lowest.1 in
    (lowest.0, lowest.1, lowest.2, c.0, c.1, c.2)

-- a bit that is set is that of a subscriber
pub bit_within : (len granted_some i : ℕ) → ((j : ℕ) → len ≤ j → bit_at granted_some j ≡ 0) → bit_at granted_some i ≡ 1 → i < len
bit_within len granted_some i bits set =
    elim (le_or_gt len i) [
      | inl far ↦ absurd (let none = bits i far in omega (arith, none, set))
      | inr near ↦ near
    ]

-- the values of a map's entries, once one was written
length_set : (xs : List (ℕ × SlotValue)) (i : ℕ) (w : SlotValue) → length (set_value_at xs i w) ≡ length xs
length_set [] i w = refl
length_set (x ∷ xs) zero w = refl
length_set (x ∷ xs) (suc i) w = ap suc (length_set xs i w)

pub value_set_same : (xs : List (ℕ × SlotValue)) (i : ℕ) (w v : SlotValue) → slice_get (values_of (set_value_at xs i w)) i ≡ Some v → w ≡ v
value_set_same [] zero w v at = cc
value_set_same [] (suc i) w v at = cc
value_set_same (x ∷ xs) zero w v at = cc
value_set_same (x ∷ xs) (suc i) w v at = value_set_same xs i w v at

pub value_set_other : (xs : List (ℕ × SlotValue)) (i j : ℕ) (w : SlotValue) → j ≢ i → slice_get (values_of (set_value_at xs i w)) j ≡ slice_get (values_of xs) j
value_set_other [] i j w other = refl
value_set_other (x ∷ xs) zero zero w other = absurd (other refl)
value_set_other (x ∷ xs) zero (suc j) w other = refl
value_set_other (x ∷ xs) (suc i) zero w other = refl
value_set_other (x ∷ xs) (suc i) (suc j) w other = value_set_other xs i j w (λ same. other (ap suc same))

pub value_there : (xs : List (ℕ × SlotValue)) (i : ℕ) → i < length xs → (v : SlotValue) × (slice_get (values_of xs) i ≡ Some v)
value_there [] i lt = absurd (omega arith)
value_there (x ∷ xs) zero lt = (x.1, refl)
value_there (x ∷ xs) (suc i) lt = value_there xs i (omega arith)

set_same : (xs : List (ℕ × SlotValue)) (i : ℕ) (v : SlotValue) → slice_get (values_of xs) i ≡ Some v → set_value_at xs i v ≡ xs
set_same [] i v at = refl
set_same (x ∷ xs) zero v at = let same : v ≡ x.1 = cc in rw same refl
set_same (x ∷ xs) (suc i) v at = ap (λ l. x ∷ l) (set_same xs i v at)

-- one turn: the subscriber of the bit that is cleared is written
module _ (P : SlotValue → Type 0) (xs : List (ℕ × SlotValue)) (i : ℕ) (w : SlotValue) where
  pub still_marked : (old new : ℕ) → bit_at new i ≡ 0 → ((j : ℕ) → j ≢ i → bit_at new j ≡ bit_at old j) → WhereBit 1 old P xs → WhereBit 1 new P (set_value_at xs i w)
  still_marked old new gone others all = λ j v at set.
      let other : j ≢ i = λ same. one_zero (bit_at new j) set (ap (bit_at new) same ∙ gone) in
      all j v (sym (value_set_other xs i j w other) ∙ at) (sym (others j other) ∙ set)

  pub now_cleared : (old new : ℕ) → ((j : ℕ) → j ≢ i → bit_at new j ≡ bit_at old j) → P w → WhereBit 0 old P xs → WhereBit 0 new P (set_value_at xs i w)
  now_cleared old new others p all = λ j v at unset.
      elim (cases_eq j i) [
        | inl same ↦ subst P (value_set_same xs i w v (ap (slice_get (values_of (set_value_at xs i w))) (sym same) ∙ at)) p
        | inr other ↦ all j v (sym (value_set_other xs i j w other) ∙ at) (sym (others j other) ∙ unset)
      ]

  pub still_unmarked : (granted_some : ℕ) → bit_at granted_some i ≡ 1 → WhereBit 0 granted_some P xs → WhereBit 0 granted_some P (set_value_at xs i w)
  still_unmarked granted_some set all = λ j v at unset.
      let other : j ≢ i = λ same. one_zero (bit_at granted_some i) set (ap (bit_at granted_some) (sym same) ∙ unset) in
      all j v (sym (value_set_other xs i j w other) ∙ at) unset

-- what holds of all, and of each by its bit
pub from_all : (P : SlotValue → Type 0) (b n : ℕ) (xs : List (ℕ × SlotValue)) → AllSlots P xs → WhereBit b n P xs
from_all P b n xs all = λ j v at bit. by xs all j v at
  where
    by : (xs : List (ℕ × SlotValue)) → AllSlots P xs → (j : ℕ) (v : SlotValue) → slice_get (values_of xs) j ≡ Some v → P v
    by [] all zero v at = absurd (no at)
      where
        no : None ≡ Some v → ⊥
        no e = cc
    by [] all (suc j) v at = absurd (no at)
      where
        no : None ≡ Some v → ⊥
        no e = cc
    by (x ∷ xs) all zero v at = let same : x.1 ≡ v = cc in subst P same all.0
    by (x ∷ xs) all (suc j) v at = by xs all.1 j v at

pub to_all : (P : SlotValue → Type 0) (n : ℕ) (xs : List (ℕ × SlotValue)) → n ≡ 0 → WhereBit 0 n P xs → AllSlots P xs
to_all P n xs none all = by xs (λ j v at. all j v at (ap (λ m. bit_at m j) none ∙ bit_at-zero j))
  where
    by : (xs : List (ℕ × SlotValue)) → ((j : ℕ) (v : SlotValue) → slice_get (values_of xs) j ≡ Some v → P v) → AllSlots P xs
    by [] all = tt
    by (x ∷ xs) all = (all 0 x.1 refl, by xs (λ j v at. all (suc j) v at))

-- subscribers without a share are passed
module _ (o : Broadcast) (granted_some : ℕ) (xs : List (ℕ × SlotValue)) (passed : WhereBit 0 granted_some (IsPassed o) xs) where
  pass : (ps : SubscriberSlots) (i made kept : ℕ) → i < length ps → i < length xs → bit_at granted_some i ≡ 0 → made ≡ total o (take i ps) → kept ≤ made
      → Related SlotShows xs (broadcast o (take i ps) kept ++ drop i ps)
      → (made ≡ total o (take (i + 1) ps)) × Related SlotShows xs (broadcast o (take (i + 1) ps) kept ++ drop (i + 1) ps)
  pass ps i made kept lt ltx off count le rel =
      let there = value_there xs i ltx in
      let v = there.0 in
      let step = fan_step o ps i made kept true 0 0 xs v v lt count le (λ no. absurd (true≢false no)) rel there.1 (λ s shown. none_taken o true v s shown (passed i v there.1 off)) (omega arith) in
      (rw plus0 at step.0, rw (set_same xs i v there.1, plus0) at step.1)

  pub skip : (ps : SubscriberSlots) (d i made kept : ℕ) → i + d ≤ length ps → length xs ≡ length ps → ((j : ℕ) → i ≤ j → j < i + d → bit_at granted_some j ≡ 0)
      → made ≡ total o (take i ps) → kept ≤ made → Related SlotShows xs (broadcast o (take i ps) kept ++ drop i ps)
      → (made ≡ total o (take (i + d) ps)) × Related SlotShows xs (broadcast o (take (i + d) ps) kept ++ drop (i + d) ps)
  skip ps zero i made kept within len off count le rel = rw plus0 (count, rel)
  skip ps (suc d) i made kept within len off count le rel =
      let one = pass ps i made kept (omega arith) (omega arith) (off i (omega arith) (omega arith)) count le rel in
      let rest = skip ps d (i + 1) made kept (omega arith) len (λ j a b. off j (omega arith) (omega arith)) one.0 le one.1 in
      rw (next i d) rest
    where
      next : (i d : ℕ) → i + suc d ≡ i + 1 + d
      next i d = omega arith

-- how far the marked subscribers have been gone through
pub record Walked (o : Broadcast) (granted_some left made kept : ℕ) (old new : List (ℕ × SlotValue)) : Type 0 where
  pub from : ℕ
  pub low : (j : ℕ) → j < from → bit_at left j ≡ 0
  pub high : (j : ℕ) → from ≤ j → bit_at left j ≡ bit_at granted_some j
  pub within : from ≤ length new
  pub few : made ≤ 640 * from
  pub count : (slots : SubscriberSlots) → Related SlotShows old slots → made ≡ total o (take from slots)
  pub shows : (slots : SubscriberSlots) → Related SlotShows old slots → Related SlotShows new (broadcast o (take from slots) kept ++ drop from slots)

module _ (o : Broadcast) (granted_some left made kept : ℕ) (old xs : List (ℕ × SlotValue)) (len : length xs ≡ length old) (le : kept ≤ made)
    (passed : WhereBit 0 granted_some (IsPassed o) xs) (w : Walked o granted_some left made kept old xs) where
  -- up to a place past the last turn, with no mark between
  on_to : (i : ℕ) → w.from ≤ i → i ≤ length xs → ((j : ℕ) → w.from ≤ j → j < i → bit_at left j ≡ 0) → (ps : SubscriberSlots) → Related SlotShows old ps
      → (made ≡ total o (take i ps)) × Related SlotShows xs (broadcast o (take i ps) kept ++ drop i ps)
  on_to i past within off ps h =
      let same : length xs ≡ length ps = len ∙ Related-length SlotShows _ ps h in
      let there : w.from + (i - w.from) ≡ i = omega arith in
      let gone = skip o granted_some xs passed ps (i - w.from) w.from made kept (omega arith) same
      (λ j a b. sym (w.high j a) ∙ off j a (omega (arith, b, there))) (w.count ps h) le (w.shows ps h) in
      rw there at gone

  pub walked_turn : (i more more_kept : ℕ) (lost : Bool) (v v' : SlotValue) → i < length xs → bit_at left i ≡ 1 → ((j : ℕ) → j < i → bit_at left j ≡ 0)
      → bit_at (without left i) i ≡ 0 → ((j : ℕ) → j ≢ i → bit_at (without left i) j ≡ bit_at left j)
      → (lost ≡ false → kept ≡ made) → slice_get (values_of xs) i ≡ Some v → ((s : _) → SlotShows v s → TakesShare o lost more more_kept s v')
      → more ≤ 640 → more_kept ≤ more → Walked o granted_some (without left i) (made + more) (kept + more_kept) old (set_value_at xs i v')
  walked_turn i more more_kept lost v v' lt set below gone others all at takes few less =
      let past : w.from ≤ i = from_le in
      let step = λ (ps : SubscriberSlots) (h : Related SlotShows old ps).
      let here = on_to i past (omega arith) (λ j a b. below j b) ps h in
      let same : length xs ≡ length ps = len ∙ Related-length SlotShows _ ps h in
      fan_step o ps i made kept lost more more_kept xs v v' (omega arith) here.0 le all here.1 at takes less in
      record {
        from = i + 1;
        low = λ j lt.
            elim (cases_eq j i) [
              | inl same ↦ ap (bit_at (without left i)) same ∙ gone
              | inr other ↦ others j other ∙ below j (omega (arith, lt, other))
            ];
        high = λ j le. others j (λ same. later j le same) ∙ w.high j (omega (arith, past, le));
        within = rw length_set (omega arith);
        few = omega (arith, w.few);
        count = λ ps h. (step ps h).0;
        shows = λ ps h. (step ps h).1;
      }
    where
      later : (j : ℕ) → i + 1 ≤ j → j ≡ i → ⊥
      later j le same = omega arith

      from_le : w.from ≤ i
      from_le = elim (le_or_gt w.from i) [
        | inl le ↦ le
        | inr gt ↦ absurd (one_zero (bit_at left i) set (w.low i gt))
      ]

  pub walked_end : left ≡ 0 → (ps : SubscriberSlots) → Related SlotShows old ps → IsBroadcast o made kept ps xs
  walked_end none ps h =
      let here = on_to (length xs) w.within (omega arith) (λ j a b. ap (λ m. bit_at m j) none ∙ bit_at-zero j) ps h in
      let same : length xs ≡ length ps = len ∙ Related-length SlotShows _ ps h in
      fan_end o ps (length xs) made kept xs (omega arith) here.0 here.1

-- what is left is of what was marked
pub kept_marks : (left granted_some i : ℕ) → bit_at (without left i) i ≡ 0 → ((j : ℕ) → j ≢ i → bit_at (without left i) j ≡ bit_at left j)
    → ((j : ℕ) → bit_at left j ≡ 1 → bit_at granted_some j ≡ 1) → (j : ℕ) → bit_at (without left i) j ≡ 1 → bit_at granted_some j ≡ 1
kept_marks left granted_some i gone others granted j set =
    let other : j ≢ i = λ same. one_zero (bit_at (without left i) j) set (ap (bit_at (without left i)) same ∙ gone) in
    granted j (sym (others j other) ∙ set)

-- a subscriber that is passed awaits it
pub awaits_passed : (o : Broadcast) (v : SlotValue) → HasNone v → IsPassed o v → Awaits o v
awaits_passed o v none passed =
    record {
      fit = subst (λ x. IsFit v.subscriber x) (sym passed) tt;
      prepared = prepares_none v.subscriber (share o v.subscriber.own.grants) passed none.0;
      spared = λ _. passed;
    }

-- past the last subscriber no bit is set
pub bit_past : (key : PmuKey) (xs : List (ℕ × SlotValue)) (j : ℕ) → length xs ≤ j → bit_of key (slice_get (values_of xs) j) ≡ 0
bit_past key [] zero le = refl
bit_past key [] (suc j) le = refl
bit_past key (x ∷ xs) zero le = absurd (omega arith)
bit_past key (x ∷ xs) (suc j) le = bit_past key xs j (omega arith)

pub bit_here : (key : PmuKey) (xs : List (ℕ × SlotValue)) (j : ℕ) (v : SlotValue) (b : Bool) → slice_get (values_of xs) j ≡ Some v
    → b ≡ has_key v.subscriber.own.grants key → (if b then 1 else 0) ≡ bit_of key (slice_get (values_of xs) j)
bit_here key xs j v b at is = rw (at, is) refl

-- one more subscriber has its bit
pub mask_turn : (key : PmuKey) (xs : List (ℕ × SlotValue)) (i mask new : ℕ)
    → ((j : ℕ) → j < i → bit_at mask j ≡ bit_of key (slice_get (values_of xs) j)) → ((j : ℕ) → i ≤ j → bit_at mask j ≡ 0)
    → bit_at new i ≡ bit_of key (slice_get (values_of xs) i) → ((j : ℕ) → j ≢ i → bit_at new j ≡ bit_at mask j)
    → ((j : ℕ) → j < i + 1 → bit_at new j ≡ bit_of key (slice_get (values_of xs) j)) × ((j : ℕ) → i + 1 ≤ j → bit_at new j ≡ 0)
mask_turn key xs i mask new low high here others = (
  λ j lt.
      elim (cases_eq j i) [
        | inl same ↦ ap (bit_at new) same ∙ here ∙ ap (λ k. bit_of key (slice_get (values_of xs) k)) (sym same)
        | inr other ↦ others j other ∙ low j (omega (arith, lt, other))
      ],
  λ j le. others j (λ same. later j le same) ∙ high j (omega (arith, le)),
)
  where
    later : (j : ℕ) → i + 1 ≤ j → j ≡ i → ⊥
    later j le same = omega arith

pub mask_end : (key : PmuKey) (xs : List (ℕ × SlotValue)) (i mask : ℕ) → i ≡ length xs
    → ((j : ℕ) → j < i → bit_at mask j ≡ bit_of key (slice_get (values_of xs) j)) → ((j : ℕ) → i ≤ j → bit_at mask j ≡ 0) → IsMask xs key mask
mask_end key xs i mask all low high j =
    elim (le_or_gt i j) [
      | inl far ↦ high j far ∙ sym (bit_past key xs j (omega (arith, far, all)))
      | inr near ↦ low j near
    ]

-- the masks after one more
pub masks_push : (xs : List (ℕ × SlotValue)) (keys : List PmuKey) (masks : List ℕ) (k : PmuKey) (n : ℕ) → AreMasks xs keys masks → IsMask xs k n → AreMasks xs (keys ++ k ∷ []) (masks ++ n ∷ [])
masks_push xs [] [] k n all is = (is, tt)
masks_push xs (q ∷ keys) (m ∷ masks) k n all is = (all.0, masks_push xs keys masks k n all.1 is)
masks_push xs [] (m ∷ masks) k n all is = absurd all
masks_push xs (q ∷ keys) [] k n all is = absurd all

-- subscribers with the grants that they had, in the same places
abbrev pub SameGrants : List (ℕ × SlotValue) → List (ℕ × SlotValue) → Type 0
SameGrants [] [] = Unit {0}
SameGrants (x ∷ xs) (y ∷ ys) = (x.1.subscriber.own.grants ≡ y.1.subscriber.own.grants) × SameGrants xs ys
SameGrants [] (y ∷ ys) = ⊥
SameGrants (x ∷ xs) [] = ⊥

bit_kept : (key : PmuKey) (xs ys : List (ℕ × SlotValue)) → SameGrants xs ys → (j : ℕ) → bit_of key (slice_get (values_of xs) j) ≡ bit_of key (slice_get (values_of ys) j)
bit_kept key [] [] same zero = refl
bit_kept key [] [] same (suc j) = refl
bit_kept key (x ∷ xs) (y ∷ ys) same zero = rw same.0 refl
bit_kept key (x ∷ xs) (y ∷ ys) same (suc j) = bit_kept key xs ys same.1 j
bit_kept key [] (y ∷ ys) same j = absurd same
bit_kept key (x ∷ xs) [] same j = absurd same

pub masks_kept : (xs ys : List (ℕ × SlotValue)) → SameGrants xs ys → (keys : List PmuKey) (masks : List ℕ) → AreMasks xs keys masks → AreMasks ys keys masks
masks_kept xs ys same [] [] all = tt
masks_kept xs ys same (k ∷ keys) (n ∷ masks) all = ((λ j. all.0 j ∙ bit_kept k xs ys same j), masks_kept xs ys same keys masks all.1)
masks_kept xs ys same [] (n ∷ masks) all = absurd all
masks_kept xs ys same (k ∷ keys) [] all = absurd all

-- a subscriber that holds none of the PMUs of the blocks that were taken is passed
pub measured_passed : (soc quality frac : ℕ) (samples : List Sample) (v : SlotValue) → All (λ s. has_key v.subscriber.own.grants s.key ≡ false) samples
    → IsPassed (measures soc quality frac samples) v
measured_passed soc quality frac samples v none = ap (some_measured soc quality frac) (by samples none)
  where
    by : (samples : List Sample) → All (λ s. has_key v.subscriber.own.grants s.key ≡ false) samples → filter (λ s. has_key v.subscriber.own.grants s.key) samples ≡ []
    by [] none = refl
    by (s ∷ samples) none =
        let first : has_key v.subscriber.own.grants s.key ≡ false = none 0 s (omega arith) in
        rw first (by samples (λ k d lt. none (suc k) d (omega arith)))

-- and its bit in a PMU's mask says so
pub unset_none : (xs : List (ℕ × SlotValue)) (key : PmuKey) (n j : ℕ) (v : SlotValue) → IsMask xs key n → slice_get (values_of xs) j ≡ Some v → bit_at n j ≡ 0 → has_key v.subscriber.own.grants key ≡ false
unset_none xs key n j v is at unset = by (has_key v.subscriber.own.grants key) (sym (is j) ∙ unset) (ap (bit_of key) at)
  where
    by : (b : Bool) → bit_of key (slice_get (values_of xs) j) ≡ 0 → bit_of key (slice_get (values_of xs) j) ≡ (if b then 1 else 0) → b ≡ false
    by false a c = refl
    by true a c = absurd (one_zero _ c a)

pub masks_turn : (xs : List (ℕ × SlotValue)) (keys : List PmuKey) (masks new : List ℕ) (i : ℕ) (k d : PmuKey) (n : ℕ) → i < length keys → k ≡ get_or keys i d
    → AreMasks xs (take i keys) masks → new ≡ masks ++ n ∷ [] → IsMask xs k n → AreMasks xs (take (i + 1) keys) new
masks_turn xs keys masks new i k d n lt at all is mask =
    let there : take (i + 1) keys ≡ take i keys ++ k ∷ [] = rw add-one (by keys i lt at) in
    rw (there, is) (masks_push xs (take i keys) masks k n all mask)
  where
    by : (keys : List PmuKey) (i : ℕ) → i < length keys → k ≡ get_or keys i d → take (suc i) keys ≡ take i keys ++ k ∷ []
    by [] i lt at = absurd (omega arith)
    by (q ∷ keys) zero lt at = rw at refl
    by (q ∷ keys) (suc i) lt at = ap (λ l. q ∷ l) (by keys i (omega arith) at)
