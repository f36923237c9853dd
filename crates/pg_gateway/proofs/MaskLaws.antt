-- The masks of a frame's blocks tell who holds them.
use Rattle.std.proofs.Common.{◌≡◌, ◌≢◌, ℕ, zero, suc, ◌+◌, ◌-◌, ◌*◌, ◌^◌, ◌%◌, ◌<◌, ◌≤◌, ◌&&◌, add-one, get_or, set, replicate, min, true≢false, Bool, true, false, not, if◌then◌else◌, is_some, List, [], ◌∷◌, ◌++◌, length, take, map, filter, Option, Some, None, refl, sym, ap, subst, ◌∙◌, arith, inl, inr, w16, w64}
use Rattle.std.specs.Prelude.{slice_get, nat_eq, All}
use Rattle.std.specs.Int.{bit_at, bit_not, trailing_zeros}
use Rattle.std.specs.Int.Bits.{bit_and, bit_or}
use Rattle.std.proofs.lemmas.Nat.Bits.{bit_at_and, bit_at_or, bit_at_not, bit_at_set_same, bit_at_set_other, bit_at_above, bit_at-lt, bit_at-zero}
use Rattle.std.specs.Map.{keys_of, values_of}
use Rattle.std.proofs.lemmas.Nat.{and_comm, and_mask}
use Rattle.std.proofs.lemmas.Bool.{cases_eq, cases_lt}
use Rattle.std.proofs.lemmas.List.{append_assoc, append-nil, get_or_past, get_or-set_same, get_or-set_other, get_or-take, length-take-le, get_or_default}
use Rattle.std.proofs.lemmas.List.Quantifiers.{position-Some}
use Rattle.indexmap.specs.IndexMap.{set_value_at}
use Rattle.pg_wire.specs.declared.refusal.Refusal.{Refusal}
use Rattle.pg_wire.specs.declared.ids.PmuKey.{PmuKey}
use Rattle.pg_wire.specs.Keys.{key_eq}
use Rattle.pg_config.specs.Parts.{Part, Source}
use Rattle.pg_entitle.specs.Grants.{has_key}
use Rattle.pg_entitle.proofs.Orders.{same_of_eq}
use Rattle.pg_data.specs.Measurements.{Measurement}
use Rattle.pg_registry.specs.Registered as registry
use Rattle.pg_registry.specs.Registered.{Pmus}
use Rattle.pg_session.specs.Events.{Sample, sampled_part, samples_at, key_in}
use Rattle.pg_session.specs.Ready.{AreRising}
use Rattle.pg_session.specs.Shown.{Own}
use Rattle.pg_gateway.specs.Judging.{samples_in, sample_refusal, is_taken, judged, taken_of}
use Rattle.pg_gateway.specs.Placing.{ArePlaced}
use Rattle.pg_gateway.specs.Shown.{SlotValue}
use Rattle.pg_gateway.specs.Taking.{part_passes}
use Rattle.pg_gateway.specs.Routes.{IsMask, AreMasks, HasBits, IsOnlyBit, AreGrantedAll, AreGranted, bit_of, mask_where, masks_taken, places_at, places_held, TellsShare, SharesTold}
use Rattle.pg_gateway.proofs.Places.{part_there, rising-filter}
use Rattle.pg_gateway.proofs.RouteLaws.{note_granted, without, bit_within, one_zero, value_set_same, value_set_other}
use Rattle.pg_gateway.proofs.RouteKept.{mask_at}

-- By one mask what is marked is what is common; by none nothing is marked, and all is common.
abbrev pub IsAlone : ℕ → ℕ → List ℕ → Type 0
IsAlone granted_some granted_all [] = (granted_some ≡ 0) × (granted_all ≡ 2 ^ 64 - 1)
IsAlone granted_some granted_all (n ∷ []) = granted_some ≡ granted_all
IsAlone granted_some granted_all (n ∷ m ∷ masks) = Unit {0}

-- of these places, each with a mask, those whose mask has a subscriber's bit set
abbrev places_marked : ℕ → List ℕ → List ℕ → List ℕ
places_marked j [] masks = []
places_marked j (p ∷ places) [] = []
places_marked j (p ∷ places) (n ∷ masks) = (if nat_eq (bit_at n j) 1 then p ∷ [] else []) ++ places_marked j places masks

-- By the masks of these places of a source's PMUs, those that subscriber j holds are those that it is granted.
abbrev MasksTell : List ℕ → Source → List ℕ → ℕ → SlotValue → Type 0
MasksTell masks source places j v =
    places_marked j places masks ≡ filter (λ i. part_passes (has_key v.subscriber.own.grants) source (slice_get source.parts i)) places

abbrev MasksTellAll : List ℕ → Source → List ℕ → List (ℕ × SlotValue) → Type 0
MasksTellAll masks source places entries = (j : ℕ) (v : SlotValue) → slice_get (values_of entries) j ≡ Some v → MasksTell masks source places j v

-- no place, where no bit is set; and no more places than there are
pub none_at : (n k : ℕ) (ps : List ℕ) → ((j : ℕ) → bit_at n j ≡ 0) → places_at n k ps ≡ []
none_at n k [] unset = refl
none_at n k (p ∷ ps) unset = rw (unset k) (none_at n (suc k) ps unset)

pub few_at : (n k : ℕ) (ps : List ℕ) → length (places_at n k ps) ≤ length ps
few_at n k [] = omega arith
few_at n k (p ∷ ps) = by (nat_eq (bit_at n k) 1) (few_at n (suc k) ps)
  where
    by : (b : Bool) → length (places_at n (suc k) ps) ≤ length ps → length ((if b then p ∷ [] else []) ++ places_at n (suc k) ps) ≤ length (p ∷ ps)
    by true rest = omega arith
    by false rest = omega arith

-- numbers with the same bits from one on
same_at : (m n k : ℕ) (ps : List ℕ) → ((j : ℕ) → k ≤ j → bit_at m j ≡ bit_at n j) → places_at m k ps ≡ places_at n k ps
same_at m n k [] same = refl
same_at m n k (p ∷ ps) same = rw (same k (omega arith)) (ap (λ l. (if nat_eq (bit_at n k) 1 then p ∷ [] else []) ++ l) (same_at m n (suc k) ps (λ j le. same j (omega arith))))

-- The place of the lowest bit that is set comes first; m is the number n without it.
lowest_at : (m n k i : ℕ) (ps : List ℕ) → i < length ps → bit_at n (k + i) ≡ 1 → ((j : ℕ) → j < i → bit_at n (k + j) ≡ 0) → bit_at m (k + i) ≡ 0
    → ((j : ℕ) → j ≢ k + i → bit_at m j ≡ bit_at n j) → places_at n k ps ≡ get_or ps i 0 ∷ places_at m k ps
lowest_at m n k i [] lt set low gone others = absurd (omega arith)
lowest_at m n k zero (p ∷ ps) lt set low gone others =
    let here : k + 0 ≡ k = omega arith in
    let one : bit_at n k ≡ 1 = ap (bit_at n) (sym here) ∙ set in
    let none : bit_at m k ≡ 0 = ap (bit_at m) (sym here) ∙ gone in
    rw (one, none) (ap (λ l. p ∷ l) (same_at n m (suc k) ps (λ j le. sym (others j (λ same. above j le (same ∙ here))))))
  where
    above : (j : ℕ) → suc k ≤ j → j ≡ k → ⊥
    above j le same = omega arith
lowest_at m n k (suc i) (p ∷ ps) lt set low gone others =
    let here : k + 0 ≡ k = omega arith in
    let next : k + suc i ≡ suc k + i = omega arith in
    let off : bit_at n k ≡ 0 = ap (bit_at n) (sym here) ∙ low 0 (omega arith) in
    let unset : bit_at m k ≡ 0 = others k (λ same. below (same ∙ next)) ∙ off in
    rw (off, unset)
    (lowest_at m n (suc k) i ps (omega arith) (ap (bit_at n) (sym next) ∙ set)
    (λ j lt. let after : k + suc j ≡ suc k + j = omega arith in ap (bit_at n) (sym after) ∙ low (suc j) (omega arith))
    (ap (bit_at m) (sym next) ∙ gone) (λ j other. others j (λ same. other (same ∙ next))))
  where
    below : k ≡ suc k + i → ⊥
    below same = omega arith

pub first_at : (n : ℕ) (ps : List ℕ) → 0 < n → n < 2 ^ 64 → HasBits (length ps) n
    → (trailing_zeros w64 n < length ps) × (places_at n 0 ps ≡ get_or ps (trailing_zeros w64 n) 0 ∷ places_at (without n (trailing_zeros w64 n)) 0 ps)
first_at n ps some small bits =
    let t = note_granted n some small in
    let within = bit_within (length ps) n (trailing_zeros w64 n) bits t.1 in
    let same : (j : ℕ) → 0 + j ≡ j = λ j. omega arith in (
      within,
      lowest_at (without n (trailing_zeros w64 n)) n 0 (trailing_zeros w64 n) ps within (ap (bit_at n) (same (trailing_zeros w64 n)) ∙ t.1)
          (λ j lt. ap (bit_at n) (same j) ∙ t.2 j lt) (ap (bit_at (without n (trailing_zeros w64 n))) (same (trailing_zeros w64 n)) ∙ t.4)
          (λ j other. t.5 j (λ is. other (is ∙ sym (same (trailing_zeros w64 n))))),
    )

-- what is left has no more bits
pub bits_left : (len n : ℕ) → 0 < n → n < 2 ^ 64 → HasBits len n → HasBits len (without n (trailing_zeros w64 n))
bits_left len n some small bits =
    let t = note_granted n some small in
    λ j past.
    elim (cases_eq j (trailing_zeros w64 n)) [
      | inl same ↦ ap (bit_at (without n (trailing_zeros w64 n))) same ∙ t.4
      | inr other ↦ t.5 j other ∙ bits j past
    ]

-- The places before and those that are left make all; one goes over; and in the end none is left.
longer : (xs : List ℕ) (p : ℕ) (ys : List ℕ) → length xs < length (xs ++ p ∷ ys)
longer [] p ys = omega arith
longer (x ∷ xs) p ys = let rest = longer xs p ys in omega arith

pub room_at : (n left : ℕ) (held ps : List ℕ) → 0 < left → left < 2 ^ 64 → HasBits (length ps) left → held ++ places_at left 0 ps ≡ places_at n 0 ps → length held < length ps
room_at n left held ps some small bits all =
    let first = first_at left ps some small bits in
    let more : length held < length (places_at n 0 ps) =
    subst (λ l. length held < length l) (ap (λ l. held ++ l) (sym first.1) ∙ all) (longer held (get_or ps (trailing_zeros w64 left) 0) (places_at (without left (trailing_zeros w64 left)) 0 ps)) in
    let few = few_at n 0 ps in
    omega arith

pub next_at : (n left : ℕ) (held ps : List ℕ) → 0 < left → left < 2 ^ 64 → HasBits (length ps) left → held ++ places_at left 0 ps ≡ places_at n 0 ps
    → (held ++ get_or ps (trailing_zeros w64 left) 0 ∷ []) ++ places_at (without left (trailing_zeros w64 left)) 0 ps ≡ places_at n 0 ps
next_at n left held ps some small bits all =
    let first = first_at left ps some small bits in
    append_assoc held (get_or ps (trailing_zeros w64 left) 0 ∷ []) (places_at (without left (trailing_zeros w64 left)) 0 ps)
    ∙ ap (λ l. held ++ l) (sym first.1) ∙ all

pub end_at : (n left : ℕ) (held ps : List ℕ) → left ≡ 0 → held ++ places_at left 0 ps ≡ places_at n 0 ps → held ≡ places_at n 0 ps
end_at n left held ps none all =
    sym (append-nil held) ∙ ap (λ l. held ++ l) (sym (none_at left 0 ps (λ j. ap (λ m. bit_at m j) none ∙ bit_at-zero j))) ∙ all

-- of an only bit there is one place
pub one_at : (n i : ℕ) (ps : List ℕ) → IsOnlyBit n i → HasBits (length ps) n → (i < length ps) × (places_at n 0 ps ≡ get_or ps i 0 ∷ [])
one_at n i ps only bits =
    let within = bit_within (length ps) n i bits only.0 in
    let same : (j : ℕ) → 0 + j ≡ j = λ j. omega arith in (
      within,
      lowest_at 0 n 0 i ps within (ap (bit_at n) (same i) ∙ only.0) (λ j lt. ap (bit_at n) (same j) ∙ only.1 j (below j lt)) (bit_at-zero (0 + i))
          (λ j other. bit_at-zero j ∙ sym (only.1 j (λ is. other (is ∙ sym (same i)))))
          ∙ ap (λ l. get_or ps i 0 ∷ l) (none_at 0 0 ps (λ j. bit_at-zero j)),
    )
  where
    below : (j : ℕ) → j < i → j ≡ i → ⊥
    below j lt same = omega arith

-- A number whose bits are those of a subscriber in the masks has the places that are marked.
turned_at : (j n k : ℕ) (ps ns : List ℕ) → length ns ≡ length ps → ((i : ℕ) → bit_at n (k + i) ≡ bit_at (get_or ns i 0) j) → places_at n k ps ≡ places_marked j ps ns
turned_at j n k [] ns same bits = refl
turned_at j n k (p ∷ ps) [] same bits = absurd (omega arith)
turned_at j n k (p ∷ ps) (m ∷ ns) same bits =
    let here : k + 0 ≡ k = omega arith in
    let first : bit_at n k ≡ bit_at m j = ap (bit_at n) (sym here) ∙ bits 0 in
    rw first (ap (λ l. (if nat_eq (bit_at m j) 1 then p ∷ [] else []) ++ l)
    (turned_at j n (suc k) ps ns (omega arith) (λ i. let next : k + suc i ≡ suc k + i = omega arith in ap (bit_at n) (sym next) ∙ bits (suc i))))

-- where each mask has the bit, all places are marked
pub all_marked : (j : ℕ) (ps ns : List ℕ) → length ns ≡ length ps → ((i : ℕ) → i < length ns → nat_eq (bit_at (get_or ns i 0) j) 1 ≡ true) → places_marked j ps ns ≡ ps
all_marked j [] ns same set = refl
all_marked j (p ∷ ps) [] same set = absurd (omega arith)
all_marked j (p ∷ ps) (n ∷ ns) same set =
    rw (set 0 (omega arith)) (ap (λ l. p ∷ l) (all_marked j ps ns (omega arith) (λ i lt. set (suc i) (omega arith))))

-- a bit that two numbers share is set in both
pub both_set : (a b j : ℕ) → nat_eq (bit_at (bit_and a b) j) 1 ≡ true → (nat_eq (bit_at a j) 1 ≡ true) × (nat_eq (bit_at b j) 1 ≡ true)
both_set a b j set = by (bit_at a j) (bit_at b j) (bit_at-lt a j) (bit_at-lt b j) (sym (ap (λ n. nat_eq n 1) (bit_at_and a b j)) ∙ set)
  where
    by : (m n : ℕ) → m < 2 → n < 2 → nat_eq (min m n) 1 ≡ true → (nat_eq m 1 ≡ true) × (nat_eq n 1 ≡ true)
    by zero zero first second set = absurd (true≢false (sym set))
    by zero (suc zero) first second set = absurd (true≢false (sym set))
    by (suc zero) zero first second set = absurd (true≢false (sym set))
    by (suc zero) (suc zero) first second set = (refl, refl)
    by zero (suc (suc n)) first second set = absurd (omega arith)
    by (suc zero) (suc (suc n)) first second set = absurd (omega arith)
    by (suc (suc m)) n first second set = absurd (omega arith)

-- one more mask
mask_last : (ns : List ℕ) (n : ℕ) → get_or (ns ++ n ∷ []) (length ns) 0 ≡ n
mask_last [] n = refl
mask_last (m ∷ ns) n = mask_last ns n

mask_before : (ns : List ℕ) (n i : ℕ) → i ≢ length ns → get_or (ns ++ n ∷ []) i 0 ≡ get_or ns i 0
mask_before [] n zero other = absurd (other refl)
mask_before [] n (suc i) other = refl
mask_before (m ∷ ns) n zero other = refl
mask_before (m ∷ ns) n (suc i) other = mask_before ns n i (λ same. other (ap suc same))

pub more_masks : (ns : List ℕ) (n : ℕ) → length (ns ++ n ∷ []) ≡ length ns + 1
more_masks [] n = omega arith
more_masks (m ∷ ns) n = let rest = more_masks ns n in omega arith

pub common_next : (granted_all n : ℕ) (ns : List ℕ) → AreGrantedAll granted_all ns → AreGrantedAll (bit_and granted_all n) (ns ++ n ∷ [])
common_next granted_all n ns all = λ j set i lt.
    let both = both_set granted_all n j set in
    elim (cases_eq i (length ns)) [
      | inl same ↦ subst (λ k. nat_eq (bit_at (get_or (ns ++ n ∷ []) k 0) j) 1 ≡ true) (sym same) (subst (λ m. nat_eq (bit_at m j) 1 ≡ true) (sym (mask_last ns n)) both.1)
      | inr other ↦ subst (λ m. nat_eq (bit_at m j) 1 ≡ true) (sym (mask_before ns n i other)) (all j both.0 i (omega (arith, lt, other, more_masks ns n)))
    ]

pub alone_next : (granted_some granted_all n : ℕ) (ns : List ℕ) → n < 2 ^ 64 → IsAlone granted_some granted_all ns → IsAlone (bit_or granted_some n) (bit_and granted_all n) (ns ++ n ∷ [])
alone_next granted_some granted_all n [] small alone =
    rw (alone.0, alone.1) (sym (and_comm (2 ^ 64 - 1) n ∙ and_mask n 64 ∙ same))
  where
    same : n % 2 ^ 64 ≡ n
    same = omega (arith, small)
alone_next granted_some granted_all n (m ∷ []) small alone = tt
alone_next granted_some granted_all n (m ∷ k ∷ ns) small alone = tt

pub alone_end : (granted_some granted_all : ℕ) (ns : List ℕ) → IsAlone granted_some granted_all ns → length ns ≡ 1 → granted_some ≡ granted_all
alone_end granted_some granted_all [] alone one = absurd (omega (arith, one))
alone_end granted_some granted_all (n ∷ []) alone one = alone
alone_end granted_some granted_all (n ∷ m ∷ ns) alone one = absurd (omega (arith, one))

-- one more mask is turned: its bit is set in the numbers of its holders among some subscribers
pub turned_next : (some n : ℕ) (ns old new : List ℕ) → AreGranted some ns old
    → ((j : ℕ) → bit_at (bit_and n some) j ≡ 1 → bit_at (get_or new j 0) (length ns) ≡ 1)
    → ((j : ℕ) → bit_at (bit_and n some) j ≡ 0 → get_or new j 0 ≡ get_or old j 0)
    → ((j i : ℕ) → i ≢ length ns → bit_at (get_or new j 0) i ≡ bit_at (get_or old j 0) i) → AreGranted some (ns ++ n ∷ []) new
turned_next some n ns old new granted_blocks set unset others = λ j one i.
    elim (cases_eq i (length ns)) [
      | inl same ↦ ap (bit_at (get_or new j 0)) same ∙ here j one ∙ ap (λ m. bit_at m j) (sym (mask_last ns n)) ∙ ap (λ k. bit_at (get_or (ns ++ n ∷ []) k 0) j) (sym same)
      | inr other ↦ others j i other ∙ granted_blocks j one i ∙ ap (λ m. bit_at m j) (sym (mask_before ns n i other))
    ]
  where
    holder : (j : ℕ) → bit_at some j ≡ 1 → bit_at (bit_and n some) j ≡ bit_at n j
    holder j one = bit_at_and n some j ∙ (let small = bit_at-lt n j in omega (arith, one, small))

    here : (j : ℕ) → bit_at some j ≡ 1 → bit_at (get_or new j 0) (length ns) ≡ bit_at n j
    here j one = by (bit_at n j) (bit_at-lt n j) refl
      where
        by : (b : ℕ) → b < 2 → bit_at n j ≡ b → bit_at (get_or new j 0) (length ns) ≡ b
        by zero small is =
            ap (λ m. bit_at m (length ns)) (unset j (holder j one ∙ is)) ∙ granted_blocks j one (length ns)
            ∙ ap (λ m. bit_at m j) (get_or_past ns (length ns) 0 (omega arith)) ∙ bit_at-zero j
        by (suc zero) small is = set j (holder j one ∙ is)
        by (suc (suc b)) small is = absurd (omega arith)

pub turned_block : (some n block : ℕ) (ns old new : List ℕ) → block ≡ length ns → AreGranted some ns old
    → ((j : ℕ) → bit_at (bit_and n some) j ≡ 1 → bit_at (get_or new j 0) block ≡ 1)
    → ((j : ℕ) → bit_at (bit_and n some) j ≡ 0 → get_or new j 0 ≡ get_or old j 0)
    → ((j i : ℕ) → i ≢ block → bit_at (get_or new j 0) i ≡ bit_at (get_or old j 0) i) → AreGranted some (ns ++ n ∷ []) new
turned_block some n block ns old new is granted_blocks there unset others =
    turned_next some n ns old new granted_blocks (λ j one. ap (bit_at (get_or new j 0)) (sym is) ∙ there j one) unset (λ j i other. others j i (λ same. other (same ∙ is)))

-- no mask is turned
pub turned_none : (some : ℕ) (new : List ℕ) → ((j : ℕ) → get_or new j 0 ≡ 0) → AreGranted some [] new
turned_none some new zeros = λ j one i. ap (λ m. bit_at m i) (zeros j) ∙ bit_at-zero i ∙ sym (bit_at-zero j)

pub zeros_at : (n j : ℕ) → ◌≡◌ {A = ℕ} (get_or (replicate n 0) j 0) 0
zeros_at zero j = refl
zeros_at (suc n) zero = refl
zeros_at (suc n) (suc j) = zeros_at n j

-- one number is written
number_same : (xs : List ℕ) (i n j : ℕ) → i < length xs → j ≡ i → get_or (set xs i n) j 0 ≡ n
number_same xs i n j lt same = ap (λ k. get_or (set xs i n) k 0) same ∙ get_or-set_same xs i n 0 lt

number_other : (xs : List ℕ) (i n j : ℕ) → j ≢ i → get_or (set xs i n) j 0 ≡ get_or xs j 0
number_other xs i n j other = get_or-set_other xs i j n 0 other

pub masks_next : (masks : List ℕ) (bs : List (ℕ × Option Refusal)) (k : ℕ) (d : ℕ × Option Refusal) → k < length bs
    → masks_taken masks (take (k + 1) bs) ≡ masks_taken masks (take k bs) ++ mask_where (get_or bs k d).1 (get_or masks (get_or bs k d).0 0)
masks_next masks bs k d lt = rw add-one (by bs k lt)
  where
    by : (bs : List (ℕ × Option Refusal)) (k : ℕ) → k < length bs
        → masks_taken masks (take (suc k) bs) ≡ masks_taken masks (take k bs) ++ mask_where (get_or bs k d).1 (get_or masks (get_or bs k d).0 0)
    by [] k lt = absurd (omega arith)
    by (b ∷ bs) zero lt = one b.1
      where
        one : (o : Option Refusal) → mask_where o (get_or masks b.0 0) ++ masks_taken masks (take 0 bs) ≡ mask_where o (get_or masks b.0 0)
        one None = refl
        one (Some r) = refl
    by (b ∷ bs) (suc k) lt =
        ap (λ l. mask_where b.1 (get_or masks b.0 0) ++ l) (by bs k (omega arith))
        ∙ sym (append_assoc (mask_where b.1 (get_or masks b.0 0)) (masks_taken masks (take k bs)) (mask_where (get_or bs k d).1 (get_or masks (get_or bs k d).0 0)))

-- one holder's number gets a block's bit
module _ (holders left block i : ℕ) (old granted_blocks : List ℕ) (lt : i < length granted_blocks) (small : block < 16) (granted : bit_at holders i ≡ 1)
    (others : (j : ℕ) → j ≢ i → bit_at (without left i) j ≡ bit_at left j) where
  pub number_set : ((j : ℕ) → bit_at holders j ≡ 1 → bit_at left j ≡ 0 → bit_at (get_or granted_blocks j 0) block ≡ 1)
      → (j : ℕ) → bit_at holders j ≡ 1 → bit_at (without left i) j ≡ 0 → bit_at (get_or (set granted_blocks i (bit_or (get_or granted_blocks i 0) (1 * 2 ^ block % 2 ^ 16))) j 0) block ≡ 1
  number_set done j one off =
      elim (cases_eq j i) [
        | inl same ↦ ap (λ m. bit_at m block) (number_same granted_blocks i (bit_or (get_or granted_blocks i 0) (1 * 2 ^ block % 2 ^ 16)) j lt same) ∙ bit_at_set_same w16 (get_or granted_blocks i 0) block small
        | inr other ↦ ap (λ m. bit_at m block) (number_other granted_blocks i (bit_or (get_or granted_blocks i 0) (1 * 2 ^ block % 2 ^ 16)) j other) ∙ done j one (sym (others j other) ∙ off)
      ]

  pub number_unset : ((j : ℕ) → bit_at holders j ≡ 0 → get_or granted_blocks j 0 ≡ get_or old j 0)
      → (j : ℕ) → bit_at holders j ≡ 0 → get_or (set granted_blocks i (bit_or (get_or granted_blocks i 0) (1 * 2 ^ block % 2 ^ 16))) j 0 ≡ get_or old j 0
  number_unset kept j off =
      let other : j ≢ i = λ same. one_zero (bit_at holders i) granted (ap (bit_at holders) (sym same) ∙ off) in
      number_other granted_blocks i (bit_or (get_or granted_blocks i 0) (1 * 2 ^ block % 2 ^ 16)) j other ∙ kept j off

  pub number_others : ((j k : ℕ) → k ≢ block → bit_at (get_or granted_blocks j 0) k ≡ bit_at (get_or old j 0) k)
      → (j k : ℕ) → k ≢ block → bit_at (get_or (set granted_blocks i (bit_or (get_or granted_blocks i 0) (1 * 2 ^ block % 2 ^ 16))) j 0) k ≡ bit_at (get_or old j 0) k
  number_others kept j k apart =
      elim (cases_eq j i) [
        | inl same ↦ ap (λ m. bit_at m k) (number_same granted_blocks i (bit_or (get_or granted_blocks i 0) (1 * 2 ^ block % 2 ^ 16)) j lt same)
            ∙ bit_at_set_other w16 (get_or granted_blocks i 0) block small k apart ∙ kept i k apart ∙ ap (λ m. bit_at (get_or old m 0) k) (sym same)
        | inr other ↦ ap (λ m. bit_at m k) (number_other granted_blocks i (bit_or (get_or granted_blocks i 0) (1 * 2 ^ block % 2 ^ 16)) j other) ∙ kept j k apart
      ]

-- a bit that is set in one number and not in another
pub between : (granted_some granted_all j : ℕ) → granted_some < 2 ^ 64 → granted_all < 2 ^ 64 → bit_at granted_some j ≡ 1 → nat_eq (bit_at granted_all j) 1 ≡ false → bit_at (bit_and granted_some (bit_not w64 granted_all)) j ≡ 1
between granted_some granted_all j small less granted part =
    elim (cases_lt j 64) [
      | inl low ↦ (let off = unset_bit (bit_at granted_all j) (bit_at-lt granted_all j) part in omega (arith, granted, bit_at_and granted_some (bit_not w64 granted_all) j, bit_at_not w64 granted_all j less low, off))
      | inr high ↦ absurd (one_zero (bit_at granted_some j) granted (bit_at_above granted_some 64 j small high))
    ]
  where
    unset_bit : (b : ℕ) → b < 2 → nat_eq b 1 ≡ false → b ≡ 0
    unset_bit zero small not_one = refl
    unset_bit (suc zero) small not_one = absurd (true≢false not_one)
    unset_bit (suc (suc b)) small not_one = absurd (omega arith)

pub taken_if : (o : Option Refusal) (b : Bool) → is_some o ≡ not b → b ≡ true → o ≡ None
taken_if None b is true_is = refl
taken_if (Some r) true is true_is = absurd (true≢false is)
taken_if (Some r) false is true_is = absurd (true≢false (sym true_is))

pub refused_if : (o : Option Refusal) (b : Bool) → is_some o ≡ not b → b ≡ false → o ≡ None → ⊥
refused_if None true is false_is none = true≢false false_is
refused_if None false is false_is none = true≢false (sym is)
refused_if (Some r) b is false_is none = some_none none
  where
    some_none : Some r ≡ None → ⊥
    some_none e = cc

-- one more block, which was taken or refused
all_next : {X : Type 0} (P : X → Type 0) (xs : List X) (k : ℕ) → k < length xs → All P (take k xs) → ((d : X) → P (get_or xs k d)) → All P (take (k + 1) xs)
all_next P xs k lt all here = λ i d at.
    let within : i < k + 1 = subst (λ n. i < n) (length-take-le (k + 1) xs (omega arith)) at in
    subst P (sym (get_or-take (k + 1) xs i d within))
    (elim (cases_lt i k) [
      | inl low ↦ subst P (get_or-take k xs i d low) (all i d (subst (λ n. i < n) (sym (length-take-le k xs (omega arith))) low))
      | inr high ↦ (let same : k ≡ i = omega (arith, within, high) in subst (λ n. P (get_or xs n d)) same (here d))
    ])

module _ (masks : List ℕ) (bs : List (ℕ × Option Refusal)) (k : ℕ) (lt : k < length bs) where
  pub covers_taken : (granted_some : ℕ) → ((j : ℕ) → bit_at granted_some j ≡ 0 → All (λ b. b.1 ≡ None → bit_at (get_or masks b.0 0) j ≡ 0) (take k bs))
      → (j : ℕ) → bit_at (bit_or granted_some (get_or masks (get_or bs k (0, None)).0 0)) j ≡ 0 → All (λ b. b.1 ≡ None → bit_at (get_or masks b.0 0) j ≡ 0) (take (k + 1) bs)
  covers_taken granted_some covers j unset =
      let both = bit_at_or granted_some (get_or masks (get_or bs k (0, None)).0 0) j in
      all_next (λ b. b.1 ≡ None → bit_at (get_or masks b.0 0) j ≡ 0) bs k lt (covers j (omega (arith, both, unset)))
      (λ d none. ap (λ (b : ℕ × Option Refusal). bit_at (get_or masks b.0 0) j) (get_or_default bs k d (0, None) lt) ∙ omega (arith, both, unset))

  pub covers_refused : (granted_some : ℕ) → ((get_or bs k (0, None)).1 ≡ None → ⊥) → ((j : ℕ) → bit_at granted_some j ≡ 0 → All (λ b. b.1 ≡ None → bit_at (get_or masks b.0 0) j ≡ 0) (take k bs))
      → (j : ℕ) → bit_at granted_some j ≡ 0 → All (λ b. b.1 ≡ None → bit_at (get_or masks b.0 0) j ≡ 0) (take (k + 1) bs)
  covers_refused granted_some refused covers j unset =
      all_next (λ b. b.1 ≡ None → bit_at (get_or masks b.0 0) j ≡ 0) bs k lt (covers j unset)
      (λ d none. absurd (refused (ap (λ (b : ℕ × Option Refusal). b.1) (sym (get_or_default bs k d (0, None) lt)) ∙ none)))

  pub none_more : (granted_some : ℕ) → ((j : ℕ) → All (λ b. bit_at (get_or masks b.0 0) j ≡ 0) bs → bit_at granted_some j ≡ 0)
      → (j : ℕ) → All (λ b. bit_at (get_or masks b.0 0) j ≡ 0) bs → bit_at (bit_or granted_some (get_or masks (get_or bs k (0, None)).0 0)) j ≡ 0
  none_more granted_some none j all =
      let here : bit_at (get_or masks (get_or bs k (0, None)).0 0) j ≡ 0 = all k (0, None) lt in
      omega (arith, bit_at_or granted_some (get_or masks (get_or bs k (0, None)).0 0) j, here, none j all)

  pub masks_more : (get_or bs k (0, None)).1 ≡ None → masks_taken masks (take (k + 1) bs) ≡ masks_taken masks (take k bs) ++ get_or masks (get_or bs k (0, None)).0 0 ∷ []
  masks_more none = masks_next masks bs k (0, None) lt ∙ ap (λ o. masks_taken masks (take k bs) ++ mask_where o (get_or masks (get_or bs k (0, None)).0 0)) none

  pub masks_same : ((get_or bs k (0, None)).1 ≡ None → ⊥) → masks_taken masks (take (k + 1) bs) ≡ masks_taken masks (take k bs)
  masks_same refused = masks_next masks bs k (0, None) lt ∙ by (get_or bs k (0, None)).1 refused
    where
      by : (o : Option Refusal) → (o ≡ None → ⊥) → masks_taken masks (take k bs) ++ mask_where o (get_or masks (get_or bs k (0, None)).0 0) ≡ masks_taken masks (take k bs)
      by None refused = absurd (refused refl)
      by (Some r) refused = append-nil (masks_taken masks (take k bs))

-- The masks of the PMUs whose blocks were taken are theirs.
module _ (pmus : Pmus) (last : Option ℕ) (soc : ℕ) (xs : List (ℕ × SlotValue)) (masks : List ℕ) (all : AreMasks xs (keys_of pmus) masks) where
  mask_is : (key : PmuKey) (place : ℕ) → registry.place_in pmus key ≡ Some place → IsMask xs key (get_or masks place 0)
  mask_is key place found =
      let there = position-Some (key_eq key) (keys_of pmus) place key found in
      let same : key ≡ get_or (keys_of pmus) place key = same_of_eq key (get_or (keys_of pmus) place key) there.1 in
      subst (λ k. IsMask xs k (get_or masks place 0)) (sym same) (mask_at xs (keys_of pmus) masks all place key there.0)

  taken_masks : (samples : List Sample) (ps : List (ℕ × Option Refusal))
      → ArePlaced pmus ps (map (λ s. (s.key, sample_refusal pmus last soc s)) (filter (λ s. registry.has_key pmus s.key) samples))
      → AreMasks xs (map (λ s. s.key) (filter (is_taken pmus last soc) samples)) (masks_taken masks ps)
  taken_masks [] [] placed = tt
  taken_masks [] (p ∷ ps) placed = absurd placed
  taken_masks (s ∷ samples) ps placed = by (registry.has_key pmus s.key) (taken_masks samples) placed
    where
      one : (o : Option Refusal) (ps : List (ℕ × Option Refusal))
          → ((ps : List (ℕ × Option Refusal)) → ArePlaced pmus ps (map (λ s. (s.key, sample_refusal pmus last soc s)) (filter (λ s. registry.has_key pmus s.key) samples))
          → AreMasks xs (map (λ s. s.key) (filter (is_taken pmus last soc) samples)) (masks_taken masks ps))
          → ArePlaced pmus ps ((s.key, o) ∷ map (λ s. (s.key, sample_refusal pmus last soc s)) (filter (λ s. registry.has_key pmus s.key) samples))
          → AreMasks xs (map (λ s. s.key) (if not (is_some o) then s ∷ filter (is_taken pmus last soc) samples else filter (is_taken pmus last soc) samples)) (masks_taken masks ps)
      one o [] rest placed = absurd placed
      one None (p ∷ ps) rest placed = rw placed.2 (mask_is s.key p.0 placed.0, rest ps placed.3)
      one (Some r) (p ∷ ps) rest placed = rw placed.2 (rest ps placed.3)

      by : (b : Bool)
          → ((ps : List (ℕ × Option Refusal)) → ArePlaced pmus ps (map (λ s. (s.key, sample_refusal pmus last soc s)) (filter (λ s. registry.has_key pmus s.key) samples))
          → AreMasks xs (map (λ s. s.key) (filter (is_taken pmus last soc) samples)) (masks_taken masks ps))
          → ArePlaced pmus ps (map (λ s. (s.key, sample_refusal pmus last soc s)) (if b then s ∷ filter (λ s. registry.has_key pmus s.key) samples else filter (λ s. registry.has_key pmus s.key) samples))
          → AreMasks xs (map (λ s. s.key) (if b && not (is_some (sample_refusal pmus last soc s)) then s ∷ filter (is_taken pmus last soc) samples else filter (is_taken pmus last soc) samples)) (masks_taken masks ps)
      by true rest placed = one (sample_refusal pmus last soc s) ps rest placed
      by false rest placed = rest ps placed

-- Where the masks of these places' PMUs are theirs, there are as many, and they tell which of the places a subscriber holds.
module _ (m : Measurement) (xs : List (ℕ × SlotValue)) where
  taken_first : (p : ℕ) (ps ns : List ℕ) (part : Part) → slice_get m.config.parts p ≡ Some part → AreMasks xs (map (λ s. s.key) (samples_at m (p ∷ ps))) ns
      → AreMasks xs (key_in m.config part ∷ map (λ s. s.key) (samples_at m ps)) ns
  taken_first p ps ns part at are = subst (λ o. AreMasks xs (map (λ s. s.key) (sampled_part m p o ++ samples_at m ps)) ns) at are

  as_many : (least : ℕ) (places ns : List ℕ) → AreRising least (length m.config.parts) places → AreMasks xs (map (λ s. s.key) (samples_at m places)) ns → length ns ≡ length places
  as_many least [] [] rising are = refl
  as_many least [] (n ∷ ns) rising are = absurd are
  as_many least (p ∷ ps) ns rising are =
      let there = part_there m.config.parts p rising.1 in
      by there.0 ns (λ ns are. as_many (suc p) ps ns rising.2 are) (taken_first p ps ns there.0 there.1 are)
    where
      by : (part : Part) (ns : List ℕ) → ((ns : List ℕ) → AreMasks xs (map (λ s. s.key) (samples_at m ps)) ns → length ns ≡ length ps)
          → AreMasks xs (key_in m.config part ∷ map (λ s. s.key) (samples_at m ps)) ns → length ns ≡ suc (length ps)
      by part [] rest are = absurd are
      by part (n ∷ ns) rest are = ap suc (rest ns are.1)

  module _ (j : ℕ) (v : SlotValue) (at : slice_get (values_of xs) j ≡ Some v) where
    tells : (least : ℕ) (places ns : List ℕ) → AreRising least (length m.config.parts) places → AreMasks xs (map (λ s. s.key) (samples_at m places)) ns → MasksTell ns m.config places j v
    tells least [] ns rising are = refl
    tells least (p ∷ ps) ns rising are =
        let there = part_there m.config.parts p rising.1 in
        by there.0 there.1 ns (λ ns are. tells (suc p) ps ns rising.2 are) (taken_first p ps ns there.0 there.1 are)
      where
        passes : ℕ → Bool
        passes i = part_passes (has_key v.subscriber.own.grants) m.config (slice_get m.config.parts i)

        one : (b : Bool) (bit : ℕ) (ns : List ℕ) → bit ≡ (if b then 1 else 0) → places_marked j ps ns ≡ filter passes ps
            → (if nat_eq bit 1 then p ∷ [] else []) ++ places_marked j ps ns ≡ (if b then p ∷ filter passes ps else filter passes ps)
        one true bit ns is rest = rw is (ap (λ l. p ∷ l) rest)
        one false bit ns is rest = rw is rest

        by : (part : Part) → slice_get m.config.parts p ≡ Some part → (ns : List ℕ)
            → ((ns : List ℕ) → AreMasks xs (map (λ s. s.key) (samples_at m ps)) ns → MasksTell ns m.config ps j v)
            → AreMasks xs (key_in m.config part ∷ map (λ s. s.key) (samples_at m ps)) ns → MasksTell ns m.config (p ∷ ps) j v
        by part there [] rest are = absurd are
        by part there (n ∷ ns) rest are =
            one (passes p) (bit_at n j) ns
            (are.0 j ∙ ap (bit_of (key_in m.config part)) at ∙ ap (λ o. if part_passes (has_key v.subscriber.own.grants) m.config o then 1 else 0) (sym there))
            (rest ns are.1)

pub measured_told : (m : Measurement) (pmus : Pmus) (last : Option ℕ) (xs : List (ℕ × SlotValue)) (masks places : List ℕ) (ps : List (ℕ × Option Refusal))
    → AreMasks xs (keys_of pmus) masks → AreRising 0 (length m.config.parts) places → samples_at m places ≡ taken_of pmus last m → ArePlaced pmus ps (judged pmus last m)
    → (length (masks_taken masks ps) ≡ length places) × MasksTellAll (masks_taken masks ps) m.config places xs
measured_told m pmus last xs masks places ps all rising taken placed =
    let are : AreMasks xs (map (λ s. s.key) (samples_at m places)) (masks_taken masks ps) =
    subst (λ l. AreMasks xs (map (λ s. s.key) l) (masks_taken masks ps)) (sym taken) (taken_masks pmus last m.soc xs masks all (samples_in m) ps placed) in
    (as_many m xs 0 places (masks_taken masks ps) rising are, λ j v at. tells m xs j v at 0 places (masks_taken masks ps) rising are)

-- The bits of the whole and the numbers tell what each marked subscriber holds.
pub shares_told : (m : Measurement) (xs : List (ℕ × SlotValue)) (ns places : List ℕ) (granted_some granted_all : ℕ) (granted_blocks : List ℕ)
    → length ns ≡ length places → MasksTellAll ns m.config places xs → AreGrantedAll granted_all ns
    → ((j : ℕ) → bit_at granted_some j ≡ 1 → nat_eq (bit_at granted_all j) 1 ≡ false → (i : ℕ) → bit_at (get_or granted_blocks j 0) i ≡ bit_at (get_or ns i 0) j)
    → SharesTold granted_all granted_blocks m.config places granted_some xs
shares_told m xs ns places granted_some granted_all granted_blocks same told all some = λ j v at set. by j v (told j v at) set (nat_eq (bit_at granted_all j) 1) refl
  where
    by : (j : ℕ) (v : SlotValue) → MasksTell ns m.config places j v → bit_at granted_some j ≡ 1 → (b : Bool) → nat_eq (bit_at granted_all j) 1 ≡ b → TellsShare b (get_or granted_blocks j 0) m.config places v
    by j v tell granted true is = record {
      bits = λ no. absurd (true≢false no);
      held = sym (all_marked j places ns same (λ i lt. all j is i lt)) ∙ tell;
    }
    by j v tell granted false is = record {
      bits = λ _ i past. some j granted is i ∙ ap (λ n. bit_at n j) (get_or_past ns i 0 (omega (arith, past, same))) ∙ bit_at-zero j;
      held = turned_at j (get_or granted_blocks j 0) 0 places ns same (λ i. let zero_plus : 0 + i ≡ i = omega arith in ap (bit_at (get_or granted_blocks j 0)) zero_plus ∙ some j granted is i) ∙ tell;
    }

-- What is told of a subscriber is told of what it holds,
tells_own : (whole : Bool) (n : ℕ) (source : Source) (places : List ℕ) (old new : SlotValue) → new.subscriber.own ≡ old.subscriber.own → TellsShare whole n source places old → TellsShare whole n source places new
tells_own whole n source places old new own tell = record {
  bits = tell.bits;
  held = subst (λ (own : Own). places_held whole n places ≡ filter (λ k. part_passes (has_key own.grants) source (slice_get source.parts k)) places) (sym own) tell.held;
}

-- and stays so where one subscriber's copies were laid,
pub told_kept : (granted_all : ℕ) (granted_blocks : List ℕ) (source : Source) (places : List ℕ) (granted_some : ℕ) (xs : List (ℕ × SlotValue)) (i : ℕ) (old new : SlotValue)
    → slice_get (values_of xs) i ≡ Some old → new.subscriber.own ≡ old.subscriber.own → SharesTold granted_all granted_blocks source places granted_some xs
    → SharesTold granted_all granted_blocks source places granted_some (set_value_at xs i new)
told_kept granted_all granted_blocks source places granted_some xs i old new here own told = λ j v at set.
    elim (cases_eq j i) [
      | inl same ↦ subst (λ w. TellsShare (nat_eq (bit_at granted_all j) 1) (get_or granted_blocks j 0) source places w) (value_set_same xs i new v (ap (slice_get (values_of (set_value_at xs i new))) (sym same) ∙ at))
          (subst (λ k. TellsShare (nat_eq (bit_at granted_all k) 1) (get_or granted_blocks k 0) source places new) (sym same)
          (tells_own (nat_eq (bit_at granted_all i) 1) (get_or granted_blocks i 0) source places old new own (told i old here (ap (bit_at granted_some) (sym same) ∙ set))))
      | inr other ↦ told j v (sym (value_set_other xs i j new other) ∙ at) set
    ]

-- and of the subscribers that are left where one took its share.
pub told_left : (granted_all : ℕ) (granted_blocks : List ℕ) (source : Source) (places : List ℕ) (xs : List (ℕ × SlotValue)) (i : ℕ) (w : SlotValue) (old new : ℕ) → bit_at new i ≡ 0
    → ((j : ℕ) → j ≢ i → bit_at new j ≡ bit_at old j) → SharesTold granted_all granted_blocks source places old xs → SharesTold granted_all granted_blocks source places new (set_value_at xs i w)
told_left granted_all granted_blocks source places xs i w old new gone others told = λ j v at set.
    let other : j ≢ i = λ same. one_zero (bit_at new j) set (ap (bit_at new) same ∙ gone) in
    told j v (sym (value_set_other xs i j w other) ∙ at) (sym (others j other) ∙ set)

-- The places that are told are those of granted PMUs, and rise; there are some, but where there is no number. `inner` is what the
-- subscriber held before.
pub held_told : (whole : Bool) (n : ℕ) (source : Source) (places : List ℕ) (old inner : SlotValue) (items : List ℕ) → inner ≡ old → items ≡ places_held whole n places
    → TellsShare whole n source places old → items ≡ filter (λ i. part_passes (has_key inner.subscriber.own.grants) source (slice_get source.parts i)) places
held_told whole n source places old inner items is held tell = held ∙ (subst (λ (v : SlotValue). TellsShare whole n source places v) (sym is) tell).held

pub some_held : (n : ℕ) (places : List ℕ) → 0 < n → n < 2 ^ 64 → HasBits (length places) n → 0 < length (places_at n 0 places)
some_held n places some small bits =
    let first = first_at n places some small bits in
    subst (λ l. 0 < length l) (sym first.1) (omega arith)

pub none_held : (n : ℕ) (places : List ℕ) → n ≡ 0 → length (places_at n 0 places) ≡ 0
none_held n places none = ap (λ m. length (places_at m 0 places)) none ∙ ap length (none_at 0 0 places (λ j. bit_at-zero j))

pub rising_told : (source : Source) (places : List ℕ) (grants : List PmuKey) (items : List ℕ)
    → items ≡ filter (λ i. part_passes (has_key grants) source (slice_get source.parts i)) places
    → AreRising 0 (length source.parts) places → AreRising 0 (length source.parts) items
rising_told source places grants items held rising =
    rw held (rising-filter (λ i. part_passes (has_key grants) source (slice_get source.parts i)) 0 (length source.parts) places rising)
