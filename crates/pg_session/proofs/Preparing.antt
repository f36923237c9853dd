-- Copies that are laid one after another.
use Rattle.std.proofs.Common.{length-append, ◌≡◌, ℕ, zero, suc, ◌+◌, ◌<◌, ◌≤◌, All, List, [], ◌∷◌, ◌++◌, length, map, drop, get_or, slice_get, Option, Some, None, IfSome, true, if◌then◌else◌, refl, sym, ap, ap₂, ◌∙◌, arith}
use Rattle.std.proofs.lemmas.List.{drop_more, append_assoc, length-map}
use Rattle.pg_config.specs.Parts.{Part, Source, block_id}
use Rattle.pg_data.specs.Pieces.{Piece}
use Rattle.pg_data.specs.Measurements.{Measurement, block_of}
use Rattle.pg_align.specs.Slots.{Aligned}
use Rattle.pg_session.specs.Events.{Sample, config_of, announced_part, announced_at, sampled_part, samples_at}
use Rattle.pg_wire.specs.declared.ids.PmuKey.{PmuKey}
use Rattle.pg_outcfg.specs.Listing.{Listing}
use Rattle.pg_session.specs.Ready.{AreRising, ArePlaces, AreHeld}
use Rattle.pg_session.specs.Streams.{StreamOf, PlacedBlock, with_place, placed}
use Rattle.pg_session.specs.Fields.{AreListed}
use Rattle.pg_session.specs.Wanted.{piece_of_placed, wanted_of, all_wanted}
use Rattle.pg_session.proofs.Changing.{key_made}
use Rattle.pg_session.proofs.Putting.{part_at, one_announced}

-- one configuration more
pub prepared_next : (config : Source) (places : List ℕ) (k : ℕ) (part : Part) (front after whole : List Part) → k < length places
    → slice_get config.parts (get_or places k 0) ≡ Some part
    → after ≡ front ++ part ∷ []
    → front ++ map config_of (announced_at config (drop k places)) ≡ whole
    → after ++ map config_of (announced_at config (drop (k + 1) places)) ≡ whole
prepared_next config places k part front after whole h e a w =
    ap (λ xs. xs ++ map config_of (announced_at config (drop (k + 1) places))) a
    ∙ append_assoc front (part ∷ []) (map config_of (announced_at config (drop (k + 1) places)))
    ∙ ap (λ xs. front ++ xs) (sym next) ∙ w
  where
    next : map config_of (announced_at config (drop k places)) ≡ part ∷ map config_of (announced_at config (drop (k + 1) places))
    next = ap (λ ps. map config_of (announced_at config ps)) (drop_more places k 0 h)
        ∙ ap (map config_of) (one_announced config (slice_get config.parts (get_or places k 0)) part (announced_at config (drop (k + 1) places)) e)

-- one stream more
pub wanted_next : (streams : List (StreamOf (Aligned Piece))) (k : ℕ) (s : StreamOf (Aligned Piece)) (quality : ℕ) (samples : List Sample) (front after whole : List Piece)
    → k < length streams → get_or streams k s ≡ s
    → after ≡ front ++ wanted_of s quality samples
    → front ++ all_wanted (drop k streams) quality samples ≡ whole
    → after ++ all_wanted (drop (k + 1) streams) quality samples ≡ whole
wanted_next streams k s quality samples front after whole h e a w =
    ap (λ xs. xs ++ all_wanted (drop (k + 1) streams) quality samples) a
    ∙ append_assoc front (wanted_of s quality samples) (all_wanted (drop (k + 1) streams) quality samples)
    ∙ ap (λ xs. front ++ xs) (sym next) ∙ w
  where
    next : all_wanted (drop k streams) quality samples ≡ wanted_of s quality samples ++ all_wanted (drop (k + 1) streams) quality samples
    next = ap (λ ss. all_wanted ss quality samples) (drop_more streams k s h)
        ∙ ap (λ t. wanted_of t quality samples ++ all_wanted (drop (k + 1) streams) quality samples) e

-- places that rise below n are at most n
pub rising_few : (least n : ℕ) (places : List ℕ) → AreRising least n places → 0 < length places → least + length places ≤ n
rising_few least n [] r s = absurd (omega (arith, s))
rising_few least n (i ∷ []) r s = omega (arith, r.0, r.1)
rising_few least n (i ∷ j ∷ places) r s = omega (arith, rising_few (suc i) n (j ∷ places) r.2 (omega arith), r.0)

pub places_few : (n : ℕ) (places : List ℕ) → ArePlaces n places → length places ≤ n
places_few n places p = omega (arith, rising_few 0 n places p.rising p.some)

pub rising_within : (least n : ℕ) (places : List ℕ) → AreRising least n places → All (λ i. i < n) places
rising_within least n [] r k d h = absurd (omega (arith, h))
rising_within least n (i ∷ places) r k d h = by k h (rising_within (suc i) n places r.2)
  where
    by : (j : ℕ) → j < suc (length places) → All (λ x. x < n) places → get_or (i ∷ places) j d < n
    by zero l rest = r.1
    by (suc j) l rest = rest j d (omega (arith, l))

pub places_within : (n : ℕ) (places : List ℕ) → ArePlaces n places → All (λ i. i < n) places
places_within n places p = rising_within 0 n places p.rising

-- no copy is wanted of a block that is no member's
pub none_wanted : (rest others : List PlacedBlock) (o : Option ℕ) (piece : Piece) → rest ≡ with_place o piece others → length rest ≡ 0 → o ≡ None
none_wanted rest others None piece e z = refl
none_wanted rest others (Some place) piece e z = absurd (let n = ap length e in omega (arith, n, z))

pub empty_list : {X : Type 0} (xs : List X) → length xs ≡ 0 → xs ≡ []
empty_list [] e = refl
empty_list (x ∷ xs) e = absurd (omega (arith, e))

pub none_left : (front before : List Piece) (rest whole : List PlacedBlock) → front ++ map piece_of_placed rest ≡ before ++ map piece_of_placed whole → whole ≡ []
    → length before ≤ length front → length rest ≡ 0
none_left front before rest whole e empty h =
    let a = length-append front (map piece_of_placed rest) in
    let b = length-append before (map piece_of_placed whole) in
    let m = length-map rest piece_of_placed in
    let n = length-map whole piece_of_placed in
    let same = ap length e in
    let z = ap length empty in
    omega (arith, a, b, m, n, same, z, h)

-- nor of a stream that asks for none
pub none_of : (streams : List (StreamOf (Aligned Piece))) (k : ℕ) (s : StreamOf (Aligned Piece)) (quality : ℕ) (samples : List Sample) (front whole : List Piece)
    → k < length streams → get_or streams k s ≡ s → front ++ all_wanted (drop k streams) quality samples ≡ whole → whole ≡ []
    → wanted_of s quality samples ≡ []
none_of streams k s quality samples front whole h e w empty =
    let next : all_wanted (drop k streams) quality samples ≡ wanted_of s quality samples ++ all_wanted (drop (k + 1) streams) quality samples =
    ap (λ ss. all_wanted ss quality samples) (drop_more streams k s h)
    ∙ ap (λ t. wanted_of t quality samples ++ all_wanted (drop (k + 1) streams) quality samples) e in
    let a = length-append front (all_wanted (drop k streams) quality samples) in
    let b = length-append (wanted_of s quality samples) (all_wanted (drop (k + 1) streams) quality samples) in
    let same = ap length w in
    let z = ap length empty in
    let n = ap length next in
    empty_list (wanted_of s quality samples) (omega (arith, a, b, same, z, n))

pub on_wanted : (s : StreamOf (Aligned Piece)) (quality : ℕ) (samples : List Sample) → s.slots.is_on ≡ true → wanted_of s quality samples ≡ []
    → placed s.definition.members quality samples ≡ []
on_wanted s quality samples on e =
    let wanted : map piece_of_placed (placed s.definition.members quality samples) ≡ [] =
    sym (ap (λ b. if b then map piece_of_placed (placed s.definition.members quality samples) else []) on) ∙ e in
    let n = ap length wanted in
    let m = length-map (placed s.definition.members quality samples) piece_of_placed in
    empty_list (placed s.definition.members quality samples) (omega (arith, n, m))

-- blocks of PMUs that have a configuration
pub held_listed : (grants : List PmuKey) (listed : Listing) (samples : List Sample) → AreHeld grants listed samples → AreListed listed samples
held_listed grants listed [] h = tt
held_listed grants listed (s ∷ samples) h = (rw h.1 refl, held_listed grants listed samples h.2)

-- the next announcement, and the next block, of which the key is known
pub announced_next : (config : Source) (places : List ℕ) (k : ℕ) (x : PmuKey) → k < length places → get_or places k 0 < length config.parts
    → x.source ≡ config.source → IfSome (slice_get config.parts (get_or places k 0)) (λ p. x.pmu ≡ block_id p.block)
    → (part : Part) × (announced_at config (drop k places) ≡ record { key = x; config = part } ∷ announced_at config (drop (k + 1) places))
announced_next config places k x h l s p =
    let part = part_at config.parts (get_or places k 0) l in (
      part.0,
      ap (announced_at config) (drop_more places k 0 h)
          ∙ one (slice_get config.parts (get_or places k 0)) part.0 part.1 p,
    )
  where
    one : (o : Option Part) (part : Part) → o ≡ Some part → IfSome o (λ q. x.pmu ≡ block_id q.block)
        → announced_part config o ++ announced_at config (drop (k + 1) places) ≡ record { key = x; config = part } ∷ announced_at config (drop (k + 1) places)
    one None part e q = absurd (cc e)
    one (Some y) part e q =
        let same : y ≡ part = cc e in
        ap (λ (key : PmuKey). record { key = key; config = y } ∷ announced_at config (drop (k + 1) places)) (sym (key_made s q))
        ∙ ap (λ (c : Part). record { key = x; config = c } ∷ announced_at config (drop (k + 1) places)) same

pub sampled_next : (m : Measurement) (places : List ℕ) (k : ℕ) (x : PmuKey) (part : Part) → k < length places
    → slice_get m.config.parts (get_or places k 0) ≡ Some part
    → x.source ≡ m.config.source → IfSome (slice_get m.config.parts (get_or places k 0)) (λ p. x.pmu ≡ block_id p.block)
    → samples_at m (drop k places) ≡ record { key = x; config = part; block = block_of m (get_or places k 0) } ∷ samples_at m (drop (k + 1) places)
sampled_next m places k x part h e s p =
    ap (samples_at m) (drop_more places k 0 h) ∙ one (slice_get m.config.parts (get_or places k 0)) e p
  where
    i : ℕ
    i = get_or places k 0

    one : (o : Option Part) → o ≡ Some part → IfSome o (λ q. x.pmu ≡ block_id q.block)
        → sampled_part m i o ++ samples_at m (drop (k + 1) places) ≡ record { key = x; config = part; block = block_of m i } ∷ samples_at m (drop (k + 1) places)
    one None f q = absurd (cc f)
    one (Some y) f q =
        let same : y ≡ part = cc f in
        ap (λ (key : PmuKey). record { key = key; config = y; block = block_of m i } ∷ samples_at m (drop (k + 1) places)) (sym (key_made s q))
        ∙ ap (λ (c : Part). record { key = x; config = c; block = block_of m i } ∷ samples_at m (drop (k + 1) places)) same

-- two lists that agree at each place are one
pub same_lists : {X : Type 0} (xs ys : List X) → length xs ≡ length ys → ((k : ℕ) → k < length xs → slice_get xs k ≡ slice_get ys k) → xs ≡ ys
same_lists [] [] n each = refl
same_lists [] (y ∷ ys) n each = absurd (omega (arith, n))
same_lists (x ∷ xs) [] n each = absurd (omega (arith, n))
same_lists (x ∷ xs) (y ∷ ys) n each =
    let first : x ≡ y = (let e : Some x ≡ Some y = each 0 (omega arith) in cc e) in
    ap₂ (λ z zs. z ∷ zs) first (same_lists xs ys (omega (arith, n)) (λ k h. each (suc k) (omega (arith, h))))

-- what one stream asks for, in front of what the others do
pub wanted_split : (streams : List (StreamOf (Aligned Piece))) (k : ℕ) (s : StreamOf (Aligned Piece)) (quality : ℕ) (samples : List Sample)
    → k < length streams → get_or streams k s ≡ s
    → all_wanted (drop k streams) quality samples ≡ wanted_of s quality samples ++ all_wanted (drop (k + 1) streams) quality samples
wanted_split streams k s quality samples h e =
    ap (λ ss. all_wanted ss quality samples) (drop_more streams k s h)
    ∙ ap (λ t. wanted_of t quality samples ++ all_wanted (drop (k + 1) streams) quality samples) e
