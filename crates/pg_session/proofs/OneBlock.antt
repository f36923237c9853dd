-- A frame's only block: copies of it lie ready, and it arrives at each stream that has it as a member's.
use Rattle.std.proofs.Common.{length-append, All, ◌≡◌, ◌⊎◌, inl, inr, ℕ, zero, suc, ◌+◌, ◌-◌, ◌<◌, ◌≤◌, ◌&&◌, ◌||◌, ◌==◌, not, nat_lt, List, [], ◌∷◌, ◌++◌, length, map, take, drop, replicate, get_or, slice_get, slice_set, slice_index_or, Bool, true, false, if◌then◌else◌, Option, Some, None, IfSome, is_some, Ok, refl, sym, ap, ap₂, ◌∙◌, subst, arith}
use Rattle.std.proofs.lemmas.Grind.{common_steps}
use Rattle.std.proofs.lemmas.List.{drop_more, length-map, length-set, length-replicate, take-replicate, replicate-append-replicate}
use Rattle.circular_buffer.specs.Buffer.{last_item}
use Rattle.pg_wire.specs.declared.ids.PmuKey.{PmuKey}
use Rattle.pg_config.specs.Parts.{block_id}
use Rattle.pg_data.specs.Measurements.{Measurement, IsMeasurement, block_of}
use Rattle.pg_data.specs.Pieces.{Piece, piece_of}
use Rattle.pg_audit.specs.declared.counters.Stats.{Stats}
use Rattle.pg_align.specs.declared.answer.Arrived.{Arrived}
use Rattle.pg_align.specs.declared.answer.Arrived.TheVariants.{Kept, Late, Twice}
use Rattle.pg_align.specs.Histories.{is_above}
use Rattle.pg_align.specs.Slots.{Aligned, OpenSlot, with_last, with_late, head_with}
use Rattle.pg_session.proofs.Simulating.{AreWithin}
use Rattle.pg_outcfg.specs.Listing.{Listing}
use Rattle.pg_stream.specs.Slots.{slot_at}
use Rattle.pg_session.specs.Events.{Sample, key_in, measure, samples_at, sampled_part}
use Rattle.pg_session.specs.Streams.{StreamOf, Turn, PlacedBlock, placed, place_of, with_place, is_late, is_twice, arrival_turn, slot_frame, still, base_of}
use Rattle.pg_session.specs.Output.{all_ignored}
use Rattle.pg_session.specs.Kept.{by_slots}
use Rattle.pg_session.specs.Ready.{ArePlaces, IsReady}
use Rattle.pg_session.specs.Fields.{one_ignored, kept_of, all_kept, Serving}
use Rattle.pg_session.specs.Filling.{are_all, can_leave, fills, all_fill, may_keep, is_full, count_keeping, IsSpread, IsPreparedFor}
use Rattle.pg_session.specs.Shown.{SubscriberValue}
use Rattle.pg_session.specs.Wanted.{piece_of_placed, wanted_of, all_wanted}
use Rattle.pg_session.proofs.Arrivals.{placed_next}
use Rattle.pg_session.proofs.Filled.{count_came, came_some, came_none, zero_of}
use Rattle.pg_session.proofs.Putting.{part_at}

abbrev OneStream : Type 0
OneStream = StreamOf (Aligned Piece)

-- the block as it is placed: at the place of its member, if it has one
pub one_block : (m : Measurement) (members : List PmuKey) (x : PmuKey) (place : ℕ) (o : Option ℕ) → IsMeasurement m → place < length m.config.parts
    → x.source ≡ m.source → IfSome (slice_get m.config.parts place) (λ p. x.pmu ≡ block_id p.block) → place_of members x ≡ o
    → placed members m.quality (samples_at m (place ∷ [])) ≡ with_place o (piece_of m place) []
one_block m members x place o is h s p e =
    placed_next m members (place ∷ []) 0 x is (omega arith) h s p ∙ ap (λ o. with_place o (piece_of m place) []) e

-- one arrival is counted
pub one_counted : (answer : Arrived) (s : Stats) → one_ignored answer s ≡ all_ignored (is_late answer + 0) (is_twice answer + 0) 0 s
one_counted Kept s = refl
one_counted Late s = refl
one_counted Twice s = refl

-- copies of one block
get_copy : {X : Type 0} (n i : ℕ) (x : X) → i < n → slice_get (replicate n x) i ≡ Some x
get_copy zero i x h = absurd (omega (arith, h))
get_copy (suc n) zero x h = refl
get_copy (suc n) (suc i) x h = get_copy n i x (omega (arith, h))

pub last_copy : {X : Type 0} (xs : List X) (x : X) → xs ≡ replicate (length xs) x → 0 < length xs → last_item xs ≡ Some x
last_copy xs x e h = ap (λ ys. slice_get ys (length xs - 1)) e ∙ get_copy (length xs) (length xs - 1) x (omega (arith, h))

pub copies_left : {X : Type 0} (xs : List X) (n : ℕ) (x : X) → xs ≡ replicate (length xs) x → n ≤ length xs
    → (take n xs ≡ replicate (length (take n xs)) x) × (length (take n xs) ≡ n)
copies_left xs n x e h =
    let t : take n xs ≡ replicate n x = ap (take n) e ∙ take-replicate n (length xs) x h in
    let l : length (take n xs) ≡ n = ap length t ∙ length-replicate n x in
    (t ∙ ap (λ k. replicate k x) (sym l), l)

-- the streams that may keep it, one more
pub keeping_next : (xs : List OneStream) (i : ℕ) (x : OneStream) → i < length xs → get_or xs i x ≡ x
    → count_keeping (drop i xs) ≡ (if may_keep x then 1 else 0) + count_keeping (drop (i + 1) xs)
keeping_next xs i x h e = ap count_keeping (drop_more xs i x h) ∙ ap (λ y. (if may_keep y then 1 else 0) + count_keeping (drop (i + 1) xs)) e

pub spread_next : {X : Type 0} (front after : List X) (x : X) (k n : ℕ) (whole : List X) → after ≡ front ++ replicate k x → front ++ replicate (k + n) x ≡ whole
    → after ++ replicate n x ≡ whole
spread_next [] after x k n whole a w = ap (λ ys. ys ++ replicate n x) a ∙ replicate-append-replicate k n x ∙ w
spread_next (y ∷ front) after x k n whole a w =
    ap (λ ys. ys ++ replicate n x) a ∙ ap (λ ys. y ∷ ys) (spread_next front (front ++ replicate k x) x k n (front ++ replicate (k + n) x) refl refl) ∙ w

-- what a stream takes of the copies, one stream more
pub kept_next : (xs : List OneStream) (i : ℕ) (x : OneStream) (quality : ℕ) (samples : List Sample) → i < length xs → get_or xs i x ≡ x
    → all_kept (drop i xs) quality samples ≡ kept_of x quality samples + all_kept (drop (i + 1) xs) quality samples
kept_next xs i x quality samples h e =
    ap (λ ys. all_kept ys quality samples) (drop_more xs i x h)
    ∙ ap (λ y. kept_of y quality samples + all_kept (drop (i + 1) xs) quality samples) e

-- a stream that may keep the block takes as many copies as it asks for, and one that is on asks for those of its members' blocks
pub kept_where : (s : OneStream) (quality : ℕ) (samples : List Sample) → may_keep s ≡ true → kept_of s quality samples ≡ length (wanted_of s quality samples)
kept_where s quality samples e = ap (λ b. if b then length (wanted_of s quality samples) else 0) e

pub wanted_on : (s : OneStream) (quality : ℕ) (samples : List Sample) → s.slots.is_on ≡ true
    → length (wanted_of s quality samples) ≡ length (placed s.definition.members quality samples)
wanted_on s quality samples on =
    ap (λ b. length (if b then map piece_of_placed (placed s.definition.members quality samples) else [])) on
    ∙ length-map (placed s.definition.members quality samples) piece_of_placed

-- a stream that is on and may not keep it has one member and no open slot
pub alone_where : (s : OneStream) → s.slots.is_on ≡ true → may_keep s ≡ false → (length s.definition.members ≤ 1) × (s.slots.slots ≡ [])
alone_where s on e = by s.slots.is_on (length s.definition.members) s.slots.slots on e
  where
    lt_of : (n : ℕ) → nat_lt 1 n ≡ false → n ≤ 1
    lt_of n h = grind (arith, common_steps)

    lt_some : (n : ℕ) → nat_lt 0 (suc n) ≡ true
    lt_some n = grind (arith, common_steps)

    neither : (b c : Bool) → (b || c) ≡ false → (b ≡ false) × (c ≡ false)
    neither false false f = (refl, refl)
    neither true c f = absurd (cc f)
    neither false true f = absurd (cc f)

    by : (a : Bool) (n : ℕ) (xs : List (OpenSlot Piece)) → a ≡ true → (a && (nat_lt 1 n || nat_lt 0 (length xs))) ≡ false → (n ≤ 1) × (xs ≡ [])
    by false n xs h f = absurd (cc h)
    by true n [] h f = (lt_of n (neither (nat_lt 1 n) (nat_lt 0 0) f).0, refl)
    by true n (x ∷ xs) h f =
        let two = neither (nat_lt 1 n) (nat_lt 0 (suc (length xs))) f in
        absurd (let no : true ≡ false = sym (lt_some (length xs)) ∙ two.1 in cc no)

-- a late block leaves the slots as they are, and is counted
pub late_turn : (listed : Listing) (s : OneStream) (slot : ℕ) (blocks : List PlacedBlock) → length blocks ≡ 1 → AreWithin (length s.definition.members) blocks
    → length s.definition.members ≤ 1 → is_above s.slots.last slot ≡ false → s.slots.slots ≡ []
    → arrival_turn by_slots listed s blocks (Ok slot) ≡ record (still (record s { slots = with_late s.slots 0 })) { late = 1 }
late_turn listed s slot [] n within few late none = absurd (omega (arith, n))
late_turn listed s slot (p ∷ []) n within few late none =
    let first : p.place ≡ 0 = omega (arith, within.0, few) in
    rw (first, late, none) refl
late_turn listed s slot (p ∷ q ∷ blocks) n within few late none = absurd (omega (arith, n))

-- copies of the one block that the streams ask for
one_wanted : (s : OneStream) (quality : ℕ) (x : Sample)
    → (wanted_of s quality (x ∷ []) ≡ []) ⊎ (wanted_of s quality (x ∷ []) ≡ record { quality = quality; block = x.block } ∷ [])
one_wanted s quality x = by s.slots.is_on (place_of s.definition.members x.key)
  where
    by : (a : Bool) (o : Option ℕ)
        → ((if a then map piece_of_placed (with_place o (record { quality = quality; block = x.block }) []) else []) ≡ [])
        ⊎ ((if a then map piece_of_placed (with_place o (record { quality = quality; block = x.block }) []) else []) ≡ record { quality = quality; block = x.block } ∷ [])
    by false o = inl refl
    by true None = inl refl
    by true (Some place) = inr refl

wanted_copies : (xs : List OneStream) (quality : ℕ) (x : Sample)
    → all_wanted xs quality (x ∷ []) ≡ replicate (length (all_wanted xs quality (x ∷ []))) (record { quality = quality; block = x.block })
wanted_copies [] quality x = refl
wanted_copies (s ∷ xs) quality x = by (wanted_of s quality (x ∷ [])) (one_wanted s quality x) (wanted_copies xs quality x)
  where
    piece : Piece
    piece = record { quality = quality; block = x.block }

    by : (w : List Piece) → (w ≡ []) ⊎ (w ≡ piece ∷ []) → all_wanted xs quality (x ∷ []) ≡ replicate (length (all_wanted xs quality (x ∷ []))) piece
        → w ++ all_wanted xs quality (x ∷ []) ≡ replicate (length (w ++ all_wanted xs quality (x ∷ []))) piece
    by w (inl e) rest = rw e rest
    by w (inr e) rest = rw e (ap (λ ys. piece ∷ ys) rest)

kept_few : (s : OneStream) (quality : ℕ) (samples : List Sample) → kept_of s quality samples ≤ length (wanted_of s quality samples)
kept_few s quality samples = by (may_keep s) (length (wanted_of s quality samples))
  where
    by : (b : Bool) (n : ℕ) → (if b then n else 0) ≤ n
    by true n = omega arith
    by false n = omega arith

all_kept_few : (xs : List OneStream) (quality : ℕ) (samples : List Sample) → all_kept xs quality samples ≤ length (all_wanted xs quality samples)
all_kept_few [] quality samples = omega arith
all_kept_few (s ∷ xs) quality samples =
    omega (arith, kept_few s quality samples, all_kept_few xs quality samples, length-append (wanted_of s quality samples) (all_wanted xs quality samples))

kept_one : (s : OneStream) (quality : ℕ) (x : Sample) → kept_of s quality (x ∷ []) ≤ (if may_keep s then 1 else 0)
kept_one s quality x = by (may_keep s) (wanted_of s quality (x ∷ [])) (one_wanted s quality x)
  where
    by : (b : Bool) (w : List Piece) → (w ≡ []) ⊎ (w ≡ record { quality = quality; block = x.block } ∷ []) → (if b then length w else 0) ≤ (if b then 1 else 0)
    by false w e = omega arith
    by true w (inl e) = let n = ap length e in omega (arith, n)
    by true w (inr e) = let n = ap length e in omega (arith, n)

kept_keeping : (xs : List OneStream) (quality : ℕ) (x : Sample) → all_kept xs quality (x ∷ []) ≤ count_keeping xs
kept_keeping [] quality x = omega arith
kept_keeping (s ∷ xs) quality x = omega (arith, kept_one s quality x, kept_keeping xs quality x)

-- Where one block fills a slot it is the only member's.
set_one : (parts : List (Option Piece)) (place : ℕ) (piece : Piece) → count_came (slice_set parts place (Some piece)) ≤ suc (count_came parts)
set_one [] place piece = omega arith
set_one (None ∷ parts) zero piece = omega arith
set_one (Some p ∷ parts) zero piece = omega arith
set_one (None ∷ parts) (suc place) piece = omega (arith, set_one parts place piece)
set_one (Some p ∷ parts) (suc place) piece = omega (arith, set_one parts place piece)

all_one : (n : ℕ) (p : PlacedBlock) → are_all n (p ∷ []) ≡ true → n ≤ 1
all_one zero p e = omega arith
all_one (suc zero) p e = omega arith
all_one (suc (suc n)) p e = by (is_some (slice_index_or (replicate (suc (suc n)) None) p.place None)) e
  where
    parts : List (Option Piece)
    parts = slice_set (replicate (suc (suc n)) None) p.place (Some p.piece)

    none_there : Option Piece
    none_there = None

    few : count_came parts < length parts
    few =
        let most = set_one (replicate (suc (suc n)) None) p.place p.piece in
        let none = came_none (suc (suc n)) in
        let long = length-set (replicate (suc (suc n)) None) p.place (Some p.piece) in
        let all : length (replicate (suc (suc n)) none_there) ≡ suc (suc n) = length-replicate (suc (suc n)) none_there in
        omega (arith, most, none, long, all)

    by : (b : Bool) → is_full (if b then None else Some parts) ≡ true → suc (suc n) ≤ 1
    by true f = absurd (let no : false ≡ true = f in cc no)
    by false f = absurd (let no : false ≡ true = sym (came_some parts few) ∙ f in cc no)

both : (b c : Bool) → (b && c) ≡ true → (b ≡ true) × (c ≡ true)
both true true e = (refl, refl)
both true false e = absurd (cc e)
both false c e = absurd (cc e)

other : (b c : Bool) → (b || c) ≡ true → b ≡ false → c ≡ true
other false c e f = e
other true c e f = absurd (cc f)

no_zero : (n : ℕ) → (suc n == 0) ≡ false
no_zero n = grind (arith, common_steps)

not_above : (n : ℕ) → n ≤ 1 → nat_lt 1 n ≡ false
not_above n h = grind (arith, common_steps)

if_none : (b : Bool) → ◌≡◌ {A = ℕ} (if b then 0 else 0) 0
if_none true = refl
if_none false = refl

-- a stream whose slot the block fills keeps no copy of it
fills_kept : (s : OneStream) (soc quality frac : ℕ) (x : Sample) → fills s soc quality frac (x ∷ []) ≡ true → kept_of s quality (x ∷ []) ≡ 0
fills_kept s soc quality frac x e =
    by s.slots.is_on s.slots.slots (length s.definition.members) (place_of s.definition.members x.key)
    (can_leave s.slots.last (slot_at s.definition.rate (base_of (x ∷ [])) soc frac)) e
  where
    piece : Piece
    piece = record { quality = quality; block = x.block }

    by : (a : Bool) (xs : List (OpenSlot Piece)) (n : ℕ) (o : Option ℕ) (d : Bool)
        → (not a || (length xs == 0 && (length (with_place o piece []) == 0 || (are_all n (with_place o piece []) && d)))) ≡ true
        → (if a && (nat_lt 1 n || nat_lt 0 (length xs)) then length (if a then map piece_of_placed (with_place o piece []) else []) else 0) ≡ 0
    by false xs n o d f = refl
    by true (y ∷ xs) n o d f = absurd (let z = zero_of (length (y ∷ xs)) (both (length (y ∷ xs) == 0) _ f).0 in omega (arith, z))
    by true [] n None d f = if_none (nat_lt 1 n || nat_lt 0 0)
    by true [] n (Some place) d f =
        let two = both (0 == 0) _ f in
        let all = both (are_all n (record { place = place; piece = piece } ∷ [])) d (other (1 == 0) _ two.1 (no_zero 0)) in
        ap (λ b. if b || nat_lt 0 0 then 1 else 0) (not_above n (all_one n (record { place = place; piece = piece }) all.0))

fill_none : (xs : List OneStream) (soc quality frac : ℕ) (x : Sample) → all_fill xs soc quality frac (x ∷ []) ≡ true → all_kept xs quality (x ∷ []) ≡ 0
fill_none [] soc quality frac x e = refl
fill_none (s ∷ xs) soc quality frac x e =
    let two = both (fills s soc quality frac (x ∷ [])) (all_fill xs soc quality frac (x ∷ [])) e in
    omega (arith, fills_kept s soc quality frac x two.0, fill_none xs soc quality frac x two.1)

-- however they were laid, the copies are enough
prepared_of : (v : SubscriberValue) (soc quality frac : ℕ) (x : Sample) → IsPreparedFor v (measure soc quality frac (x ∷ []))
    → Serving v quality (x ∷ []) (record { quality = quality; block = x.block })
prepared_of v soc quality frac x (inl ready) =
    let same = ready.blocks ∙ wanted_copies v.own.streams quality x in
    let long = ap length ready.blocks in
    record {
      copies = same ∙ ap (λ n. replicate n (record { quality = quality; block = x.block })) (sym long);
      enough = omega (arith, all_kept_few v.own.streams quality (x ∷ []), long);
      none = ready.configs;
    }
prepared_of v soc quality frac x (inr serves) = by serves.1
  where
    piece : Piece
    piece = record { quality = quality; block = x.block }

    by : ((v.blocks ≡ []) × (all_fill v.own.streams soc quality frac (x ∷ []) ≡ true)) ⊎ IsSpread v quality (x ∷ [])
        → Serving v quality (x ∷ []) piece
    by (inl empty) =
        let long = ap length empty.0 in
        record {
          copies = empty.0 ∙ ap (λ n. replicate n piece) (sym long);
          enough = omega (arith, fill_none v.own.streams soc quality frac x empty.1);
          none = serves.0;
        }
    by (inr spread) =
        let long = ap length spread ∙ length-replicate (count_keeping v.own.streams) piece in
        record {
          copies = spread ∙ ap (λ n. replicate n piece) (sym long);
          enough = omega (arith, kept_keeping v.own.streams quality x, long);
          none = serves.0;
        }

-- the block of a place
one_sample : (m : Measurement) (place : ℕ) → place < length m.config.parts
    → (x : Sample) × (samples_at m (place ∷ []) ≡ x ∷ []) × (piece_of m place ≡ record { quality = m.quality; block = x.block })
one_sample m place h =
    let part = part_at m.config.parts place h in (
      record { key = key_in m.config part.0; config = part.0; block = block_of m place },
      ap (λ o. sampled_part m place o ++ []) part.1,
      refl,
    )

pub prepared_one : (v : SubscriberValue) (m : Measurement) (place : ℕ) → place < length m.config.parts
    → IsPreparedFor v (measure m.soc m.quality m.frac (samples_at m (place ∷ []))) → Serving v m.quality (samples_at m (place ∷ [])) (piece_of m place)
prepared_one v m place h prepared =
    let x = one_sample m place h in
    let here = prepared_of v m.soc m.quality m.frac x.0 (subst (λ (l : List Sample). IsPreparedFor v (measure m.soc m.quality m.frac l)) x.1 prepared) in
    subst (λ (l : List Sample). Serving v m.quality l (piece_of m place)) (sym x.1) (subst (λ (p : Piece). Serving v m.quality (x.0 ∷ []) p) (sym x.2) here)

pub spread_prepared : (v : SubscriberValue) (m : Measurement) (place : ℕ) → place < length m.config.parts
    → v.blocks ≡ replicate (count_keeping v.own.streams) (piece_of m place) → v.configs ≡ []
    → IsPreparedFor v (measure m.soc m.quality m.frac (samples_at m (place ∷ [])))
spread_prepared v m place h e none =
    let x = one_sample m place h in
    subst (λ (l : List Sample). IsPreparedFor v (measure m.soc m.quality m.frac l)) (sym x.1)
    (inr (none, inr (e ∙ ap (replicate (count_keeping v.own.streams)) x.2)))

-- of several blocks none are laid so
pub not_spread : (v : SubscriberValue) (m : Measurement) (places : List ℕ) → ArePlaces (length m.config.parts) places → 1 < length places
    → IsSpread v m.quality (samples_at m places) → ⊥
not_spread v m [] p h w = w
not_spread v m (i ∷ []) p h w = omega (arith, h)
not_spread v m (i ∷ j ∷ places) p h w =
    let one = part_at m.config.parts i p.rising.1 in
    let two = part_at m.config.parts j p.rising.2.1 in
    subst (λ (l : List Sample). IsSpread v m.quality l)
    (ap₂ (λ o q. sampled_part m i o ++ (sampled_part m j q ++ samples_at m places)) one.1 two.1) w

-- the copy that was taken
pub popped : (taken : Option Piece) (xs : List Piece) (block x : Piece) → taken ≡ last_item xs → taken ≡ Some block → xs ≡ replicate (length xs) x → 0 < length xs
    → block ≡ x
popped taken xs block x value is copies some =
    let e : Some block ≡ Some x = sym is ∙ value ∙ last_copy xs x copies some in
    cc e

-- one place of a frame
pub within_one : (n place : ℕ) → place < n → All (λ i. i < n) (place ∷ [])
within_one n place h zero d l = h
within_one n place h (suc k) d l = absurd (omega (arith, l))

-- the only member
pub only_member : (xs : List PmuKey) (x : PmuKey) → length xs ≤ 1 → 0 < length xs → x ≡ slice_index_or xs 0 x → xs ≡ x ∷ []
only_member [] x few some e = absurd (omega (arith, some))
only_member (y ∷ []) x few some e = ap (λ z. z ∷ []) (sym e)
only_member (y ∷ z ∷ xs) x few some e = absurd (omega (arith, few))

-- a list of one place
pub one_place : (places : List ℕ) → length places ≡ 1 → places ≡ get_or places 0 0 ∷ []
one_place [] e = absurd (omega (arith, e))
one_place (i ∷ []) e = refl
one_place (i ∷ j ∷ places) e = absurd (omega (arith, e))

-- where other copies lie than those of one block, they are just those that the event asks for
pub prepared_ready : (v : SubscriberValue) (soc quality frac : ℕ) (samples : List Sample) → (IsSpread v quality samples → ⊥) → 0 < length v.blocks
    → IsPreparedFor v (measure soc quality frac samples) → IsReady v (measure soc quality frac samples)
prepared_ready v soc quality frac samples several some (inl ready) = ready
prepared_ready v soc quality frac samples several some (inr serves) = by serves.1
  where
    by : ((v.blocks ≡ []) × (all_fill v.own.streams soc quality frac samples ≡ true)) ⊎ IsSpread v quality samples → IsReady v (measure soc quality frac samples)
    by (inl empty) = absurd (let none = ap length empty.0 in omega (arith, none, some))
    by (inr spread) = absurd (several spread)

-- the turn of a stream whose slot leaves at once
abbrev pub left_turn : Listing → OneStream → ℕ → List (Option Piece) → Turn (Aligned Piece)
left_turn listed s slot parts = record {
  stream = record s { slots = with_last s.slots slot };
  frames = slot_frame s.definition listed (head_with slot parts) ∷ [];
  late = 0;
  twice = 0;
  past = 0;
}

pub some_of : (n : ℕ) → (n == 0) ≡ false → 0 < n
some_of n e = grind (arith, common_steps)
