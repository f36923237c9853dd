-- Blocks of a data frame that leave no slot of a stream open behind them.
use Rattle.std.proofs.Common.{length-append, ◌≡◌, ◌⊎◌, ◌||◌, not, inl, inr, get_or, ℕ, zero, suc, ◌+◌, ◌<◌, ◌≤◌, ◌&&◌, ◌==◌, nat_lt, List, [], ◌∷◌, length, drop, replicate, slice_set, slice_index_or, Bool, true, false, if◌then◌else◌, IsTrue, Option, Some, None, IfSome, IfOk, is_some, slice_get, option_map, Result, Ok, Err, refl, sym, ap, ap₂, subst, ◌∙◌, arith}
use Rattle.std.proofs.lemmas.Grind.{common_steps}
use Rattle.std.proofs.lemmas.List.{drop_all, length-map, length-set, length-replicate}
use Rattle.pg_wire.specs.declared.ids.PmuKey.{PmuKey}
use Rattle.pg_data.specs.Measurements.{Measurement, IsMeasurement}
use Rattle.pg_data.specs.Pieces.{Piece, piece_of}
use Rattle.pg_align.specs.Histories.{Departures, is_above, has_all}
use Rattle.pg_align.specs.Slots.{Aligned, OpenSlot, with_arrival, answer_at, with_last, all_leaving, head_with}
use Rattle.pg_align.specs.Counts.{raised}
use Rattle.pg_align.specs.declared.counts.Cause.TheVariants.{Complete}
use Rattle.pg_align.specs.declared.counts.SlotCounts.{SlotCounts}
use Rattle.pg_align.proofs.Looking.{none_missing}
use Rattle.pg_align.specs.declared.answer.Arrived.TheVariants.{Kept}
use Rattle.pg_outcfg.specs.Listing.{Listing}
use Rattle.pg_outcfg.specs.Ordered.{AreBlocks, AreMembers, pieces_in}
use Rattle.pg_config.specs.Parts.{block_id}
use Rattle.pg_wire.specs.Keys.{key_eq}
use Rattle.pg_session.proofs.Arrivals.{placed_next}
use Rattle.pg_session.specs.Events.{Sample, measure, samples_at}
use Rattle.pg_session.specs.Streams.{StreamOf, placed, PlacedBlock, Arrivals, Turn, arrive_all, arrival_turn, place_of, with_place, base_of, effective_in, framed, slot_frame}
use Rattle.pg_session.specs.Kept.{by_slots}
use Rattle.pg_session.specs.Fields.{AreEffective, NeedsNoCopy, NeedNoCopies}
use Rattle.pg_session.specs.Filling.{filled, all_came, are_all, can_leave, fills, all_fill, IsSpread, IsPreparedFor}
use Rattle.pg_session.specs.Shown.{SubscriberValue}
use Rattle.pg_session.specs.Wanted.{wanted_of, all_wanted}
use Rattle.pg_stream.specs.Slots.{slot_at}
use Rattle.pg_session.proofs.Preparing.{empty_list, on_wanted}

same_lt : (n : ℕ) → nat_lt n n ≡ false
same_lt n = grind (arith, common_steps)

same_eq : (n : ℕ) → (n == n) ≡ true
same_eq n = grind (arith, common_steps)

-- a slot is open with these parts, and no other
abbrev pub one_open : Aligned Piece → ℕ → List (Option Piece) → Aligned Piece
one_open a slot parts = record a { slots = record { slot = slot; ticks_left = a.wait; parts = parts } ∷ [] }

-- an arrival that is the first for its place
more_by : (a : Aligned Piece) (slot place : ℕ) (parts : List (Option Piece)) (piece : Piece) (u v w z : Bool)
    → is_above a.last slot ≡ u → nat_lt slot slot ≡ v → (slot == slot) ≡ w → is_some (slice_index_or parts place None) ≡ z
    → u ≡ true → v ≡ false → w ≡ true → z ≡ false
    → (with_arrival (one_open a slot parts) slot place piece ≡ one_open a slot (slice_set parts place (Some piece)))
    × (answer_at (one_open a slot parts) slot place ≡ Kept)
more_by a slot place parts piece true false true false e f g h p q r s = rw (e, f, g, h) (refl, refl)
more_by a slot place parts piece false v w z e f g h p q r s = absurd (cc p)
more_by a slot place parts piece true true w z e f g h p q r s = absurd (cc q)
more_by a slot place parts piece true false false z e f g h p q r s = absurd (cc r)
more_by a slot place parts piece true false true true e f g h p q r s = absurd (cc s)

-- what came for a slot that is open, and for which each place gets at most one
pub arrive_rest : (a : Aligned Piece) (slot : ℕ) (parts out : List (Option Piece)) (ps : List PlacedBlock) → is_above a.last slot ≡ true
    → filled parts ps ≡ Some out
    → arrive_all by_slots (one_open a slot parts) slot ps ≡ record { slots = one_open a slot out; late = 0; twice = 0 }
arrive_rest a slot parts out [] above e =
    let same : parts ≡ out = cc e in
    ap (λ qs. record { slots = one_open a slot qs; late = 0; twice = 0 }) same
arrive_rest a slot parts out (p ∷ ps) above e =
    by (is_some (slice_index_or parts p.place None)) refl (arrive_rest a slot (slice_set parts p.place (Some p.piece)) out ps above) e
  where
    by : (b : Bool) → is_some (slice_index_or parts p.place None) ≡ b
        → (filled (slice_set parts p.place (Some p.piece)) ps ≡ Some out
        → arrive_all by_slots (one_open a slot (slice_set parts p.place (Some p.piece))) slot ps ≡ record { slots = one_open a slot out; late = 0; twice = 0 })
        → (if b then None else filled (slice_set parts p.place (Some p.piece)) ps) ≡ Some out
        → arrive_all by_slots (one_open a slot parts) slot (p ∷ ps) ≡ record { slots = one_open a slot out; late = 0; twice = 0 }
    by true is rest f = absurd (cc f)
    by false is rest f =
        let one = more_by a slot p.place parts p.piece _ _ _ _ refl refl refl refl above (same_lt slot) (same_eq slot) is in
        rw (one.0, one.1, rest f) refl

-- the first arrival opens its slot
first_by : (a : Aligned Piece) (slot place : ℕ) (piece : Piece) (u : Bool) → is_above a.last slot ≡ u → u ≡ true → a.slots ≡ []
    → (with_arrival a slot place piece ≡ one_open a slot (slice_set (replicate (length a.effective) None) place (Some piece)))
    × (answer_at a slot place ≡ Kept)
first_by a slot place piece true e p none = rw (e, none) (refl, refl)
first_by a slot place piece false e p none = absurd (cc p)

arrive_filled : (a : Aligned Piece) (slot n : ℕ) (out : List (Option Piece)) (p : PlacedBlock) (ps : List PlacedBlock) → is_above a.last slot ≡ true
    → a.slots ≡ [] → length a.effective ≡ n → filled (replicate n None) (p ∷ ps) ≡ Some out
    → arrive_all by_slots a slot (p ∷ ps) ≡ record { slots = one_open a slot out; late = 0; twice = 0 }
arrive_filled a slot n out p ps above none len e = by (is_some (slice_index_or (replicate n None) p.place None)) e
  where
    by : (b : Bool) → (if b then None else filled (slice_set (replicate n None) p.place (Some p.piece)) ps) ≡ Some out
        → arrive_all by_slots a slot (p ∷ ps) ≡ record { slots = one_open a slot out; late = 0; twice = 0 }
    by true f = absurd (cc f)
    by false f =
        let one = first_by a slot p.place p.piece _ refl above none in
        let rest = arrive_rest a slot (slice_set (replicate n None) p.place (Some p.piece)) out ps above f in
        rw (one.0, one.1, len, rest) refl

-- each effective member has a part, where each place has one
all_has : (effective : List Bool) (parts : List (Option Piece)) → length effective ≤ length parts → all_came parts ≡ true → has_all effective parts ≡ true
all_has [] parts h e = refl
all_has (wanted ∷ effective) [] h e = absurd (omega (arith, h))
all_has (wanted ∷ effective) (None ∷ parts) h e = absurd (let no : false ≡ true = e in cc no)
all_has (wanted ∷ effective) (Some p ∷ parts) h e = all_has effective parts (omega (arith, h)) e

filled_len : (parts out : List (Option Piece)) (ps : List PlacedBlock) → filled parts ps ≡ Some out → length out ≡ length parts
filled_len parts out [] e = let same : parts ≡ out = cc e in ap length (sym same)
filled_len parts out (p ∷ ps) e =
    by (is_some (slice_index_or parts p.place None)) (filled_len (slice_set parts p.place (Some p.piece)) out ps) e
  where
    by : (b : Bool) → (filled (slice_set parts p.place (Some p.piece)) ps ≡ Some out → length out ≡ length (slice_set parts p.place (Some p.piece)))
        → (if b then None else filled (slice_set parts p.place (Some p.piece)) ps) ≡ Some out → length out ≡ length parts
    by true rest f = absurd (cc f)
    by false rest f = rest f ∙ length-set parts p.place (Some p.piece)

-- the slot leaves at once, and none is open then
leaves_filled : (a : Aligned Piece) (slot : ℕ) (out : List (Option Piece)) → a.slots ≡ [] → has_all a.effective out ≡ true
    → all_leaving (one_open a slot out) ≡ record { frames = head_with slot out ∷ []; after = with_last a slot }
leaves_filled a slot out none has =
    let counted : List ℕ → SlotCounts = λ missing. record (raised Complete a.counts) { missing = missing } in
    rw has (ap₂ (λ (xs : List (OpenSlot Piece)) (missing : List ℕ). record { frames = head_with slot out ∷ []; after = record a { last = Some slot; slots = xs; counts = counted missing } })
    (sym none) (none_missing a.effective out a.counts.missing has))

-- what such a frame is to a stream
pub fills_turn : (listed : Listing) (s : StreamOf (Aligned Piece)) (slot : ℕ) (blocks : List PlacedBlock) (out : List (Option Piece))
    → is_above s.slots.last slot ≡ true → s.slots.slots ≡ [] → length s.slots.effective ≡ length s.definition.members → 0 < length blocks
    → filled (replicate (length s.definition.members) None) blocks ≡ Some out → all_came out ≡ true
    → arrival_turn by_slots listed s blocks (Ok slot) ≡ record {
      stream = record s { slots = with_last s.slots slot };
      frames = slot_frame s.definition listed (head_with slot out) ∷ [];
      late = 0;
      twice = 0;
      past = 0;
    }
fills_turn listed s slot [] out above none len some e all = absurd (omega (arith, some))
fills_turn listed s slot (p ∷ ps) out above none len some e all =
    let long = filled_len (replicate (length s.definition.members) None) out (p ∷ ps) e ∙ length-replicate (length s.definition.members) None in
    let has = all_has s.slots.effective out (omega (arith, long, len)) all in
    ap (λ (x : Arrivals (Aligned Piece)). turn_of x.late x.twice (all_leaving x.slots))
    (arrive_filled s.slots slot (length s.definition.members) out p ps above none len e)
    ∙ ap (turn_of 0 0) (leaves_filled s.slots slot out none has)
  where
    turn_of : ℕ → ℕ → Departures Piece (Aligned Piece) → Turn (Aligned Piece)
    turn_of late twice d = record (framed by_slots listed s d) { late = late; twice = twice }

-- how many places have a part
abbrev pub count_came : List (Option Piece) → ℕ
count_came [] = 0
count_came (None ∷ parts) = count_came parts
count_came (Some p ∷ parts) = suc (count_came parts)

came_set : (parts : List (Option Piece)) (k : ℕ) (piece : Piece) → k < length parts → is_some (slice_index_or parts k None) ≡ false
    → count_came (slice_set parts k (Some piece)) ≡ suc (count_came parts)
came_set [] k piece h e = absurd (omega (arith, h))
came_set (None ∷ parts) zero piece h e = refl
came_set (Some p ∷ parts) zero piece h e = absurd (let no : true ≡ false = e in cc no)
came_set (None ∷ parts) (suc k) piece h e = came_set parts k piece (omega (arith, h)) e
came_set (Some p ∷ parts) (suc k) piece h e = ap suc (came_set parts k piece (omega (arith, h)) e)

came_few : (parts : List (Option Piece)) → count_came parts ≤ length parts
came_few [] = omega arith
came_few (None ∷ parts) = omega (arith, came_few parts)
came_few (Some p ∷ parts) = omega (arith, came_few parts)

pub came_full : (parts : List (Option Piece)) → length parts ≤ count_came parts → all_came parts ≡ true
came_full [] h = refl
came_full (None ∷ parts) h = absurd (omega (arith, h, came_few parts))
came_full (Some p ∷ parts) h = came_full parts (omega (arith, h))

pub came_some : (parts : List (Option Piece)) → count_came parts < length parts → all_came parts ≡ false
came_some [] h = absurd (omega (arith, h))
came_some (None ∷ parts) h = refl
came_some (Some p ∷ parts) h = came_some parts (omega (arith, h))

pub came_none : (n : ℕ) → count_came (replicate n None) ≡ 0
came_none zero = refl
came_none (suc n) = came_none n

-- each member has one of the frame's n blocks, or none yet
abbrev pub AreIn : ℕ → List (Option ℕ) → Type 0
AreIn n [] = Unit {0}
AreIn n (None ∷ order) = AreIn n order
AreIn n (Some place ∷ order) = (place < n) × AreIn n order

in_none : (n k : ℕ) → AreIn n (replicate k None)
in_none n zero = tt
in_none n (suc k) = in_none n k

in_set : (n : ℕ) (order : List (Option ℕ)) (k place : ℕ) → AreIn n order → place < n → AreIn n (slice_set order k (Some place))
in_set n [] k place w h = tt
in_set n (None ∷ order) zero place w h = (h, w)
in_set n (Some i ∷ order) zero place w h = (h, w.1)
in_set n (None ∷ order) (suc k) place w h = in_set n order k place w h
in_set n (Some i ∷ order) (suc k) place w h = (w.0, in_set n order k place w.1 h)

pub in_all : (m : Measurement) (n : ℕ) (order : List (Option ℕ)) → AreIn n order → all_came (pieces_in m order) ≡ true → AreBlocks n order
in_all m n [] w e = tt
in_all m n (None ∷ order) w e = absurd (let no : false ≡ true = e in cc no)
in_all m n (Some i ∷ order) w e = (w.0, in_all m n order w.1 e)

pieces_none : (m : Measurement) (n : ℕ) → pieces_in m (replicate n None) ≡ replicate n None
pieces_none m zero = refl
pieces_none m (suc n) = ap (λ ps. None ∷ ps) (pieces_none m n)

pieces_set : (m : Measurement) (order : List (Option ℕ)) (k place : ℕ)
    → pieces_in m (slice_set order k (Some place)) ≡ slice_set (pieces_in m order) k (Some (piece_of m place))
pieces_set m [] k place = refl
pieces_set m (x ∷ order) zero place = refl
pieces_set m (x ∷ order) (suc k) place = ap (λ ps. option_map (piece_of m) x ∷ ps) (pieces_set m order k place)

pieces_at : (m : Measurement) (order : List (Option ℕ)) (k : ℕ) → is_some (slice_index_or (pieces_in m order) k None) ≡ is_some (slice_index_or order k None)
pieces_at m [] k = refl
pieces_at m (None ∷ order) zero = refl
pieces_at m (Some i ∷ order) zero = refl
pieces_at m (x ∷ order) (suc k) = pieces_at m order k

-- some of a frame's blocks have their places by now
pub record Placing (m : Measurement) (n : ℕ) (whole rest : List PlacedBlock) (order : List (Option ℕ)) (count : ℕ) : Type 0 where
  pub fill : filled (replicate n None) whole ≡ filled (pieces_in m order) rest
  pub len : length order ≡ n
  pub came : count_came (pieces_in m order) ≡ count
  pub some : count + length rest ≡ length whole
  pub within : AreIn (length m.config.parts) order

pub placing-none : (m : Measurement) (n : ℕ) (whole : List PlacedBlock) → Placing m n whole whole (replicate n None) 0
placing-none m n whole = record {
  fill = ap (λ ps. filled ps whole) (sym (pieces_none m n));
  len = length-replicate n None;
  came = ap count_came (pieces_none m n) ∙ came_none n;
  some = omega arith;
  within = in_none (length m.config.parts) n;
}

pub placing-one : {m : Measurement} {n : ℕ} {whole rest : List PlacedBlock} {order : List (Option ℕ)} {count : ℕ} (k place : ℕ)
    → Placing m n whole (record { place = k; piece = piece_of m place } ∷ rest) order count → k < n → place < length m.config.parts
    → is_some (slice_index_or order k None) ≡ false → Placing m n whole rest (slice_set order k (Some place)) (count + 1)
placing-one {m = m} {n = n} {whole = whole} {rest = rest} {order = order} {count = count} k place p h w none =
    let free = pieces_at m order k ∙ none in
    let long : k < length (pieces_in m order) = omega (arith, h, p.len, length-map order (λ x. option_map (piece_of m) x)) in
    record {
      fill = p.fill ∙ step (is_some (slice_index_or (pieces_in m order) k None)) free
          ∙ ap (λ ps. filled ps rest) (sym (pieces_set m order k place));
      len = length-set order k (Some place) ∙ p.len;
      came = ap count_came (pieces_set m order k place) ∙ came_set (pieces_in m order) k (piece_of m place) long free ∙ ap suc p.came ∙ (let one : suc count ≡ count + 1 = omega arith in one);
      some = omega (arith, p.some);
      within = in_set (length m.config.parts) order k place p.within w;
    }
  where
    step : (b : Bool) → b ≡ false → (if b then None else filled (slice_set (pieces_in m order) k (Some (piece_of m place))) rest)
        ≡ filled (slice_set (pieces_in m order) k (Some (piece_of m place))) rest
    step true e = absurd (cc e)
    step false e = refl

-- two blocks are of one member
pub placing-twice : {m : Measurement} {n : ℕ} {whole rest : List PlacedBlock} {order : List (Option ℕ)} {count : ℕ} (k place : ℕ)
    → Placing m n whole (record { place = k; piece = piece_of m place } ∷ rest) order count → is_some (slice_index_or order k None) ≡ true
    → filled (replicate n None) whole ≡ None
placing-twice {m = m} {n = n} {whole = whole} {rest = rest} {order = order} k place p some =
    p.fill ∙ step (is_some (slice_index_or (pieces_in m order) k None)) (pieces_at m order k ∙ some)
  where
    step : (b : Bool) → b ≡ true → (if b then None else filled (slice_set (pieces_in m order) k (Some (piece_of m place))) rest) ≡ None
    step false e = absurd (cc e)
    step true e = refl

-- each part of these is of a member that is effective
abbrev Covered : List Bool → List (Option Piece) → Type 0
Covered [] parts = Unit {0}
Covered (e ∷ effective) [] = Unit {0}
Covered (e ∷ effective) (None ∷ parts) = Covered effective parts
Covered (e ∷ effective) (Some p ∷ parts) = IsTrue e × Covered effective parts

covered_none : (effective : List Bool) (n : ℕ) → Covered effective (replicate n None)
covered_none [] n = tt
covered_none (e ∷ effective) zero = tt
covered_none (e ∷ effective) (suc n) = covered_none effective n

covered_set : (effective : List Bool) (parts : List (Option Piece)) (k : ℕ) (piece : Piece) → Covered effective parts → IsTrue (slice_index_or effective k false)
    → Covered effective (slice_set parts k (Some piece))
covered_set [] parts k piece w h = tt
covered_set (e ∷ effective) [] k piece w h = tt
covered_set (e ∷ effective) (None ∷ parts) zero piece w h = (h, w)
covered_set (e ∷ effective) (Some p ∷ parts) zero piece w h = (h, w.1)
covered_set (e ∷ effective) (None ∷ parts) (suc k) piece w h = covered_set effective parts k piece w h
covered_set (e ∷ effective) (Some p ∷ parts) (suc k) piece w h = (w.0, covered_set effective parts k piece w.1 h)

covered_filled : (effective : List Bool) (parts out : List (Option Piece)) (ps : List PlacedBlock) → filled parts ps ≡ Some out → AreEffective effective ps
    → Covered effective parts → Covered effective out
covered_filled effective parts out [] e h w = let same : parts ≡ out = cc e in subst (Covered effective) same w
covered_filled effective parts out (p ∷ ps) e h w =
    by (is_some (slice_index_or parts p.place None)) (covered_filled effective (slice_set parts p.place (Some p.piece)) out ps) e
  where
    by : (b : Bool)
        → (filled (slice_set parts p.place (Some p.piece)) ps ≡ Some out → AreEffective effective ps
        → Covered effective (slice_set parts p.place (Some p.piece)) → Covered effective out)
        → (if b then None else filled (slice_set parts p.place (Some p.piece)) ps) ≡ Some out → Covered effective out
    by true rest f = absurd (cc f)
    by false rest f = rest f h.1 (covered_set effective parts p.place p.piece w h.0)

members_covered : (listed : Listing) (members : List PmuKey) (out : List (Option Piece)) → Covered (effective_in listed members) out → all_came out ≡ true
    → length members ≤ length out → AreMembers listed members
members_covered listed [] out w e h = tt
members_covered listed (key ∷ members) [] w e h = absurd (omega (arith, h))
members_covered listed (key ∷ members) (None ∷ out) w e h = absurd (let no : false ≡ true = e in cc no)
members_covered listed (key ∷ members) (Some p ∷ out) w e h = (w.0, members_covered listed members out w.1 e (omega (arith, h)))

-- where a frame brings the blocks of all members, all of them are listed
pub filled_members : (listed : Listing) (members : List PmuKey) (out : List (Option Piece)) (ps : List PlacedBlock)
    → filled (replicate (length members) None) ps ≡ Some out → all_came out ≡ true → AreEffective (effective_in listed members) ps
    → AreMembers listed members
filled_members listed members out ps e all h =
    let long = filled_len (replicate (length members) None) out ps e ∙ length-replicate (length members) None in
    members_covered listed members out
    (covered_filled (effective_in listed members) (replicate (length members) None) out ps e h (covered_none (effective_in listed members) (length members)))
    all (omega (arith, long))

pub blocks_came : (m : Measurement) (n : ℕ) (order : List (Option ℕ)) → AreBlocks n order → all_came (pieces_in m order) ≡ true
blocks_came m n [] w = refl
blocks_came m n (None ∷ order) w = absurd w
blocks_came m n (Some i ∷ order) w = blocks_came m n order w.1

-- once all blocks have their places
pub placing-end : (m : Measurement) (members : List PmuKey) (places : List ℕ) (k : ℕ) (order : List (Option ℕ)) (count : ℕ)
    → Placing m (length members) (placed members m.quality (samples_at m places)) (placed members m.quality (samples_at m (drop k places))) order count
    → length places ≤ k
    → (filled (replicate (length members) None) (placed members m.quality (samples_at m places)) ≡ Some (pieces_in m order))
    × (count ≡ length (placed members m.quality (samples_at m places)))
placing-end m members places k order count p h =
    let none : placed members m.quality (samples_at m (drop k places)) ≡ [] = ap (λ ps. placed members m.quality (samples_at m ps)) (drop_all k places h) in
    let len = ap length none in
    (p.fill ∙ ap (filled (pieces_in m order)) none, omega (arith, p.some, len))

-- a frame's only block, of the stream's only member or of another PMU
pub one_placed : (m : Measurement) (member x : PmuKey) (place : ℕ) (b : Bool) → IsMeasurement m → place < length m.config.parts → x.source ≡ m.source
    → IfSome (slice_get m.config.parts place) (λ p. x.pmu ≡ block_id p.block) → key_eq member x ≡ b
    → placed (member ∷ []) m.quality (samples_at m (place ∷ [])) ≡ with_place (if b then Some 0 else None) (piece_of m place) []
one_placed m member x place b is h s p e =
    placed_next m (member ∷ []) (place ∷ []) 0 x is (omega arith) h s p
    ∙ ap (λ o. with_place o (piece_of m place) []) (by b e)
  where
    by : (c : Bool) → key_eq member x ≡ c → place_of (member ∷ []) x ≡ (if c then Some 0 else None)
    by true f = rw f refl
    by false f = rw f refl

-- one of several streams that ask for no copies
pub needs_at : (xs : List (StreamOf (Aligned Piece))) (i : ℕ) (x : StreamOf (Aligned Piece)) (soc quality frac : ℕ) (samples : List Sample)
    → NeedNoCopies soc quality frac samples xs → i < length xs → get_or xs i x ≡ x → NeedsNoCopy x soc quality frac samples
needs_at [] i x soc quality frac samples w h e = absurd (omega (arith, h))
needs_at (y ∷ xs) zero x soc quality frac samples w h e = subst (λ (s : StreamOf (Aligned Piece)). NeedsNoCopy s soc quality frac samples) e w.0
needs_at (y ∷ xs) (suc i) x soc quality frac samples w h e = needs_at xs i x soc quality frac samples w.1 (omega (arith, h)) e

-- all of them, where no copies lie
pub needs_empty : (xs : List (StreamOf (Aligned Piece))) (soc quality frac : ℕ) (samples : List Sample) → all_wanted xs quality samples ≡ []
    → NeedNoCopies soc quality frac samples xs
needs_empty [] soc quality frac samples e = tt
needs_empty (x ∷ xs) soc quality frac samples e =
    let n = ap length e in
    let whole = length-append (wanted_of x quality samples) (all_wanted xs quality samples) in (
      inl (empty_list (wanted_of x quality samples) (omega (arith, n, whole))),
      needs_empty xs soc quality frac samples (empty_list (all_wanted xs quality samples) (omega (arith, n, whole))),
    )

-- or where the blocks leave no slot open behind them
pub needs_filled : (xs : List (StreamOf (Aligned Piece))) (soc quality frac : ℕ) (samples : List Sample) → all_fill xs soc quality frac samples ≡ true
    → NeedNoCopies soc quality frac samples xs
needs_filled [] soc quality frac samples e = tt
needs_filled (x ∷ xs) soc quality frac samples e =
    let two = both (fills x soc quality frac samples) (all_fill xs soc quality frac samples) e in
    (inr two.0, needs_filled xs soc quality frac samples two.1)
  where
    both : (b c : Bool) → (b && c) ≡ true → (b ≡ true) × (c ≡ true)
    both true true e = (refl, refl)
    both true false e = absurd (cc e)
    both false c e = absurd (cc e)

-- what a stream that is on has, where a member's block came and it asks for no copies
pub record Clears (s : StreamOf (Aligned Piece)) (soc quality frac : ℕ) (samples : List Sample) : Type 0 where
  pub none_open : s.slots.slots ≡ []
  pub all : are_all (length s.definition.members) (placed s.definition.members quality samples) ≡ true
  pub leaves : can_leave s.slots.last (slot_at s.definition.rate (base_of samples) soc frac) ≡ true

pub clears_of : (s : StreamOf (Aligned Piece)) (soc quality frac : ℕ) (samples : List Sample) → s.slots.is_on ≡ true
    → 0 < length (placed s.definition.members quality samples) → NeedsNoCopy s soc quality frac samples → Clears s soc quality frac samples
clears_of s soc quality frac samples on some (inl e) = absurd (let n = ap length (on_wanted s quality samples on e) in omega (arith, n, some))
clears_of s soc quality frac samples on some (inr e) =
    let blocks = placed s.definition.members quality samples in
    let three = by s.slots.is_on (length s.slots.slots == 0) (length blocks == 0) (are_all (length s.definition.members) blocks)
    (can_leave s.slots.last (slot_at s.definition.rate (base_of samples) soc frac)) on (not_zero (length blocks) some) e in
    record { none_open = empty_slots s.slots.slots three.0; all = three.1; leaves = three.2 }
  where
    not_zero : (n : ℕ) → 0 < n → (n == 0) ≡ false
    not_zero n h = grind (arith, common_steps)

    empty_slots : (xs : List (OpenSlot Piece)) → (length xs == 0) ≡ true → xs ≡ []
    empty_slots [] f = refl
    empty_slots (x ∷ xs) f = absurd (let no : (suc (length xs) == 0) ≡ false = not_zero (suc (length xs)) (omega arith) in let never : false ≡ true = sym no ∙ f in cc never)

    by : (a b c d e : Bool) → a ≡ true → c ≡ false → (not a || (b && (c || (d && e)))) ≡ true → (b ≡ true) × (d ≡ true) × (e ≡ true)
    by true true false true true on z f = (refl, refl, refl)
    by true true false true false on z f = absurd (cc f)
    by true true false false e on z f = absurd (cc f)
    by true false c d e on z f = absurd (cc f)
    by true true true d e on z f = absurd (cc z)
    by false b c d e on z f = absurd (cc on)

-- what holds of a frame that was composed whatever list is meant holds by one of them
pub ok_for : {V E A : Type 0} (P : A → V → Type 0) (Q : A → Type 0) (r : Result V E) → IfOk r (λ v. (a : A) → Q a → P a v) → (a : A) → Q a → IfOk r (P a)
ok_for P Q (Ok v) h a q = h a q
ok_for P Q (Err e) h a q = tt

-- where no copies lie, none are asked for
pub prepared_empty : (v : SubscriberValue) (soc quality frac : ℕ) (samples : List Sample) → v.blocks ≡ []
    → (IsSpread v quality samples → ⊥) → IsPreparedFor v (measure soc quality frac samples)
    → NeedNoCopies soc quality frac samples v.own.streams
prepared_empty v soc quality frac samples none several (inl ready) = needs_empty v.own.streams soc quality frac samples (sym ready.blocks ∙ none)
prepared_empty v soc quality frac samples none several (inr serves) = by serves.1
  where
    by : ((v.blocks ≡ []) × (all_fill v.own.streams soc quality frac samples ≡ true)) ⊎ IsSpread v quality samples
        → NeedNoCopies soc quality frac samples v.own.streams
    by (inl empty) = needs_filled v.own.streams soc quality frac samples empty.1
    by (inr spread) = absurd (several spread)

-- of a stream that is on, with no open slot, and all of whose members' blocks came, it is the slot that tells
pub fills_where : (s : StreamOf (Aligned Piece)) (soc quality frac : ℕ) (samples : List Sample) → s.slots.is_on ≡ true → length s.slots.slots ≡ 0
    → 0 < length (placed s.definition.members quality samples) → are_all (length s.definition.members) (placed s.definition.members quality samples) ≡ true
    → fills s soc quality frac samples ≡ can_leave s.slots.last (slot_at s.definition.rate (base_of samples) soc frac)
fills_where s soc quality frac samples on none some all =
    let blocks = placed s.definition.members quality samples in
    by s.slots.is_on (length s.slots.slots == 0) (length blocks == 0) (are_all (length s.definition.members) blocks) _ on (zero_is (length s.slots.slots) none)
    (not_zero (length blocks) some) all
  where
    not_zero : (n : ℕ) → 0 < n → (n == 0) ≡ false
    not_zero n h = grind (arith, common_steps)

    zero_is : (n : ℕ) → n ≡ 0 → (n == 0) ≡ true
    zero_is n h = grind (arith, common_steps)

    by : (a b c d e : Bool) → a ≡ true → b ≡ true → c ≡ false → d ≡ true → (not a || (b && (c || (d && e)))) ≡ e
    by true true false true e on none z t = refl
    by true true false false e on none z t = absurd (cc t)
    by true true true d e on none z t = absurd (cc z)
    by true false c d e on none z t = absurd (cc none)
    by false b c d e on none z t = absurd (cc on)

pub zero_of : (n : ℕ) → (n == 0) ≡ true → n ≡ 0
zero_of n e = grind (arith, common_steps)
