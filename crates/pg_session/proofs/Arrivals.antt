-- The blocks of a data frame arrive at a stream, one after another.
use Rattle.std.proofs.Common.{◌≡◌, ℕ, zero, suc, ◌+◌, ◌<◌, ◌≤◌, List, [], ◌∷◌, ◌++◌, length, map, drop, get_or, slice_get, Bool, true, false, IsTrue, Option, Some, None, IfSome, is_some, refl, sym, ap, ap₂, ◌∙◌, arith, subst, add-one}
use Rattle.std.proofs.lemmas.List.{drop_more}
use Rattle.pg_wire.specs.declared.ids.PmuKey.{PmuKey}
use Rattle.pg_config.specs.Parts.{Part, block_id}
use Rattle.pg_data.specs.Measurements.{Measurement, IsMeasurement}
use Rattle.pg_data.specs.Pieces.{Piece, piece_of}
use Rattle.pg_audit.specs.declared.counters.Stats.{Stats}
use Rattle.pg_align.specs.declared.answer.Arrived.{Arrived}
use Rattle.pg_align.specs.declared.answer.Arrived.TheVariants.{Kept, Late, Twice}
use Rattle.pg_align.specs.Histories.{is_above}
use Rattle.pg_align.specs.Slots.{Aligned, answer_at, part_at, with_arrival, others_than}
use Rattle.pg_session.specs.Events.{key_in, sampled_part, samples_at}
use Rattle.pg_session.specs.Streams.{PlacedBlock, place_of, with_place, placed, is_late, is_twice, arrive_all}
use Rattle.pg_session.specs.Output.{times, one_late, one_twice, all_ignored}
use Rattle.pg_session.specs.Sending.{Sending}
use Rattle.pg_session.specs.Kept.{by_slots}
use Rattle.pg_session.specs.Fields.{AreEffective, with_stats, one_ignored}
use Rattle.pg_session.specs.Wanted.{piece_of_placed}
use Rattle.pg_session.proofs.Changing.{key_made}
use Rattle.pg_session.proofs.Simulating.{arrived_by}

-- the next block of the frame
part_placed : (m : Measurement) (members : List PmuKey) (i : ℕ) (places : List ℕ) (x : PmuKey) (o : Option Part) → IsMeasurement m → x.source ≡ m.source
    → IsTrue (is_some o) → IfSome o (λ p. x.pmu ≡ block_id p.block)
    → placed members m.quality (sampled_part m i o ++ samples_at m places)
    ≡ with_place (place_of members x) (piece_of m i) (placed members m.quality (samples_at m places))
part_placed m members i places x None is s t p = absurd (let e : false ≡ true = t in cc)
part_placed m members i places x (Some part) is s t p =
    let same : key_in m.config part ≡ x = key_made (sym (s ∙ is.source)) (sym p) in
    ap (λ k. with_place (place_of members k) (piece_of m i) (placed members m.quality (samples_at m places))) same

some_there : (parts : List Part) (i : ℕ) → i < length parts → IsTrue (is_some (slice_get parts i))
some_there [] i h = absurd (omega arith)
some_there (p ∷ ps) zero h = refl
some_there (p ∷ ps) (suc i) h = some_there ps i (omega arith)

pub placed_next : (m : Measurement) (members : List PmuKey) (places : List ℕ) (k : ℕ) (x : PmuKey) → IsMeasurement m → k < length places
    → get_or places k 0 < length m.config.parts → x.source ≡ m.source → IfSome (slice_get m.config.parts (get_or places k 0)) (λ p. x.pmu ≡ block_id p.block)
    → placed members m.quality (samples_at m (drop k places))
    ≡ with_place (place_of members x) (piece_of m (get_or places k 0)) (placed members m.quality (samples_at m (drop (k + 1) places)))
placed_next m members places k x is h l s p =
    ap (λ ps. placed members m.quality (samples_at m ps)) (drop_more places k 0 h)
    ∙ part_placed m members (get_or places k 0) (drop (k + 1) places) x (slice_get m.config.parts (get_or places k 0)) is s (some_there _ _ l) p

-- what has arrived so far, and what is to arrive
pub record ArrivedSoFar (slot : ℕ) (whole rest : List PlacedBlock) (old new : Aligned Piece) (before after : Sending) (lent left over : List Piece) : Type 0 where
  pub late : ℕ
  pub twice : ℕ
  pub slots : (arrive_all by_slots old slot whole).slots ≡ (arrive_all by_slots new slot rest).slots
  pub all_late : (arrive_all by_slots old slot whole).late ≡ late + (arrive_all by_slots new slot rest).late
  pub all_twice : (arrive_all by_slots old slot whole).twice ≡ twice + (arrive_all by_slots new slot rest).twice
  pub stats : after ≡ with_stats before (all_ignored late twice 0 before.output.stats)
  pub on : IsTrue new.is_on
  pub effective : AreEffective new.effective rest
  pub room : others_than slot new.slots ≤ new.window
  pub ready : left ≡ map piece_of_placed rest ++ over

pub arrived-none : (slot : ℕ) (whole : List PlacedBlock) (a : Aligned Piece) (s : Sending) (lent over : List Piece) → IsTrue a.is_on
    → AreEffective a.effective whole → others_than slot a.slots ≤ a.window → lent ≡ map piece_of_placed whole ++ over
    → ArrivedSoFar slot whole whole a a s s lent lent over
arrived-none slot whole a s lent over on effective room ready = record {
  late = 0;
  twice = 0;
  slots = refl;
  all_late = omega arith;
  all_twice = omega arith;
  stats = refl;
  on = on;
  effective = effective;
  room = room;
  ready = ready;
}

twice_past : (n k : ℕ) (s : Stats) → one_twice (times n one_late (times k one_twice s)) ≡ times n one_late (times (suc k) one_twice s)
twice_past zero k s = refl
twice_past (suc n) k s = ap one_late (twice_past n k s)

nothing_more : (n : ℕ) → n ≡ 0 + n
nothing_more n = omega arith

one_more : (n : ℕ) → suc n ≡ 1 + n
one_more n = omega arith

ignored_more : (answer : Arrived) (n k : ℕ) (s : Stats)
    → one_ignored answer (all_ignored n k 0 s) ≡ all_ignored (is_late answer + n) (is_twice answer + k) 0 s
ignored_more Kept n k s = ap₂ (λ a b. all_ignored a b 0 s) (nothing_more n) (nothing_more k)
ignored_more Late n k s = ap₂ (λ a b. all_ignored a b 0 s) (one_more n) (nothing_more k)
ignored_more Twice n k s = twice_past n k s ∙ ap₂ (λ a b. all_ignored a b 0 s) (nothing_more n) (one_more k)

pub arrived-one : (slot : ℕ) (whole rest : List PlacedBlock) (p : PlacedBlock) (a b c : Aligned Piece) (r s t : Sending) (lent left over : List Piece)
    → ArrivedSoFar slot whole (p ∷ rest) a b r s lent left over
    → c ≡ with_arrival b slot p.place p.piece → others_than slot c.slots ≡ others_than slot b.slots
    → t ≡ with_stats s (one_ignored (answer_at b slot p.place) s.output.stats)
    → ArrivedSoFar slot whole rest a c r t lent (drop 1 left) over
arrived-one slot whole rest p a b c r s t lent left over x e room g =
    let kept = arrived_by b slot p.place p.piece _ _ refl refl in
    let answer = answer_at b slot p.place in
    record {
      late = is_late answer + x.late;
      twice = is_twice answer + x.twice;
      slots = x.slots ∙ ap (λ (d : Aligned Piece). (arrive_all by_slots d slot rest).slots) (sym e);
      all_late = let n = ap (λ (d : Aligned Piece). (arrive_all by_slots d slot rest).late) e in omega (arith, x.all_late, n);
      all_twice = let n = ap (λ (d : Aligned Piece). (arrive_all by_slots d slot rest).twice) e in omega (arith, x.all_twice, n);
      stats = g ∙ ap (λ (q : Sending). with_stats q (one_ignored answer q.output.stats)) x.stats
          ∙ ap (with_stats r) (ignored_more answer x.late x.twice r.output.stats);
      on = rw (e, kept.0) x.on;
      effective = rw (e, kept.1) x.effective.1;
      room = rw room (subst (λ w. others_than slot b.slots ≤ w) (sym (window_kept e)) x.room);
      ready = ap (drop 1) x.ready;
    }
  where
    window_by : (u v : Bool) → is_above b.last slot ≡ u → is_some (part_at b.slots slot p.place) ≡ v → (with_arrival b slot p.place p.piece).window ≡ b.window
    window_by false v f g = rw f refl
    window_by true true f g = rw (f, g) refl
    window_by true false f g = rw (f, g) refl

    window_kept : c ≡ with_arrival b slot p.place p.piece → c.window ≡ b.window
    window_kept f = ap (λ (d : Aligned Piece). d.window) f ∙ window_by _ _ refl refl

-- the next block is a member's, or is none
pub rest_some : (rest others : List PlacedBlock) (o : Option ℕ) (place : ℕ) (piece : Piece) → rest ≡ with_place o piece others → o ≡ Some place
    → rest ≡ record { place = place; piece = piece } ∷ others
rest_some rest others o place piece e f = e ∙ ap (λ x. with_place x piece others) f

pub rest_none : (rest others : List PlacedBlock) (o : Option ℕ) (piece : Piece) → rest ≡ with_place o piece others → o ≡ None → rest ≡ others
rest_none rest others o piece e f = e ∙ ap (λ x. with_place x piece others) f

pub piece_there : (left : List Piece) (rest : List PlacedBlock) (p : PlacedBlock) (over : List Piece) → left ≡ map piece_of_placed (p ∷ rest) ++ over → slice_get left 0 ≡ Some p.piece
piece_there left rest p over h = ap (λ xs. slice_get xs 0) h

pub piece_first : {slot : ℕ} {whole rest : List PlacedBlock} {p : PlacedBlock} {a b : Aligned Piece} {r s : Sending} {lent left over : List Piece}
    → ArrivedSoFar slot whole (p ∷ rest) a b r s lent left over → slice_get left 0 ≡ Some p.piece
piece_first {rest = rest} {p = p} {left = left} {over = over} x = piece_there left rest p over x.ready

some_same : (x y : Piece) → Some x ≡ Some y → x ≡ y
some_same x y e = cc e

-- the block that was taken is the next one
pub arrived-next : {slot : ℕ} {whole rest : List PlacedBlock} {p : PlacedBlock} {a b : Aligned Piece} {r s : Sending} {lent left over : List Piece}
    (c : Aligned Piece) (t : Sending) (block : Piece) (taken : Option Piece) (remaining : List Piece)
    → ArrivedSoFar slot whole (p ∷ rest) a b r s lent left over
    → taken ≡ slice_get left 0 → taken ≡ Some block → remaining ≡ drop 1 left
    → c ≡ with_arrival b slot p.place block → others_than slot c.slots ≡ others_than slot b.slots
    → t ≡ with_stats s (one_ignored (answer_at b slot p.place) s.output.stats)
    → ArrivedSoFar slot whole rest a c r t lent remaining over
arrived-next {slot = slot} {whole = whole} {rest = rest} {p = p} {a = a} {b = b} {r = r} {s = s} {lent = lent} {left = left} {over = over} c t block taken remaining x front is more e room g =
    let same : block ≡ p.piece = some_same block p.piece (sym is ∙ front ∙ piece_first x) in
    subst (λ rest_left. ArrivedSoFar slot whole rest a c r t lent rest_left over) (sym more)
    (arrived-one slot whole rest p a b c r s t lent left over x (e ∙ ap (with_arrival b slot p.place) same) room g)

-- one more of a kind
pub times_more : (n : ℕ) (one : Stats → Stats) (s : Stats) → times (n + 1) one s ≡ one (times n one s)
times_more n one s = rw (add-one n) refl

pub dropped_more : (n : ℕ) (xs : List Piece) → drop 1 (drop n xs) ≡ drop (n + 1) xs
dropped_more zero xs = refl
dropped_more (suc n) [] = rw (add-one (suc n)) refl
dropped_more (suc n) (x ∷ xs) = rw (add-one (suc n)) (dropped_more n xs ∙ ap (λ k. drop k xs) (add-one n))
