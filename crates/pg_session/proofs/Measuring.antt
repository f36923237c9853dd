-- A measurement at one stream: what is asked of its slots, and what it makes.
use Rattle.std.proofs.Common.{◌≡◌, ℕ, zero, suc, ◌+◌, ◌/◌, ◌^◌, ◌<◌, ◌≤◌, ◌&&◌, ◌==◌, nat_lt, nat_le, List, [], ◌∷◌, ◌++◌, length, get_or, slice_get, Bool, true, false, if◌then◌else◌, IsTrue, Option, Some, None, is_some, Result, Ok, Err, All, refl, sym, ap, ◌∙◌, arith}
use Rattle.std.proofs.lemmas.List.{get_or-map}
use Rattle.std.proofs.lemmas.Option.{slice_get-get_or}
use Rattle.std.proofs.lemmas.Grind.{common_steps}
use Rattle.std.proofs.lemmas.List.Quantifiers.{position-Some}
use Rattle.pg_wire.specs.declared.refusal.Refusal.{Refusal}
use Rattle.pg_wire.specs.declared.refusal.Refusal.TheVariants.{BadFraction, TimeEnd}
use Rattle.pg_wire.specs.declared.ids.PmuKey.{PmuKey}
use Rattle.pg_wire.specs.Keys.{key_eq}
use Rattle.pg_config.specs.Parts.{Part}
use Rattle.pg_data.specs.Measurements.{Measurement, IsMeasurement, resolution, block_of}
use Rattle.pg_data.specs.Pieces.{Piece}
use Rattle.pg_data.proofs.Sources.{resolution-shared}
use Rattle.pg_stream.specs.Slots.{slot_at, number_at}
use Rattle.pg_align.specs.Histories.{is_above}
use Rattle.pg_align.specs.Slots.{Aligned, OpenSlot, part_at, put_into, opened, with_part, with_arrival}
use Rattle.pg_outcfg.specs.Listing.{Listing, config_at}
use Rattle.pg_outcfg.proofs.Orders.{same_key}
use Rattle.pg_session.specs.Events.{Sample, key_in, sampled_part, samples_at}
use Rattle.pg_session.specs.Streams.{StreamOf, PlacedBlock, place_of, with_place, placed, base_of, effective_in, still, arrive_all, arrival_turn, measure_turn}
use Rattle.pg_session.specs.Kept.{by_slots}
use Rattle.pg_session.specs.Ready.{ArePlaces}
use Rattle.pg_session.specs.Fields.{AreEffective, AreListed, AreTimed}

-- a member whose key the CFG-1 list has is effective
effective_step : (listed : Listing) (members : List PmuKey) (key : PmuKey) (piece : Piece) (ps : List PlacedBlock) (o : Option ℕ) → place_of members key ≡ o
    → IsTrue (is_some (config_at listed key)) → AreEffective (effective_in listed members) ps
    → AreEffective (effective_in listed members) (with_place o piece ps)
effective_step listed members key piece ps None e h w = w
effective_step listed members key piece ps (Some place) e h w =
    let found = position-Some (λ m. key_eq m key) members place key e in
    let there = get_or-map (λ k. is_some (config_at listed k)) members place key false found.0 in
    let same = same_key (get_or members place key) key found.1 in
    (there ∙ ap (λ k. is_some (config_at listed k)) same ∙ h, w)

pub effective-placed : (listed : Listing) (members : List PmuKey) (quality : ℕ) (samples : List Sample) → AreListed listed samples
    → AreEffective (effective_in listed members) (placed members quality samples)
effective-placed listed members quality [] h = tt
effective-placed listed members quality (s ∷ samples) h =
    effective_step listed members s.key (record { quality = quality; block = s.block }) (placed members quality samples) _ refl h.0
    (effective-placed listed members quality samples h.1)

-- at most one placed block for each place
place_few : (o : Option ℕ) (piece : Piece) (others : List PlacedBlock) (n : ℕ) → length others ≤ n → length (with_place o piece others) ≤ suc n
place_few None piece others n h = omega (arith, h)
place_few (Some place) piece others n h = omega (arith, h)

part_few : (members : List PmuKey) (m : Measurement) (i : ℕ) (places : List ℕ) (n : ℕ) (o : Option Part) → length (placed members m.quality (samples_at m places)) ≤ n
    → length (placed members m.quality (sampled_part m i o ++ samples_at m places)) ≤ suc n
part_few members m i places n None h = omega (arith, h)
part_few members m i places n (Some part) h = place_few (place_of members (key_in m.config part)) (record { quality = m.quality; block = block_of m i }) _ n h

pub placed_few : (members : List PmuKey) (m : Measurement) (places : List ℕ) → length (placed members m.quality (samples_at m places)) ≤ length places
placed_few members m [] = omega arith
placed_few members m (i ∷ places) = part_few members m i places (length places) (slice_get m.config.parts i) (placed_few members m places)

-- a block more: at most one slot more, and that one is the block's
put_length : (fresh : OpenSlot Piece) (place : ℕ) (piece : Piece) (slots : List (OpenSlot Piece)) → length (with_part fresh place piece slots) ≤ length slots + 1
put_length fresh place piece [] = omega arith
put_length fresh place piece (s ∷ slots) = by (nat_lt fresh.slot s.slot) (s.slot == fresh.slot) (put_length fresh place piece slots)
  where
    by : (b c : Bool) → length (with_part fresh place piece slots) ≤ length slots + 1
        → length (if b then fresh ∷ s ∷ slots else (if c then put_into s place piece ∷ slots else s ∷ with_part fresh place piece slots)) ≤ length (s ∷ slots) + 1
    by true c h = omega arith
    by false true h = omega arith
    by false false h = omega arith

put_timed : (rate : ℕ) (fresh : OpenSlot Piece) (place : ℕ) (piece : Piece) (slots : List (OpenSlot Piece)) → fresh.slot / rate < 2 ^ 32 → AreTimed rate slots
    → AreTimed rate (with_part fresh place piece slots)
put_timed rate fresh place piece [] t w = (t, tt)
put_timed rate fresh place piece (s ∷ slots) t w = by (nat_lt fresh.slot s.slot) (s.slot == fresh.slot) (put_timed rate fresh place piece slots t w.1)
  where
    by : (b c : Bool) → AreTimed rate (with_part fresh place piece slots)
        → AreTimed rate (if b then fresh ∷ s ∷ slots else (if c then put_into s place piece ∷ slots else s ∷ with_part fresh place piece slots))
    by true c h = (t, w)
    by false true h = w
    by false false h = (w.0, h)

-- what arrivals keep of a stream's slots
pub record Keeps (rate n : ℕ) (old new : Aligned Piece) : Type 0 where
  pub effective : new.effective ≡ old.effective
  pub window : new.window ≡ old.window
  pub longer : length new.slots ≤ length old.slots + n
  pub timed : AreTimed rate new.slots

arrival_by : (rate : ℕ) (a : Aligned Piece) (slot place : ℕ) (piece : Piece) (b c : Bool) → is_above a.last slot ≡ b → is_some (part_at a.slots slot place) ≡ c
    → slot / rate < 2 ^ 32 → AreTimed rate a.slots → Keeps rate 1 a (with_arrival a slot place piece)
arrival_by rate a slot place piece false c e f t w = rw e record { effective = refl; window = refl; longer = omega arith; timed = w }
arrival_by rate a slot place piece true true e f t w = rw (e, f) record { effective = refl; window = refl; longer = omega arith; timed = w }
arrival_by rate a slot place piece true false e f t w =
    rw (e, f) record {
      effective = refl;
      window = refl;
      longer = put_length (opened a slot place piece) place piece a.slots;
      timed = put_timed rate (opened a slot place piece) place piece a.slots t w;
    }

pub arrivals-keep : (rate : ℕ) (a : Aligned Piece) (slot : ℕ) (ps : List PlacedBlock) → slot / rate < 2 ^ 32 → AreTimed rate a.slots
    → Keeps rate (length ps) a (arrive_all by_slots a slot ps).slots
arrivals-keep rate a slot [] t w = record { effective = refl; window = refl; longer = omega arith; timed = w }
arrivals-keep rate a slot (p ∷ ps) t w =
    let one = arrival_by rate a slot p.place p.piece _ _ refl refl t w in
    let rest = arrivals-keep rate (with_arrival a slot p.place p.piece) slot ps t one.timed in
    record {
      effective = rest.effective ∙ one.effective;
      window = rest.window ∙ one.window;
      longer = omega (arith, rest.longer, one.longer);
      timed = rest.timed;
    }

-- the resolution of the first block is the frame's
base_part : (m : Measurement) (i : ℕ) (places : List ℕ) (o : Option Part) → IsTrue (is_some o) → ((p : Part) → o ≡ Some p → p.base ≡ resolution m.config)
    → base_of (sampled_part m i o ++ samples_at m places) ≡ resolution m.config
base_part m i places None t h = absurd (let e : false ≡ true = t in cc)
base_part m i places (Some p) t h = h p refl

part_base : (m : Measurement) (i : ℕ) → IsMeasurement m → i < length m.config.parts → (p : Part) → slice_get m.config.parts i ≡ Some p → p.base ≡ resolution m.config
part_base m i is h p e =
    let there : Some (get_or m.config.parts i p) ≡ Some p = sym (slice_get-get_or m.config.parts i p h) ∙ e in
    let same : get_or m.config.parts i p ≡ p = cc there in
    sym (ap (λ (q : Part). q.base) same) ∙ resolution-shared m.config is.config i p h

part_some : (parts : List Part) (i : ℕ) → i < length parts → IsTrue (is_some (slice_get parts i))
part_some [] i h = absurd (omega arith)
part_some (p ∷ ps) zero h = refl
part_some (p ∷ ps) (suc i) h = part_some ps i (omega arith)

pub base_shared : (m : Measurement) (members : List PmuKey) (places : List ℕ) → IsMeasurement m → All (λ i. i < length m.config.parts) places
    → 0 < length (placed members m.quality (samples_at m places)) → base_of (samples_at m places) ≡ resolution m.config
base_shared m members [] is w some = absurd (omega arith)
base_shared m members (i ∷ places) is w some =
    let within : i < length m.config.parts = w 0 0 (omega arith) in
    base_part m i places (slice_get m.config.parts i) (part_some m.config.parts i within) (part_base m i is within)

turn_some : {A : Type 0} (b c : Bool) (x y : A) → b ≡ true → c ≡ true → (if b && c then x else y) ≡ x
turn_some true true x y e f = refl
turn_some false c x y e f = absurd (cc e)
turn_some true false x y e f = absurd (cc f)

is_below : (n : ℕ) → 0 < n → nat_lt 0 n ≡ true
is_below n h = grind (arith, common_steps)

-- the turn of a stream that is on and has a block as a member's
pub measure_is : (listed : Listing) (m : Measurement) (places : List ℕ) (s : StreamOf (Aligned Piece)) (count base : ℕ) (slot : Result ℕ Refusal)
    → IsMeasurement m → All (λ i. i < length m.config.parts) places → s.slots.is_on ≡ true
    → count ≡ length (placed s.definition.members m.quality (samples_at m places)) → 0 < count → base ≡ resolution m.config
    → slot ≡ slot_at s.definition.rate base m.soc m.frac
    → measure_turn by_slots listed m.soc m.quality m.frac (samples_at m places) s
    ≡ arrival_turn by_slots listed s (placed s.definition.members m.quality (samples_at m places)) slot
measure_is listed m places s count base slot is w on counted some b e =
    let n : 0 < length (placed s.definition.members m.quality (samples_at m places)) = omega (arith, counted) in
    let blocks = placed s.definition.members m.quality (samples_at m places) in
    turn_some s.slots.is_on (nat_lt 0 (length blocks)) _ (still s) on (is_below (length blocks) n)
    ∙ ap (λ k. arrival_turn by_slots listed s blocks (slot_at s.definition.rate k m.soc m.frac)) (base_shared m s.definition.members places is w n ∙ sym b)
    ∙ ap (arrival_turn by_slots listed s blocks) (sym e)

turn_none : {A : Type 0} (b c : Bool) (x y : A) → c ≡ false → (if b && c then x else y) ≡ y
turn_none false c x y e = refl
turn_none true false x y e = refl
turn_none true true x y e = absurd (cc e)

-- the turn of a stream that has no block as a member's
pub nothing-turns : (listed : Listing) (m : Measurement) (places : List ℕ) (s : StreamOf (Aligned Piece))
    → length (placed s.definition.members m.quality (samples_at m places)) ≡ 0
    → measure_turn by_slots listed m.soc m.quality m.frac (samples_at m places) s ≡ still s
nothing-turns listed m places s e = turn_none s.slots.is_on _ _ (still s) (ap (nat_lt 0) e)

-- the numerator of a frame is below its resolution
pub below-base : (m : Measurement) (places : List ℕ) → IsMeasurement m → ArePlaces (length m.config.parts) places → m.frac < base_of (samples_at m places)
below-base m [] is w = absurd (omega (arith, w.some))
below-base m (i ∷ places) is w =
    let within : i < length m.config.parts = w.rising.1 in
    let same = base_part m i places (slice_get m.config.parts i) (part_some m.config.parts i within) (part_base m i is within) in
    omega (arith, same, is.fraction)

end_of_time : (a b : Bool) (n : ℕ) (r : Refusal) → a ≡ false → ◌≡◌ {A = Result ℕ Refusal} (if a then Err BadFraction else if b then Err TimeEnd else Ok n) (Err r)
    → r ≡ TimeEnd
end_of_time true b n r e h = absurd (cc e)
end_of_time false true n r e h = cc
end_of_time false false n r e h = absurd (cc h)

pub only-time_end : (m : Measurement) (places : List ℕ) (rate : ℕ) (r : Refusal) → IsMeasurement m → ArePlaces (length m.config.parts) places
    → slot_at rate (base_of (samples_at m places)) m.soc m.frac ≡ Err r → r ≡ TimeEnd
only-time_end m places rate r is w h =
    let base = base_of (samples_at m places) in
    let number = number_at rate base m.soc m.frac in
    end_of_time (nat_le base m.frac) (nat_le (2 ^ 32) (number / rate)) number r (not_up_to base m.frac (below-base m places is w)) h
  where
    not_up_to : (a b : ℕ) → b < a → nat_le a b ≡ false
    not_up_to a b l = grind (arith, common_steps)
