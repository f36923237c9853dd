-- After each turn the effective members are those that the CFG-1 list has.
use Rattle.std.proofs.Common.{◌≡◌, ℕ, ◌&&◌, ◌||◌, ◌==◌, not, filter, IsTrue, nat_lt, List, [], ◌∷◌, ◌++◌, length, map, take, drop, Bool, true, false, if◌then◌else◌, is_some, Option, Some, None, Result, Ok, Err, refl, sym, ap₂, ◌∙◌}
use Rattle.std.proofs.lemmas.List.{take_at}
use Rattle.pg_wire.specs.declared.refusal.Refusal.{Refusal}
use Rattle.pg_wire.specs.declared.ids.PmuKey.{PmuKey}
use Rattle.pg_config.specs.Parts.{Part}
use Rattle.pg_data.specs.Pieces.{Piece}
use Rattle.pg_stream.specs.Slots.{slot_at}
use Rattle.pg_align.specs.Slots.{Aligned, with_arrival}
use Rattle.pg_wire.specs.Keys.{key_eq}
use Rattle.pg_entitle.specs.Grants.{has_key, without_key}
use Rattle.pg_entitle.proofs.Orders.{eq_refl, same_of_eq}
use Rattle.pg_outcfg.specs.Listing.{Listing, config_at, without_config}
use Rattle.pg_session.specs.Fields.{AreGranted}
use Rattle.pg_session.specs.Events.{Sample}
use Rattle.pg_session.specs.Shape.{same_config, same_shape}
use Rattle.pg_session.specs.Streams.{StreamOf, Turn, PlacedBlock, placed, base_of, effective_in, still, arrive_all, arrival_turn, measure_turn, reshape_turn, tick_turn}
use Rattle.pg_session.specs.Private.{stopped}
use Rattle.pg_session.specs.Kept.{by_slots, by_gaps}
use Rattle.pg_session.specs.Fields.{AreFitted, stream_after}
use Rattle.pg_session.proofs.Simulating.{arrived_by, leaving-effective}

abbrev OneStream : Type 0
OneStream = StreamOf (Aligned Piece)

abbrev pub Fits : Listing → OneStream → Type 0
Fits listed s = s.slots.effective ≡ effective_in listed s.definition.members

pub fitted_map : (listed other : Listing) (turn : OneStream → Turn (Aligned Piece)) → ((s : OneStream) → Fits listed s → Fits other (turn s).stream)
    → (ss : List OneStream) → AreFitted listed ss → AreFitted other (map (λ s. stream_after (turn s)) ss)
fitted_map listed other turn each [] w = tt
fitted_map listed other turn each (s ∷ ss) w = (each s w.0, fitted_map listed other turn each ss w.1)

fits_if : (listed : Listing) (b : Bool) (t u : Turn (Aligned Piece)) → Fits listed t.stream → Fits listed u.stream → Fits listed (if b then t else u).stream
fits_if listed true t u x y = x
fits_if listed false t u x y = y

pub tick-fits : (listed : Listing) (s : OneStream) → Fits listed s → Fits listed (tick_turn by_slots listed s).stream
tick-fits listed s w = fits_if listed s.slots.is_on _ (still s) (leaving-effective (by_slots.tick s.slots) _ ∙ w) w

arrivals-effective : (a : Aligned Piece) (slot : ℕ) (ps : List PlacedBlock) → (arrive_all by_slots a slot ps).slots.effective ≡ a.effective
arrivals-effective a slot [] = refl
arrivals-effective a slot (p ∷ ps) =
    arrivals-effective (with_arrival a slot p.place p.piece) slot ps ∙ (arrived_by a slot p.place p.piece _ _ refl refl).1

arrival-fits : (listed : Listing) (s : OneStream) (blocks : List PlacedBlock) (slot : Result ℕ Refusal) → Fits listed s
    → Fits listed (arrival_turn by_slots listed s blocks slot).stream
arrival-fits listed s blocks (Err r) w = w
arrival-fits listed s blocks (Ok slot) w =
    leaving-effective (arrive_all by_slots s.slots slot blocks).slots _ ∙ arrivals-effective s.slots slot blocks ∙ w

pub measure-fits : (listed : Listing) (soc quality frac : ℕ) (samples : List Sample) (s : OneStream) → Fits listed s
    → Fits listed (measure_turn by_slots listed soc quality frac samples s).stream
measure-fits listed soc quality frac samples s w =
    let blocks = placed s.definition.members quality samples in
    fits_if listed (s.slots.is_on && nat_lt 0 (length blocks)) _ (still s)
    (arrival-fits listed s blocks (slot_at s.definition.rate (base_of samples) soc frac) w) w

-- members whose configurations are the same are effective by both lists, or by neither
same_some : (a b : Option Part) → same_config a b ≡ true → is_some a ≡ is_some b
same_some None None h = refl
same_some (Some x) (Some y) h = refl
same_some None (Some y) h = absurd (cc h)
same_some (Some x) None h = absurd (cc h)

both : (b c : Bool) → (b && c) ≡ true → (b ≡ true) × (c ≡ true)
both true true h = (refl, refl)
both true false h = absurd (cc h)
both false c h = absurd (cc h)

same_effective : (listed other : Listing) (members : List PmuKey) → same_shape members listed other ≡ true
    → effective_in listed members ≡ effective_in other members
same_effective listed other [] h = refl
same_effective listed other (key ∷ members) h =
    let parts = both (same_config (config_at listed key) (config_at other key)) (same_shape members listed other) h in
    ap₂ (λ x xs. x ∷ xs) (same_some (config_at listed key) (config_at other key) parts.0) (same_effective listed other members parts.1)

reshape_by : (listed other : Listing) (s : OneStream) (b : Bool) → same_shape s.definition.members listed other ≡ b → Fits listed s
    → Fits other (reshape_turn by_slots listed other s).stream
reshape_by listed other s true e w = rw e (w ∙ same_effective listed other s.definition.members e)
reshape_by listed other s false e w = rw e refl

pub reshape-fits : (listed other : Listing) (s : OneStream) → Fits listed s → Fits other (reshape_turn by_slots listed other s).stream
reshape-fits listed other s w = reshape_by listed other s _ refl w

-- a slice of a whole list, written in place
pub whole_slice : {X : Type 0} (ys xs : List X) (n : ℕ) → n ≡ length ys → take n (ys ++ drop (length ys) xs) ≡ ys
whole_slice ys xs n e = take_at ys (drop (length ys) xs) n (sym e)

pub fitted_stopped : (listed : Listing) (ss : List OneStream) → AreFitted listed ss → AreFitted listed (map (stopped by_slots by_gaps) ss)
fitted_stopped listed [] w = tt
fitted_stopped listed (s ∷ ss) w = (w.0, fitted_stopped listed ss w.1)

flipped : (a b : PmuKey) → key_eq b a ≡ false → key_eq a b ≡ false
flipped a b e = by (key_eq a b) refl where
  by : (c : Bool) → key_eq a b ≡ c → c ≡ false
  by false h = refl
  by true h = absurd (let same : a ≡ b = same_of_eq a b h in let here : key_eq b a ≡ true = rw same (eq_refl b) in cc (here, e))

-- what is listed is granted, also without one PMU
pub granted_step : (key k : PmuKey) (grants : List PmuKey) → key_eq k key ≡ false → IsTrue (has_key grants k) → IsTrue (has_key (without_key grants key) k)
granted_step key k [] e h = absurd (cc h)
granted_step key k (g ∷ grants) e h = by (key_eq key g) (key_eq k g) refl refl h (granted_step key k grants e)
  where
    apart : key_eq key g ≡ true → key_eq k g ≡ true → ⊥
    apart x y = absurd (cc (e, eq_refl k, same_of_eq key g x, same_of_eq k g y))

    by : (b d : Bool) → key_eq key g ≡ b → key_eq k g ≡ d → IsTrue (d || has_key grants k) → (IsTrue (has_key grants k) → IsTrue (has_key (without_key grants key) k))
        → IsTrue (has_key (if b then grants else g ∷ without_key grants key) k)
    by true true x y t rest = absurd (apart x y)
    by true false x y t rest = t
    by false true x y t rest = rw y refl
    by false false x y t rest = rw y (rest t)

pub revoked_granted : (key : PmuKey) (grants : List PmuKey) (listed : Listing) → AreGranted grants listed
    → AreGranted (without_key grants key) (without_config listed key)
revoked_granted key grants [] w = tt
revoked_granted key grants (e ∷ es) w = by (key_eq key e.0) refl (revoked_granted key grants es w.1)
  where
    by : (b : Bool) → key_eq key e.0 ≡ b → AreGranted (without_key grants key) (without_config es key)
        → AreGranted (without_key grants key) (if not b then e ∷ without_config es key else without_config es key)
    by true x rest = rest
    by false x rest = (granted_step key e.0 grants (flipped e.0 key x) w.0, rest)

pub fitted_without : (listed : Listing) (number : ℕ) (ss : List OneStream) → AreFitted listed ss
    → AreFitted listed (filter (λ (s : OneStream). not (s.definition.stream == number)) ss)
fitted_without listed number [] w = tt
fitted_without listed number (s ∷ ss) w = by (not (s.definition.stream == number)) (fitted_without listed number ss w.1)
  where
    by : (b : Bool) → AreFitted listed (filter (λ (t : OneStream). not (t.definition.stream == number)) ss)
        → AreFitted listed (if b then s ∷ filter (λ (t : OneStream). not (t.definition.stream == number)) ss
        else filter (λ (t : OneStream). not (t.definition.stream == number)) ss)
    by true rest = (w.0, rest)
    by false rest = rest

pub fitted_appended : (listed : Listing) (ss : List OneStream) (t : OneStream) → AreFitted listed ss → Fits listed t → AreFitted listed (ss ++ t ∷ [])
fitted_appended listed [] t w f = (f, tt)
fitted_appended listed (s ∷ ss) t w f = (w.0, fitted_appended listed ss t w.1 f)
