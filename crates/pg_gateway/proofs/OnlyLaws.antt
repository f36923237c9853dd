-- A frame's only block that a subscriber holds.
use Rattle.std.proofs.Common.{◌≡◌, ℕ, ◌<◌, All, inl, inr, Bool, true, false, true≢false, List, [], ◌∷◌, length, filter, get_or, Some, refl, sym, ap, subst, ◌∙◌, arith}
use Rattle.std.specs.Prelude.{slice_get, nat_eq, Result, Ok, Err, IfOk}
use Rattle.std.specs.Int.{bit_at}
use Rattle.std.specs.Map.{values_of}
use Rattle.indexmap.specs.IndexMap.{set_value_at}
use Rattle.std.proofs.lemmas.Bool.{cases_eq}
use Rattle.std.proofs.lemmas.List.Elements.{filter_passes, All-get_or}
use Rattle.pg_wire.specs.declared.refusal.Refusal.{Refusal}
use Rattle.pg_wire.specs.declared.ids.PmuKey.{PmuKey}
use Rattle.pg_entitle.specs.Grants.{has_key}
use Rattle.pg_config.specs.Parts.{Source}
use Rattle.pg_data.specs.Measurements.{Measurement}
use Rattle.pg_session.specs.Events as event
use Rattle.pg_session.specs.Events.{SubscriberEvent, samples_at}
use Rattle.pg_session.specs.Ready.{AreRising}
use Rattle.pg_session.specs.Shown.{Own}
use Rattle.pg_gateway.specs.Sharing.{SubscriberSlot, Broadcast, frames_in_share, after_share, share}
use Rattle.pg_gateway.specs.Shown.{SlotValue, SlotShows}
use Rattle.pg_gateway.specs.Frugal.{NeedsNoCopy}
use Rattle.pg_gateway.specs.Taking.{measured, part_passes, IsFit, IsPrepared, Awaits, Fits, PreparesShare, TakesShare, TakesBroadcast}
use Rattle.pg_gateway.specs.Routes.{WhereBit, HoldsPart, IsOnlyBit, TellsShare, SharesTold}
use Rattle.pg_gateway.proofs.Taking.{measured_share}
use Rattle.pg_gateway.proofs.RouteLaws.{value_set_same, value_set_other}
use Rattle.pg_gateway.proofs.MaskLaws.{one_at}
use Rattle.pg_gateway.proofs.Places.{rising-all}

-- of these places, those of a source's PMUs that are granted
abbrev granted_of : Source → List PmuKey → List ℕ → List ℕ
granted_of source grants places = filter (λ i. part_passes (has_key grants) source (slice_get source.parts i)) places

only_granted : (source : Source) (place : ℕ) (grants : List PmuKey) → part_passes (has_key grants) source (slice_get source.parts place) ≡ true → place ∷ [] ≡ granted_of source grants (place ∷ [])
only_granted source place grants holds = rw holds refl

-- one that is granted of some holds it
pub holds_of : (source : Source) (places : List ℕ) (place : ℕ) (grants : List PmuKey) → place ∷ [] ≡ granted_of source grants places
    → part_passes (has_key grants) source (slice_get source.parts place) ≡ true
holds_of source places place grants is =
    let all = filter_passes (λ i. part_passes (has_key grants) source (slice_get source.parts i)) places in
    subst (λ l. All (λ i. part_passes (has_key grants) source (slice_get source.parts i) ≡ true) l) (sym is) all 0 place (omega arith)

-- Its share of a frame is the block, whichever other places there are.
pub share_of_block : (m : Measurement) (place : ℕ) (grants : List PmuKey) → place < length m.config.parts → part_passes (has_key grants) m.config (slice_get m.config.parts place) ≡ true
    → share (measured m (place ∷ [])) grants ≡ Some (event.measure m.soc m.quality m.frac (samples_at m (place ∷ [])))
share_of_block m place grants within holds =
    measured_share m (place ∷ []) (place ∷ []) grants (only_granted m.config place grants holds) (omega arith, within, tt) (omega arith)

pub share_of_one : (m : Measurement) (places : List ℕ) (place : ℕ) (grants : List PmuKey) → place < length m.config.parts → place ∷ [] ≡ granted_of m.config grants places
    → share (measured m places) grants ≡ share (measured m (place ∷ [])) grants
share_of_one m places place grants within is =
    measured_share m places (place ∷ []) grants is (omega arith, within, tt) (omega arith)
    ∙ sym (share_of_block m place grants within (holds_of m.config places place grants is))

-- the place of the only bit of a number that tells what it holds
pub only_told : (m : Measurement) (places : List ℕ) (n i : ℕ) (v : SlotValue) → AreRising 0 (length m.config.parts) places → TellsShare false n m.config places v → IsOnlyBit n i
    → (get_or places i 0 < length m.config.parts) × HoldsPart m.config (get_or places i 0) v
    × (share (measured m places) v.subscriber.own.grants ≡ share (measured m (get_or places i 0 ∷ [])) v.subscriber.own.grants)
only_told m places n i v rising tell only =
    let one = one_at n i places only (tell.bits refl) in
    let is : get_or places i 0 ∷ [] ≡ granted_of m.config v.subscriber.own.grants places = sym one.1 ∙ tell.held in
    let within = All-get_or (λ i. i < length m.config.parts) places i 0 one.0 (rising-all 0 _ places rising) in
    (within, holds_of m.config places (get_or places i 0) v.subscriber.own.grants is, share_of_one m places (get_or places i 0) v.subscriber.own.grants within is)

-- what is said of a share alone
module _ (o p : Broadcast) (v : SlotValue) (same : share o v.subscriber.own.grants ≡ share p v.subscriber.own.grants) where
  pub fits_same : Fits o v → Fits p v
  fits_same fit = subst (λ x. IsFit v.subscriber x) same fit

  pub awaits_same : Awaits o v → Awaits p v
  awaits_same awaits = record {
    fit = subst (λ x. IsFit v.subscriber x) same awaits.fit;
    prepared = subst (λ x. IsPrepared v.subscriber x) same awaits.prepared;
    spared = λ on. sym same ∙ awaits.spared on;
  }

  pub prepares_same : (result : Result Unit Refusal) (new : SlotValue) → PreparesShare p v result new → PreparesShare o v result new
  prepares_same (Ok u) new prepares = record {
    prepared = subst (λ x. IsPrepared new.subscriber x) (sym same) prepares.prepared;
    memory = tt;
    needless = λ _. refl;
    spared = λ on. same ∙ prepares.spared on;
    own = prepares.own;
    audit = prepares.audit;
  }
  prepares_same (Err r) new prepares = record {
    prepared = tt;
    memory = prepares.memory;
    needless = λ needs. prepares.needless (subst (λ x. NeedsNoCopy v.subscriber x) same needs);
    spared = tt;
    own = prepares.own;
    audit = prepares.audit;
  }

pub takes_same : (m : Measurement) (ps qs : List ℕ) (lost : Bool) (old new : SlotValue) (counts : ℕ × ℕ)
    → share (measured m ps) old.subscriber.own.grants ≡ share (measured m qs) old.subscriber.own.grants
    → TakesBroadcast (measured m qs) lost old counts new → TakesBroadcast (measured m ps) lost old counts new
takes_same m ps qs lost old new counts same takes = record {
  shares = λ s shown. one s shown (takes.shares s shown);
  few = takes.few;
  kept = takes.kept;
  none = takes.none;
}
  where
    one : (s : SubscriberSlot) → SlotShows old s → TakesShare (measured m qs) lost counts.0 counts.1 s new → TakesShare (measured m ps) lost counts.0 counts.1 s new
    one s shown taken =
        let is : share (measured m qs) s.own.grants ≡ share (measured m ps) s.own.grants =
        ap (share (measured m qs)) (sym shown.subscriber.grants) ∙ sym same ∙ ap (share (measured m ps)) shown.subscriber.grants in
        record {
          count = taken.count ∙ ap (λ x. frames_in_share x s.own) is;
          none_kept = taken.none_kept;
          shows = subst (λ x. SlotShows new (after_share x [] s counts.1)) is taken.shows;
        }

-- Where each marked subscriber holds the whole of one place, each of them holds that PMU, and the other way round.
module _ (granted_all granted_some : ℕ) (granted_blocks : List ℕ) (source : Source) (places : List ℕ) (place : ℕ) (xs : List (ℕ × SlotValue)) (one : places ≡ place ∷ [])
    (same : granted_some ≡ granted_all) where
  is_common : (j : ℕ) → bit_at granted_some j ≡ 1 → nat_eq (bit_at granted_all j) 1 ≡ true
  is_common j granted = ap (λ n. nat_eq (bit_at n j) 1) (sym same) ∙ ap (λ b. nat_eq b 1) granted

  pub told_holds : SharesTold granted_all granted_blocks source places granted_some xs → WhereBit 1 granted_some (HoldsPart source place) xs
  told_holds told j v at granted =
      let tell = subst (λ b. TellsShare b (get_or granted_blocks j 0) source places v) (is_common j granted) (told j v at granted) in
      holds_of source places place v.subscriber.own.grants (sym one ∙ tell.held)

  pub holds_told : WhereBit 1 granted_some (HoldsPart source place) xs → SharesTold granted_all granted_blocks source places granted_some xs
  holds_told holds j v at granted =
      let tell : TellsShare true (get_or granted_blocks j 0) source (place ∷ []) v = record {
        bits = λ no. absurd (true≢false no);
        held = only_granted source place v.subscriber.own.grants (holds j v at granted);
      } in
      subst (λ b. TellsShare b (get_or granted_blocks j 0) source places v) (sym (is_common j granted))
      (subst (λ ps. TellsShare true (get_or granted_blocks j 0) source ps v) (sym one) tell)

-- It stays so where one subscriber's copies were laid.
pub holds_own : (source : Source) (place : ℕ) (old new : SlotValue) → new.subscriber.own ≡ old.subscriber.own → HoldsPart source place old → HoldsPart source place new
holds_own source place old new own holds = subst (λ (o : Own). part_passes (has_key o.grants) source (slice_get source.parts place) ≡ true) (sym own) holds

pub kept_marked : (P : SlotValue → Type 0) (xs : List (ℕ × SlotValue)) (i : ℕ) (w : SlotValue) (n : ℕ) → P w → WhereBit 1 n P xs → WhereBit 1 n P (set_value_at xs i w)
kept_marked P xs i w n here all = λ j v at set.
    elim (cases_eq j i) [
      | inl same ↦ subst P (value_set_same xs i w v (ap (slice_get (values_of (set_value_at xs i w))) (sym same) ∙ at)) here
      | inr other ↦ all j v (sym (value_set_other xs i j w other) ∙ at) set
    ]

-- a list of one place
pub one_place : (places : List ℕ) → length places ≡ 1 → places ≡ get_or places 0 0 ∷ []
one_place [] e = absurd (omega (arith, e))
one_place (i ∷ []) e = refl
one_place (i ∷ j ∷ places) e = absurd (omega (arith, e))

pub ok_then : (result : Result Unit Refusal) (P Q : Type 0) → (P → Q) → IfOk result (λ u. P) → IfOk result (λ u. Q)
ok_then (Ok u) P Q f p = f p
ok_then (Err r) P Q f p = tt
