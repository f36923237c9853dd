-- In a state whose registry and CFG-1 lists agree, each subscriber may take its share.
use Rattle.std.proofs.Common.{◌≡◌, ℕ, ◌&&◌, Bool, true, false, true≢false, not, if◌then◌else◌, is_some, List, [], ◌∷◌, filter, Option, Some, None, refl, sym, ap, ◌∙◌}
use Rattle.std.specs.Prelude.{bytes_eq, ℤ}
use Rattle.std.proofs.lemmas.Bool.{eqb-true}
use Rattle.std.proofs.lemmas.Slice.Eq.{bytes_eq-Decides}
use Rattle.std.proofs.lemmas.Bool.Decides.{Decides-int_eq}
use Rattle.pg_wire.specs.declared.refusal.Refusal.TheVariants.{StaleConfig, FarClock}
use Rattle.pg_wire.specs.declared.ids.PmuKey.{PmuKey}
use Rattle.pg_config.specs.Parts.{Part}
use Rattle.pg_entitle.specs.Grants.{has_key}
use Rattle.pg_outcfg.specs.Listing.{Listing, config_at}
use Rattle.pg_registry.specs.Registered.{Pmus, config_in}
use Rattle.pg_session.specs.Events.{Announcing, Sample}
use Rattle.pg_session.specs.Private.{refuse}
use Rattle.pg_session.specs.Shown.{SubscriberValue}
use Rattle.pg_session.specs.Ready.{AreOwn, AreHeld}
use Rattle.pg_gateway.specs.Related.{Related}
use Rattle.pg_gateway.specs.Sharing.{SubscriberSlots, announces, measures, some_announced, some_measured}
use Rattle.pg_gateway.specs.Judging.{same_part, block_refusal, is_far, is_taken}
use Rattle.pg_gateway.specs.Shown.{SlotValue, SlotShows}
use Rattle.pg_gateway.specs.Taking.{Fits, IsFit}
use Rattle.pg_gateway.specs.Frugal.{AllSlots}
use Rattle.pg_gateway.specs.Consistent.{AllAgree}

-- an announcement is of granted PMUs alone, once the others are left out
own_announced : (grants : List PmuKey) (list : List Announcing) → AreOwn grants (filter (λ a. has_key grants a.key) list)
own_announced grants [] = tt
own_announced grants (a ∷ list) = by (has_key grants a.key) refl (own_announced grants list)
  where
    by : (b : Bool) → has_key grants a.key ≡ b → AreOwn grants (filter (λ a. has_key grants a.key) list)
        → AreOwn grants (if b then a ∷ filter (λ a. has_key grants a.key) list else filter (λ a. has_key grants a.key) list)
    by true is rest = (is, rest)
    by false is rest = rest

pub fits_announced : (list : List Announcing) (v : SlotValue) → Fits (announces list) v
fits_announced list v = by (filter (λ a. has_key v.subscriber.own.grants a.key) list) (own_announced v.subscriber.own.grants list)
  where
    by : (l : List Announcing) → AreOwn v.subscriber.own.grants l → IsFit v.subscriber (some_announced l)
    by [] own = tt
    by (a ∷ l) own = own

pub all_fit_announced : (list : List Announcing) (xs : List (ℕ × SlotValue)) → AllSlots (Fits (announces list)) xs
all_fit_announced list [] = tt
all_fit_announced list (x ∷ xs) = (fits_announced list x.1, all_fit_announced list xs)

-- equal configurations
both : (a b : Bool) → (a && b) ≡ true → (a ≡ true) × (b ≡ true)
both true b is = (refl, is)
both false b is = absurd (true≢false (sym is))

same_part_is : (a b : Part) → same_part a b ≡ true → a ≡ b
same_part_is a b is =
    let one = both _ _ is in
    let two = both _ _ one.1 in
    let three = both _ _ two.1 in
    let four = both _ _ three.1 in
    let five = both _ _ four.1 in
    fields a.base b.base a.rate b.rate a.phasors b.phasors a.analogs b.analogs a.digitals b.digitals a.block b.block
    (eqb-true _ _ one.0) ((Decides-int_eq a.rate b.rate).0 two.0) (eqb-true _ _ three.0) (eqb-true _ _ four.0) (eqb-true _ _ five.0) (bytes_same a.block b.block five.1)
  where
    fields : (base base' : ℕ) (rate rate' : ℤ) (phasors phasors' analogs analogs' digitals digitals' : ℕ) (block block' : List ℕ)
        → base ≡ base' → rate ≡ rate' → phasors ≡ phasors' → analogs ≡ analogs' → digitals ≡ digitals' → block ≡ block'
        → ◌≡◌ {A = Part} (record { base = base; rate = rate; phasors = phasors; analogs = analogs; digitals = digitals; block = block })
        (record { base = base'; rate = rate'; phasors = phasors'; analogs = analogs'; digitals = digitals'; block = block' })
    fields base base' rate rate' phasors phasors' analogs analogs' digitals digitals' block block' p q r s t u = cc

    bytes_same : (x y : List ℕ) → bytes_eq x y ≡ true → x ≡ y
    bytes_same x y e = (bytes_eq-Decides x y).0 e

-- a block that is taken was read by what its PMU announced last
taken_held : (held : Option Part) (last : Option ℕ) (soc : ℕ) (config : Part) → not (is_some (block_refusal held last soc config)) ≡ true → held ≡ Some config
taken_held None last soc config is = absurd (true≢false (sym is))
taken_held (Some held) last soc config is = by (same_part held config) refl is
  where
    by : (b : Bool) → same_part held config ≡ b → not (is_some (refuse (not b) StaleConfig (refuse (is_far last soc) FarClock None))) ≡ true → Some held ≡ Some config
    by true same is = ap Some (same_part_is held config same)
    by false same is = absurd (true≢false (sym is))

pub taken_config : (pmus : Pmus) (last : Option ℕ) (soc : ℕ) (s : Sample) → is_taken pmus last soc s ≡ true → config_in pmus s.key ≡ Some s.config
taken_config pmus last soc s is = taken_held (config_in pmus s.key) last soc s.config (both _ _ is).1

-- of a list each of whose keys is granted, each has its configuration listed
held_measured : (pmus : Pmus) (last : Option ℕ) (soc : ℕ) (grants : List PmuKey) (listed : Listing)
    → ((key : PmuKey) → config_at listed key ≡ (if has_key grants key then config_in pmus key else None)) → (xs : List Sample)
    → AreHeld grants listed (filter (λ s. has_key grants s.key) (filter (is_taken pmus last soc) xs))
held_measured pmus last soc grants listed agrees [] = tt
held_measured pmus last soc grants listed agrees (s ∷ xs) = by (is_taken pmus last soc s) refl (held_measured pmus last soc grants listed agrees xs)
  where
    rest : List Sample
    rest = filter (is_taken pmus last soc) xs

    inner : (b : Bool) → has_key grants s.key ≡ b → is_taken pmus last soc s ≡ true → AreHeld grants listed (filter (λ s. has_key grants s.key) (filter (is_taken pmus last soc) xs))
        → AreHeld grants listed (if b then s ∷ filter (λ s. has_key grants s.key) (filter (is_taken pmus last soc) xs) else filter (λ s. has_key grants s.key) (filter (is_taken pmus last soc) xs))
    inner true is taken others =
        (is, agrees s.key ∙ ap (λ b. if b then config_in pmus s.key else None) is ∙ taken_config pmus last soc s taken, others)
    inner false is taken others = others

    by : (b : Bool) → is_taken pmus last soc s ≡ b → AreHeld grants listed (filter (λ s. has_key grants s.key) (filter (is_taken pmus last soc) xs))
        → AreHeld grants listed (filter (λ s. has_key grants s.key) (if b then s ∷ filter (is_taken pmus last soc) xs else filter (is_taken pmus last soc) xs))
    by true taken others = inner (has_key grants s.key) refl taken others
    by false taken others = others

pub all_fit_measured : (pmus : Pmus) (last : Option ℕ) (soc quality frac : ℕ) (samples : List Sample) (xs : List (ℕ × SlotValue)) (ss : SubscriberSlots) → Related SlotShows xs ss → AllAgree pmus ss
    → AllSlots (Fits (measures soc quality frac (filter (is_taken pmus last soc) samples))) xs
all_fit_measured pmus last soc quality frac samples [] ss related agree = tt
all_fit_measured pmus last soc quality frac samples (x ∷ xs) [] related agree = absurd related
all_fit_measured pmus last soc quality frac samples (x ∷ xs) (s ∷ ss) related agree = (
  by (filter (λ t. has_key v.own.grants t.key) (filter (is_taken pmus last soc) samples)) (held_measured pmus last soc v.own.grants v.own.listed agrees samples),
  all_fit_measured pmus last soc quality frac samples xs ss related.2 agree.1,
)
  where
    v : SubscriberValue
    v = x.1.subscriber

    by : (l : List Sample) → AreHeld x.1.subscriber.own.grants x.1.subscriber.own.listed l → IsFit x.1.subscriber (some_measured soc quality frac l)
    by [] held = tt
    by (t ∷ l) held = held

    agrees : (key : PmuKey) → config_at x.1.subscriber.own.listed key ≡ (if has_key x.1.subscriber.own.grants key then config_in pmus key else None)
    agrees key =
        ap (λ l. config_at l key) related.1.subscriber.listed ∙ agree.0.listed key
        ∙ ap (λ grants. if has_key grants key then config_in pmus key else None) (sym related.1.subscriber.grants)
