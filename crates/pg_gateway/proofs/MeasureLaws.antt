-- What the gateway is after a measurement.
use Rattle.std.proofs.Common.{◌≡◌, ℕ, ◌≤◌, Bool, true, false, not, if◌then◌else◌, List, [], ◌∷◌, length, map, filter, Option, Some, None, refl, ap, subst, ◌∙◌, arith, inl, inr}
use Rattle.std.specs.Prelude.{◌==◌}
use Rattle.pg_wire.specs.declared.refusal.Refusal.{Refusal}
use Rattle.pg_wire.specs.declared.refusal.Refusal.TheVariants.{NoMemory, NoConfig, StaleConfig, FarClock}
use Rattle.pg_wire.specs.Number.{number_of}
use Rattle.pg_config.specs.Parts.{Part}
use Rattle.pg_data.specs.Measurements.{Measurement}
use Rattle.pg_registry.specs.Registered.{Pmus, has_key, config_in}
use Rattle.pg_session.specs.Events.{Sample, samples_at}
use Rattle.pg_session.specs.Private.{refused, done, refuse}
use Rattle.pg_gateway.specs.Related.{Related}
use Rattle.pg_gateway.specs.Sharing.{measures, total}
use Rattle.pg_gateway.specs.Judging.{same_part, is_far, block_refusal, sample_refusal, first_refusal, blocks_counted, memory_counted, samples_in, judged, taken_of}
use Rattle.pg_gateway.specs.GatewayEvents.{measure, tells}
use Rattle.pg_gateway.specs.State.{SharedMachine, taken_in, judged_in}
use Rattle.pg_gateway.specs.Shown.{SlotValue, SlotShows, GatewayValue, GatewayShows, Steps}
use Rattle.pg_gateway.specs.Taking.{IsBroadcast}
use Rattle.pg_gateway.specs.Placing.{ArePlaced}

-- a block is never refused for want of memory
block_not_memory : (held : Option Part) (last : Option ℕ) (soc : ℕ) (config : Part) (r : Refusal) → block_refusal held last soc config ≡ Some r → (number_of r == 1) ≡ false
block_not_memory None last soc config r is = let same : NoConfig ≡ r = cc in subst (λ r. (number_of r == 1) ≡ false) same refl
block_not_memory (Some held) last soc config r is = by (same_part held config) (is_far last soc) is
  where
    by : (b far : Bool) → refuse (not b) StaleConfig (refuse far FarClock None) ≡ Some r → (number_of r == 1) ≡ false
    by false far is = let same : StaleConfig ≡ r = cc in subst (λ r. (number_of r == 1) ≡ false) same refl
    by true true is = let same : FarClock ≡ r = cc in subst (λ r. (number_of r == 1) ≡ false) same refl
    by true false is = none_is is
      where
        none_is : None ≡ Some r → (number_of r == 1) ≡ false
        none_is e = cc

first_not_memory : (pmus : Pmus) (last : Option ℕ) (soc : ℕ) (xs : List Sample)
    → (number_of (first_refusal (map (λ s. (s.key, sample_refusal pmus last soc s)) (filter (λ s. has_key pmus s.key) xs))) == 1) ≡ false
first_not_memory pmus last soc [] = refl
first_not_memory pmus last soc (s ∷ xs) = by (has_key pmus s.key) (first_not_memory pmus last soc xs)
  where
    one : (o : Option Refusal) → sample_refusal pmus last soc s ≡ o
        → (number_of (first_refusal (map (λ s. (s.key, sample_refusal pmus last soc s)) (filter (λ s. has_key pmus s.key) xs))) == 1) ≡ false
        → (number_of (first_refusal ((s.key, o) ∷ map (λ s. (s.key, sample_refusal pmus last soc s)) (filter (λ s. has_key pmus s.key) xs))) == 1) ≡ false
    one None is rest = rest
    one (Some r) is rest = block_not_memory (config_in pmus s.key) last soc s.config r is

    by : (b : Bool) → (number_of (first_refusal (map (λ s. (s.key, sample_refusal pmus last soc s)) (filter (λ s. has_key pmus s.key) xs))) == 1) ≡ false
        → (number_of (first_refusal (map (λ s. (s.key, sample_refusal pmus last soc s)) (if b then s ∷ filter (λ s. has_key pmus s.key) xs else filter (λ s. has_key pmus s.key) xs))) == 1) ≡ false
    by true rest = one (sample_refusal pmus last soc s) refl rest
    by false rest = rest

pub measured_refused : (m : Measurement) (S : SharedMachine) (old : GatewayValue) (pmus : Pmus) → GatewayShows old S → taken_in S m ≡ [] → pmus ≡ blocks_counted S.pmus (judged_in S m)
    → Steps S (measure m) (tells (refused (first_refusal (judged_in S m)))) (record { pmus = pmus; subs = old.subs; last_tick = old.last_tick })
measured_refused m S old pmus shown none counted =
    let kept = first_not_memory S.pmus S.last_tick m.soc (samples_in m) in
    record {
      may = rw none refl;
      shows = rw (none, kept) (record { pmus = counted; subs = shown.subs; last_tick = shown.last_tick });
    }

pub measured_memory : (m : Measurement) (S : SharedMachine) (old : GatewayValue) (pmus : Pmus) (entries : List (ℕ × SlotValue)) (s : Sample) (taken : List Sample) → GatewayShows old S → taken_in S m ≡ s ∷ taken
    → Related SlotShows entries S.subs → pmus ≡ memory_counted S.pmus (map (λ b. b.0) (judged_in S m))
    → Steps S (measure m) (tells (refused NoMemory)) (record { pmus = pmus; subs = entries; last_tick = old.last_tick })
measured_memory m S old pmus entries s taken shown some related counted =
    record {
      may = rw some (inr (refl, refl));
      shows = rw some (record { pmus = counted; subs = related; last_tick = shown.last_tick });
    }

pub measured_goes : (m : Measurement) (S : SharedMachine) (old : GatewayValue) (pmus : Pmus) (entries : List (ℕ × SlotValue)) (made kept : ℕ) (s : Sample) (taken : List Sample) → GatewayShows old S → taken_in S m ≡ s ∷ taken
    → IsBroadcast (measures m.soc m.quality m.frac (taken_in S m)) made kept S.subs entries → kept ≤ made → pmus ≡ blocks_counted S.pmus (judged_in S m)
    → Steps S (measure m) (tells (done made kept)) (record { pmus = pmus; subs = entries; last_tick = old.last_tick })
measured_goes m S old pmus entries made kept s taken shown some fans few counted =
    let fan = rw some at fans in
    let within : kept ≤ total (measures m.soc m.quality m.frac (s ∷ taken)) S.subs = subst (λ n. kept ≤ n) fan.count few in
    record {
      may = rw some (inl (kept, within, ap (λ n. tells (done n kept)) fan.count));
      shows = rw some (record { pmus = counted; subs = fan.shows; last_tick = shown.last_tick });
    }

-- what was judged by what is kept is what the state says
pub judged_shown : (m : Measurement) (S : SharedMachine) (v : GatewayValue) (ps : List (ℕ × Option Refusal)) → GatewayShows v S → ArePlaced v.pmus ps (judged v.pmus v.last_tick m) → ArePlaced S.pmus ps (judged_in S m)
judged_shown m S v ps shown placed =
    subst (λ last. ArePlaced S.pmus ps (judged S.pmus last m)) shown.last_tick (subst (λ pmus. ArePlaced pmus ps (judged pmus v.last_tick m)) shown.pmus placed)

pub taken_shown : (m : Measurement) (S : SharedMachine) (v : GatewayValue) (ps : List ℕ) → GatewayShows v S → samples_at m ps ≡ taken_of v.pmus v.last_tick m → samples_at m ps ≡ taken_in S m
taken_shown m S v ps shown is = is ∙ ap (λ pmus. taken_of pmus v.last_tick m) shown.pmus ∙ ap (λ last. taken_of S.pmus last m) shown.last_tick

pub no_samples : (m : Measurement) (ps : List ℕ) → length ps ≡ 0 → samples_at m ps ≡ []
no_samples m [] none = refl
no_samples m (p ∷ ps) none = absurd (omega arith)
