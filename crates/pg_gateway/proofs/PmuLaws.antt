-- A PMU is not registered.
use Rattle.std.proofs.Common.{◌≡◌, ℕ, ◌<◌, ◌≤◌, ◌⊎◌, Bool, true, false, length, None, Result, Err, MatchOption, refl, ap, ◌∙◌, arith, inr}
use Rattle.std.specs.Prelude.{nat_le}
use Rattle.std.proofs.lemmas.Bool.Decides.{nat_tests}
use Rattle.pg_wire.specs.declared.refusal.Refusal.{Refusal}
use Rattle.pg_wire.specs.declared.refusal.Refusal.TheVariants.{NoMemory, PmuExists, PmusFull}
use Rattle.pg_wire.specs.declared.ids.PmuKey.{PmuKey}
use Rattle.pg_registry.specs.Registered.{Pmus, has_key}
use Rattle.pg_session.specs.Private.{refused, refuse}
use Rattle.pg_gateway.specs.GatewayEvents.{add_pmu, tells}
use Rattle.pg_gateway.specs.State.{SharedMachine, answer, made}
use Rattle.pg_gateway.specs.Shown.{GatewayValue, GatewayShows, Steps}

pub err_same : (a b : Refusal) → ◌≡◌ {A = Result (Unit {0}) Refusal} (Err a) (Err b) → a ≡ b
err_same a b e = cc

pub pmu_refused : (key : PmuKey) (S : SharedMachine) (old : GatewayValue) (pmus : Pmus) (r : Refusal) → GatewayShows old S → pmus ≡ old.pmus
    → (has_key old.pmus key ≡ true → r ≡ PmuExists) → (has_key old.pmus key ≡ false → 256 ≤ length old.pmus → r ≡ PmusFull) → (has_key old.pmus key ≡ false → length old.pmus < 256 → r ≡ NoMemory)
    → Steps S (add_pmu key) (tells (refused r)) (record { pmus = pmus; subs = old.subs; last_tick = old.last_tick })
pmu_refused key S old pmus r shown same exists full memory =
    record {
      may = by (has_key S.pmus key) refl (nat_le 256 (length S.pmus)) refl;
      shows = record { pmus = same ∙ shown.pmus; subs = shown.subs; last_tick = shown.last_tick };
    }
  where
    has : has_key old.pmus key ≡ has_key S.pmus key
    has = ap (λ pmus. has_key pmus key) shown.pmus

    many : length old.pmus ≡ length S.pmus
    many = ap length shown.pmus

    reaches : 256 ≤ length S.pmus → 256 ≤ length old.pmus
    reaches le = omega (arith, ap length shown.pmus, le)

    below : length S.pmus < 256 → length old.pmus < 256
    below lt = omega (arith, ap length shown.pmus, lt)

    by : (b : Bool) → has_key S.pmus key ≡ b → (f : Bool) → nat_le 256 (length S.pmus) ≡ f
        → MatchOption (refuse b PmuExists (refuse f PmusFull None))
        (((k : ℕ) × (k ≤ made S (add_pmu key)) × (tells (refused r) ≡ answer S (add_pmu key) k)) ⊎ ((tells (refused r) ≡ tells (refused NoMemory)) × (true ≡ true)))
        (λ first. tells (refused r) ≡ tells (refused first))
    by true is f full_is = ap (λ r. tells (refused r)) (exists (has ∙ is))
    by false is true full_is = ap (λ r. tells (refused r)) (full (has ∙ is) (reaches (grind (arith, nat_tests))))
    by false is false full_is = inr (ap (λ r. tells (refused r)) (memory (has ∙ is) (below (grind (arith, nat_tests)))), refl)
