-- Inputs that name other subscribers.
use Rattle.std.specs.Prelude.{◌≡◌, ℕ, ◌+◌, ◌≤◌, nat_eq, Bool, false, not, List, [], ◌∷◌, filter}
use Rattle.pg_gateway.specs.GatewayEvents.{GatewayEvent, add_sub, drop_sub, grant, asks, stats, audit, standing, inquires}
use Rattle.pg_serve.specs.Inputs.{InputValue, link_up, pmu_bytes, sub_bytes, names}
use Rattle.pg_serve.specs.Full.{view_of}

-- the event names another subscriber than u
abbrev pub names_other : ℕ → GatewayEvent → Bool
names_other u (add_sub w size bytes) = not (nat_eq u w)
names_other u (drop_sub w) = not (nat_eq u w)
names_other u (grant w key) = not (nat_eq u w)
names_other u (asks w x) = not (nat_eq u w)
names_other u (inquires (stats w)) = not (nat_eq u w)
names_other u (inquires (audit w index)) = not (nat_eq u w)
names_other u (inquires (standing w place)) = not (nat_eq u w)
names_other u _ = false

abbrev pub is_of_other : ℕ → InputValue → Bool
is_of_other u (link_up s) = false
is_of_other u (pmu_bytes s piece) = false
is_of_other u (sub_bytes w piece) = not (nat_eq u w)
is_of_other u (names e) = names_other u e

-- the inputs but those that name another subscriber than u: grants, definitions, bytes, connects and drains of u, and what
-- names no subscriber
abbrev pub without_others : ℕ → List InputValue → List InputValue
without_others u inputs = filter (λ f. not (is_of_other u f)) inputs

-- how often a subscriber is to be added
abbrev pub adds_by : GatewayEvent → ℕ
adds_by (add_sub u size bytes) = 1
adds_by _ = 0

abbrev pub adds_at : InputValue → ℕ
adds_at (link_up s) = 0
adds_at (pmu_bytes s piece) = 0
adds_at (sub_bytes u piece) = 0
adds_at (names e) = adds_by e

abbrev pub adds_in : List InputValue → ℕ
adds_in [] = 0
adds_in (f ∷ inputs) = adds_at f + adds_in inputs

-- Two lists of inputs that differ only in inputs which name other subscribers give a subscriber equal views, where neither
-- adds subscribers more than 64 times, so that for none there is no room.
pub record NeighboursChangeNothing : Type 0 where
  pub views : (u : ℕ) (is js : List InputValue) → adds_in is ≤ 64 → adds_in js ≤ 64 → without_others u is ≡ without_others u js
      → view_of u is ≡ view_of u js
