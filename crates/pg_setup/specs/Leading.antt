-- Where edits lead. What a gateway has is said by the edits of a setup: it has a PMU that was added, and so on.
use Rattle.std.specs.Prelude.{◌≡◌, ℕ, ◌==◌, ◌&&◌, ◌||◌, Bool, true, false, not, List, [], ◌∷◌}
use Rattle.pg_wire.specs.declared.ids.PmuKey.{PmuKey}
use Rattle.pg_wire.specs.Keys.{key_eq}
use Rattle.pg_stream.specs.declared.definition.Definition.{Definition}
use Rattle.pg_gateway.specs.declared.edit.Edit.{Edit}
use Rattle.pg_gateway.specs.declared.edit.Edit.TheVariants.{AddPmu, DropPmu, AddSub, DropSub, Grant, Revoke, Define, Remove}
use Rattle.pg_setup.specs.Alike.{edit_eq, grants, has}

-- ---- what an edit takes away

-- with a PMU each grant of it
abbrev pub is_of_pmu : PmuKey → Edit → Bool
is_of_pmu k (AddPmu l) = key_eq k l
is_of_pmu k (Grant u l) = key_eq k l
is_of_pmu k e = false

-- with a subscriber its grants and its streams
abbrev pub is_of_sub : ℕ → Edit → Bool
is_of_sub u (AddSub v size bytes) = u == v
is_of_sub u (Grant v k) = u == v
is_of_sub u (Define v d) = u == v
is_of_sub u e = false

-- a stream by its number
abbrev pub is_stream : ℕ → ℕ → Edit → Bool
is_stream u n (Define v d) = u == v && n == d.stream
is_stream u n e = false

abbrev pub takes : Edit → Edit → Bool
takes (DropPmu k) e = is_of_pmu k e
takes (DropSub u) e = is_of_sub u e
takes (Revoke u k) e = grants u k e
takes (Remove u n) e = is_stream u n e
takes d e = false

-- ---- what a gateway has

-- whether it has e after these edits: it had it and they took it not away, or they added it
abbrev pub has_after : List Edit → Edit → Bool → Bool
has_after [] e had = had
has_after (d ∷ ds) e had = has_after ds e ((had && not (takes d e)) || edit_eq d e)

-- ---- setups without a refused edit

pub record HasSub (setup : List Edit) (u : ℕ) : Type 0 where
  pub size : ℕ
  pub bytes : ℕ
  pub added : has setup (AddSub u size bytes) ≡ true

-- a subscriber is added once; its grants are of PMUs that are registered; grants and streams are of subscribers that are added; no two
-- streams of a subscriber have one number
pub record IsSound (setup : List Edit) : Type 0 where
  pub one : (u size bytes ring limit : ℕ) → has setup (AddSub u size bytes) ≡ true → has setup (AddSub u ring limit) ≡ true
      → (size ≡ ring) × (bytes ≡ limit)
  pub held : (u : ℕ) (k : PmuKey) → has setup (Grant u k) ≡ true → has setup (AddPmu k) ≡ true
  pub holder : (u : ℕ) (k : PmuKey) → has setup (Grant u k) ≡ true → HasSub setup u
  pub owner : (u : ℕ) (d : Definition) → has setup (Define u d) ≡ true → HasSub setup u
  pub numbered : (u : ℕ) (d e : Definition) → has setup (Define u d) ≡ true → has setup (Define u e) ≡ true → d.stream ≡ e.stream → d ≡ e

-- ---- edits lead from one setup to another where, of each edit of a setup, a gateway that has what the one asks for has after them what
-- the other asks for

abbrev pub LeadsFrom : List Edit → List Edit → List Edit → Type 0
LeadsFrom old new edits = (e : Edit) → has_after edits e (has old e) ≡ has new e
