-- What reload leaves alone.
use Rattle.std.specs.Prelude.{◌≡◌, ℕ, ◌==◌, Bool, true, false, List}
use Rattle.pg_gateway.specs.declared.edit.Edit.{Edit}
use Rattle.pg_gateway.specs.declared.edit.Edit.TheVariants.{AddPmu, DropPmu, AddSub, DropSub, Grant, Revoke, Define, Remove, Stats, PmuStats, Audit}
use Rattle.pg_setup.specs.Alike.{has}

-- both setups have the same of these edits
abbrev pub AgreeOn : (Edit → Bool) → List Edit → List Edit → Type 0
AgreeOn p old new = (e : Edit) → p e ≡ true → has old e ≡ has new e

-- and of all edits: they ask for the same, in whatever order
abbrev pub Agree : List Edit → List Edit → Type 0
Agree old new = (e : Edit) → has old e ≡ has new e

-- an edit that names this subscriber, or registers or drops a PMU that the setup grants to it
abbrev pub touches : List Edit → ℕ → Edit → Bool
touches setup u (AddPmu k) = has setup (Grant u k)
touches setup u (DropPmu k) = has setup (Grant u k)
touches setup u (AddSub v size bytes) = v == u
touches setup u (DropSub v) = v == u
touches setup u (Grant v k) = v == u
touches setup u (Revoke v k) = v == u
touches setup u (Define v d) = v == u
touches setup u (Remove v s) = v == u
touches setup u (Stats v) = v == u
touches setup u (PmuStats k) = false
touches setup u (Audit v i) = v == u
