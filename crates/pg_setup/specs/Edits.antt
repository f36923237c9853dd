-- The edits that lead from one setup to another.
use Rattle.std.specs.Prelude.{ℕ, ◌==◌, ◌&&◌, ◌++◌, Bool, false, not, List, [], ◌∷◌, Option, Some, None, if◌then◌else◌}
use Rattle.std.specs.List.{list_any, filter_map}
use Rattle.pg_gateway.specs.declared.edit.Edit.{Edit}
use Rattle.pg_gateway.specs.declared.edit.Edit.TheVariants.{AddPmu, DropPmu, AddSub, DropSub, Grant, Revoke, Define, Remove}
use Rattle.pg_setup.specs.declared.steps.Step.{Step}
use Rattle.pg_setup.specs.declared.steps.Step.TheVariants as step
use Rattle.pg_setup.specs.Alike.{has}

-- ---- subscribers

abbrev pub adds : ℕ → Edit → Bool
adds u (AddSub v size bytes) = v == u
adds u e = false

-- both setups have this subscriber, with the same ring and bytes
abbrev pub stays : List Edit → List Edit → ℕ → Bool
stays old new u = list_any (λ e. adds u e && has new e) old

-- the new setup has it, and the old one has it not, or with another ring or other bytes
abbrev pub comes : List Edit → List Edit → ℕ → Bool
comes old new u = list_any (λ e. adds u e && not (has old e)) new

-- ---- what is done about each edit of a setup, in eight steps

abbrev pub when : Bool → Edit → Option Edit
when b e = if b then Some e else None

-- of the old setup: its subscribers that do not stay, and its PMUs
abbrev pub dropped_sub : List Edit → Edit → Option Edit
dropped_sub new (AddSub u size bytes) = when (not (has new (AddSub u size bytes))) (DropSub u)
dropped_sub new e = None

abbrev pub dropped_pmu : List Edit → Edit → Option Edit
dropped_pmu new (AddPmu k) = when (not (has new (AddPmu k))) (DropPmu k)
dropped_pmu new e = None

-- of the new one: its PMUs, and all edits of its subscribers that come
abbrev pub added_pmu : List Edit → Edit → Option Edit
added_pmu old (AddPmu k) = when (not (has old (AddPmu k))) (AddPmu k)
added_pmu old e = None

abbrev pub added_sub : List Edit → List Edit → Edit → Option Edit
added_sub old new (AddSub u size bytes) = when (comes old new u) (AddSub u size bytes)
added_sub old new (Grant u k) = when (comes old new u) (Grant u k)
added_sub old new (Define u d) = when (comes old new u) (Define u d)
added_sub old new e = None

-- of subscribers that stay: grants, but of PMUs that are dropped, which is what revokes them
abbrev pub revoked : List Edit → List Edit → Edit → Option Edit
revoked old new (Grant u k) = when ((stays old new u && has new (AddPmu k)) && not (has new (Grant u k))) (Revoke u k)
revoked old new e = None

abbrev pub granted : List Edit → List Edit → Edit → Option Edit
granted old new (Grant u k) = when (stays old new u && not (has old (Grant u k))) (Grant u k)
granted old new e = None

-- and streams
abbrev pub removed : List Edit → List Edit → Edit → Option Edit
removed old new (Define u d) = when (stays old new u && not (has new (Define u d))) (Remove u d.stream)
removed old new e = None

abbrev pub defined : List Edit → List Edit → Edit → Option Edit
defined old new (Define u d) = when (stays old new u && not (has old (Define u d))) (Define u d)
defined old new e = None

-- each edit where it first stands, behind those that were seen
abbrev pub once_after : List Edit → List Edit → List Edit
once_after seen [] = seen
once_after seen (e ∷ es) = if has seen e then once_after seen es else once_after (seen ++ e ∷ []) es

-- ---- all of them, in order; a stream that is gone or changed is removed before anything that could make a frame of another layout in it;
-- what the old setup grants twice is revoked once

abbrev pub edits_between : List Edit → List Edit → List Edit
edits_between old new =
    ((((((filter_map (dropped_sub new) old
    ++ filter_map (removed old new) old)
    ++ filter_map (dropped_pmu new) old)
    ++ filter_map (added_pmu old) new)
    ++ filter_map (added_sub old new) new)
    ++ filter_map (revoked old new) (once_after [] old))
    ++ filter_map (granted old new) new)
    ++ filter_map (defined old new) new

-- the step by its name
abbrev pub step_of : Step → List Edit → List Edit → Edit → Option Edit
step_of step.DropSubs old new = dropped_sub new
step_of step.Removes old new = removed old new
step_of step.DropPmus old new = dropped_pmu new
step_of step.AddPmus old new = added_pmu old
step_of step.AddSubs old new = added_sub old new
step_of step.Revokes old new = revoked old new
step_of step.Grants old new = granted old new
step_of step.Defines old new = defined old new
