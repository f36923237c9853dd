use Rattle.std.proofs.Common.{ℕ, List, arith, ◌≡◌, ◌<◌, ◌+◌, ◌++◌, length, get_or, map, take, drop}
use Rattle.std.specs.Prelude.{slice_set}
use Rattle.std.proofs.lemmas.Grind.{common_steps}
use Rattle.std.proofs.lemmas.List.Edits.{map_over_more}
use Rattle.std.proofs.lemmas.List.{take_all, drop_all}
use Rattle.pg_limits.specs.Connections.{forgotten}
use Rattle.pg_limits.specs.declared.known_layout.KnownLayout.{KnownLayout}
use Rattle.pg_limits.proofs.known_layouts.KnownLayouts.forget_others.Goals as goal

step : (f : KnownLayout → KnownLayout) (xs ys : List KnownLayout) (i : ℕ) (y d : KnownLayout) → length xs ≡ 8 → i < 8 →
    ys ≡ map f (take i xs) ++ drop i xs → y ≡ f (get_or ys i d) → slice_set ys i y ≡ map f (take (i + 1) xs) ++ drop (i + 1) xs
step f xs ys i y d long within so_far is_next = grind (arith, common_steps, map_over_more f)

pub loop-entry-preserved : goal.loop-entry-preserved
loop-entry-preserved c =
    step (forgotten c.args.found.now) c.self.inside.streams c.loop-entry.entry-items c.loop-entry.entry-index _ _ c.self.invariant c.loop-entry-test.true
    c.loop-entry.invariant c.forget.ensures

pub returns : goal.returns
returns c = grind (arith, common_steps, c.self.invariant, take_all, drop_all)
