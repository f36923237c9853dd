use Rattle.std.proofs.Common.{rules, ◌≡◌, [], ◌∷◌, refl, sym, subst, Some, List, Option}
use Rattle.atomic_table.specs.Table.{opening}
use Rattle.pg_turn.specs.Steps.{Kept, newcomer}
use Rattle.pg_turn.specs.declared.counted.Counted.{Counted}
use Rattle.pg_turn.specs.Counting.{CountedShows}
use Rattle.pg_turn.proofs.Turning.{opens}
use Rattle.pg_turn.proofs.turnstile.Turnstile.new.Goals as goal

pub new-requires : goal.new-requires
new-requires g c = let is : c.push.new.self.items ≡ Some (record { machine = c.args.machine; calls = 0 }) ∷ [] = search rules in
    subst (λ (l : List (Option (Counted g.row.M.Denot))). Kept (CountedShows g.M.Machine.shows) g.M.Machine.may (opening (0 ∷ []) l (newcomer []))) (sym is) (opens (CountedShows g.M.Machine.shows) g.M.Machine.may (record { machine = c.args.machine; calls = 0 }) (record { machine = c.requires.opening; count = refl }))
