-- What the counter's total is after a history.
use Rattle.std.specs.Prelude.{ℕ, ◌+◌, ◌^◌, ◌-◌, min, List, fold}
use Rattle.pg_laws.specs.declared.counter.Add.{Add}

-- the total after n more, at most the greatest u64
abbrev pub capped_add : ℕ → ℕ → ℕ
capped_add total n = min (total + n) (2 ^ 64 - 1)

-- the total after these calls, from 0
abbrev pub total_of : List (Add × ℕ) → ℕ
total_of history = fold (λ total call. capped_add total (call.0.0)) 0 history
