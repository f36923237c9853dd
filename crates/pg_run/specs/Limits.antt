-- Limits of time. They are nanoseconds.
use Rattle.std.specs.Prelude.{ℕ, zero, suc, ◌*◌, ◌==◌, if◌then◌else◌, Option, Some, None, option_map}
use Rattle.pg_operator.specs.declared.source.SourceRules.{SourceRules}
use Rattle.pg_service.specs.declared.metered_gate.Guards.{Guards}

-- so many seconds; 0 is no limit
abbrev pub limit_of : ℕ → Option ℕ
limit_of zero = None
limit_of (suc n) = Some (suc n * 1000000000)

-- How far the times of a source's measurements may be from the clocks, in milliseconds: `clock_ms` either way from this machine's, and
-- `ahead_ms` ahead of the reference, of which 0 is no limit.
abbrev pub guards_by : SourceRules → Guards
guards_by rules = record {
  near = option_map (λ limit. record { limit = limit }) rules.clock_ms;
  ahead = if rules.ahead_ms == 0 then None else Some (record { limit = rules.ahead_ms });
}
