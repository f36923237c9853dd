-- Whether the gateway does its work, by what its workers report.
use Rattle.std.specs.Prelude.{ℕ, List, Bool, false, Option, Some, None, nat_lt, if◌then◌else◌}
use Rattle.std.specs.List.{list_any}
use Rattle.pg_status.specs.declared.snapshot.SourceState.{SourceState}
use Rattle.pg_status.specs.declared.health.Health.{Health}
use Rattle.pg_status.specs.declared.health.Health.TheVariants.{Well, Unanswered, NoData}

abbrev pub is_before : ℕ → Option ℕ → Bool
is_before within None = false
is_before within (Some seconds) = nat_lt seconds within

-- it sent data that count less than so many seconds ago
abbrev pub is_recent : ℕ → SourceState → Bool
is_recent within source = is_before within source.last_data

-- Each worker answered, and one source at least sent data. A configuration is no data.
abbrev pub health_of : ℕ → ℕ → List SourceState → Health
health_of unanswered within sources =
    if nat_lt 0 unanswered then Unanswered unanswered
    else if list_any (is_recent within) sources then Well
    else NoData
