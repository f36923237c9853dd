-- The measures of a worker's sources.
use Rattle.std.specs.Prelude.{◌≡◌, ◌⊎◌, ℕ, ◌/◌, Bool, true, false, not, ◌||◌, ◌==◌, nat_lt, List, [], ◌∷◌, ◌++◌, length, slice_get, slice_index_or, slice_set, Option, Some, None, if◌then◌else◌}
use Rattle.pg_config.specs.Parts.{Source}
use Rattle.pg_data.specs.Measurements.{Measurement}
use Rattle.pg_quality.specs.Sources.{SourceState, announced, came_to, changes_at, connected, forgotten, judged, judgement, looked_at, no_source, noted}
use Rattle.pg_quality.specs.Tallies.{completeness_of, last_minute}
use Rattle.pg_quality.specs.declared.watch.PmuChanges.{PmuChanges}

-- the measures of each source by its place; which of them is served, and the machine's clock as it is; whether another second began for one, and
-- whether there was no memory for an announcement, since that was asked last
pub record Held : Type 0 where
  pub sources : List SourceState
  pub place : ℕ
  pub clock : ℕ
  pub has_begun : Bool
  pub is_short : Bool

abbrev pub no_measures : Held
no_measures = record { sources = []; place = 0; clock = 0; has_begun = false; is_short = false }

-- the source at a place changes, if there is one
abbrev pub changed : (SourceState → SourceState) → List SourceState → ℕ → List SourceState
changed f ss place = if nat_lt place (length ss) then slice_set ss place (f (slice_index_or ss place no_source)) else ss

-- it is served from here on
abbrev pub begins_in : Option SourceState → ℕ → Bool
begins_in None second = false
begins_in (Some s) second = not (second == s.frames.completeness.second)

abbrev pub served : Held → ℕ → ℕ → Held
served m place clock = record m {
  sources = changed (came_to (clock / 1000)) m.sources place;
  place = place;
  clock = clock;
  has_begun = m.has_begun || begins_in (slice_get m.sources place) (clock / 1000);
}

-- the source that is served
abbrev pub served_one : Held → Option SourceState
served_one m = slice_get m.sources m.place

-- that one changes
abbrev pub with_served : (SourceState → SourceState) → Held → Held
with_served f m = record m { sources = changed f m.sources m.place }

-- whether too many of its frames are missing, where that changed, and what came of those that are expected
abbrev pub judged_with : Option Bool → Option ℕ → Option (Bool × ℕ)
judged_with None came = None
judged_with (Some is_short) None = None
judged_with (Some is_short) (Some came) = Some (is_short, came)

abbrev pub judgement_of : Option SourceState → ℕ → Option (Bool × ℕ)
judgement_of None second = None
judgement_of (Some s) second = judged_with (judgement second s) (completeness_of (last_minute s.frames.completeness second))

-- what changed of one of its PMUs
abbrev pub changes_of_served : Option SourceState → ℕ → Option (ℕ × PmuChanges)
changes_of_served None pmu = None
changes_of_served (Some s) pmu = changes_at pmu s

-- it announced this configuration: there was memory for its PMUs, or there was none
abbrev pub Announces : Held → Source → Held → Type 0
Announces m config n =
    (n ≡ with_served (λ s. announced s config) m)
    ⊎ (n ≡ record (with_served (λ s. forgotten s config) m) { is_short = true })
