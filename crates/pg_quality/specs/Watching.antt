-- What changed from one look to the next, for the log.
use Rattle.std.specs.Prelude.{ℕ, ◌*◌, ◌/◌, ◌^◌, ℤ, pos, unsigned_abs, nat_lt, nat_le, not, ◌==◌, ◌||◌, Bool, true, false, Option, Some, None, if◌then◌else◌}
use Rattle.std.specs.Int.{int_max}
use Rattle.pg_quality.specs.Stats.{is_set, no_stat}
use Rattle.pg_quality.specs.Tallies.{completeness_of}
use Rattle.pg_quality.specs.declared.completeness.Tally.{Tally}
use Rattle.pg_quality.specs.declared.stat.StatCounts.{StatCounts}
use Rattle.pg_quality.specs.declared.watch.PmuChanges.{PmuChanges}
use Rattle.pg_quality.specs.declared.watch.PmuWatch.{PmuWatch}

abbrev pub nothing_seen : PmuWatch
nothing_seen = record { stat = no_stat; is_out_of_sync = false; has_error = false }

-- a block was out of sync since the last look, or the last block is
abbrev pub is_out : PmuWatch → StatCounts → Bool
is_out w s = not (s.out_of_sync == w.stat.out_of_sync) || is_set s.last 13

-- a block reported a data error since the last look, or the last block does
abbrev pub has_error : PmuWatch → StatCounts → Bool
has_error w s =
    not (s.pmu_error == w.stat.pmu_error) || not (s.test_or_absent == w.stat.test_or_absent) || not (s.do_not_use == w.stat.do_not_use)
    || not (s.last / 2 ^ 14 == 0)

abbrev pub change_of : Bool → Bool → Option Bool
change_of false false = None
change_of false true = Some true
change_of true false = Some false
change_of true true = None

abbrev pub looked : PmuWatch → StatCounts → PmuWatch
looked w s = record { stat = s; is_out_of_sync = is_out w s; has_error = has_error w s }

abbrev pub changes_of : PmuWatch → StatCounts → PmuChanges
changes_of w s = record { is_out_of_sync = change_of w.is_out_of_sync (is_out w s); has_error = change_of w.has_error (has_error w s) }

-- fewer tenths of a per cent came than is borne
abbrev pub is_below : Bool → ℕ → Bool
is_below was_short tenths = if was_short then nat_lt tenths 990 else nat_lt tenths 950

abbrev pub is_short_by : Bool → Option ℕ → Bool
is_short_by was_short None = was_short
is_short_by was_short (Some tenths) = is_below was_short tenths

-- too many frames are missing in a minute; with less than ten seconds of frames expected that stays as it was
abbrev pub is_short_after : Bool → Tally → ℤ → Bool
is_short_after was_short minute rate =
    if nat_le (10 * unsigned_abs (int_max rate (pos 1))) minute.expected then is_short_by was_short (completeness_of minute) else was_short
