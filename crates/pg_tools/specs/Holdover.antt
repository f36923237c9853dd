-- What a PMU says of a clock that has lost its source of time (C37.118.2, 6.2 and 6.3). The clock is of quartz and runs fast or slow by a millionth, so that
-- after a number of microseconds it is wrong by as many picoseconds.
use Rattle.std.specs.Prelude.{ℕ, ◌+◌, ◌-◌, ◌*◌, nat_lt, nat_le, Option, Some, None, if◌then◌else◌}

-- the time quality of frames, where the clock is wrong by so many picoseconds: code c, 1 to 11, is within 10^(c - 10) seconds, and 15 is beyond
abbrev pub time_quality : ℕ → ℕ
time_quality error =
    if nat_le error 1000 then 1
    else if nat_le error 10000 then 2
    else if nat_le error 100000 then 3
    else if nat_le error 1000000 then 4
    else if nat_le error 10000000 then 5
    else if nat_le error 100000000 then 6
    else if nat_le error 1000000000 then 7
    else if nat_le error 10000000000 then 8
    else if nat_le error 100000000000 then 9
    else if nat_le error 1000000000000 then 10
    else if nat_le error 10000000000000 then 11
    else 15

-- PMU time quality by that code: 1 is within 100 ns, each further one within ten times as much, and 7 is beyond 10 ms
abbrev pub pmu_quality : ℕ → ℕ
pmu_quality code = if nat_lt code 4 then 1 else if nat_lt code 9 then code - 2 else 7

-- unlocked time, of so many microseconds: 0 is under 10 s, 1 under 100 s, 2 up to 1,000 s
abbrev pub unlocked_time : ℕ → ℕ
unlocked_time micros =
    if nat_lt micros 10000000 then 0
    else if nat_lt micros 100000000 then 1
    else if nat_le micros 1000000000 then 2
    else 3

-- STAT where the clock has been without its source for so many microseconds: bit 13, not in sync; PMU time quality, bits 8 to 6; unlocked time, bits 5 and 4
abbrev pub unlocked_stat : ℕ → ℕ
unlocked_stat micros = 8192 + 64 * pmu_quality (time_quality micros) + 16 * unlocked_time micros

-- the same of a clock that may be locked: then none of these bits is set, and the code of time quality is 0
abbrev pub stat_of : Option ℕ → ℕ
stat_of None = 0
stat_of (Some micros) = unlocked_stat micros

abbrev pub quality_of : Option ℕ → ℕ
quality_of None = 0
quality_of (Some micros) = time_quality micros
