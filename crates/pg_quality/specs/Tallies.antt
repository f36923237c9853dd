-- Completeness: instants that are expected, and those for which a frame came. Seconds and minutes are those of the machine's clock.
use Rattle.std.specs.Prelude.{ℕ, ◌-◌, ◌*◌, ◌/◌, ◌%◌, ℤ, pos, Bool, ◌&&◌, nat_lt, nat_le, ◌==◌, List, replicate, slice_set, slice_index_or, Option, Some, None, if◌then◌else◌}
use Rattle.std.specs.List.{fold}
use Rattle.std.specs.Ordering.{int_eq}
use Rattle.pg_quality.specs.Counting.{more}
use Rattle.pg_quality.specs.declared.span.Place.{Place}
use Rattle.pg_quality.specs.declared.span.Place.TheVariants.{First, After, Before, Repeated, Forgotten, Unnumbered}
use Rattle.pg_quality.specs.declared.completeness.Tally.{Tally}
use Rattle.pg_quality.specs.declared.completeness.Row.{Row}
use Rattle.pg_quality.specs.declared.completeness.Completeness.{Completeness}

abbrev pub nothing : Tally
nothing = record { expected = 0; received = 0 }

abbrev pub both : Tally → Tally → Tally
both a b = record { expected = more a.expected b.expected; received = more a.received b.received }

-- what a frame adds whose instant stands so to those before it. The first of a span is expected, unless DATA_RATE is 0; the instants up to a later one
-- are, with it; what comes out of order was expected before.
abbrev pub tally_of : Place → ℤ → Tally
tally_of First rate = if int_eq rate (pos 0) then record { expected = 0; received = 1 } else record { expected = 1; received = 1 }
tally_of (After steps) rate = record { expected = steps; received = 1 }
tally_of Before rate = record { expected = 0; received = 1 }
tally_of Repeated rate = nothing
tally_of Forgotten rate = nothing
tally_of Unnumbered rate = record { expected = 0; received = 1 }

-- what so many frames add that each are of the instant behind the last
abbrev pub in_turn : ℕ → Tally
in_turn frames = record { expected = frames; received = frames }

-- received of expected, in tenths of a per cent rounded down: 1,000 says that none is missing
abbrev pub completeness_of : Tally → Option ℕ
completeness_of t =
    if t.expected == 0 then None
    else if nat_le t.expected t.received then Some 1000 else Some ((t.received * 1000) / t.expected)

-- ---- 60 rows, each at its number mod 60

abbrev pub no_row : Row
no_row = record { number = 0; tally = nothing }

abbrev pub row_at : List Row → ℕ → Row
row_at rows number = slice_index_or rows (number % 60) no_row

-- what is filed under a number: nothing where its row has another
abbrev pub filed_at : List Row → ℕ → Tally
filed_at rows number = if (row_at rows number).number == number then (row_at rows number).tally else nothing

-- more is filed under it; another number of its row gives way
abbrev pub filed_with : List Row → ℕ → Tally → List Row
filed_with rows number tally = slice_set rows (number % 60) (record { number = number; tally = both (filed_at rows number) tally })

-- a number is one of the 60 up to another, with it
abbrev pub is_within : ℕ → ℕ → Bool
is_within number last = nat_le number last && nat_lt (last - number) 60

abbrev pub with_row : ℕ → Tally → Row → Tally
with_row last total row = if is_within row.number last then both total row.tally else total

-- what is filed under the 60 numbers up to this one
abbrev pub filed_since : List Row → ℕ → Tally
filed_since rows last = fold (with_row last) nothing rows

-- ---- all of it

abbrev pub nothing_came : Completeness
nothing_came = record { second = 0; current = nothing; seconds = replicate 60 no_row; minutes = replicate 60 no_row; connected = nothing }

-- another second begins: what came in the one before is filed
abbrev pub rolled : Completeness → ℕ → Completeness
rolled c second = record {
  second = second;
  current = nothing;
  seconds = filed_with c.seconds c.second c.current;
  minutes = filed_with c.minutes (c.second / 60) c.current;
  connected = both c.connected c.current;
}

-- more came in this second
abbrev pub with_tally : Completeness → Tally → Completeness
with_tally c tally = record c { current = both c.current tally }

-- what is filed, with what came in the last second where that belongs to it
abbrev pub with_current : Completeness → Bool → Tally → Tally
with_current c belongs t = if belongs then both t c.current else t

abbrev pub in_second : Completeness → ℕ → Tally
in_second c second = with_current c (second == c.second) (filed_at c.seconds second)

abbrev pub in_minute : Completeness → ℕ → Tally
in_minute c minute = with_current c (minute == c.second / 60) (filed_at c.minutes minute)

abbrev pub last_minute : Completeness → ℕ → Tally
last_minute c second = with_current c (is_within c.second second) (filed_since c.seconds second)

abbrev pub last_hour : Completeness → ℕ → Tally
last_hour c second = with_current c (is_within (c.second / 60) (second / 60)) (filed_since c.minutes (second / 60))
