-- Spans of instants, and how the instant of a frame stands to those before it.
use Rattle.std.specs.Prelude.{ℕ, ◌-◌, ◌*◌, ◌%◌, ◌^◌, max, ℤ, pos, unsigned_abs, bit_or, not, ◌||◌, nat_lt, nat_le, ◌==◌, if◌then◌else◌}
use Rattle.std.specs.Int.{bit_at, int_max}
use Rattle.std.specs.Ordering.{int_eq}
use Rattle.pg_quality.specs.Counting.{more}
use Rattle.pg_quality.specs.Instants.{instant_of}
use Rattle.pg_quality.specs.declared.frame_time.FrameTime.{FrameTime}
use Rattle.pg_quality.specs.declared.span.Span.{Span}
use Rattle.pg_quality.specs.declared.span.SpanCounts.{SpanCounts}
use Rattle.pg_quality.specs.declared.span.Place.{Place}
use Rattle.pg_quality.specs.declared.span.Place.TheVariants.{First, After, Before, Repeated, Forgotten, Unnumbered}

-- so many instants further is no jump yet: 60 seconds, and 60 frames where DATA_RATE is in seconds a frame
abbrev pub jump_of : ℤ → ℕ
jump_of rate = 60 * unsigned_abs (int_max rate (pos 1))

-- no frame came
abbrev pub no_span : Span
no_span = record { rate = pos 0; jump = 0; first = 0; last = 0; came = 0 }

-- one frame came
abbrev pub begun_at : ℤ → ℕ → Span
begun_at rate instant = record { rate = rate; jump = jump_of rate; first = instant; last = instant; came = 1 }

-- ---- where an instant stands

abbrev pub place_after : Span → ℕ → Place
place_after s steps = if nat_lt s.jump steps then First else After steps

abbrev pub place_before : Span → ℕ → Place
place_before s steps =
    if nat_lt s.jump steps then First
    else if nat_le 64 steps || nat_lt (s.last - s.first) steps then Forgotten
    else if bit_at s.came steps == 1 then Repeated else Before

abbrev pub place_of : Span → ℤ → ℕ → Place
place_of s rate instant =
    if not (int_eq rate s.rate) then First
    else if nat_lt s.last instant then place_after s (instant - s.last)
    else if s.came == 0 then First
    else if int_eq rate (pos 0) then Unnumbered else place_before s (s.last - instant)

-- ---- what comes of it

-- 64 bits, moved up by so many places
abbrev pub moved : ℕ → ℕ → ℕ
moved bits places = if nat_lt places 64 then (bits * 2 ^ places) % 2 ^ 64 else 0

-- the span once the instant has come
abbrev pub span_with : Span → ℤ → ℕ → Place → Span
span_with s rate instant First = begun_at rate instant
span_with s rate instant (After steps) = record s { last = instant; came = bit_or (moved s.came steps) 1 }
span_with s rate instant Before = record s { came = bit_or s.came (moved 1 (s.last - instant)) }
span_with s rate instant Repeated = s
span_with s rate instant Forgotten = s
span_with s rate instant Unnumbered = s

-- it is counted
abbrev pub counted : SpanCounts → Place → SpanCounts
counted c First = record c { begun = more c.begun 1 }
counted c (After steps) = c
counted c Before = record c { out_of_order = more c.out_of_order 1 }
counted c Repeated = record c { repeated = more c.repeated 1 }
counted c Forgotten = record c { out_of_order = more c.out_of_order 1 }
counted c Unnumbered = c

-- ---- the spans of a source

-- DATA_RATE and the resolution of FRACSEC as they were announced, the span of the last frame, and what was counted of all spans
pub record SpanState : Type 0 where
  pub rate : ℤ
  pub base : ℕ
  pub span : Span
  pub counts : SpanCounts

abbrev pub no_counts : SpanCounts
no_counts = record { begun = 0; repeated = 0; out_of_order = 0 }

abbrev pub no_spans : SpanState
no_spans = record { rate = pos 0; base = 1; span = no_span; counts = no_counts }

-- they were announced; a resolution of 0 counts as 1
abbrev pub announced : SpanState → ℤ → ℕ → SpanState
announced s rate base = record s { rate = rate; base = max base 1 }

-- the instant of a frame, and how it stands
unfoldable pub instant_in : SpanState → FrameTime → ℕ
instant_in s t = instant_of s.rate t.soc t.frac s.base

abbrev pub place_in : SpanState → FrameTime → Place
place_in s t = place_of s.span s.rate (instant_in s t)

-- a frame of this instant came, and stands so to those before it
abbrev pub taken_at : SpanState → ℕ → Place → SpanState
taken_at s instant place = record s { span = span_with s.span s.rate instant place; counts = counted s.counts place }

abbrev pub taken : SpanState → FrameTime → SpanState
taken s t = taken_at s (instant_in s t) (place_in s t)
