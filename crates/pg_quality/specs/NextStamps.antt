-- The stamps that are of the instant behind the last one of a span.
use Rattle.std.specs.Prelude.{◌≡◌, ℕ, ◌+◌, ◌-◌, ◌*◌, ◌<◌, ℤ, pos, ◌<ℤ◌, unsigned_abs, Bool, ◌&&◌, nat_lt, nat_le, ◌==◌}
use Rattle.pg_quality.specs.declared.frame_time.FrameTime.{FrameTime}
use Rattle.pg_quality.specs.declared.span.Span.{Span}
use Rattle.pg_quality.specs.declared.spans.NextStamps.{NextStamps}

-- a stamp is one of them: SOC is theirs, and the numerator, as many times as they say, lies from where they begin on
abbrev pub is_among : NextStamps → FrameTime → Bool
is_among n t = t.soc == n.soc && nat_le n.from (t.frac * n.units) && nat_lt (t.frac * n.units - n.from) n.width

-- They are of the instant behind the last one of this span, at this DATA_RATE and resolution. Twice the instant nearest to a stamp begins at the
-- halves before it: 2 * (SOC * resolution + numerator) * rate from (2 * last + 1) * resolution on, for 2 * resolution.
pub record AreNext (rate : ℤ) (base : ℕ) (s : Span) (n : NextStamps) : Type 0 where
  pub same : s.rate ≡ rate
  pub above : pos 0 <ℤ rate
  pub jump : 0 < s.jump
  pub units : n.units ≡ 2 * unsigned_abs rate
  pub width : n.width ≡ 2 * base
  pub from : n.from + 2 * (n.soc * unsigned_abs rate * base) ≡ (2 * s.last + 1) * base

-- where there are any
abbrev pub AreNextIfAny : ℤ → ℕ → Span → NextStamps → Type 0
AreNextIfAny rate base s n = 0 < n.width → AreNext rate base s n
