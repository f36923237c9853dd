-- The order of places.
use Rattle.std.specs.Prelude.{◌≡◌, ◌<◌, ◌+◌, ◌-◌, ◌^◌, min, ℕ}
use Rattle.pg_record.specs.declared.merge.Merged.{Merged}
use Rattle.pg_record.specs.declared.merge.Merged.TheVariants.{Record, Gap, More}

-- What comes is the record of the next place, or a gap from the next place on, or nothing yet; and then the place behind it is the next.
abbrev pub Steps : ℕ → Merged → ℕ → Type 0
Steps next (Record timed) then = (timed.record.place ≡ next) × (then ≡ min (next + 1) (2 ^ 64 - 1))
Steps next (Gap from to) then = (from ≡ next) × (next < to) × (then ≡ to)
Steps next More then = then ≡ next
