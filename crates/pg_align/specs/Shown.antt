-- What a stream by its arrivals shows: its open slots as they stand.
use Rattle.std.specs.Prelude.{◌≡◌, ℕ, ◌-◌, ◌≤◌, false, List, [], ◌∷◌, map}
use Rattle.pg_align.specs.Histories.{Arrival, StreamHistory, open_slots, parts_for, ticks_since}
use Rattle.pg_align.specs.Slots.{OpenSlot, Aligned}
use Rattle.pg_align.specs.Counts.{counts_of}

module _ {X : Type 0} where
  abbrev pub slot_seen : StreamHistory X → ℕ → OpenSlot X
  slot_seen h slot = record { slot = slot; ticks_left = h.wait - ticks_since h slot; parts = parts_for h slot }

  abbrev pub seen_of : StreamHistory X → Aligned X
  seen_of h =
      record {
        window = h.window;
        wait = h.wait;
        effective = h.effective;
        is_on = h.is_on;
        last = h.last;
        slots = map (slot_seen h) (open_slots h);
        counts = counts_of h.past;
      }

  -- each arrival had come by this tick
  abbrev pub CameBy : ℕ → List (Arrival X) → Type 0
  CameBy ticks [] = Unit {0}
  CameBy ticks (a ∷ arrivals) = (a.tick ≤ ticks) × CameBy ticks arrivals

  -- what each history keeps that the calls lead to: no arrival is later than now, and while it is off there is none
  pub record IsSound (h : StreamHistory X) : Type 0 where
    pub by_now : CameBy h.ticks h.arrivals
    pub off : h.is_on ≡ false → h.arrivals ≡ []

  -- a stream shows this history
  pub record Shows (a : Aligned X) (h : StreamHistory X) : Type 0 where
    pub sound : IsSound h
    pub same : a ≡ seen_of h
