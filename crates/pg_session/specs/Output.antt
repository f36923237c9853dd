-- What a subscriber's queue and counters are after frames were made, some of which are kept.
use Rattle.std.specs.Prelude.{ℕ, zero, suc, ◌-◌, List, [], ◌∷◌, length}
use Rattle.pg_audit.specs.declared.counters.Stats.{Stats}
use Rattle.pg_audit.specs.Counting.{more, counted}
use Rattle.pg_session.specs.Machines.{Queueing}
use Rattle.pg_session.specs.Streams.{Turn}

pub record Output (Q : Type 0) : Type 0 where
  pub queue : Q
  pub stats : Stats

-- a block that was ignored is counted: late, twice, or as TimeEnd, which is reason 20
abbrev pub one_late : Stats → Stats
one_late stats = record stats { late = more stats.late 1 }

abbrev pub one_twice : Stats → Stats
one_twice stats = record stats { twice = more stats.twice 1 }

abbrev pub one_past : Stats → Stats
one_past stats = record stats { by_reason = counted stats.by_reason 20 }

-- so many of one kind
abbrev pub times : ℕ → (Stats → Stats) → Stats → Stats
times zero one stats = stats
times (suc n) one stats = one (times n one stats)

abbrev pub all_ignored : ℕ → ℕ → ℕ → Stats → Stats
all_ignored late twice past stats = times late one_late (times twice one_twice (times past one_past stats))

module _ {Q : Type 0} (by : Queueing Q) where
  -- a frame is made and kept: it is pushed
  abbrev pub kept_frame : Output Q → List ℕ → Output Q
  kept_frame out frame =
      record {
        queue = by.push out.queue frame;
        stats = record out.stats { made = more out.stats.made 1; dropped = more out.stats.dropped (by.dropped out.queue frame) };
      }

  -- a frame is made and lost: a number without a frame
  abbrev pub lost_frame : Output Q → Output Q
  lost_frame out =
      record {
        queue = by.lose out.queue;
        stats = record out.stats { made = more out.stats.made 1; lost = more out.stats.lost 1 };
      }

  -- of these frames the first `kept` are kept
  abbrev pub frames_made : ℕ → List (List ℕ) → Output Q → Output Q
  frames_made kept [] out = out
  frames_made zero (frame ∷ frames) out = frames_made zero frames (lost_frame out)
  frames_made (suc kept) (frame ∷ frames) out = frames_made kept frames (kept_frame out frame)

  -- what a stream ignored is counted
  abbrev pub ignored : {A : Type 0} → Turn A → Output Q → Output Q
  ignored turn out = record out { stats = all_ignored turn.late turn.twice turn.past out.stats }

  -- stream after stream, by rising slot in each: of all frames made the first `kept` are kept
  abbrev pub turns_taken : {A : Type 0} → ℕ → List (Turn A) → Output Q → Output Q
  turns_taken kept [] out = out
  turns_taken kept (turn ∷ turns) out =
      turns_taken (kept - length turn.frames) turns (frames_made kept turn.frames (ignored turn out))
