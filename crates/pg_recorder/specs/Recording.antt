-- What a gate records of what it posts.
use Rattle.std.specs.Prelude.{◌≡◌, ◌⊎◌, ℕ, List, Option, true}
use Rattle.pg_turn.specs.Known.{Known}
use Rattle.pg_wire.specs.declared.ids.PmuKey.{PmuKey}
use Rattle.pg_wire.specs.declared.refusal.Refusal.{Refusal}
use Rattle.pg_gateway.specs.declared.event.Event.{Event}
use Rattle.pg_gateway.specs.declared.event.Event.TheVariants.{PmuStats}
use Rattle.pg_gateway.specs.declared.event.Reply.{Reply}
use Rattle.pg_shared.specs.Sharing.{IsLastPlace, PostedCall}
use Rattle.pg_recorder.specs.Answering.{Taping, Records}
use Rattle.pg_recorder.specs.Beginning.{Begins, NotesIgnored, ignored_of}

-- a seat of the shared gateway, and what is recorded of its calls
pub record Recording : Type 0 where
  pub seat : Known Event Reply
  pub taping : Option Taping

-- Where calls are recorded, a record of this event began, and ended with its call's place in the history, the last one of the seat's own, and its answer;
-- then it stayed, or was handed over.
pub record IsRecorded (before : Option Taping) (asked : Event) (answer : Reply) (after : Recording) : Type 0 where
  pub begun : Option Taping
  pub begins : Begins before asked begun
  pub place : ℕ
  pub is_last : IsLastPlace place after.seat.own
  pub records : Records begun place answer after.taping

-- So many frames of a source were ignored for this reason: that is noted, and the seat asked how a PMU stands, which is recorded, and that alone.
pub record Asked (source : ℕ) (reason : Refusal) (count : ℕ) (v w : Recording) : Type 0 where
  pub noted : Option Taping
  pub notes : NotesIgnored v.taping (ignored_of source reason count) true noted
  pub reply : Reply
  pub call : PostedCall v.seat (PmuStats (record { source = source; pmu = source })) reply w.seat
  pub recorded : IsRecorded noted (PmuStats (record { source = source; pmu = source })) reply w

-- It asked that, or nothing.
abbrev pub AsksAtMost : ℕ → Refusal → ℕ → Recording → Recording → Type 0
AsksAtMost source reason count v w = (w ≡ v) ⊎ Asked source reason count v w
