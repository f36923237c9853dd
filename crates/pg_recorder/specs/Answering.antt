-- What is recorded of a call that has been answered.
use Rattle.std.specs.Prelude.{◌≡◌, ◌⊎◌, ℕ, ◌-◌, min, List, [], take, Option, Some, None, IsSomeAnd, Result, Ok, Err, nat_lt, if◌then◌else◌}
use Rattle.pg_wire.specs.Number.{number_of}
use Rattle.pg_wire.specs.declared.refusal.Refusal.{Refusal}
use Rattle.pg_ring.specs.declared.queue.Drained.{Drained}
use Rattle.pg_gateway.specs.declared.event.Reply.{Reply}
use Rattle.pg_gateway.specs.declared.event.Reply.TheVariants as reply
use Rattle.pg_record.specs.Taping.{Taped, ended, ended_drain}

pub record Taping : Type 0 where
  -- the calls that a thread recorded and has not handed over
  pub tape : Taped
  -- the thread's clock in milliseconds, which no clause says when to read, and what it was when the first of these calls was begun
  pub clock : ℕ
  pub start : ℕ
  -- what the record of the next question says of ignored frames
  pub ignored : Option ℕ

-- how many milliseconds behind the first of them a call comes now, at most 65,535
abbrev pub at_of : Taping → ℕ
at_of t = min (t.clock - t.start) 65535

-- the record of a call that was refused: the number of the refusal
abbrev pub with_refusal : Taping → ℕ → Refusal → Taped
with_refusal t place refusal = ended t.tape place (at_of t) (number_of refusal) 0 0

abbrev pub with_drain : Taping → ℕ → List ℕ → Result Drained Refusal → Taped
with_drain t place buffer (Ok out) = ended_drain t.tape place (at_of t) (take out.len buffer)
with_drain t place buffer (Err refusal) = with_refusal t place refusal

-- the record of the call that has this place and was answered so: 255 where data frames of it were lost, else 0; the number of a refusal; or a drain's
abbrev pub with_reply : Taping → ℕ → Reply → Taped
with_reply t place (reply.Done made kept) = ended t.tape place (at_of t) (if nat_lt kept made then 255 else 0) 0 0
with_reply t place (reply.Refused refusal) = with_refusal t place refusal
with_reply t place (reply.Drained buffer out) = with_drain t place buffer.items out
with_reply t place (reply.Stats _) = ended t.tape place (at_of t) 0 0 0
with_reply t place (reply.PmuStats _) = ended t.tape place (at_of t) 0 0 0
with_reply t place (reply.Audit _) = ended t.tape place (at_of t) 0 0 0
with_reply t place (reply.Standing _) = ended t.tape place (at_of t) 0 0 0
with_reply t place (reply.Waiting _) = ended t.tape place (at_of t) 0 0 0

-- The tape is this one, or was emptied. (That its calls then went to the writer is said by no clause.)
abbrev pub IsOrEmptied : Taped → Taped → Type 0
IsOrEmptied t u = (u ≡ t) ⊎ ((u.calls ≡ []) × (u.bodies ≡ []) × (u.begun ≡ None) × (u.missed ≡ t.missed))

-- A call with this place was answered so: where the thread records, its record ends so, or was handed over.
abbrev pub Records : Option Taping → ℕ → Reply → Option Taping → Type 0
Records (Some t) place answer w = IsSomeAnd w (λ u. IsOrEmptied (with_reply t place answer) u.tape × (u.clock ≡ t.clock) × (u.start ≡ t.start) × (u.ignored ≡ t.ignored))
Records None _ _ w = w ≡ None

-- What was recorded stays, or is handed over. (The clock may be read.)
abbrev pub HandsOver : Option Taping → Option Taping → Type 0
HandsOver (Some t) w = IsSomeAnd w (λ u. IsOrEmptied t.tape u.tape × (u.start ≡ t.start) × (u.ignored ≡ t.ignored))
HandsOver None w = w ≡ None
