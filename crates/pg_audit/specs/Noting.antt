-- The audit as a list.
use Rattle.std.specs.Prelude.{◌≡◌, ℕ, ◌+◌, ◌-◌, ◌^◌, nat_lt, if◌then◌else◌, List, [], ◌∷◌, ◌++◌, Option, Some, None, min, length, reverse, slice_get}
use Rattle.circular_buffer.specs.Buffer.{keep_last}
use Rattle.pg_wire.specs.Number.{number_of}
use Rattle.pg_wire.specs.declared.refusal.Refusal.{Refusal}
use Rattle.pg_audit.specs.declared.audit.What.{What}
use Rattle.pg_audit.specs.declared.audit.What.TheVariants.{AddSub, Grant, Revoke, Define, Remove, Connect, Hangup, Command}
use Rattle.pg_audit.specs.declared.audit.Entry.{Entry}
use Rattle.pg_audit.specs.Counting.{more}

abbrev pub what_number : What → ℕ
what_number AddSub = 1
what_number Grant = 2
what_number Revoke = 3
what_number Define = 4
what_number Remove = 5
what_number Connect = 6
what_number Hangup = 7
what_number Command = 8

-- 0 for done, else the refusal's number
abbrev pub result_number : Option Refusal → ℕ
result_number None = 0
result_number (Some refusal) = number_of refusal

-- what a caller notes: the kind of event, and its refusal or none
abbrev pub Noted : Type 0
Noted = What × Option Refusal

-- the last turn, and the entries that stand, the oldest first
pub record AuditValue : Type 0 where
  pub turn : ℕ
  pub entries : List Entry

-- one more is noted: it takes the next turn, and the newest 64 stand
abbrev pub with_entry : AuditValue → Noted → AuditValue
with_entry audit noted =
    let turn = more audit.turn 1 in
    record {
      turn = turn;
      entries = keep_last 64 (audit.entries ++ record { turn = turn; what = noted.0; code = noted.1 } ∷ []);
    }

-- the entries of all that was noted, after `before` others: turns count from 1 and saturate
abbrev pub entries_from : ℕ → List Noted → List Entry
entries_from before [] = []
entries_from before (noted ∷ rest) = record { turn = more before 1; what = noted.0; code = noted.1 } ∷ entries_from (before + 1) rest

-- the newest 64 of all that was noted, 0 the newest
abbrev pub newest_at : List Noted → ℕ → Option Entry
newest_at noted index = if nat_lt index 64 then slice_get (reverse (entries_from 0 noted)) index else None

-- The audit shows all that was noted: it holds the newest 64 entries of it.
pub record ShowsAudit (audit : AuditValue) (noted : List Noted) : Type 0 where
  pub turn : audit.turn ≡ min (length noted) (2 ^ 64 - 1)
  pub newest : audit.entries ≡ keep_last 64 (entries_from 0 noted)
