-- Which replies may come to which events, by their form.
use Rattle.std.specs.Prelude.{◌≡◌, ◌≤◌, ℕ, Bool, true, false, List, [], ◌∷◌, ◌++◌, length, drop, Option, Some, None}
use Rattle.pg_gateway.specs.declared.event.Event.{Event}
use Rattle.pg_gateway.specs.declared.event.Event.TheVariants as event
use Rattle.pg_session.specs.Ready.{handed_len}
use Rattle.pg_gateway.specs.declared.event.Reply.{Reply}
use Rattle.pg_gateway.specs.declared.event.Reply.TheVariants as reply
use Rattle.pg_gateway.specs.GatewayEvents.{GatewayEvent, Answer, measure}

-- an event and what it was answered
abbrev pub Posted : Type 0
Posted = GatewayEvent × Answer

-- what a gate posts of an event: the event with its answer, where it takes the event
abbrev pub posted_if : Bool → GatewayEvent → Answer → List Posted
posted_if true o a = (o, a) ∷ []
posted_if false o a = []

-- a source's data frame came
abbrev pub IsMeasured : GatewayEvent → Type 0
IsMeasured (measure m) = Unit {0}
IsMeasured _ = ⊥

-- What was posted grows by these, where the gate tells it.
abbrev pub Notes : Option (List Posted) → Option (List Posted) → List Posted → Type 0
Notes None new more = Unit {0}
Notes (Some before) None more = ⊥
Notes (Some before) (Some after) more = after ≡ before ++ more

-- a reply without a buffer
abbrev pub IsPlain : Reply → Type 0
IsPlain (reply.Done made kept) = Unit {0}
IsPlain (reply.Refused r) = Unit {0}
IsPlain (reply.Drained buf out) = ⊥
IsPlain (reply.Stats s) = Unit {0}
IsPlain (reply.PmuStats s) = Unit {0}
IsPlain (reply.Waiting subs) = Unit {0}
IsPlain (reply.Audit e) = Unit {0}
IsPlain (reply.Standing s) = Unit {0}

-- The buffer comes back as long as it was, and past what was handed out as it was.
abbrev pub KeepsBuffer : List ℕ → Reply → Type 0
KeepsBuffer bytes (reply.Drained back out) =
    (handed_len out ≤ length bytes) × (length back.items ≡ length bytes) × (drop (handed_len out) back.items
    ≡ drop (handed_len out) bytes)
KeepsBuffer bytes (reply.Done made kept) = ⊥
KeepsBuffer bytes (reply.Refused r) = ⊥
KeepsBuffer bytes (reply.Stats s) = ⊥
KeepsBuffer bytes (reply.PmuStats s) = ⊥
KeepsBuffer bytes (reply.Waiting subs) = ⊥
KeepsBuffer bytes (reply.Audit e) = ⊥
KeepsBuffer bytes (reply.Standing s) = ⊥

-- Just a drain is answered with its buffer: as long as it was, and past what was handed out as it was.
abbrev pub Answers : Event → Reply → Type 0
Answers (event.Drain u buf) r = KeepsBuffer buf.items r
Answers _ r = IsPlain r
