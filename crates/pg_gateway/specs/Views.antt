-- What a subscriber sees of the events, and the private gateway that sees nothing else, where no memory is refused.
use Rattle.std.specs.Prelude.{◌≢◌, ℕ, ◌≤◌, ◌&&◌, nat_eq, if◌then◌else◌, is_some, List, [], ◌∷◌, ◌++◌, length, Option, Some, None}
use Rattle.pg_wire.specs.declared.refusal.Refusal.{Refusal}
use Rattle.pg_wire.specs.declared.refusal.Refusal.TheVariants.{NoMemory}
use Rattle.pg_session.specs.Events.{SubscriberEvent}
use Rattle.pg_session.specs.Private as session
use Rattle.pg_session.specs.Private.{ReplyValue, done, refused, handed, frames_of}
use Rattle.pg_session.specs.Shown.{Model, begin}
use Rattle.pg_session.specs.ByAll.{by_arrivals, by_numbers}
use Rattle.pg_gateway.specs.GatewayEvents.{GatewayEvent, asks, Answer, tells, sub_counts, pmu_counts, entry, stands, those_waiting}
use Rattle.pg_gateway.specs.Sharing.{Broadcast, share}
use Rattle.pg_gateway.specs.State.{SharedMachine, own_of, refusal, Target, to_all, to_one, adds, drops, to_none, target, made, answer, next}

-- what a private gateway is told
pub data ViewEvent : Type 0 where
  -- the subscriber is added: ring size, ring bytes, and the last tick or none
  begins : ℕ → ℕ → Option ℕ → ViewEvent
  -- it is dropped
  ends : ViewEvent
  takes : SubscriberEvent → ViewEvent

-- the reply of a private gateway that lacks no memory: all frames are kept
abbrev pub unless_refused : Option Refusal → ReplyValue → ReplyValue
unless_refused None told = told
unless_refused (Some r) told = refused r

abbrev pub full_told : Model → SubscriberEvent → ReplyValue
full_told p x =
    unless_refused (session.refusal by_arrivals by_numbers p x)
    (session.answer by_arrivals by_numbers p x (length (frames_of by_arrivals by_numbers p x)))

-- one step of the private gateway; before its beginning and after its end nothing is there
abbrev pub private_step : Option Model → ViewEvent → Option Model
private_step o (begins size bytes last) = Some (begin size bytes last)
private_step o ends = None
private_step None (takes x) = None
private_step (Some p) (takes x) = Some (session.next by_arrivals by_numbers p x (full_told p x))

abbrev pub private_run : Option Model → List ViewEvent → Option Model
private_run o [] = o
private_run o (x ∷ xs) = private_run (private_step o x) xs

-- what a drain hands out: the bytes, how many frames they begin, and the sum of the gaps before these
abbrev pub Handed : Type 0
Handed = List ℕ × ℕ × ℕ

abbrev pub handed_by : ReplyValue → List Handed
handed_by (done made kept) = []
handed_by (refused r) = []
handed_by (handed bytes begun gap) = (bytes, begun, gap) ∷ []

abbrev pub handed_at : Option Model → ViewEvent → List Handed
handed_at o (begins size bytes last) = []
handed_at o ends = []
handed_at None (takes x) = []
handed_at (Some p) (takes x) = handed_by (full_told p x)

-- all that the private gateway hands out
abbrev pub handed_in : Option Model → List ViewEvent → List Handed
handed_in o [] = []
handed_in o (x ∷ xs) = handed_at o x ++ handed_in (private_step o x) xs

-- the answer of the shared machine where no memory is refused
abbrev pub full_by : Option Refusal → Answer → Answer
full_by None a = a
full_by (Some r) a = tells (refused r)

abbrev pub full_answer : SharedMachine → GatewayEvent → Answer
full_answer S e = full_by (refusal S e) (answer S e (made S e))

abbrev pub shared_step : SharedMachine → GatewayEvent → SharedMachine
shared_step S e = next S e (full_answer S e)

abbrev pub shared_run : SharedMachine → List GatewayEvent → SharedMachine
shared_run S [] = S
shared_run S (e ∷ es) = shared_run (shared_step S e) es

abbrev pub full_answers : SharedMachine → List GatewayEvent → List Answer
full_answers S [] = []
full_answers S (e ∷ es) = full_answer S e ∷ full_answers (shared_step S e) es

abbrev pub as_seen : Option SubscriberEvent → List ViewEvent
as_seen None = []
as_seen (Some x) = takes x ∷ []

abbrev pub share_seen : Broadcast → Option Model → List ViewEvent
share_seen o None = []
share_seen o (Some p) = as_seen (share o p.grants)

-- what u, which is this private gateway or not there, sees of an event that reaches so far
abbrev pub part_of : ℕ → Option Model → Target → List ViewEvent
part_of u own (to_all o) = share_seen o own
part_of u own (to_one w x) = if nat_eq u w && is_some own then takes x ∷ [] else []
part_of u own (adds w size bytes last) = if nat_eq u w then begins size bytes last ∷ [] else []
part_of u own (drops w) = if nat_eq u w then ends ∷ [] else []
part_of u own to_none = []

abbrev pub part : ℕ → SharedMachine → GatewayEvent → List ViewEvent
part u S e = part_of u (own_of u S) (target S e)

-- all that u sees of the events, each at the state that those before it leave
abbrev pub view : ℕ → SharedMachine → List GatewayEvent → List ViewEvent
view u S [] = []
view u S (e ∷ es) = part u S e ++ view u (shared_step S e) es

-- what these answers hand to u
abbrev pub handed_out : Answer → List Handed
handed_out (tells t) = handed_by t
handed_out (sub_counts s) = []
handed_out (pmu_counts s) = []
handed_out (those_waiting us) = []
handed_out (entry found) = []
handed_out (stands s) = []

abbrev pub handed_one : ℕ → GatewayEvent → Answer → List Handed
handed_one u (asks w x) a = if nat_eq u w then handed_out a else []
handed_one u _ a = []

abbrev pub handed_to : ℕ → List GatewayEvent → List Answer → List Handed
handed_to u [] answers = []
handed_to u (e ∷ es) [] = []
handed_to u (e ∷ es) (a ∷ answers) = handed_one u e a ++ handed_to u es answers

-- the answer tells no loss and no want of memory
abbrev pub Lossless : Answer → Type 0
Lossless (tells (done made kept)) = made ≤ kept
Lossless (tells (refused r)) = r ≢ NoMemory
Lossless (tells (handed bytes begun gap)) = Unit {0}
Lossless (sub_counts s) = Unit {0}
Lossless (pmu_counts s) = Unit {0}
Lossless (those_waiting us) = Unit {0}
Lossless (entry found) = Unit {0}
Lossless (stands s) = Unit {0}

abbrev pub AllLossless : List Answer → Type 0
AllLossless [] = Unit {0}
AllLossless (a ∷ answers) = Lossless a × AllLossless answers
