-- The shared machine: the registered PMUs, the subscribers, each a private gateway with an audit, and the last tick.
use Rattle.std.specs.Prelude.{◌≡◌, ◌⊎◌, ℕ, ◌≤◌, ◌==◌, Bool, true, false, not, if◌then◌else◌, nat_eq, nat_le, nat_lt, is_some, List, [], ◌∷◌, ◌++◌, length, filter, map, Option, Some, None, option_map, MatchOption}
use Rattle.std.specs.Map.{lookup, remove_entry}
use Rattle.pg_wire.specs.declared.refusal.Refusal.{Refusal}
use Rattle.pg_wire.specs.declared.refusal.Refusal.TheVariants.{NoMemory, NoSuchPmu, PmuExists, PmusFull, NoSuchSub, SubExists, SubsFull}
use Rattle.pg_wire.specs.Number.{number_of}
use Rattle.pg_wire.specs.declared.ids.PmuKey.{PmuKey}
use Rattle.pg_wire.specs.Keys.{key_eq}
use Rattle.pg_registry.specs.Registered.{Pmu, Pmus, pmu_of, has_key, config_in, unannounced}
use Rattle.pg_audit.specs.Noting.{Noted, newest_at}
use Rattle.pg_audit.specs.declared.audit.What.{What}
use Rattle.pg_audit.specs.declared.audit.What.TheVariants.{AddSub, Grant, Revoke, Define, Remove, Connect, Hangup, Command}
use Rattle.pg_data.specs.Measurements.{Measurement}
use Rattle.pg_ring.specs.Shown.{frames_to_leave}
use Rattle.pg_ring.specs.Numbers.{shown_of}
use Rattle.pg_session.specs.Events as own
use Rattle.pg_session.specs.Events.{SubscriberEvent, Announcing, Sample}
use Rattle.pg_session.specs.Private as private
use Rattle.pg_session.specs.Private.{ReplyValue, done, refused, handed, refuse, frames_of}
use Rattle.pg_session.specs.Shown.{Model, begin}
use Rattle.pg_session.specs.ByAll.{by_arrivals, by_numbers}
use Rattle.pg_session.specs.declared.standing.MemberPlace.{MemberPlace}
use Rattle.pg_session.specs.Standing.{standing_of}
use Rattle.pg_gateway.specs.GatewayEvents.{GatewayEvent, add_pmu, drop_pmu, add_sub, drop_sub, grant, asks, announce, measure, tick, stats, pmu_stats, audit, standing, who_waits, Answer, tells, sub_counts, pmu_counts, entry, stands, those_waiting, inquires}
use Rattle.pg_gateway.specs.Judging.{registered_of, judged, taken_of, first_refusal, blocks_counted, all_announced, memory_counted}
use Rattle.pg_gateway.specs.Sharing.{SubscriberSlot, SubscriberSlots, Broadcast, revokes, announces, measures, ticks, total, broadcast}

pub record SharedMachine : Type 0 where
  pub pmus : Pmus
  pub subs : SubscriberSlots
  -- the SOC of the last tick
  pub last_tick : Option ℕ

abbrev pub opening : SharedMachine
opening = record { pmus = []; subs = []; last_tick = None }

-- the subscriber of a number
abbrev pub slot_of : ℕ → SubscriberSlots → Option SubscriberSlot
slot_of u slots = lookup (nat_eq u) slots

abbrev pub own_of : ℕ → SharedMachine → Option Model
own_of u S = option_map (λ s. s.own) (slot_of u S.subs)

-- a change of one subscriber
abbrev pub at_slot : ℕ → (SubscriberSlot → SubscriberSlot) → SubscriberSlots → SubscriberSlots
at_slot u change [] = []
at_slot u change (s ∷ slots) = if nat_eq u s.0 then (s.0, change s.1) ∷ slots else s ∷ at_slot u change slots

-- the first refusal of an event for one subscriber, want of memory aside
abbrev pub own_refusal : Option SubscriberSlot → SubscriberEvent → Option Refusal
own_refusal None x = Some NoSuchSub
own_refusal (Some s) x = private.refusal by_arrivals by_numbers s.own x

abbrev pub grant_refusal : Option SubscriberSlot → Bool → SubscriberEvent → Option Refusal
grant_refusal None registered x = Some NoSuchSub
grant_refusal (Some s) registered x = refuse (not registered) NoSuchPmu (private.refusal by_arrivals by_numbers s.own x)

-- an announcement is refused where no PMU of it is registered, a measurement where none of its blocks is taken
abbrev pub announce_refusal : List Announcing → Option Refusal
announce_refusal [] = Some NoSuchPmu
announce_refusal (a ∷ list) = None

abbrev pub measure_refusal : List (PmuKey × Option Refusal) → List Sample → Option Refusal
measure_refusal blocks [] = Some (first_refusal blocks)
measure_refusal blocks (s ∷ taken) = None

module _ (S : SharedMachine) where
  abbrev pub taken_in : Measurement → List Sample
  taken_in m = taken_of S.pmus S.last_tick m

  abbrev pub judged_in : Measurement → List (PmuKey × Option Refusal)
  judged_in m = judged S.pmus S.last_tick m

  -- a PMU is granted with what it has announced by then
  abbrev pub granting : PmuKey → SubscriberEvent
  granting key = own.grant key (config_in S.pmus key)

  -- the first refusal of an event that holds, want of memory aside
  abbrev pub refusal : GatewayEvent → Option Refusal
  refusal (add_pmu key) = refuse (has_key S.pmus key) PmuExists (refuse (nat_le 256 (length S.pmus)) PmusFull None)
  refusal (drop_pmu key) = refuse (not (has_key S.pmus key)) NoSuchPmu None
  refusal (add_sub u size bytes) = refuse (is_some (slot_of u S.subs)) SubExists (refuse (nat_le 64 (length S.subs)) SubsFull None)
  refusal (drop_sub u) = refuse (not (is_some (slot_of u S.subs))) NoSuchSub None
  refusal (grant u key) = grant_refusal (slot_of u S.subs) (has_key S.pmus key) (granting key)
  refusal (asks u x) = own_refusal (slot_of u S.subs) x
  refusal (announce config) = announce_refusal (registered_of S.pmus config)
  refusal (measure m) = measure_refusal (judged_in m) (taken_in m)
  refusal (tick soc) = None
  refusal (inquires (stats u)) = refuse (not (is_some (slot_of u S.subs))) NoSuchSub None
  refusal (inquires (pmu_stats key)) = refuse (not (has_key S.pmus key)) NoSuchPmu None
  refusal (inquires (who_waits us)) = None
  refusal (inquires (audit u index)) = refuse (not (is_some (slot_of u S.subs))) NoSuchSub None
  refusal (inquires (standing u place)) = refuse (not (is_some (slot_of u S.subs))) NoSuchSub None

-- events that may be refused for want of memory
abbrev pub takes_memory : GatewayEvent → Bool
takes_memory (drop_pmu key) = false
takes_memory (drop_sub u) = false
takes_memory (asks u x) = private.takes_memory x
takes_memory (tick soc) = false
takes_memory (inquires q) = false
takes_memory _ = true

-- whom an event reaches, and as what
pub data Target : Type 0 where
  to_all : Broadcast → Target
  to_one : ℕ → SubscriberEvent → Target
  -- a subscriber is added: its number, ring size, ring bytes, and the last tick
  adds : ℕ → ℕ → ℕ → Option ℕ → Target
  drops : ℕ → Target
  to_none : Target

-- whom it reaches where it is not refused
abbrev pub unless : Option Refusal → Target → Target
unless None target = target
unless (Some r) target = to_none

abbrev pub target : SharedMachine → GatewayEvent → Target
target S (add_pmu key) = to_none
target S (drop_pmu key) = unless (refusal S (drop_pmu key)) (to_all (revokes key))
target S (add_sub u size bytes) = unless (refusal S (add_sub u size bytes)) (adds u size bytes S.last_tick)
target S (drop_sub u) = unless (refusal S (drop_sub u)) (drops u)
target S (grant u key) = if has_key S.pmus key then to_one u (granting S key) else to_none
target S (asks u x) = to_one u x
target S (announce config) = unless (refusal S (announce config)) (to_all (announces (registered_of S.pmus config)))
target S (measure m) = unless (refusal S (measure m)) (to_all (measures m.soc m.quality m.frac (taken_in S m)))
target S (tick soc) = to_all (ticks soc)
target S (inquires q) = to_none

-- the frames that an event makes for the one that it reaches, or for all
abbrev pub own_frames : Option SubscriberSlot → SubscriberEvent → ℕ
own_frames None x = 0
own_frames (Some s) x = length (frames_of by_arrivals by_numbers s.own x)

abbrev pub frames_reached : Target → SubscriberSlots → ℕ
frames_reached (to_all o) slots = total o slots
frames_reached (to_one u x) slots = own_frames (slot_of u slots) x
frames_reached (adds u size bytes last) slots = 0
frames_reached (drops u) slots = 0
frames_reached to_none slots = 0

abbrev pub made : SharedMachine → GatewayEvent → ℕ
made S e = frames_reached (target S e) S.subs

-- the reply to an event that is not refused, with k of the frames made kept
abbrev pub own_answer : Option SubscriberSlot → SubscriberEvent → ℕ → ReplyValue
own_answer None x k = refused NoSuchSub
own_answer (Some s) x k = private.answer by_arrivals by_numbers s.own x k

abbrev pub reached_answer : Target → SubscriberSlots → ℕ → ReplyValue
reached_answer (to_all o) slots k = done (total o slots) k
reached_answer (to_one u x) slots k = own_answer (slot_of u slots) x k
reached_answer (adds u size bytes last) slots k = done 0 k
reached_answer (drops u) slots k = done 0 k
reached_answer to_none slots k = done 0 k

abbrev pub stats_answer : Option SubscriberSlot → Answer
stats_answer None = tells (refused NoSuchSub)
stats_answer (Some s) = sub_counts s.own.output.stats

abbrev pub pmu_answer : Option Pmu → Answer
pmu_answer None = tells (refused NoSuchPmu)
pmu_answer (Some pmu) = pmu_counts pmu.stats

abbrev pub audit_answer : Option SubscriberSlot → ℕ → Answer
audit_answer None index = tells (refused NoSuchSub)
audit_answer (Some s) index = entry (newest_at s.noted index)

abbrev pub standing_answer : Option SubscriberSlot → MemberPlace → Answer
standing_answer None place = tells (refused NoSuchSub)
standing_answer (Some s) place = stands (standing_of s.own place)

-- whether something waits to be handed out to a subscriber, who may not be there
abbrev pub has_waiting : Option SubscriberSlot → Bool
has_waiting None = false
has_waiting (Some s) = nat_lt 0 (frames_to_leave (shown_of s.own.output.queue))

abbrev pub waiting_among : SubscriberSlots → List ℕ → List ℕ
waiting_among slots us = filter (λ u. has_waiting (slot_of u slots)) us

abbrev pub answer : SharedMachine → GatewayEvent → ℕ → Answer
answer S (add_pmu key) k = tells (reached_answer (target S (add_pmu key)) S.subs k)
answer S (drop_pmu key) k = tells (reached_answer (target S (drop_pmu key)) S.subs k)
answer S (add_sub u size bytes) k = tells (reached_answer (target S (add_sub u size bytes)) S.subs k)
answer S (drop_sub u) k = tells (reached_answer (target S (drop_sub u)) S.subs k)
answer S (grant u key) k = tells (reached_answer (target S (grant u key)) S.subs k)
answer S (asks u x) k = tells (reached_answer (target S (asks u x)) S.subs k)
answer S (announce config) k = tells (reached_answer (target S (announce config)) S.subs k)
answer S (measure m) k = tells (reached_answer (target S (measure m)) S.subs k)
answer S (tick soc) k = tells (reached_answer (target S (tick soc)) S.subs k)
answer S (inquires (stats u)) k = stats_answer (slot_of u S.subs)
answer S (inquires (pmu_stats key)) k = pmu_answer (pmu_of S.pmus key)
answer S (inquires (who_waits us)) k = those_waiting (waiting_among S.subs us)
answer S (inquires (audit u index)) k = audit_answer (slot_of u S.subs) index
answer S (inquires (standing u place)) k = standing_answer (slot_of u S.subs) place

-- This answer may come to the event: its first refusal, or the reply with some of the frames made kept, or want of memory.
abbrev pub May : SharedMachine → GatewayEvent → Answer → Type 0
May S e a = MatchOption (refusal S e)
    (((k : ℕ) × (k ≤ made S e) × (a ≡ answer S e k)) ⊎ ((a ≡ tells (refused NoMemory)) × (takes_memory e ≡ true)))
    (λ first. a ≡ tells (refused first))

abbrev pub is_refusal : ReplyValue → Bool
is_refusal (done made kept) = false
is_refusal (refused r) = true
is_refusal (handed bytes begun gap) = false

-- refused for want of memory
abbrev pub wants_memory : ReplyValue → Bool
wants_memory (done made kept) = false
wants_memory (refused r) = number_of r == 1
wants_memory (handed bytes begun gap) = false

abbrev pub kept_of : ReplyValue → ℕ
kept_of (done made kept) = kept
kept_of (refused r) = 0
kept_of (handed bytes begun gap) = 0

-- the subscribers after a reply
abbrev pub moved : SubscriberEvent → ReplyValue → SubscriberSlot → SubscriberSlot
moved x t s = record s { own = private.next by_arrivals by_numbers s.own x t }

abbrev pub added : ℕ → ℕ → Option ℕ → SubscriberSlot
added size bytes last = record { own = begin size bytes last; noted = [] }

abbrev pub slots_after : Target → ReplyValue → SubscriberSlots → SubscriberSlots
slots_after (to_all o) t slots = if is_refusal t then slots else broadcast o slots (kept_of t)
slots_after (to_one u x) t slots = at_slot u (moved x t) slots
slots_after (adds u size bytes last) t slots = if is_refusal t then slots else slots ++ (u, added size bytes last) ∷ []
slots_after (drops u) t slots = if is_refusal t then slots else remove_entry (nat_eq u) slots
slots_after to_none t slots = slots

-- The events that are noted at the subscriber that they name, and as what. A drain is not.
abbrev pub noted_as : SubscriberEvent → Option What
noted_as (own.grant key config) = Some Grant
noted_as (own.revoke key) = Some Revoke
noted_as (own.announce list) = None
noted_as (own.measure soc quality frac samples) = None
noted_as (own.define definition) = Some Define
noted_as (own.remove number) = Some Remove
noted_as (own.tick soc) = None
noted_as own.connect = Some Connect
noted_as own.hangup = Some Hangup
noted_as (own.command number word) = Some Command
noted_as (own.drain n) = None

abbrev pub names : GatewayEvent → Option (ℕ × What)
names (add_sub u size bytes) = Some (u, AddSub)
names (grant u key) = Some (u, Grant)
names (asks u x) = option_map (λ what. (u, what)) (noted_as x)
names _ = None

-- why it was refused, or None
abbrev pub code_of : ReplyValue → Option Refusal
code_of (done made kept) = None
code_of (refused r) = Some r
code_of (handed bytes begun gap) = None

-- the subscriber that an event names, if it is there once the event is over, has it noted
abbrev pub with_note : Noted → SubscriberSlot → SubscriberSlot
with_note n s = record s { noted = s.noted ++ n ∷ [] }

abbrev pub slots_noted : Option (ℕ × What) → ReplyValue → SubscriberSlots → SubscriberSlots
slots_noted None t slots = slots
slots_noted (Some named) t slots = at_slot named.0 (with_note (named.1, code_of t)) slots

-- the registered PMUs after a reply, with what each announced and with its counters
abbrev pub pmus_after : SharedMachine → GatewayEvent → ReplyValue → Pmus
pmus_after S (add_pmu key) t = if is_refusal t then S.pmus else S.pmus ++ (key, unannounced) ∷ []
pmus_after S (drop_pmu key) t = if is_refusal t then S.pmus else remove_entry (key_eq key) S.pmus
pmus_after S (add_sub u size bytes) t = S.pmus
pmus_after S (drop_sub u) t = S.pmus
pmus_after S (grant u key) t = S.pmus
pmus_after S (asks u x) t = S.pmus
pmus_after S (announce config) t =
    if is_refusal t
    then memory_counted S.pmus (map (λ a. a.key) (registered_of S.pmus config))
    else all_announced S.pmus (registered_of S.pmus config)
pmus_after S (measure m) t =
    if wants_memory t
    then memory_counted S.pmus (map (λ b. b.0) (judged_in S m))
    else blocks_counted S.pmus (judged_in S m)
pmus_after S (tick soc) t = S.pmus
pmus_after S (inquires q) t = S.pmus

abbrev pub tick_after : Option ℕ → GatewayEvent → Option ℕ
tick_after last (tick soc) = Some soc
tick_after last _ = last

-- the state after an event and its answer
abbrev pub next : SharedMachine → GatewayEvent → Answer → SharedMachine
next S e (tells t) =
    record {
      pmus = pmus_after S e t;
      subs = slots_noted (names e) t (slots_after (target S e) t S.subs);
      last_tick = tick_after S.last_tick e;
    }
next S e (sub_counts s) = S
next S e (pmu_counts s) = S
next S e (those_waiting us) = S
next S e (entry found) = S
next S e (stands s) = S
