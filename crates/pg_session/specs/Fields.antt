-- What private contracts and proofs say of a stream, of a subscriber's fields, and of what is under way. No public clause names any of it.
use Rattle.std.specs.Prelude.{◌≡◌, ◌⊎◌, ◌/◌, ◌^◌, ◌<◌, ◌≤◌, ◌+◌, ℕ, true, if◌then◌else◌, replicate, IsTrue, List, [], ◌∷◌, length, is_some, None, MatchOption, slice_index_or, Bool, false}
use Rattle.pg_wire.specs.declared.ids.PmuKey.{PmuKey}
use Rattle.pg_wire.specs.declared.refusal.Refusal.{Refusal}
use Rattle.pg_wire.specs.declared.refusal.Refusal.TheVariants.{NoMemory}
use Rattle.pg_entitle.specs.Grants.{has_key}
use Rattle.pg_data.specs.Pieces.{Piece}
use Rattle.pg_stream.specs.Limits.{IsWithinLimits}
use Rattle.pg_align.specs.Slots.{Aligned, OpenSlot}
use Rattle.pg_audit.specs.declared.counters.Stats.{Stats}
use Rattle.pg_outcfg.specs.Listing.{Listing, config_at}
use Rattle.pg_session.specs.Events.{Sample, command}
use Rattle.pg_session.specs.Streams.{StreamOf, PlacedBlock, Turn, effective_in}
use Rattle.pg_align.specs.declared.answer.Arrived.{Arrived}
use Rattle.pg_align.specs.declared.answer.Arrived.TheVariants.{Kept, Late, Twice}
use Rattle.pg_session.specs.Output.{one_late, one_twice, all_ignored}
use Rattle.pg_session.specs.Private.{refusal, effect, asks_reply}
use Rattle.pg_session.specs.Kept.{by_slots, by_gaps}
use Rattle.pg_session.specs.Sending.{Sending}
use Rattle.pg_session.specs.Shown.{Own, SubscriberValue}
use Rattle.pg_session.specs.Wanted.{wanted_of}
use Rattle.pg_session.specs.Filling.{fills, may_keep}

-- the second of each slot can be told by a SOC
abbrev pub AreTimed : ℕ → List (OpenSlot Piece) → Type 0
AreTimed rate [] = Unit {0}
AreTimed rate (slot ∷ slots) = (slot.slot / rate < 2 ^ 32) × AreTimed rate slots

-- between two events
pub record IsStream (s : StreamOf (Aligned Piece)) : Type 0 where
  pub limits : IsWithinLimits s.definition
  pub places : length s.slots.effective ≡ length s.definition.members
  pub window : s.slots.window ≡ s.definition.window
  pub few : length s.slots.slots ≤ s.slots.window
  pub timed : AreTimed s.definition.rate s.slots.slots

-- the members at these places are effective
abbrev pub AreEffective : List Bool → List PlacedBlock → Type 0
AreEffective effective [] = Unit {0}
AreEffective effective (p ∷ ps) = IsTrue (slice_index_or effective p.place false) × AreEffective effective ps

-- other counters
abbrev pub with_stats : Sending → Stats → Sending
with_stats sending stats = record sending { output = record sending.output { stats = stats } }

-- the counters after one arrival
abbrev pub one_ignored : Arrived → Stats → Stats
one_ignored Kept stats = stats
one_ignored Late stats = one_late stats
one_ignored Twice stats = one_twice stats

-- the blocks are of PMUs that the CFG-1 list has
abbrev pub AreListed : Listing → List Sample → Type 0
AreListed listed [] = Unit {0}
AreListed listed (s ∷ samples) = IsTrue (is_some (config_at listed s.key)) × AreListed listed samples

-- the counters after what a stream ignored
abbrev pub turn_stats : Turn (Aligned Piece) → Stats → Stats
turn_stats turn stats = all_ignored turn.late turn.twice turn.past stats

-- The stream asks for no copies of a measurement's blocks, or these leave no slot open behind them.
abbrev pub NeedsNoCopy : StreamOf (Aligned Piece) → ℕ → ℕ → ℕ → List Sample → Type 0
NeedsNoCopy s soc quality frac samples = (wanted_of s quality samples ≡ []) ⊎ (fills s soc quality frac samples ≡ true)

-- the same of each of these streams
abbrev pub NeedNoCopies : ℕ → ℕ → ℕ → List Sample → List (StreamOf (Aligned Piece)) → Type 0
NeedNoCopies soc quality frac samples [] = Unit {0}
NeedNoCopies soc quality frac samples (s ∷ streams) = NeedsNoCopy s soc quality frac samples × NeedNoCopies soc quality frac samples streams

-- each stream's effective members are those that the CFG-1 list has
abbrev pub AreFitted : Listing → List (StreamOf (Aligned Piece)) → Type 0
AreFitted listed [] = Unit {0}
AreFitted listed (s ∷ streams) = (s.slots.effective ≡ effective_in listed s.definition.members) × AreFitted listed streams

abbrev pub stream_after : Turn (Aligned Piece) → StreamOf (Aligned Piece)
stream_after turn = turn.stream

-- how many copies of a frame's only block a stream takes, and how many all of them take
abbrev pub kept_of : StreamOf (Aligned Piece) → ℕ → List Sample → ℕ
kept_of s quality samples = if may_keep s then length (wanted_of s quality samples) else 0

abbrev pub all_kept : List (StreamOf (Aligned Piece)) → ℕ → List Sample → ℕ
all_kept [] quality samples = 0
all_kept (s ∷ streams) quality samples = kept_of s quality samples + all_kept streams quality samples

-- What lies for a frame's only block: copies of it, enough for all streams.
pub record Serving (v : SubscriberValue) (quality : ℕ) (samples : List Sample) (piece : Piece) : Type 0 where
  pub copies : v.blocks ≡ replicate (length v.blocks) piece
  pub enough : all_kept v.own.streams quality samples ≤ length v.blocks
  pub none : v.configs ≡ []

-- A command was done: no refusal of it holds.
pub record Obeys (old : Own) (number word : ℕ) (new : Own) : Type 0 where
  pub none : refusal by_slots by_gaps old (command number word) ≡ None
  pub state : new ≡ effect by_slots by_gaps old (command number word) 0

-- This refusal of a command may come: the first that holds, or want of memory where none does and a reply is asked for.
abbrev pub MayRefuse : Own → ℕ → ℕ → Refusal → Type 0
MayRefuse p number word r =
    MatchOption (refusal by_slots by_gaps p (command number word)) ((r ≡ NoMemory) × (asks_reply word ≡ true)) (λ first. r ≡ first)

-- each listed PMU is granted
abbrev pub AreGranted : List PmuKey → Listing → Type 0
AreGranted grants [] = Unit {0}
AreGranted grants (e ∷ listed) = IsTrue (has_key grants e.0) × AreGranted grants listed

-- what the fields of a subscriber keep
pub record SubscriberIsKept (v : SubscriberValue) (capacity places slots : ℕ) : Type 0 where
  pub few : length v.own.streams ≤ 8
  pub room : 8 ≤ capacity
  pub fitted : AreFitted v.own.listed v.own.streams
  pub granted : AreGranted v.own.grants v.own.listed
  pub blocks : places ≡ 128
  pub configs : slots ≡ 16
