-- The private gateway: what one subscriber is after its private events alone, and the replies to them.
use Rattle.std.specs.Prelude.{◌≡◌, ◌⊎◌, ℕ, ◌+◌, ◌%◌, ◌^◌, ◌≤◌, ◌==◌, ◌&&◌, ◌||◌, Bool, true, false, not, if◌then◌else◌, nat_le, is_some, unwrap_or, option_map, min, List, [], ◌∷◌, ◌++◌, length, map, filter, take, Option, Some, None, MatchOption, Result, Ok, Err}
use Rattle.std.specs.List.{flat_map}
use Rattle.pg_wire.specs.declared.refusal.Refusal.{Refusal}
use Rattle.pg_wire.specs.declared.refusal.Refusal.TheVariants.{NoMemory, NoSuchStream, UnknownCommand, Unsupported, ReplyFull, GrantsFull, StreamExists, StreamsFull, BadDefinition, NotConnected, Busy, NotGranted}
use Rattle.pg_wire.specs.Number.{number_of}
use Rattle.pg_wire.specs.declared.ids.PmuKey.{PmuKey}
use Rattle.pg_config.specs.Parts.{Part}
use Rattle.pg_stream.specs.declared.definition.Definition.{Definition}
use Rattle.pg_stream.specs.Limits.{is_within_limits}
use Rattle.pg_audit.specs.Counting.{more, counted}
use Rattle.pg_entitle.specs.Grants.{has_key, has_room, granted, without_key}
use Rattle.pg_outcfg.specs.Frames.{cfg1_frame, cfg2_frame, header_frame}
use Rattle.pg_outcfg.specs.Listing.{Listing, with_config, without_config}
use Rattle.pg_ring.specs.declared.queue.Drained.{Drained}
use Rattle.pg_session.specs.declared.event.PrivateReply.{PrivateReply}
use Rattle.pg_session.specs.declared.event.PrivateReply.TheVariants as reply
use Rattle.pg_session.specs.Events.{SubscriberEvent, Announcing, grant, revoke, announce, measure, define, remove, tick, connect, hangup, command, drain}
use Rattle.pg_session.specs.Machines.{Alignment, Queueing}
use Rattle.pg_session.specs.Streams.{StreamOf, Turn, still, effective_in, first_layout, frame_len, reshape_turn, measure_turn, tick_turn}
use Rattle.pg_session.specs.Output.{Output, turns_taken}

-- one subscriber, over some slots and some queue
pub record Private (A Q : Type 0) : Type 0 where
  pub connected : Bool
  -- the keys that it is granted, sorted
  pub grants : List PmuKey
  -- its CFG-1 list: of these keys those that have announced, each with its configuration
  pub listed : Listing
  -- in the order of their definition
  pub streams : List (StreamOf A)
  pub output : Output Q
  -- the SOC of the last tick
  pub last_tick : Option ℕ
  -- how many streams were defined, modulo 2^64
  pub definitions : ℕ

-- what a reply tells, with no memory in it
pub data ReplyValue : Type 0 where
  -- so many data frames were made, and the first so many of them are kept
  done : ℕ → ℕ → ReplyValue
  refused : Refusal → ReplyValue
  -- the bytes handed out, how many frames they begin, and the sum of the gaps before these
  handed : List ℕ → ℕ → ℕ → ReplyValue

-- what a drain's reply tells
abbrev pub drain_told : List ℕ → Result Drained Refusal → ReplyValue
drain_told buffer (Ok out) = handed (take out.len buffer) out.begun out.gap
drain_told buffer (Err r) = refused r

abbrev pub told : PrivateReply → ReplyValue
told (reply.Done made kept) = done made kept
told (reply.Refused r) = refused r
told (reply.Drained buf out) = drain_told buf.items out

-- the stream of a number
abbrev pub stream_at : {A : Type 0} → List (StreamOf A) → ℕ → Option (StreamOf A)
stream_at [] number = None
stream_at (s ∷ streams) number = if s.definition.stream == number then Some s else stream_at streams number

-- all configurations of an announcement at once; none is of a key of another
abbrev pub put_all : Listing → List Announcing → Listing
put_all listed [] = listed
put_all listed (a ∷ list) = with_config (put_all listed list) a.key a.config

-- what a PMU has announced before it is granted
abbrev pub put_first : Listing → PmuKey → Option Part → Listing
put_first listed key None = listed
put_first listed key (Some config) = with_config listed key config

-- the SOC that replies carry: the last tick's, 0 before any
abbrev pub reply_soc : {A Q : Type 0} → Private A Q → ℕ
reply_soc p = unwrap_or p.last_tick 0

-- the frame that a command of this word asks for: the stream's header, CFG-1 or CFG-2
abbrev pub frame_asked : {A : Type 0} → Listing → ℕ → ℕ → StreamOf A → List ℕ
frame_asked listed soc word s =
    if word == 3 then header_frame s.definition soc else
    (if word == 4 then cfg1_frame s.definition s.count soc listed
    else cfg2_frame s.definition s.count soc listed)

-- the words of commands that ask for a reply: header, CFG-1, CFG-2
abbrev pub asks_reply : ℕ → Bool
asks_reply word = word == 3 || (word == 4 || word == 5)

abbrev pub is_unsupported : ℕ → Bool
is_unsupported word = word == 6 || word == 8

abbrev pub is_known : ℕ → Bool
is_known word = word == 1 || (word == 2 || (asks_reply word || is_unsupported word))

-- the first of these refusals whose test holds
abbrev pub refuse : Bool → Refusal → Option Refusal → Option Refusal
refuse holds refusal others = if holds then Some refusal else others

-- the refusals of a word that a subscriber may not command
abbrev pub order_refusal : ℕ → Option Refusal
order_refusal word = refuse (not (is_known word)) UnknownCommand (refuse (is_unsupported word) Unsupported None)

-- events that may be refused for want of memory
abbrev pub takes_memory : SubscriberEvent → Bool
takes_memory (define definition) = true
takes_memory (command number word) = asks_reply word
takes_memory _ = false

-- a refusal of a command of a connected subscriber is counted at it
abbrev pub with_refusal : {Q : Type 0} → Output Q → Refusal → Output Q
with_refusal out r = record out { stats = record out.stats { by_reason = counted out.stats.by_reason (number_of r) } }

abbrev pub refused_at : {A Q : Type 0} → Private A Q → SubscriberEvent → Refusal → Private A Q
refused_at p (command number word) r = if p.connected then record p { output = with_refusal p.output r } else p
refused_at p _ r = p

module _ {A Q : Type 0} (slots : Alignment A) (queues : Queueing Q) where
  -- a command's refusals after those of its stream, want of memory aside
  abbrev pub word_refusal : Private A Q → ℕ → Option Refusal
  word_refusal p word =
      refuse (not (is_known word)) UnknownCommand (refuse (is_unsupported word) Unsupported
      (refuse (asks_reply word && not (queues.takes_reply p.output.queue)) ReplyFull None))

  -- the first refusal of an event that holds, want of memory aside
  abbrev pub refusal : Private A Q → SubscriberEvent → Option Refusal
  refusal p (grant key config) = refuse (not (has_room p.grants key)) GrantsFull None
  refusal p (revoke key) = refuse (not (has_key p.grants key)) NotGranted None
  refusal p (announce list) = None
  refusal p (measure soc quality frac samples) = None
  refusal p (define definition) =
      refuse (not (is_within_limits definition)) BadDefinition
      (refuse (is_some (stream_at p.streams definition.stream)) StreamExists (refuse (nat_le 8 (length p.streams)) StreamsFull None))
  refusal p (remove number) = refuse (not (is_some (stream_at p.streams number))) NoSuchStream None
  refusal p (tick soc) = None
  refusal p connect = refuse p.connected Busy None
  refusal p hangup = refuse (not p.connected) NotConnected None
  refusal p (command number word) =
      refuse (not p.connected) NotConnected (refuse (not (is_some (stream_at p.streams number))) NoSuchStream (word_refusal p word))
  refusal p (drain n) = refuse (not p.connected) NotConnected None

  -- What an event that may make frames is to each stream, in the order of their definition. Of a list of configurations
  -- all are taken at once, after one flush of each stream whose effective blocks they change.
  abbrev pub turns_of : Private A Q → SubscriberEvent → List (Turn A)
  turns_of p (grant key config) =
      if has_key p.grants key then map still p.streams else map (reshape_turn slots p.listed (put_first p.listed key config)) p.streams
  turns_of p (revoke key) = map (reshape_turn slots p.listed (without_config p.listed key)) p.streams
  turns_of p (announce list) = map (reshape_turn slots p.listed (put_all p.listed list)) p.streams
  turns_of p (measure soc quality frac samples) = map (measure_turn slots p.listed soc quality frac samples) p.streams
  turns_of p (tick soc) = map (tick_turn slots p.listed) p.streams
  turns_of p (define definition) = []
  turns_of p (remove number) = []
  turns_of p connect = []
  turns_of p hangup = []
  turns_of p (command number word) = []
  turns_of p (drain n) = []

  -- the data frames that an event makes
  abbrev pub frames_of : Private A Q → SubscriberEvent → List (List ℕ)
  frames_of p e = flat_map (λ turn. turn.frames) (turns_of p e)

  -- each stream takes its turn, and of all frames made the first `kept` are kept
  abbrev pub turned : Private A Q → SubscriberEvent → ℕ → Private A Q
  turned p e kept =
      record p { streams = map (λ turn. turn.stream) (turns_of p e); output = turns_taken queues kept (turns_of p e) p.output }

  -- a new stream: it is off, and its effective members are those that the CFG-1 list has
  abbrev pub defined : Private A Q → Definition → StreamOf A
  defined p definition =
      record {
        definition = definition;
        slots = slots.reshape (slots.opening definition) (effective_in p.listed definition.members);
        count = 0;
        layouts = first_layout ((p.definitions + 1) % 2 ^ 64) (frame_len p.listed definition.members);
      }

  -- a stream is switched off, with its open slots discarded, or on
  abbrev pub stopped : StreamOf A → StreamOf A
  stopped s = record s { slots = slots.discard s.slots }

  abbrev pub started : StreamOf A → StreamOf A
  started s = record s { slots = slots.start s.slots }

  -- the word of a command switches its stream: 1 off, 2 on
  abbrev pub switched : ℕ → StreamOf A → StreamOf A
  switched word s = if word == 1 then stopped s else (if word == 2 then started s else s)

  -- the stream of a number is another one, the others stay
  abbrev pub at_stream : ℕ → (StreamOf A → StreamOf A) → StreamOf A → StreamOf A
  at_stream number change s = if s.definition.stream == number then change s else s

  -- the reply that a command asks for, with the last tick's SOC
  abbrev pub reply_frame : Private A Q → ℕ → StreamOf A → List ℕ
  reply_frame p word s = frame_asked p.listed (reply_soc p) word s

  abbrev pub with_reply : Output Q → Option (List ℕ) → Output Q
  with_reply out None = out
  with_reply out (Some frame) =
      record { queue = queues.reply out.queue frame; stats = record out.stats { replies = more out.stats.replies 1 } }

  -- a hang-up of the queue, and a drain of n bytes
  abbrev pub cleared_out : Output Q → Output Q
  cleared_out out =
      record { queue = queues.clear out.queue; stats = record out.stats { cleared = more out.stats.cleared (queues.cleared out.queue) } }

  abbrev pub drained_out : Output Q → ℕ → Output Q
  drained_out out n =
      record {
        queue = queues.drain out.queue n;
        stats = record out.stats { handed = more out.stats.handed (min n (length (queues.bytes out.queue))) };
      }

  -- what an event that is not refused does, with the first `kept` of its data frames kept
  abbrev pub effect : Private A Q → SubscriberEvent → ℕ → Private A Q
  effect p (grant key config) kept =
      if has_key p.grants key then p
      else record (turned p (grant key config) kept) { grants = granted p.grants key; listed = put_first p.listed key config }
  effect p (revoke key) kept =
      record (turned p (revoke key) kept) { grants = without_key p.grants key; listed = without_config p.listed key }
  effect p (announce list) kept = record (turned p (announce list) kept) { listed = put_all p.listed list }
  effect p (measure soc quality frac samples) kept = turned p (measure soc quality frac samples) kept
  effect p (tick soc) kept = record (turned p (tick soc) kept) { last_tick = Some soc }
  effect p (define definition) kept = record p { streams = p.streams ++ defined p definition ∷ []; definitions = (p.definitions + 1) % 2 ^ 64 }
  effect p (remove number) kept = record p { streams = filter (λ s. not (s.definition.stream == number)) p.streams }
  effect p connect kept = record p { connected = true }
  effect p hangup kept =
      record p {
        connected = false;
        streams = map stopped p.streams;
        output = cleared_out p.output;
      }
  effect p (command number word) kept =
      record p {
        streams = map (at_stream number (switched word)) p.streams;
        output = with_reply p.output (if asks_reply word then option_map (reply_frame p word) (stream_at p.streams number) else None);
      }
  effect p (drain n) kept = record p { output = drained_out p.output n }

  -- the reply to an event that is not refused
  abbrev pub answer : Private A Q → SubscriberEvent → ℕ → ReplyValue
  answer p (grant key config) kept = done (length (frames_of p (grant key config))) kept
  answer p (revoke key) kept = done (length (frames_of p (revoke key))) kept
  answer p (announce list) kept = done (length (frames_of p (announce list))) kept
  answer p (measure soc quality frac samples) kept = done (length (frames_of p (measure soc quality frac samples))) kept
  answer p (tick soc) kept = done (length (frames_of p (tick soc))) kept
  answer p (define definition) kept = done 0 kept
  answer p (remove number) kept = done 0 kept
  answer p connect kept = done 0 kept
  answer p hangup kept = done 0 kept
  answer p (command number word) kept = done 0 kept
  answer p (drain n) kept =
      handed (take n (queues.bytes p.output.queue)) (queues.begun p.output.queue n) (queues.gap p.output.queue n)

  -- This reply may come to the event: its first refusal, or the answer with some of the frames made kept, none where they
  -- are to be lost, or want of memory.
  abbrev pub May : Private A Q → SubscriberEvent → Bool → ReplyValue → Type 0
  May p e lost r = MatchOption (refusal p e)
      (((kept : ℕ) × (kept ≤ length (frames_of p e)) × (lost ≡ true → kept ≡ 0) × (r ≡ answer p e kept))
      ⊎ ((r ≡ refused NoMemory) × (takes_memory e ≡ true)))
      (λ first. r ≡ refused first)

  -- the state after that reply: a refusal changes nothing but a counter
  abbrev pub next : Private A Q → SubscriberEvent → ReplyValue → Private A Q
  next p e (done made kept) = effect p e kept
  next p e (refused r) = refused_at p e r
  next p e (handed bytes begun gap) = effect p e 0
