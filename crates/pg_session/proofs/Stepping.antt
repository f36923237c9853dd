-- One step of what is kept shows one step of the private gateway.
use Rattle.std.proofs.Common.{◌≡◌, ◌⊎◌, ℕ, zero, suc, ◌+◌, ◌-◌, ◌%◌, ◌^◌, ◌≤◌, ◌&&◌, ◌==◌, nat_le, List, [], ◌∷◌, ◌++◌, length, map, filter, take, min, Bool, true, false, not, if◌then◌else◌, is_some, unwrap_or, option_map, Option, Some, None, MatchOption, inl, inr, refl, sym, ap, ap₂, ◌∙◌, arith, subst}
use Rattle.std.specs.List.{flat_map}
use Rattle.std.proofs.lemmas.List.{length-map, length_push}
use Rattle.pg_wire.specs.declared.refusal.Refusal.{Refusal}
use Rattle.pg_wire.specs.declared.refusal.Refusal.TheVariants.{NoMemory, NoSuchStream, UnknownCommand, Unsupported, ReplyFull, StreamExists, StreamsFull, BadDefinition, NotConnected}
use Rattle.pg_wire.specs.Number.{number_of}
use Rattle.pg_wire.specs.declared.ids.PmuKey.{PmuKey}
use Rattle.pg_data.specs.Pieces.{Piece}
use Rattle.pg_stream.specs.declared.definition.Definition.{Definition}
use Rattle.pg_stream.specs.Limits.{is_within_limits}
use Rattle.pg_align.specs.Histories.{StreamHistory}
use Rattle.pg_align.specs.Slots.{Aligned}
use Rattle.pg_align.specs.Shown as align
use Rattle.pg_align.proofs.Histories.{Shows-start, Shows-discard, Shows-reshape, Shows-opening}
use Rattle.pg_ring.specs.Shown.{Queue, bytes_to_leave}
use Rattle.pg_ring.specs.Numbers.{Numbered, shown_of, push_made, dropped_by, newest}
use Rattle.pg_ring.specs.Numbers as ring
use Rattle.pg_ring.specs.Steps.{with_data}
use Rattle.pg_ring.proofs.Numbering.{Shows-data, Shows-lost, Shows-reply, Shows-drain, Shows-clear, Shows-cleared, length-with_gaps}
use Rattle.pg_audit.specs.declared.counters.Stats.{Stats}
use Rattle.pg_audit.specs.Counting.{more, counted}
use Rattle.pg_entitle.specs.Grants.{has_key, granted, without_key}
use Rattle.pg_outcfg.specs.Frames.{cfg1_frame, cfg2_frame, header_frame}
use Rattle.pg_outcfg.specs.Listing.{Listing, config_at, without_config}
use Rattle.pg_session.specs.Events.{SubscriberEvent, grant, revoke, announce, measure, define, remove, tick, connect, hangup, command, drain}
use Rattle.pg_session.specs.Streams.{StreamOf, Turn, still, effective_in, first_layout, frame_len, reshape_turn}
use Rattle.pg_session.specs.Output.{Output, all_ignored, kept_frame, lost_frame, frames_made, ignored, turns_taken}
use Rattle.pg_session.specs.ByAll.{by_arrivals, by_numbers}
use Rattle.pg_session.specs.Kept.{by_slots, by_gaps}
use Rattle.pg_session.specs.Private as private
use Rattle.pg_session.specs.Private.{ReplyValue, done, refused, handed, stream_at, put_all, put_first, is_known, is_unsupported, asks_reply, takes_memory, with_refusal, refused_at, reply_soc}
use Rattle.pg_session.specs.Shown.{Model, Own, StreamShows, StreamsShow, OwnShows, SubscriberValue, Takes}
use Rattle.pg_session.specs.Steps.{Steps}
use Rattle.pg_session.proofs.Simulating.{TurnShows, reshape-shows, measure-shows, tick-shows}

-- the queue and the counters show those of the model
pub record OutputShows (o : Output Queue) (p : Output Numbered) : Type 0 where
  pub queue : ring.ShowsNumbered o.queue p.queue
  pub stats : o.stats ≡ p.stats

dropped_by_test : (m : Numbered) (frame : List ℕ) (b : Bool) → nat_le (length frame) m.byte_limit ≡ b
    → length m.queue + 1 - length (push_made m frame).queue ≡ dropped_by m frame
dropped_by_test m frame true e = rw (e, length_push m.queue (length m.made + 1)) refl
dropped_by_test m frame false e = rw e (omega arith)

dropped-shows : (queue : Queue) (m : Numbered) (frame : List ℕ) → ring.ShowsNumbered queue m → by_gaps.dropped queue frame ≡ by_numbers.dropped m frame
dropped-shows queue m frame h =
    let before : length queue.frames ≡ length m.queue = ap (λ (q : Queue). length q.frames) h.same ∙ length-with_gaps m.made m.mark m.queue in
    let new = push_made m frame in
    let after : length (with_data queue frame).frames ≡ length new.queue =
    ap (λ (q : Queue). length q.frames) (Shows-data queue m frame h).same ∙ length-with_gaps new.made new.mark new.queue in
    ap₂ (λ n k. n + 1 - k) before after ∙ dropped_by_test m frame _ refl

kept-shows : (o : Output Queue) (p : Output Numbered) (frame : List ℕ) → OutputShows o p → OutputShows (kept_frame by_gaps o frame) (kept_frame by_numbers p frame)
kept-shows o p frame h = record {
  queue = Shows-data o.queue p.queue frame h.queue;
  stats = ap₂ (λ (s : Stats) n. record s { made = more s.made 1; dropped = more s.dropped n }) h.stats (dropped-shows o.queue p.queue frame h.queue);
}

lost-shows : (o : Output Queue) (p : Output Numbered) → OutputShows o p → OutputShows (lost_frame by_gaps o) (lost_frame by_numbers p)
lost-shows o p h = record {
  queue = Shows-lost o.queue p.queue h.queue;
  stats = ap (λ (s : Stats). record s { made = more s.made 1; lost = more s.lost 1 }) h.stats;
}

frames-show : (kept : ℕ) (frames : List (List ℕ)) (o : Output Queue) (p : Output Numbered) → OutputShows o p
    → OutputShows (frames_made by_gaps kept frames o) (frames_made by_numbers kept frames p)
frames-show kept [] o p h = h
frames-show zero (frame ∷ frames) o p h = frames-show zero frames _ _ (lost-shows o p h)
frames-show (suc kept) (frame ∷ frames) o p h = frames-show kept frames _ _ (kept-shows o p frame h)

-- turns, one for each stream
abbrev TurnsShow : List (Turn (Aligned Piece)) → List (Turn (StreamHistory Piece)) → Type 0
TurnsShow [] [] = Unit {0}
TurnsShow (t ∷ ts) (u ∷ us) = TurnShows t u × TurnsShow ts us
TurnsShow [] (u ∷ us) = ⊥
TurnsShow (t ∷ ts) [] = ⊥

ignored-shows : (t : Turn (Aligned Piece)) (u : Turn (StreamHistory Piece)) (o : Output Queue) (p : Output Numbered) → TurnShows t u → OutputShows o p
    → OutputShows (ignored by_gaps t o) (ignored by_numbers u p)
ignored-shows t u o p w h = record {
  queue = h.queue;
  stats =
      ap (all_ignored t.late t.twice t.past) h.stats
      ∙ ap (λ n. all_ignored n t.twice t.past p.stats) w.late
      ∙ ap₂ (λ n k. all_ignored u.late n k p.stats) w.twice w.past;
}

turns-show : (kept : ℕ) (ts : List (Turn (Aligned Piece))) (us : List (Turn (StreamHistory Piece))) (o : Output Queue) (p : Output Numbered)
    → TurnsShow ts us → OutputShows o p → OutputShows (turns_taken by_gaps kept ts o) (turns_taken by_numbers kept us p)
turns-show kept [] [] o p w h = h
turns-show kept [] (u ∷ us) o p w h = absurd w
turns-show kept (t ∷ ts) [] o p w h = absurd w
turns-show kept (t ∷ ts) (u ∷ us) o p w h =
    let mine = frames-show kept t.frames _ _ (ignored-shows t u o p w.0 h) in
    let same = w.0.frames in
    let taken = turns-show (kept - length t.frames) ts us _ _ w.1 mine in
    subst (λ frames. OutputShows (turns_taken by_gaps kept (t ∷ ts) o)
    (turns_taken by_numbers (kept - length frames) us (frames_made by_numbers kept frames (ignored by_numbers u p)))) same taken

-- lists of streams
turns-map : (f : StreamOf (Aligned Piece) → Turn (Aligned Piece)) (g : StreamOf (StreamHistory Piece) → Turn (StreamHistory Piece))
    → ((s : StreamOf (Aligned Piece)) (t : StreamOf (StreamHistory Piece)) → StreamShows s t → TurnShows (f s) (g t))
    → (ss : List (StreamOf (Aligned Piece))) (ts : List (StreamOf (StreamHistory Piece))) → StreamsShow ss ts → TurnsShow (map f ss) (map g ts)
turns-map f g each [] [] w = tt
turns-map f g each [] (t ∷ ts) w = absurd w
turns-map f g each (s ∷ ss) [] w = absurd w
turns-map f g each (s ∷ ss) (t ∷ ts) w = (each s t w.0, turns-map f g each ss ts w.1)

streams-map : (f : StreamOf (Aligned Piece) → StreamOf (Aligned Piece)) (g : StreamOf (StreamHistory Piece) → StreamOf (StreamHistory Piece))
    → ((s : StreamOf (Aligned Piece)) (t : StreamOf (StreamHistory Piece)) → StreamShows s t → StreamShows (f s) (g t))
    → (ss : List (StreamOf (Aligned Piece))) (ts : List (StreamOf (StreamHistory Piece))) → StreamsShow ss ts → StreamsShow (map f ss) (map g ts)
streams-map f g each [] [] w = tt
streams-map f g each [] (t ∷ ts) w = absurd w
streams-map f g each (s ∷ ss) [] w = absurd w
streams-map f g each (s ∷ ss) (t ∷ ts) w = (each s t w.0, streams-map f g each ss ts w.1)

turned-streams : (ts : List (Turn (Aligned Piece))) (us : List (Turn (StreamHistory Piece))) → TurnsShow ts us
    → StreamsShow (map (λ (t : Turn (Aligned Piece)). t.stream) ts) (map (λ (u : Turn (StreamHistory Piece)). u.stream) us)
turned-streams [] [] w = tt
turned-streams [] (u ∷ us) w = absurd w
turned-streams (t ∷ ts) [] w = absurd w
turned-streams (t ∷ ts) (u ∷ us) w = (w.0.stream, turned-streams ts us w.1)

turned-frames : (ts : List (Turn (Aligned Piece))) (us : List (Turn (StreamHistory Piece))) → TurnsShow ts us
    → flat_map (λ (t : Turn (Aligned Piece)). t.frames) ts ≡ flat_map (λ (u : Turn (StreamHistory Piece)). u.frames) us
turned-frames [] [] w = refl
turned-frames [] (u ∷ us) w = absurd w
turned-frames (t ∷ ts) [] w = absurd w
turned-frames (t ∷ ts) (u ∷ us) w = ap₂ (λ fs gs. fs ++ gs) w.0.frames (turned-frames ts us w.1)

-- What holds of two states that differ in their streams and queues alone holds of a state that shows another.
abbrev own_of : {A Q : Type 0} → Bool → List PmuKey → Listing → Stats → Option ℕ → ℕ → List (StreamOf A) → Q → private.Private A Q
own_of c g l s t n streams queue = record {
  connected = c;
  grants = g;
  listed = l;
  streams = streams;
  output = record { queue = queue; stats = s };
  last_tick = t;
  definitions = n;
}

lifted_own : (P : Own → Model → Type 0)
    → ((c : Bool) (g : List PmuKey) (l : Listing) (s : Stats) (t : Option ℕ) (n : ℕ) (ss : List (StreamOf (Aligned Piece)))
    (ts : List (StreamOf (StreamHistory Piece))) (q : Queue) (m : Numbered) → StreamsShow ss ts → ring.ShowsNumbered q m
    → P (own_of c g l s t n ss q) (own_of c g l s t n ts m))
    → (v : Own) (p : Model) → OwnShows v p → P v p
lifted_own P f v p w =
    subst (λ c. P v (own_of c p.grants p.listed p.output.stats p.last_tick p.definitions p.streams p.output.queue)) w.connected
    (subst (λ g. P v (own_of v.connected g p.listed p.output.stats p.last_tick p.definitions p.streams p.output.queue)) w.grants
    (subst (λ l. P v (own_of v.connected v.grants l p.output.stats p.last_tick p.definitions p.streams p.output.queue)) w.listed
    (subst (λ s. P v (own_of v.connected v.grants v.listed s p.last_tick p.definitions p.streams p.output.queue)) w.stats
    (subst (λ t. P v (own_of v.connected v.grants v.listed v.output.stats t p.definitions p.streams p.output.queue)) w.last_tick
    (subst (λ n. P v (own_of v.connected v.grants v.listed v.output.stats v.last_tick n p.streams p.output.queue)) w.definitions
    (f v.connected v.grants v.listed v.output.stats v.last_tick v.definitions v.streams p.streams v.output.queue p.output.queue w.streams w.queue))))))

shows_of : (c : Bool) (g : List PmuKey) (l : Listing) (s : Stats) (t : Option ℕ) (n : ℕ) (ss : List (StreamOf (Aligned Piece))) (ts : List (StreamOf (StreamHistory Piece)))
    (o : Output Queue) (p : Output Numbered) → StreamsShow ss ts → OutputShows o p
    → OwnShows (record { connected = c; grants = g; listed = l; streams = ss; output = o; last_tick = t; definitions = n })
    (record { connected = c; grants = g; listed = l; streams = ts; output = p; last_tick = t; definitions = n })
shows_of c g l s t n ss ts o p w h =
    record { connected = refl; grants = refl; listed = refl; streams = w; queue = h.queue; stats = h.stats; last_tick = refl; definitions = refl }

still-each : (s : StreamOf (Aligned Piece)) (t : StreamOf (StreamHistory Piece)) → StreamShows s t → TurnShows (still s) (still t)
still-each s t w = record { stream = w; frames = refl; late = refl; twice = refl; past = refl }

abbrev TurnsOf : SubscriberEvent → Own → Model → Type 0
TurnsOf e v p = TurnsShow (private.turns_of by_slots by_gaps v e) (private.turns_of by_arrivals by_numbers p e)

grant_turns : (b : Bool) (l other : Listing) (ss : List (StreamOf (Aligned Piece))) (ts : List (StreamOf (StreamHistory Piece))) → StreamsShow ss ts
    → TurnsShow (if b then map still ss else map (reshape_turn by_slots l other) ss) (if b then map still ts else map (reshape_turn by_arrivals l other) ts)
grant_turns true l other ss ts w = turns-map still still still-each ss ts w
grant_turns false l other ss ts w = turns-map _ _ (reshape-shows l other) ss ts w

turns_shown : (e : SubscriberEvent) (v : Own) (p : Model) → OwnShows v p → TurnsOf e v p
turns_shown (grant key config) = lifted_own (TurnsOf (grant key config))
    (λ c g l s t n ss ts q m w h. grant_turns _ l (put_first l key config) ss ts w)
turns_shown (revoke key) = lifted_own (TurnsOf (revoke key))
    (λ c g l s t n ss ts q m w h. turns-map _ _ (reshape-shows l (without_config l key)) ss ts w)
turns_shown (announce list) = lifted_own (TurnsOf (announce list))
    (λ c g l s t n ss ts q m w h. turns-map _ _ (reshape-shows l (put_all l list)) ss ts w)
turns_shown (measure soc quality frac samples) = lifted_own (TurnsOf (measure soc quality frac samples))
    (λ c g l s t n ss ts q m w h. turns-map _ _ (measure-shows l soc quality frac samples) ss ts w)
turns_shown (tick soc) = lifted_own (TurnsOf (tick soc))
    (λ c g l s t n ss ts q m w h. turns-map _ _ (tick-shows l) ss ts w)
turns_shown (define definition) = λ v p w. tt
turns_shown (remove number) = λ v p w. tt
turns_shown connect = λ v p w. tt
turns_shown hangup = λ v p w. tt
turns_shown (command number word) = λ v p w. tt
turns_shown (drain n) = λ v p w. tt

frames_shown : (e : SubscriberEvent) (v : Own) (p : Model) → OwnShows v p
    → private.frames_of by_slots by_gaps v e ≡ private.frames_of by_arrivals by_numbers p e
frames_shown e v p w = turned-frames _ _ (turns_shown e v p w)

turned_shown : (e : SubscriberEvent) (kept : ℕ) (v : Own) (p : Model) → OwnShows v p
    → OwnShows (private.turned by_slots by_gaps v e kept) (private.turned by_arrivals by_numbers p e kept)
turned_shown e kept v p w =
    let turns = turns_shown e v p w in
    let out = turns-show kept _ _ v.output p.output turns (record { queue = w.queue; stats = w.stats }) in
    record {
      connected = w.connected;
      grants = w.grants;
      listed = w.listed;
      streams = turned-streams _ _ turns;
      queue = out.queue;
      stats = out.stats;
      last_tick = w.last_tick;
      definitions = w.definitions;
    }

-- the stream of a number
found_step : (s : StreamOf (Aligned Piece)) (t : StreamOf (StreamHistory Piece)) (ss : List (StreamOf (Aligned Piece))) (ts : List (StreamOf (StreamHistory Piece))) (number : ℕ)
    (b : Bool) → is_some (stream_at ss number) ≡ is_some (stream_at ts number)
    → is_some (if b then Some s else stream_at ss number) ≡ is_some (if b then Some t else stream_at ts number)
found_step s t ss ts number true e = refl
found_step s t ss ts number false e = e

stream_found : (ss : List (StreamOf (Aligned Piece))) (ts : List (StreamOf (StreamHistory Piece))) (number : ℕ) → StreamsShow ss ts
    → is_some (stream_at ss number) ≡ is_some (stream_at ts number)
stream_found [] [] number w = refl
stream_found [] (t ∷ ts) number w = absurd w
stream_found (s ∷ ss) [] number w = absurd w
stream_found (s ∷ ss) (t ∷ ts) number w =
    found_step s t ss ts number (s.definition.stream == number) (stream_found ss ts number w.1)
    ∙ ap (λ (d : Definition). is_some (if d.stream == number then Some t else stream_at ts number)) w.0.definition

streams-length : (ss : List (StreamOf (Aligned Piece))) (ts : List (StreamOf (StreamHistory Piece))) → StreamsShow ss ts → length ss ≡ length ts
streams-length [] [] w = refl
streams-length [] (t ∷ ts) w = absurd w
streams-length (s ∷ ss) [] w = absurd w
streams-length (s ∷ ss) (t ∷ ts) w = ap suc (streams-length ss ts w.1)

takes_shown : (q : Queue) (m : Numbered) → ring.ShowsNumbered q m → by_gaps.takes_reply q ≡ by_numbers.takes_reply m
takes_shown q m h = ap by_gaps.takes_reply h.same

abbrev Refuses : SubscriberEvent → Own → Model → Type 0
Refuses e v p = private.refusal by_slots by_gaps v e ≡ private.refusal by_arrivals by_numbers p e

refusal_shown : (e : SubscriberEvent) (v : Own) (p : Model) → OwnShows v p → Refuses e v p
refusal_shown (grant key config) = lifted_own (Refuses (grant key config)) (λ c g l s t n ss ts q m w h. refl)
refusal_shown (revoke key) = lifted_own (Refuses (revoke key)) (λ c g l s t n ss ts q m w h. refl)
refusal_shown (announce list) = λ v p w. refl
refusal_shown (measure soc quality frac samples) = λ v p w. refl
refusal_shown (tick soc) = λ v p w. refl
refusal_shown (define definition) = lifted_own (Refuses (define definition))
    (λ c g l s t n ss ts q m w h. ap₂
    (λ there many. private.refuse (not (is_within_limits definition)) BadDefinition
    (private.refuse there StreamExists (private.refuse (nat_le 8 many) StreamsFull None)))
    (stream_found ss ts definition.stream w) (streams-length ss ts w))
refusal_shown (remove number) = lifted_own (Refuses (remove number))
    (λ c g l s t n ss ts q m w h. ap (λ there. private.refuse (not there) NoSuchStream None) (stream_found ss ts number w))
refusal_shown connect = lifted_own (Refuses connect) (λ c g l s t n ss ts q m w h. refl)
refusal_shown hangup = lifted_own (Refuses hangup) (λ c g l s t n ss ts q m w h. refl)
refusal_shown (command number word) = lifted_own (Refuses (command number word))
    (λ c g l s t n ss ts q m w h. ap₂
    (λ there takes. private.refuse (not c) NotConnected (private.refuse (not there) NoSuchStream
    (private.refuse (not (is_known word)) UnknownCommand (private.refuse (is_unsupported word) Unsupported
    (private.refuse (asks_reply word && not takes) ReplyFull None)))))
    (stream_found ss ts number w) (takes_shown q m h))
refusal_shown (drain n) = lifted_own (Refuses (drain n)) (λ c g l s t n ss ts q m w h. refl)

-- streams that are switched, added and removed
stopped-shows : (s : StreamOf (Aligned Piece)) (t : StreamOf (StreamHistory Piece)) → StreamShows s t
    → StreamShows (private.stopped by_slots by_gaps s) (private.stopped by_arrivals by_numbers t)
stopped-shows s t w = record { definition = w.definition; slots = Shows-discard _ _ w.slots; places = w.places; count = w.count; layouts = w.layouts }

start_places : (a : Aligned Piece) (b : Bool) → a.is_on ≡ b → (by_slots.start a).effective ≡ a.effective
start_places a true e = rw e refl
start_places a false e = rw e refl

started-shows : (s : StreamOf (Aligned Piece)) (t : StreamOf (StreamHistory Piece)) → StreamShows s t
    → StreamShows (private.started by_slots by_gaps s) (private.started by_arrivals by_numbers t)
started-shows s t w =
    record { definition = w.definition; slots = Shows-start _ _ w.slots; places = ap length (start_places s.slots _ refl) ∙ w.places; count = w.count; layouts = w.layouts }

switched_by : (b c : Bool) (s : StreamOf (Aligned Piece)) (t : StreamOf (StreamHistory Piece)) → StreamShows s t
    → StreamShows (if b then private.stopped by_slots by_gaps s else (if c then private.started by_slots by_gaps s else s))
    (if b then private.stopped by_arrivals by_numbers t else (if c then private.started by_arrivals by_numbers t else t))
switched_by true c s t w = stopped-shows s t w
switched_by false true s t w = started-shows s t w
switched_by false false s t w = w

at_by : (word : ℕ) (b : Bool) (s : StreamOf (Aligned Piece)) (t : StreamOf (StreamHistory Piece)) → StreamShows s t
    → StreamShows (if b then private.switched by_slots by_gaps word s else s) (if b then private.switched by_arrivals by_numbers word t else t)
at_by word true s t w = switched_by (word == 1) (word == 2) s t w
at_by word false s t w = w

at-shows : (number word : ℕ) (s : StreamOf (Aligned Piece)) (t : StreamOf (StreamHistory Piece)) → StreamShows s t
    → StreamShows (private.at_stream by_slots by_gaps number (private.switched by_slots by_gaps word) s)
    (private.at_stream by_arrivals by_numbers number (private.switched by_arrivals by_numbers word) t)
at-shows number word s t w =
    subst (λ (d : Definition). StreamShows (private.at_stream by_slots by_gaps number (private.switched by_slots by_gaps word) s)
    (if d.stream == number then private.switched by_arrivals by_numbers word t else t)) w.definition
    (at_by word (s.definition.stream == number) s t w)

defined-shows : (v : Own) (p : Model) (d : Definition) → v.listed ≡ p.listed → v.definitions ≡ p.definitions
    → StreamShows (private.defined by_slots by_gaps v d) (private.defined by_arrivals by_numbers p d)
defined-shows v p d e f = record {
  definition = refl;
  slots = subst (λ l. align.Shows (by_slots.reshape (by_slots.opening d) (effective_in v.listed d.members))
      (by_arrivals.reshape (by_arrivals.opening d) (effective_in l d.members))) e
      (Shows-reshape _ _ _ (Shows-opening d.window d.wait (length d.members)) refl);
  places = length-map d.members (λ key. is_some (config_at v.listed key));
  count = refl;
  layouts = ap₂ (λ n l. first_layout ((n + 1) % 2 ^ 64) (frame_len l d.members)) f e;
}

streams-append : (ss rs : List (StreamOf (Aligned Piece))) (ts us : List (StreamOf (StreamHistory Piece))) → StreamsShow ss ts → StreamsShow rs us
    → StreamsShow (ss ++ rs) (ts ++ us)
streams-append [] rs [] us w x = x
streams-append [] rs (t ∷ ts) us w x = absurd w
streams-append (s ∷ ss) rs [] us w x = absurd w
streams-append (s ∷ ss) rs (t ∷ ts) us w x = (w.0, streams-append ss rs ts us w.1 x)

abbrev Without : ℕ → List (StreamOf (Aligned Piece)) → List (StreamOf (StreamHistory Piece)) → Type 0
Without number ss ts =
    StreamsShow (filter (λ (s : StreamOf (Aligned Piece)). not (s.definition.stream == number)) ss)
    (filter (λ (t : StreamOf (StreamHistory Piece)). not (t.definition.stream == number)) ts)

removed_step : (number : ℕ) (s : StreamOf (Aligned Piece)) (t : StreamOf (StreamHistory Piece)) (ss : List (StreamOf (Aligned Piece))) (ts : List (StreamOf (StreamHistory Piece)))
    (b c : Bool) → (s.definition.stream == number) ≡ b → (t.definition.stream == number) ≡ c → b ≡ c → StreamShows s t → Without number ss ts → Without number (s ∷ ss) (t ∷ ts)
removed_step number s t ss ts true true e f g w x = rw (e, f) x
removed_step number s t ss ts false false e f g w x = rw (e, f) (w, x)
removed_step number s t ss ts true false e f g w x = absurd (cc g)
removed_step number s t ss ts false true e f g w x = absurd (cc g)

removed-shows : (number : ℕ) (ss : List (StreamOf (Aligned Piece))) (ts : List (StreamOf (StreamHistory Piece))) → StreamsShow ss ts → Without number ss ts
removed-shows number [] [] w = tt
removed-shows number [] (t ∷ ts) w = absurd w
removed-shows number (s ∷ ss) [] w = absurd w
removed-shows number (s ∷ ss) (t ∷ ts) w =
    removed_step number s t ss ts _ _ refl refl (ap (λ (d : Definition). d.stream == number) w.0.definition) w.0 (removed-shows number ss ts w.1)

-- the reply that a command asks for
abbrev frame_at : ℕ → Definition → ℕ → Listing → Option ℕ → List ℕ
frame_at word d count listed last =
    if word == 3 then header_frame d (unwrap_or last 0) else
    (if word == 4 then cfg1_frame d count (unwrap_or last 0) listed else cfg2_frame d count (unwrap_or last 0) listed)

frame_by : (word : ℕ) (d e : Definition) (m n : ℕ) (l k : Listing) (t u : Option ℕ) → d ≡ e → m ≡ n → l ≡ k → t ≡ u
    → frame_at word d m l t ≡ frame_at word e n k u
frame_by word d e m n l k t u a b c f =
    ap (λ x. frame_at word x m l t) a ∙ ap (λ x. frame_at word e x l t) b ∙ ap (λ x. frame_at word e n x t) c ∙ ap (λ x. frame_at word e n k x) f

reply_found : (word number : ℕ) (ss : List (StreamOf (Aligned Piece))) (ts : List (StreamOf (StreamHistory Piece))) → StreamsShow ss ts
    → (v : Own) (p : Model) → v.listed ≡ p.listed → v.last_tick ≡ p.last_tick
    → option_map (private.reply_frame by_slots by_gaps v word) (stream_at ss number) ≡ option_map (private.reply_frame by_arrivals by_numbers p word) (stream_at ts number)
reply_found word number [] [] w v p e f = refl
reply_found word number [] (t ∷ ts) w v p e f = absurd w
reply_found word number (s ∷ ss) [] w v p e f = absurd w
reply_found word number (s ∷ ss) (t ∷ ts) w v p e f =
    here (s.definition.stream == number) (reply_found word number ss ts w.1 v p e f)
    ∙ ap (λ (d : Definition). option_map (private.reply_frame by_arrivals by_numbers p word) (if d.stream == number then Some t else stream_at ts number)) w.0.definition
  where
    same : private.reply_frame by_slots by_gaps v word s ≡ private.reply_frame by_arrivals by_numbers p word t
    same = frame_by word s.definition t.definition s.count t.count v.listed p.listed v.last_tick p.last_tick w.0.definition w.0.count e f

    here : (b : Bool) → option_map (private.reply_frame by_slots by_gaps v word) (stream_at ss number) ≡ option_map (private.reply_frame by_arrivals by_numbers p word) (stream_at ts number)
        → option_map (private.reply_frame by_slots by_gaps v word) (if b then Some s else stream_at ss number)
        ≡ option_map (private.reply_frame by_arrivals by_numbers p word) (if b then Some t else stream_at ts number)
    here true x = ap Some same
    here false x = x

reply_shows : (o : Output Queue) (p : Output Numbered) (x y : Option (List ℕ)) → x ≡ y → OutputShows o p
    → OutputShows (private.with_reply by_slots by_gaps o x) (private.with_reply by_arrivals by_numbers p y)
reply_shows o p x y e h = subst (λ z. OutputShows (private.with_reply by_slots by_gaps o x) (private.with_reply by_arrivals by_numbers p z)) e (same x)
  where
    same : (z : Option (List ℕ)) → OutputShows (private.with_reply by_slots by_gaps o z) (private.with_reply by_arrivals by_numbers p z)
    same None = h
    same (Some frame) = record {
      queue = Shows-reply o.queue p.queue frame h.queue;
      stats = ap (λ (s : Stats). record s { replies = more s.replies 1 }) h.stats;
    }

abbrev Effects : SubscriberEvent → ℕ → Own → Model → Type 0
Effects e kept v p = OwnShows (private.effect by_slots by_gaps v e kept) (private.effect by_arrivals by_numbers p e kept)

grant_by : (b : Bool) (v x : Own) (p y : Model) → OwnShows v p → OwnShows x y → OwnShows (if b then v else x) (if b then p else y)
grant_by true v x p y w z = w
grant_by false v x p y w z = z

wants : (word : ℕ) (x y : Option (List ℕ)) → x ≡ y → (if asks_reply word then x else None) ≡ (if asks_reply word then y else None)
wants word x y e = ap (λ z. if asks_reply word then z else None) e

effect_shown : (e : SubscriberEvent) (kept : ℕ) (v : Own) (p : Model) → OwnShows v p → Effects e kept v p
effect_shown (grant key config) kept v p w =
    subst (λ g. OwnShows (private.effect by_slots by_gaps v (grant key config) kept)
    (if has_key g key then p
    else record (private.turned by_arrivals by_numbers p (grant key config) kept) { grants = granted p.grants key; listed = put_first p.listed key config })) w.grants
    (grant_by (has_key v.grants key) v _ p _ w
    (let turned = turned_shown (grant key config) kept v p w in
    record {
      connected = turned.connected;
      grants = ap (λ g. granted g key) w.grants;
      listed = ap (λ l. put_first l key config) w.listed;
      streams = turned.streams;
      queue = turned.queue;
      stats = turned.stats;
      last_tick = turned.last_tick;
      definitions = turned.definitions;
    }))
effect_shown (revoke key) kept v p w =
    let turned = turned_shown (revoke key) kept v p w in
    record {
      connected = turned.connected;
      grants = ap (λ g. without_key g key) w.grants;
      listed = ap (λ l. without_config l key) w.listed;
      streams = turned.streams;
      queue = turned.queue;
      stats = turned.stats;
      last_tick = turned.last_tick;
      definitions = turned.definitions;
    }
effect_shown (announce list) kept v p w =
    let turned = turned_shown (announce list) kept v p w in
    record {
      connected = turned.connected;
      grants = turned.grants;
      listed = ap (λ l. put_all l list) w.listed;
      streams = turned.streams;
      queue = turned.queue;
      stats = turned.stats;
      last_tick = turned.last_tick;
      definitions = turned.definitions;
    }
effect_shown (measure soc quality frac samples) kept v p w = turned_shown (measure soc quality frac samples) kept v p w
effect_shown (tick soc) kept v p w =
    let turned = turned_shown (tick soc) kept v p w in
    record {
      connected = turned.connected;
      grants = turned.grants;
      listed = turned.listed;
      streams = turned.streams;
      queue = turned.queue;
      stats = turned.stats;
      last_tick = refl;
      definitions = turned.definitions;
    }
effect_shown (define definition) kept v p w = record {
  connected = w.connected;
  grants = w.grants;
  listed = w.listed;
  streams = streams-append v.streams _ p.streams _ w.streams (defined-shows v p definition w.listed w.definitions, tt);
  queue = w.queue;
  stats = w.stats;
  last_tick = w.last_tick;
  definitions = ap (λ n. (n + 1) % 2 ^ 64) w.definitions;
}
effect_shown (remove number) kept v p w = record {
  connected = w.connected;
  grants = w.grants;
  listed = w.listed;
  streams = removed-shows number v.streams p.streams w.streams;
  queue = w.queue;
  stats = w.stats;
  last_tick = w.last_tick;
  definitions = w.definitions;
}
effect_shown connect kept v p w = record {
  connected = refl;
  grants = w.grants;
  listed = w.listed;
  streams = w.streams;
  queue = w.queue;
  stats = w.stats;
  last_tick = w.last_tick;
  definitions = w.definitions;
}
effect_shown hangup kept v p w = record {
  connected = refl;
  grants = w.grants;
  listed = w.listed;
  streams = streams-map _ _ stopped-shows v.streams p.streams w.streams;
  queue = Shows-clear v.output.queue p.output.queue w.queue;
  stats = ap₂ (λ (s : Stats) n. record s { cleared = more s.cleared n }) w.stats (Shows-cleared v.output.queue p.output.queue _ w.queue refl);
  last_tick = w.last_tick;
  definitions = w.definitions;
}
effect_shown (command number word) kept v p w =
    let out = reply_shows v.output p.output _ _
    (wants word _ _ (reply_found word number v.streams p.streams w.streams v p w.listed w.last_tick))
    (record { queue = w.queue; stats = w.stats }) in
    record {
      connected = w.connected;
      grants = w.grants;
      listed = w.listed;
      streams = streams-map _ _ (at-shows number word) v.streams p.streams w.streams;
      queue = out.queue;
      stats = out.stats;
      last_tick = w.last_tick;
      definitions = w.definitions;
    }
effect_shown (drain n) kept v p w = record {
  connected = w.connected;
  grants = w.grants;
  listed = w.listed;
  streams = w.streams;
  queue = Shows-drain v.output.queue p.output.queue n w.queue;
  stats = ap₂ (λ (s : Stats) (q : Queue). record s { handed = more s.handed (min n (length (bytes_to_leave q))) }) w.stats w.queue.same;
  last_tick = w.last_tick;
  definitions = w.definitions;
}

answer_shown : (e : SubscriberEvent) (kept : ℕ) (v : Own) (p : Model) → OwnShows v p
    → private.answer by_slots by_gaps v e kept ≡ private.answer by_arrivals by_numbers p e kept
answer_shown (grant key config) kept v p w = ap (λ frames. done (length frames) kept) (frames_shown (grant key config) v p w)
answer_shown (revoke key) kept v p w = ap (λ frames. done (length frames) kept) (frames_shown (revoke key) v p w)
answer_shown (announce list) kept v p w = ap (λ frames. done (length frames) kept) (frames_shown (announce list) v p w)
answer_shown (measure soc quality frac samples) kept v p w =
    ap (λ frames. done (length frames) kept) (frames_shown (measure soc quality frac samples) v p w)
answer_shown (tick soc) kept v p w = ap (λ frames. done (length frames) kept) (frames_shown (tick soc) v p w)
answer_shown (define definition) kept v p w = refl
answer_shown (remove number) kept v p w = refl
answer_shown connect kept v p w = refl
answer_shown hangup kept v p w = refl
answer_shown (command number word) kept v p w = refl
answer_shown (drain n) kept v p w =
    ap (λ (q : Queue). handed (take n (by_gaps.bytes q)) (by_gaps.begun q n) (by_gaps.gap q n)) w.queue.same

refused_by : (b : Bool) (v x : Own) (p y : Model) → OwnShows v p → OwnShows x y → OwnShows (if b then x else v) (if b then y else p)
refused_by true v x p y w z = z
refused_by false v x p y w z = w

refused_shown : (e : SubscriberEvent) (r : Refusal) (v : Own) (p : Model) → OwnShows v p → OwnShows (refused_at v e r) (refused_at p e r)
refused_shown (command number word) r v p w =
    subst (λ c. OwnShows (refused_at v (command number word) r) (if c then record p { output = with_refusal p.output r } else p)) w.connected
    (refused_by v.connected v _ p _ w (record {
      connected = w.connected;
      grants = w.grants;
      listed = w.listed;
      streams = w.streams;
      queue = w.queue;
      stats = ap (λ (s : Stats). record s { by_reason = counted s.by_reason (number_of r) }) w.stats;
      last_tick = w.last_tick;
      definitions = w.definitions;
    }))
refused_shown (grant key config) r v p w = w
refused_shown (revoke key) r v p w = w
refused_shown (announce list) r v p w = w
refused_shown (measure soc quality frac samples) r v p w = w
refused_shown (define definition) r v p w = w
refused_shown (remove number) r v p w = w
refused_shown (tick soc) r v p w = w
refused_shown connect r v p w = w
refused_shown hangup r v p w = w
refused_shown (drain n) r v p w = w

next_shown : (e : SubscriberEvent) (r : ReplyValue) (v : Own) (p : Model) → OwnShows v p
    → OwnShows (private.next by_slots by_gaps v e r) (private.next by_arrivals by_numbers p e r)
next_shown e (done made kept) v p w = effect_shown e kept v p w
next_shown e (refused r) v p w = refused_shown e r v p w
next_shown e (handed bytes begun gap) v p w = effect_shown e 0 v p w

may_by : (v : Own) (p : Model) (e : SubscriberEvent) (lost : Bool) (r : ReplyValue) → OwnShows v p → (o : Option Refusal)
    → MatchOption o (((kept : ℕ) × (kept ≤ length (private.frames_of by_slots by_gaps v e)) × (lost ≡ true → kept ≡ 0) × (r ≡ private.answer by_slots by_gaps v e kept))
    ⊎ ((r ≡ refused NoMemory) × (takes_memory e ≡ true))) (λ first. r ≡ refused first)
    → MatchOption o (((kept : ℕ) × (kept ≤ length (private.frames_of by_arrivals by_numbers p e)) × (lost ≡ true → kept ≡ 0) × (r ≡ private.answer by_arrivals by_numbers p e kept))
    ⊎ ((r ≡ refused NoMemory) × (takes_memory e ≡ true))) (λ first. r ≡ refused first)
may_by v p e lost r w None (inl h) = inl (h.0, subst (λ frames. h.0 ≤ length frames) (frames_shown e v p w) h.1, h.2, h.3 ∙ answer_shown e h.0 v p w)
may_by v p e lost r w None (inr h) = inr h
may_by v p e lost r w (Some first) h = h

-- What follows of the kept state follows of the model: the reply may come, and the successor is shown.
pub follows_shown : (v : Own) (p : Model) (e : SubscriberEvent) (lost : Bool) (r : ReplyValue) → OwnShows v p
    → private.May by_slots by_gaps v e lost r
    → private.May by_arrivals by_numbers p e lost r × OwnShows (private.next by_slots by_gaps v e r) (private.next by_arrivals by_numbers p e r)
follows_shown v p e lost r w may = (
  subst (λ o. MatchOption o (((kept : ℕ) × (kept ≤ length (private.frames_of by_arrivals by_numbers p e)) × (lost ≡ true → kept ≡ 0) × (r ≡ private.answer by_arrivals by_numbers p e kept))
      ⊎ ((r ≡ refused NoMemory) × (takes_memory e ≡ true))) (λ first. r ≡ refused first)) (refusal_shown e v p w)
      (may_by v p e lost r w (private.refusal by_slots by_gaps v e) may),
  next_shown e r v p w,
)

-- So one step of what is kept is one step of whatever state it shows.
pub steps_taken : (old : SubscriberValue) (e : SubscriberEvent) (lost : Bool) (r : ReplyValue) (new : SubscriberValue) → Steps old e lost r new → Takes old e lost r new
steps_taken old e lost r new s = λ p w.
    let next = follows_shown old.own p e lost r w s.may in
    record {
      may = next.0;
      shows = subst (λ (v : Own). OwnShows v (private.next by_arrivals by_numbers p e r)) (sym s.state) next.1;
    }
