-- What a command does to a subscriber.
use Rattle.std.proofs.Common.{◌≡◌, ◌⊎◌, ℕ, ◌&&◌, ◌==◌, List, [], ◌∷◌, map, Bool, true, false, not, if◌then◌else◌, is_some, Option, Some, None, MatchOption, option_map, inr, refl, sym, ap, ap₂, ◌∙◌}
use Rattle.std.proofs.lemmas.Bool.{eqb-true}
use Rattle.pg_wire.specs.declared.refusal.Refusal.{Refusal}
use Rattle.pg_wire.specs.declared.refusal.Refusal.TheVariants.{NoMemory, NoSuchStream, UnknownCommand, Unsupported, ReplyFull, NotConnected}
use Rattle.pg_data.specs.Pieces.{Piece}
use Rattle.pg_align.specs.Slots.{Aligned, with_start}
use Rattle.pg_outcfg.specs.Listing.{Listing}
use Rattle.pg_ring.specs.Shown.{Queue}
use Rattle.pg_ring.specs.Steps.{takes_reply}
use Rattle.pg_session.specs.Events.{command}
use Rattle.pg_session.specs.Streams.{StreamOf}
use Rattle.pg_session.specs.Output.{Output}
use Rattle.pg_session.specs.Private.{refuse, refused, refused_at, with_refusal, is_known, is_unsupported, asks_reply, order_refusal, stream_at, at_stream, switched, stopped, started, with_reply, reply_frame}
use Rattle.pg_session.specs.Kept.{by_slots, by_gaps}
use Rattle.pg_session.specs.Fields.{AreFitted}
use Rattle.pg_session.proofs.Fitting.{Fits}
use Rattle.pg_session.specs.Shown.{Own}
use Rattle.pg_session.specs.Fields.{Obeys}

abbrev OneStream : Type 0
OneStream = StreamOf (Aligned Piece)

abbrev switch_at : ℕ → ℕ → OneStream → OneStream
switch_at number word = at_stream by_slots by_gaps number (switched by_slots by_gaps word)

start_keeps : (a : Aligned Piece) → (with_start a).effective ≡ a.effective
start_keeps a = by a.is_on where
  by : (b : Bool) → (if b then a else record a { is_on = true; last = None }).effective ≡ a.effective
  by true = refl
  by false = refl

switched_fits : (listed : Listing) (s : OneStream) (here one two : Bool) → Fits listed s
    → Fits listed (if here then (if one then stopped by_slots by_gaps s else (if two then started by_slots by_gaps s else s)) else s)
switched_fits listed s true true two w = w
switched_fits listed s true false true w = start_keeps s.slots ∙ w
switched_fits listed s true false false w = w
switched_fits listed s false one two w = w

pub fitted_switched : (listed : Listing) (number word : ℕ) (ss : List OneStream) → AreFitted listed ss → AreFitted listed (map (switch_at number word) ss)
fitted_switched listed number word [] w = tt
fitted_switched listed number word (s ∷ ss) w =
    (switched_fits listed s (s.definition.stream == number) (word == 1) (word == 2) w.0, fitted_switched listed number word ss w.1)

-- a word that asks for a reply switches no stream
question : (word : ℕ) → asks_reply word ≡ true → ((word == 1) ≡ false) × ((word == 2) ≡ false)
question word h = (other 1 (word == 1) refl refl, other 2 (word == 2) refl refl)
  where
    other : (k : ℕ) (b : Bool) → (word == k) ≡ b → asks_reply k ≡ false → (word == k) ≡ false
    other k false e quiet = e
    other k true e quiet = absurd (let same : word ≡ k = eqb-true word k e in cc (h, quiet, same))

same_switched : (s : OneStream) (here one two : Bool) → one ≡ false → two ≡ false
    → (if here then (if one then stopped by_slots by_gaps s else (if two then started by_slots by_gaps s else s)) else s) ≡ s
same_switched s true false false p q = refl
same_switched s false false false p q = refl
same_switched s here true two p q = absurd (cc p)
same_switched s here false true p q = absurd (cc q)

unswitched : (number word : ℕ) (ss : List OneStream) → asks_reply word ≡ true → map (switch_at number word) ss ≡ ss
unswitched number word [] h = refl
unswitched number word (s ∷ ss) h =
    ap₂ (λ t ts. t ∷ ts)
    (same_switched s (s.definition.stream == number) (word == 1) (word == 2) (question word h).0 (question word h).1)
    (unswitched number word ss h)

-- the refusals of a word that may be commanded, but for a full queue
word_passes : (known unsupported asks takes : Bool) → refuse (not known) UnknownCommand (refuse unsupported Unsupported None) ≡ None
    → (asks && not takes) ≡ false
    → refuse (not known) UnknownCommand (refuse unsupported Unsupported (refuse (asks && not takes) ReplyFull None)) ≡ None
word_passes true false true true h p = refl
word_passes true false true false h p = absurd (cc p)
word_passes true false false takes h p = refl
word_passes true true asks takes h p = absurd (cc h)
word_passes false unsupported asks takes h p = absurd (cc h)

passes : (connected : Bool) (found : Option OneStream) (s : OneStream) (others : Option Refusal) → connected ≡ true → found ≡ Some s → others ≡ None
    → refuse (not connected) NotConnected (refuse (not (is_some found)) NoSuchStream others) ≡ None
passes true (Some t) s others h f p = p
passes true None s others h f p = absurd (cc f)
passes false found s others h f p = absurd (cc h)

abbrev with_all : Own → List OneStream → Output Queue → Own
with_all own streams out = record own { streams = streams; output = out }

pub obeys_switch : (own : Own) (number word : ℕ) (s : OneStream) (streams : List OneStream) → own.connected ≡ true
    → stream_at own.streams number ≡ Some s → order_refusal word ≡ None → asks_reply word ≡ false
    → streams ≡ map (switch_at number word) own.streams → Obeys own number word (record own { streams = streams })
obeys_switch own number word s streams connected found passed asks after = record {
  none = passes own.connected (stream_at own.streams number) s _ connected found
      (word_passes (is_known word) (is_unsupported word) (asks_reply word) (takes_reply own.output.queue) passed (ap (λ b. b && not (takes_reply own.output.queue)) asks));
  state = ap (λ xs. with_all own xs own.output) after
      ∙ ap (λ b. with_all own (map (switch_at number word) own.streams)
      (with_reply by_slots by_gaps own.output (if b then option_map (reply_frame by_slots by_gaps own word) (stream_at own.streams number) else None))) (sym asks);
}

both_hold : (asks takes : Bool) → takes ≡ true → (asks && not takes) ≡ false
both_hold true true h = refl
both_hold false true h = refl
both_hold asks false h = absurd (cc h)

pub obeys_question : (own : Own) (number word : ℕ) (s : OneStream) (out : Output Queue) → own.connected ≡ true
    → stream_at own.streams number ≡ Some s → order_refusal word ≡ None → asks_reply word ≡ true → takes_reply own.output.queue ≡ true
    → out ≡ with_reply by_slots by_gaps own.output (Some (reply_frame by_slots by_gaps own word s)) → Obeys own number word (record own { output = out })
obeys_question own number word s out connected found passed asks takes sent = record {
  none = passes own.connected (stream_at own.streams number) s _ connected found
      (word_passes (is_known word) (is_unsupported word) (asks_reply word) (takes_reply own.output.queue) passed (both_hold (asks_reply word) (takes_reply own.output.queue) takes));
  state = ap (with_all own own.streams) (sent ∙ ap (λ f. with_reply by_slots by_gaps own.output (option_map (reply_frame by_slots by_gaps own word) f)) (sym found)
      ∙ ap (λ b. with_reply by_slots by_gaps own.output (if b then option_map (reply_frame by_slots by_gaps own word) (stream_at own.streams number) else None)) (sym asks))
      ∙ ap (λ xs. with_all own xs (with_reply by_slots by_gaps own.output
      (if asks_reply word then option_map (reply_frame by_slots by_gaps own word) (stream_at own.streams number) else None))) (sym (unswitched number word own.streams asks));
}

pub may_refuse : (o : Option Refusal) (X : Type 0) (r : Refusal) (asks : Bool) → MatchOption o ((r ≡ NoMemory) × (asks ≡ true)) (λ first. r ≡ first)
    → MatchOption o (X ⊎ ((refused r ≡ refused NoMemory) × (asks ≡ true))) (λ first. refused r ≡ refused first)
may_refuse None X r asks m = inr (ap refused m.0, m.1)
may_refuse (Some first) X r asks m = ap refused m

pub counted_refusal : (p q : Own) (number word : ℕ) (r : Refusal) → q ≡ p → p.connected ≡ true
    → record q { output = with_refusal q.output r } ≡ refused_at p (command number word) r
counted_refusal p q number word r same connected = ap (λ (o : Own). record o { output = with_refusal o.output r }) same ∙ by p.connected connected
  where
    by : (b : Bool) → b ≡ true → record p { output = with_refusal p.output r } ≡ (if b then record p { output = with_refusal p.output r } else p)
    by true h = refl
    by false h = absurd (cc h)
