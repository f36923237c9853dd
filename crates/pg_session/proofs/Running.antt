-- Runs of private events, and what they are to the queue.
use Rattle.std.proofs.Common.{◌≡◌, ◌⊎◌, ◌≤◌, MatchOption, ℕ, zero, suc, ◌-◌, ◌<◌, ◌&&◌, nat_le, List, [], ◌∷◌, ◌++◌, length, fold, Bool, true, false, if◌then◌else◌, Option, Some, None, option_map, inl, inr, refl, sym, ap, ap₂, ◌∙◌, arith}
use Rattle.std.proofs.lemmas.List.{append_assoc}
use Rattle.pg_data.specs.Pieces.{Piece}
use Rattle.pg_align.specs.Histories as align
use Rattle.pg_entitle.specs.Grants.{has_key}
use Rattle.pg_ring.specs.Numbers.{Numbered, none_made}
use Rattle.pg_ring.specs.Fates as ring
use Rattle.pg_ring.specs.Fates.{Call, QueueHistory, longer, history_of, fates, one_if}
use Rattle.pg_ring.proofs.Fates.{has_one_fate}
use Rattle.pg_wire.specs.declared.refusal.Refusal.{Refusal}
use Rattle.pg_wire.specs.declared.refusal.Refusal.TheVariants.{NoMemory}
use Rattle.pg_session.specs.Streams.{Turn}
use Rattle.pg_session.specs.Output.{Output, frames_made, turns_taken, ignored}
use Rattle.pg_session.specs.Events.{SubscriberEvent, Sample, grant, revoke, announce, measure, define, remove, tick, connect, hangup, command, drain}
use Rattle.pg_session.specs.Private.{ReplyValue, done, refused, handed, refusal, answer, takes_memory, May, next, frames_of, effect, turns_of, refused_at, with_reply, asks_reply, reply_frame, stream_at}
use Rattle.pg_session.specs.ByAll.{by_arrivals, by_numbers}
use Rattle.pg_session.specs.Shown.{Model, begin}
use Rattle.pg_session.specs.Laws.{Run, after, unless_refused, full_told, full_run, handed_by, handed_in, frame_calls, turn_calls, reply_calls, calls_done, calls_of, calls_in}

pub state_append : (p : Model) (xs ys : Run) → after p (xs ++ ys) ≡ after (after p xs) ys
state_append p [] ys = refl
state_append p (x ∷ xs) ys = state_append (next by_arrivals by_numbers p x.0 x.1) xs ys

pub handed_append : (xs ys : Run) → handed_in (xs ++ ys) ≡ handed_in xs ++ handed_in ys
handed_append [] ys = refl
handed_append (x ∷ xs) ys =
    ap (λ hs. handed_by x.1 ++ hs) (handed_append xs ys) ∙ sym (append_assoc (handed_by x.1) (handed_in xs) (handed_in ys))

pub replies_append : (p : Model) (es fs : List SubscriberEvent) → full_run p (es ++ fs) ≡ full_run p es ++ full_run (after p (full_run p es)) fs
replies_append p [] fs = refl
replies_append p (e ∷ es) fs = ap (λ run. (e, full_told p e) ∷ run) (replies_append (next by_arrivals by_numbers p e (full_told p e)) es fs)

-- the full reply may come
pub full_may : (p : Model) (e : SubscriberEvent) → May by_arrivals by_numbers p e false (full_told p e)
full_may p e = by (refusal by_arrivals by_numbers p e)
  where
    by : (o : Option Refusal) → MatchOption o
        (((kept : ℕ) × (kept ≤ length (frames_of by_arrivals by_numbers p e)) × (false ≡ true → kept ≡ 0)
        × (unless_refused o (answer by_arrivals by_numbers p e (length (frames_of by_arrivals by_numbers p e))) ≡ answer by_arrivals by_numbers p e kept))
        ⊎ ((unless_refused o (answer by_arrivals by_numbers p e (length (frames_of by_arrivals by_numbers p e))) ≡ refused NoMemory) × (takes_memory e ≡ true)))
        (λ first. unless_refused o (answer by_arrivals by_numbers p e (length (frames_of by_arrivals by_numbers p e))) ≡ refused first)
    by None = inl (length (frames_of by_arrivals by_numbers p e), omega arith, (λ h. absurd (cc h)), refl)
    by (Some r) = refl

-- the queue after calls
abbrev called : Numbered → List Call → Numbered
called m [] = m
called m (call ∷ calls) = called (ring.after m call) calls

called_append : (m : Numbered) (xs ys : List Call) → called m (xs ++ ys) ≡ called (called m xs) ys
called_append m [] ys = refl
called_append m (x ∷ xs) ys = called_append (ring.after m x) xs ys

frames_called : (kept : ℕ) (frames : List (List ℕ)) (out : Output Numbered)
    → (frames_made by_numbers kept frames out).queue ≡ called out.queue (frame_calls kept frames)
frames_called kept [] out = refl
frames_called zero (f ∷ frames) out = frames_called zero frames _
frames_called (suc kept) (f ∷ frames) out = frames_called kept frames _

turns_called : (kept : ℕ) (turns : List (Turn (align.StreamHistory Piece))) (out : Output Numbered)
    → (turns_taken by_numbers kept turns out).queue ≡ called out.queue (turn_calls kept turns)
turns_called kept [] out = refl
turns_called kept (turn ∷ turns) out =
    let first = frames_made by_numbers kept turn.frames (ignored by_numbers turn out) in
    turns_called (kept - length turn.frames) turns first
    ∙ ap (λ m. called m (turn_calls (kept - length turn.frames) turns)) (frames_called kept turn.frames (ignored by_numbers turn out))
    ∙ sym (called_append out.queue (frame_calls kept turn.frames) (turn_calls (kept - length turn.frames) turns))

reply_called : (out : Output Numbered) (o : Option (List ℕ)) → (with_reply by_arrivals by_numbers out o).queue ≡ called out.queue (reply_calls o)
reply_called out None = refl
reply_called out (Some frame) = refl

granted_called : (p : Model) (b : Bool) (turned_to : Model) (calls : List Call) → turned_to.output.queue ≡ called p.output.queue calls
    → (if b then p else turned_to).output.queue ≡ called p.output.queue (if b then [] else calls)
granted_called p true turned_to calls e = refl
granted_called p false turned_to calls e = e

effect_called : (p : Model) (e : SubscriberEvent) (kept : ℕ) → (effect by_arrivals by_numbers p e kept).output.queue ≡ called p.output.queue (calls_done p e kept)
effect_called p (grant key config) kept =
    granted_called p (has_key p.grants key) _ (turn_calls kept (turns_of by_arrivals by_numbers p (grant key config)))
    (turns_called kept (turns_of by_arrivals by_numbers p (grant key config)) p.output)
effect_called p (revoke key) kept = turns_called kept (turns_of by_arrivals by_numbers p (revoke key)) p.output
effect_called p (announce list) kept = turns_called kept (turns_of by_arrivals by_numbers p (announce list)) p.output
effect_called p (measure soc quality frac samples) kept = turns_called kept (turns_of by_arrivals by_numbers p (measure soc quality frac samples)) p.output
effect_called p (tick soc) kept = turns_called kept (turns_of by_arrivals by_numbers p (tick soc)) p.output
effect_called p (define definition) kept = refl
effect_called p (remove number) kept = refl
effect_called p connect kept = refl
effect_called p hangup kept = refl
effect_called p (command number word) kept =
    reply_called p.output (if asks_reply word then option_map (reply_frame by_arrivals by_numbers p word) (stream_at p.streams number) else None)
effect_called p (drain n) kept = refl

counted_by : (b : Bool) (p q : Model) → q.output.queue ≡ p.output.queue → (if b then q else p).output.queue ≡ p.output.queue
counted_by true p q e = e
counted_by false p q e = refl

refused_called : (p : Model) (e : SubscriberEvent) (r : Refusal) → (refused_at p e r).output.queue ≡ p.output.queue
refused_called p (command number word) r = counted_by p.connected p _ refl
refused_called p (grant key config) r = refl
refused_called p (revoke key) r = refl
refused_called p (announce list) r = refl
refused_called p (measure soc quality frac samples) r = refl
refused_called p (define definition) r = refl
refused_called p (remove number) r = refl
refused_called p (tick soc) r = refl
refused_called p connect r = refl
refused_called p hangup r = refl
refused_called p (drain n) r = refl

next_called : (p : Model) (e : SubscriberEvent) (r : ReplyValue) → (next by_arrivals by_numbers p e r).output.queue ≡ called p.output.queue (calls_of p e r)
next_called p e (done made kept) = effect_called p e kept
next_called p e (refused r) = refused_called p e r
next_called p e (handed bytes begun gap) = effect_called p e 0

run_called : (p : Model) (xs : Run) → (after p xs).output.queue ≡ called p.output.queue (calls_in p xs)
run_called p [] = refl
run_called p (x ∷ xs) =
    run_called (next by_arrivals by_numbers p x.0 x.1) xs
    ∙ ap (λ m. called m (calls_in (next by_arrivals by_numbers p x.0 x.1) xs)) (next_called p x.0 x.1)
    ∙ sym (called_append p.output.queue (calls_of p x.0 x.1) (calls_in (next by_arrivals by_numbers p x.0 x.1) xs))

-- a history's queue is what its calls make of it
history_called : (h : QueueHistory) (calls : List Call) → (fold longer h calls).now ≡ called h.now calls
history_called h [] = refl
history_called h (call ∷ calls) = history_called (longer h call) calls

pub queue_called : (size limit : ℕ) (last : Option ℕ) (xs : Run)
    → (after (begin size limit last) xs).output.queue ≡ (history_of size limit (calls_in (begin size limit last) xs)).now
queue_called size limit last xs =
    run_called (begin size limit last) xs
    ∙ sym (history_called (record { now = none_made size limit; begun = []; cleared = [] }) (calls_in (begin size limit last) xs))

pub fate_called : (size limit : ℕ) (last : Option ℕ) (xs : Run) (k : ℕ) → 0 < size
    → fates (history_of size limit (calls_in (begin size limit last) xs)) k
    ≡ one_if (nat_le 1 k && nat_le k (length (after (begin size limit last) xs).output.queue.made))
fate_called size limit last xs k h =
    has_one_fate size limit (calls_in (begin size limit last) xs) k h
    ∙ ap (λ (m : Numbered). one_if (nat_le 1 k && nat_le k (length m.made))) (sym (queue_called size limit last xs))

-- what a measurement that makes no frame is answered
pub measured_quietly : (p : Model) (soc quality frac : ℕ) (samples : List Sample) (lost : Bool) (r : ReplyValue)
    → frames_of by_arrivals by_numbers p (measure soc quality frac samples) ≡ []
    → May by_arrivals by_numbers p (measure soc quality frac samples) lost r → r ≡ done 0 0
measured_quietly p soc quality frac samples lost r quiet may =
    elim may [
      | inl x ↦
          (let n = ap length quiet in
          let k : x.0 ≡ 0 = omega (arith, x.1, n) in
          x.3 ∙ ap₂ done n k)
      | inr y ↦ absurd (cc (y.1))
    ]
