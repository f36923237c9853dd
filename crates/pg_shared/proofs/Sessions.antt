-- Runs of a session's loop, put together.
use Rattle.std.proofs.Common.{◌≡◌, ◌≢◌, ◌∙◌, sym, subst, ap, ap₂, refl, ℕ, Bool, ◌||◌, List, [], ◌∷◌, ◌++◌, map, append-nil, append_assoc, Option, Some, None, true, false, take, inl, inr, Result, Ok, Err, ◌==◌}
use Rattle.std.specs.Prelude.{◌⊎◌, MatchOption, IfSome}
use Rattle.std.specs.List.{flat_map}
use Rattle.std.specs.Io.KnownBytes.{Consumes, IsAtEnd}
use Rattle.std.proofs.Math.Bool.{or-true}
use Rattle.std.proofs.lemmas.Bool.{eqb-true}
use Rattle.std.proofs.lemmas.List.{map-append}
use Rattle.std.proofs.lemmas.Grind.{flat_map-append}
use mathlib.Core.List.{IsPrefix}
use Rattle.pg_wire.specs.declared.refusal.Refusal.{Refusal}
use Rattle.pg_wire.specs.Frame.{break_of, IsWhole}
use Rattle.pg_wire.specs.Stream as wire
use Rattle.pg_wire.specs.Stream.{Splits, stopped, joined}
use Rattle.pg_wire.proofs.Stream.{whole_at_front}
use Rattle.pg_wire.proofs.Placing.{fed_none}
use Rattle.pg_wire.proofs.Splitting.{frames_in-only}
use Rattle.pg_command.specs.declared.command.Command.{Command}
use Rattle.pg_session.specs.Commands.{Hearing, Item, commands, ignores, item_of, items_of, break_in, ShowsHearing, heard}
use Rattle.pg_ring.specs.declared.queue.Drained.{Drained}
use Rattle.pg_session.specs.Ready.{handed_len}
use Rattle.pg_session.specs.Private.{drain_told}
use Rattle.pg_gateway.specs.GatewayEvents.{Answer, tells}
use Rattle.pg_gateway.specs.Posting.{Posted, Notes}
use Rattle.pg_ingest.specs.declared.run.End.{End}
use Rattle.pg_ingest.specs.declared.run.End.TheVariants.{Closed, Quiet, Stalled, Fault}
use Rattle.pg_ingest.proofs.Known.{notes_nil, notes_more, appends_nil, appends_more, consumes_nil, consumes_more}
use Rattle.pg_ingest.specs.Ends.{is_cut}
use Rattle.pg_ingest.specs.Transfers.{EndsRead, IsStuck}
use Rattle.pg_shared.specs.Turned.{HasGivenAll, Writes, DrainsLast, due_after, Turned, EndsSo, TurnedTo, has_failed, is_closed, is_quiet}
use Rattle.pg_shared.specs.Serving.{Post, passes, drains, hangs_up, Call, posted_by, command_in, passed_by, handed_by, bytes_answered, Doing, reads, waits, posts, read_by, call_by, due_read, due_by, InOrder, has_wait, WaitsAt, Follows, AreWritten, RanFrom, Ran, HasNoHangup, IsLast, EndsWith, Served, BreaksBy, EndsBy}

abbrev Bytes : Type 0
Bytes = Option (List ℕ)

abbrev Notices : Type 0
Notices = Option (List Posted)

-- More is written.
follows_longer : (out more before : List ℕ) (post : Post) → Follows out before post → Follows (out ++ more) before post
follows_longer out more before (passes c) h = tt
follows_longer out more before drains h = (h.0 ++ more, sym (append_assoc before h.0 more) ∙ ap (λ x. x ++ more) h.1)
follows_longer out more before hangs_up h = tt

written_longer : (out more before : List ℕ) (calls : List Call) → AreWritten out before calls → AreWritten (out ++ more) before calls
written_longer out more before [] h = tt
written_longer out more before (call ∷ calls) h = (follows_longer out more before call.0 h.0, written_longer out more (before ++ handed_by call) calls h.1)

-- More was written first.
follows_later : (first out before : List ℕ) (post : Post) → Follows out before post → Follows (first ++ out) (first ++ before) post
follows_later first out before (passes c) h = tt
follows_later first out before drains h = (h.0, append_assoc first before h.0 ∙ ap (λ x. first ++ x) h.1)
follows_later first out before hangs_up h = tt

written_later : (first out before : List ℕ) (calls : List Call) → AreWritten out before calls → AreWritten (first ++ out) (first ++ before) calls
written_later first out before [] h = tt
written_later first out before (call ∷ calls) h =
    (follows_later first out before call.0 h.0, subst (λ x. AreWritten (first ++ out) x calls) (sym (append_assoc first before (handed_by call))) (written_later first out (before ++ handed_by call) calls h.1))

written_both : (out before : List ℕ) (a b : List Call) → AreWritten out before a → AreWritten out (before ++ flat_map handed_by a) b → AreWritten out before (a ++ b)
written_both out before [] b h k = subst (λ x. AreWritten out x b) (append-nil before) k
written_both out before (call ∷ a) b h k =
    (h.0, written_both out (before ++ handed_by call) a b h.1 (subst (λ x. AreWritten out x b) (sym (append_assoc before (handed_by call) (flat_map handed_by a))) k))

pub ran_more : (v v' v'' : Hearing) (r r' r'' w w' w'' : Bytes) (p p' p'' : Notices) (stream : List ℕ) (given : List Item)
    → (a : RanFrom stream given v v' r r' w w' p p') → RanFrom (stream ++ a.bytes) (given ++ a.items) v' v'' r' r'' w' w'' p' p''
    → RanFrom stream given v v'' r r'' w w'' p p''
ran_more v v' v'' r r' r'' w w' w'' p p' p'' stream given a b = record {
  bytes = a.bytes ++ b.bytes;
  items = a.items ++ b.items;
  calls = a.calls ++ b.calls;
  out = a.out ++ b.out;
  sub = b.sub ∙ a.sub;
  buffer = b.buffer ∙ a.buffer;
  shows = subst (λ x. ShowsHearing v'' x (given ++ (a.items ++ b.items))) (append_assoc stream a.bytes b.bytes)
      (subst (ShowsHearing v'' ((stream ++ a.bytes) ++ b.bytes)) (append_assoc given a.items b.items) b.shows);
  read = consumes_more r r' r'' a.bytes b.bytes a.read b.read;
  posted = subst (Notes p p'') (sym (map-append (posted_by v) a.calls b.calls))
      (notes_more p p' p'' _ _ a.posted (subst (Notes p' p'') same b.posted));
  passed = flat_map-append passed_by a.calls b.calls ∙ ap₂ (λ x y. x ++ y) a.passed b.passed ∙ sym (flat_map-append command_in a.items b.items);
  wrote = appends_more w w' w'' a.out b.out a.wrote b.wrote;
  goes_on = append_assoc a.out b.out v''.left
      ∙ ap (λ x. a.out ++ x) b.goes_on
      ∙ sym (append_assoc a.out v'.left (flat_map handed_by b.calls))
      ∙ ap (λ x. x ++ flat_map handed_by b.calls) a.goes_on
      ∙ append_assoc v.left (flat_map handed_by a.calls) (flat_map handed_by b.calls)
      ∙ ap (λ x. v.left ++ x) (sym (flat_map-append handed_by a.calls b.calls));
  written = written_both (a.out ++ b.out) v.left a.calls b.calls (written_longer a.out b.out v.left a.calls a.written)
      (subst (λ x. AreWritten (a.out ++ b.out) x b.calls) a.goes_on (written_later a.out b.out v'.left b.calls b.written));
}
  where
    same : map (posted_by v') b.calls ≡ map (posted_by v) b.calls
    same = ap₂ (λ s n. map (λ (call : Call). posted_by (record v { sub = s; buffer = n }) call) b.calls) a.sub a.buffer

pub runs_join : (v v' v'' : Hearing) (r r' r'' w w' w'' : Bytes) (p p' p'' : Notices) → Ran v v' r r' w w' p p' → Ran v' v'' r' r'' w' w'' p' p'' → Ran v v'' r r'' w w'' p p''
runs_join v v' v'' r r' r'' w w' w'' p p' p'' first second stream given shows =
    let a = first stream given shows in
    ran_more v v' v'' r r' r'' w w' w'' p p' p'' stream given a (second (stream ++ a.bytes) (given ++ a.items) a.shows)

-- Turns are put together.
stays_both : (a b : List Call) → HasNoHangup a → HasNoHangup b → HasNoHangup (a ++ b)
stays_both [] b h k = k
stays_both (call ∷ a) b h k = (h.0, stays_both a b h.1 k)

last_later : (post : Post) (a b : List Call) → HasNoHangup a → IsLast post b → IsLast post (a ++ b)
last_later post a b h k = (a ++ k.0, k.1, ap (λ x. a ++ x) k.2 ∙ sym (append_assoc a k.0 ((post, k.1) ∷ [])), stays_both a k.0 h k.3)

drains_later : (end : Option End) (a b : List Call) → HasNoHangup a → DrainsLast end b → DrainsLast end (a ++ b)
drains_later None a b h k = tt
drains_later (Some Quiet) a b h k = last_later drains a b h k
drains_later (Some Closed) a b h k = tt
drains_later (Some Stalled) a b h k = tt
drains_later (Some (Fault n)) a b h k = tt

-- ---- in their order

in_order_both : (due : Bool) (stream : List ℕ) (passed : List Command) (xs ys : List Doing) → InOrder due stream passed xs
    → InOrder (due_after due xs) (stream ++ flat_map read_by xs) (passed ++ flat_map passed_by (flat_map call_by xs)) ys → InOrder due stream passed (xs ++ ys)
in_order_both due stream passed [] ys h k =
    subst (λ x. InOrder due x passed ys) (append-nil stream) (subst (λ y. InOrder due (stream ++ []) y ys) (append-nil passed) k)
in_order_both due stream passed (x ∷ xs) ys h k =
    let calls : flat_map passed_by (call_by x ++ flat_map call_by xs) ≡ flat_map passed_by (call_by x) ++ flat_map passed_by (flat_map call_by xs) =
    flat_map-append passed_by (call_by x) (flat_map call_by xs) in
    let before : InOrder (due_after (due_by due x) xs) ((stream ++ read_by x) ++ flat_map read_by xs)
    ((passed ++ flat_map passed_by (call_by x)) ++ flat_map passed_by (flat_map call_by xs)) ys =
    subst (λ s. InOrder (due_after (due_by due x) xs) s ((passed ++ flat_map passed_by (call_by x)) ++ flat_map passed_by (flat_map call_by xs)) ys)
    (sym (append_assoc stream (read_by x) (flat_map read_by xs)))
    (subst (λ c. InOrder (due_after (due_by due x) xs) (stream ++ (read_by x ++ flat_map read_by xs)) c ys)
    (ap (λ c. passed ++ c) calls ∙ sym (append_assoc passed (flat_map passed_by (call_by x)) (flat_map passed_by (flat_map call_by xs)))) k) in
    (h.0, in_order_both (due_by due x) (stream ++ read_by x) (passed ++ flat_map passed_by (call_by x)) xs ys h.1 before)

due_both : (due : Bool) (xs ys : List Doing) → due_after due (xs ++ ys) ≡ due_after (due_after due xs) ys
due_both due [] ys = refl
due_both due (x ∷ xs) ys = due_both (due_by due x) xs ys

wait_both : (xs ys : List Doing) → has_wait (xs ++ ys) ≡ (has_wait xs || has_wait ys)
wait_both [] ys = refl
wait_both (reads bytes ∷ xs) ys = wait_both xs ys
wait_both (waits ∷ xs) ys = refl
wait_both (posts call ∷ xs) ys = wait_both xs ys

-- what was passed on behind all that was passed on before
passed_both : (given items : List Item) (calls : List Call) (doings : List Doing) → flat_map passed_by calls ≡ flat_map command_in items → flat_map call_by doings ≡ calls
    → flat_map command_in (given ++ items) ≡ flat_map command_in given ++ flat_map passed_by (flat_map call_by doings)
passed_both given items calls doings passed posted =
    flat_map-append command_in given items
    ∙ ap (λ c. flat_map command_in given ++ c) (sym passed ∙ ap (flat_map passed_by) (sym posted))

pub turned_more : (end : Option End) (due due' due'' waited waited' : Bool) (v v' v'' : Hearing) (r r' r'' w w' w'' : Bytes) (p p' p'' : Notices)
    → Turned None due due' waited v v' r r' w w' p p' → Turned end due' due'' waited' v' v'' r' r'' w' w'' p' p''
    → Turned end due due'' (waited || waited') v v'' r r'' w w'' p p''
unfolding ran_more
turned_more end due due' due'' waited waited' v v' v'' r r' r'' w w' w'' p p' p'' first second stream given shows =
    let a = first stream given shows in
    let b = second (stream ++ a.ran.bytes) (given ++ a.ran.items) a.ran.shows in
    record {
      ran = ran_more v v' v'' r r' r'' w w' w'' p p' p'' stream given a.ran b.ran;
      stays = stays_both a.ran.calls b.ran.calls a.stays b.stays;
      last = drains_later end a.ran.calls b.ran.calls a.stays b.last;
      doings = a.doings ++ b.doings;
      read = flat_map-append read_by a.doings b.doings ∙ ap₂ (λ x y. x ++ y) a.read b.read;
      posted = flat_map-append call_by a.doings b.doings ∙ ap₂ (λ x y. x ++ y) a.posted b.posted;
      order = in_order_both due stream (flat_map command_in given) a.doings b.doings a.order
          (subst (λ d. InOrder d (stream ++ flat_map read_by a.doings) (flat_map command_in given ++ flat_map passed_by (flat_map call_by a.doings)) b.doings) (sym a.due_then)
          (subst (λ x. InOrder due' (stream ++ x) (flat_map command_in given ++ flat_map passed_by (flat_map call_by a.doings)) b.doings) (sym a.read)
          (subst (λ c. InOrder due' (stream ++ a.ran.bytes) c b.doings) (passed_both given a.ran.items a.ran.calls a.doings a.ran.passed a.posted) b.order)));
      due_then = due_both due a.doings b.doings ∙ ap (λ d. due_after d b.doings) a.due_then ∙ b.due_then;
      waits_so = wait_both a.doings b.doings ∙ ap₂ (λ x y. x || y) a.waits_so b.waits_so;
    }

pub drained_later : (out left : List ℕ) (first more : List Call) (a : Answer) → AreWritten out left (first ++ (drains, a) ∷ more) → IsPrefix (left ++ flat_map handed_by first) out
drained_later out left [] more a h = subst (λ x. IsPrefix x out) (sym (append-nil left)) h.0
drained_later out left (call ∷ first) more a h =
    subst (λ x. IsPrefix x out) (append_assoc left (handed_by call) (flat_map handed_by first)) (drained_later out (left ++ handed_by call) first more a h.1)

-- the ends that need no drain, and any end behind one
pub turned_any : (end : Option End) (due due' waited : Bool) (v v' : Hearing) (r r' w w' : Bytes) (p p' : Notices) → Turned (Some Quiet) due due' waited v v' r r' w w' p p'
    → Turned end due due' waited v v' r r' w w' p p'
turned_any end due due' waited v v' r r' w w' p p' turned stream given shows =
    let a = turned stream given shows in
    record {
      ran = a.ran;
      stays = a.stays;
      last = by end a.ran.calls a.last;
      doings = a.doings;
      read = a.read;
      posted = a.posted;
      order = a.order;
      due_then = a.due_then;
      waits_so = a.waits_so;
    }
  where
    by : (e : Option End) (calls : List Call) → IsLast drains calls → DrainsLast e calls
    by None calls h = tt
    by (Some Quiet) calls h = h
    by (Some Closed) calls h = tt
    by (Some Stalled) calls h = tt
    by (Some (Fault n)) calls h = tt

-- which ends hang up
abbrev pub DoesHangUp : End → Type 0
DoesHangUp Closed = Unit {0}
DoesHangUp Quiet = ⊥
DoesHangUp Stalled = ⊥
DoesHangUp (Fault n) = Unit {0}

abbrev pub DoesNotHangUp : End → Type 0
DoesNotHangUp Closed = ⊥
DoesNotHangUp Quiet = Unit {0}
DoesNotHangUp Stalled = Unit {0}
DoesNotHangUp (Fault n) = ⊥

pub does_hang_up : (end : End) → (end ≡ Closed) ⊎ ((n : ℕ) × (end ≡ Fault n)) → DoesHangUp end
does_hang_up end (inl h) = subst DoesHangUp (sym h) tt
does_hang_up end (inr h) = subst DoesHangUp (sym h.1) tt

pub does_not_hang_up : (end : End) → (end ≡ Quiet) ⊎ (end ≡ Stalled) → DoesNotHangUp end
does_not_hang_up end (inl h) = subst DoesNotHangUp (sym h) tt
does_not_hang_up end (inr h) = subst DoesNotHangUp (sym h) tt

abbrev pub NotQuiet : End → Type 0
NotQuiet Closed = Unit {0}
NotQuiet Quiet = ⊥
NotQuiet Stalled = Unit {0}
NotQuiet (Fault n) = Unit {0}

pub cut_not_quiet : (end : End) → is_cut end ≡ true → NotQuiet end
cut_not_quiet Closed h = tt
cut_not_quiet Quiet h = absurd (let x : false ≡ true = h in cc)
cut_not_quiet Stalled h = tt
cut_not_quiet (Fault n) h = tt

pub turned_end : (end : End) (due due' waited : Bool) (v v' : Hearing) (r r' w w' : Bytes) (p p' : Notices) → NotQuiet end → Turned None due due' waited v v' r r' w w' p p'
    → Turned (Some end) due due' waited v v' r r' w w' p p'
turned_end end due due' waited v v' r r' w w' p p' loud turned stream given shows =
    let a = turned stream given shows in
    record {
      ran = a.ran;
      stays = a.stays;
      last = by end loud a.ran.calls;
      doings = a.doings;
      read = a.read;
      posted = a.posted;
      order = a.order;
      due_then = a.due_then;
      waits_so = a.waits_so;
    }
  where
    by : (e : End) → NotQuiet e → (calls : List Call) → DrainsLast (Some e) calls
    by Closed h calls = tt
    by Quiet h calls = absurd h
    by Stalled h calls = tt
    by (Fault n) h calls = tt

-- what is left to write is no part of what a session shows
left_unshown : (v v' : Hearing) (stream : List ℕ) (given : List Item) → v' ≡ record v { left = v'.left } → ShowsHearing v stream given → ShowsHearing v' stream given
left_unshown v v' stream given same shows =
    subst (λ x. ShowsHearing x stream given) (sym same) (record { frames = shows.frames; bytes = shows.bytes; items = shows.items; stats = shows.stats })

left_hidden : (v v' : Hearing) (stream : List ℕ) (given : List Item) → v' ≡ record v { left = v'.left } → ShowsHearing v' stream given → ShowsHearing v stream given
left_hidden v v' stream given same shows =
    (let s : ShowsHearing (record v { left = v'.left }) stream given = subst (λ x. ShowsHearing x stream given) same shows in
    record { frames = s.frames; bytes = s.bytes; items = s.items; stats = s.stats })

-- nothing but a write of what was left
wrote_from : (v v' : Hearing) (r w w' : Bytes) (p : Notices) (stream : List ℕ) (given : List Item) → ShowsHearing v stream given → Writes v.left v'.left w w'
    → v' ≡ record v { left = v'.left } → RanFrom stream given v v' r r w w' p p
wrote_from v v' r w w' p stream given shows writes same = record {
  bytes = [];
  items = [];
  calls = [];
  out = writes.0;
  sub = ap (λ (x : Hearing). x.sub) same;
  buffer = ap (λ (x : Hearing). x.buffer) same;
  shows = subst (λ x. ShowsHearing v' x (given ++ [])) (sym (append-nil stream)) (subst (ShowsHearing v' stream) (sym (append-nil given)) (left_unshown v v' stream given same shows));
  read = consumes_nil r;
  posted = notes_nil p;
  passed = refl;
  wrote = writes.1;
  goes_on = writes.2 ∙ sym (append-nil v.left);
  written = tt;
}

pub turned_wrote : (due : Bool) (v v' : Hearing) (r w w' : Bytes) (p : Notices) → Writes v.left v'.left w w' → v' ≡ record v { left = v'.left }
    → Turned None due due false v v' r r w w' p p
unfolding wrote_from
turned_wrote due v v' r w w' p writes same stream given shows = record {
  ran = wrote_from v v' r w w' p stream given shows writes same;
  stays = tt;
  last = tt;
  doings = [];
  read = refl;
  posted = refl;
  order = tt;
  due_then = refl;
  waits_so = refl;
}

pub turned_pushed : (end : Option End) (due due' waited : Bool) (v v' v'' : Hearing) (r r' w w' w'' : Bytes) (p p' : Notices) → Turned end due due' waited v v' r r' w w' p p'
    → Writes v'.left v''.left w' w'' → v'' ≡ record v' { left = v''.left } → Turned end due due' waited v v'' r r' w w'' p p'
unfolding ran_more wrote_from
turned_pushed end due due' waited v v' v'' r r' w w' w'' p p' turned writes same stream given shows =
    let a = turned stream given shows in
    record {
      ran = ran_more v v' v'' r r' r' w w' w'' p p' p' stream given a.ran
          (wrote_from v' v'' r' w' w'' p' (stream ++ a.ran.bytes) (given ++ a.ran.items) a.ran.shows writes same);
      stays = stays_both a.ran.calls [] a.stays tt;
      last = subst (DrainsLast end) (sym (append-nil a.ran.calls)) a.last;
      doings = a.doings;
      read = a.read ∙ sym (append-nil a.ran.bytes);
      posted = a.posted ∙ sym (append-nil a.ran.calls);
      order = a.order;
      due_then = a.due_then;
      waits_so = a.waits_so;
    }

pub turned_nothing : (due : Bool) (v : Hearing) (r w : Bytes) (p : Notices) → Turned None due due false v v r r w w p p
turned_nothing due v r w p = turned_wrote due v v r w w p ([], appends_nil w, refl) refl

-- A step of which the session and the bytes that it read are told: these calls are posted, and what they hand out is left.
step : (v v' : Hearing) (r r' w : Bytes) (p p' : Notices) (stream : List ℕ) (given : List Item) (bytes : List ℕ) (items : List Item) (calls : List Call)
    → v'.sub ≡ v.sub → v'.buffer ≡ v.buffer → ShowsHearing v' (stream ++ bytes) (given ++ items) → Consumes r r' bytes → Notes p p' (map (posted_by v) calls)
    → flat_map passed_by calls ≡ flat_map command_in items → v'.left ≡ v.left ++ flat_map handed_by calls → AreWritten [] v.left calls
    → RanFrom stream given v v' r r' w w p p'
step v v' r r' w p p' stream given bytes items calls sub buffer shows read posted passed left written = record {
  bytes = bytes;
  items = items;
  calls = calls;
  out = [];
  sub = sub;
  buffer = buffer;
  shows = shows;
  read = read;
  posted = posted;
  passed = passed;
  wrote = appends_nil w;
  goes_on = left;
  written = written;
}

-- a read that failed
pub turned_unread : (due : Bool) (v : Hearing) (r r' w : Bytes) (p : Notices) → Consumes r r' [] → Turned None due due false v v r r' w w p p
unfolding step
turned_unread due v r r' w p read stream given shows = record {
  ran = step v v r r' w p p stream given [] [] [] refl refl
      (subst (λ x. ShowsHearing v x (given ++ [])) (sym (append-nil stream)) (subst (ShowsHearing v stream) (sym (append-nil given)) shows))
      read (notes_nil p) refl (sym (append-nil v.left)) tt;
  stays = tt;
  last = tt;
  doings = [];
  read = refl;
  posted = refl;
  order = tt;
  due_then = refl;
  waits_so = refl;
}

-- a piece was read
pub turned_read : (due : Bool) (v v' : Hearing) (r r' w : Bytes) (p : Notices) (piece : List ℕ) → Consumes r r' piece → v' ≡ heard v piece
    → ((stream : List ℕ) (given : List Item) → ShowsHearing v stream given → ShowsHearing v' (stream ++ piece) given)
    → Turned None due (due_read due piece) false v v' r r' w w p p
unfolding step
turned_read due v v' r r' w p piece read same fed stream given shows = record {
  ran = step v v' r r' w p p stream given piece [] [] (ap (λ (x : Hearing). x.sub) same) (ap (λ (x : Hearing). x.buffer) same)
      (subst (ShowsHearing v' (stream ++ piece)) (sym (append-nil given)) (fed stream given shows))
      read (notes_nil p) refl (ap (λ (x : Hearing). x.left) same ∙ sym (append-nil v.left)) tt;
  stays = tt;
  last = tt;
  doings = reads piece ∷ [];
  read = append-nil piece;
  posted = refl;
  order = (tt, tt);
  due_then = refl;
  waits_so = refl;
}

-- a command was given, and passed on
pub turned_passed : (due : Bool) (v v' : Hearing) (r w : Bytes) (p p' : Notices) (c : Command) (a : Answer)
    → ((stream : List ℕ) (given : List Item) → ShowsHearing v stream given → ShowsHearing v' stream (given ++ commands c ∷ []))
    → Notes p p' (posted_by v' (passes c, a) ∷ []) → v'.sub ≡ v.sub → v'.buffer ≡ v.buffer → v'.left ≡ v.left → Turned None due due false v v' r r w w p p'
unfolding step
turned_passed due v v' r w p p' c a gives posted sub buffer left stream given shows = record {
  ran = step v v' r r w p p' stream given [] (commands c ∷ []) ((passes c, a) ∷ []) sub buffer
      (subst (λ x. ShowsHearing v' x (given ++ commands c ∷ [])) (sym (append-nil stream)) (gives stream given shows))
      (consumes_nil r) (subst (λ s. Notes p p' (posted_by (record v { sub = s }) (passes c, a) ∷ [])) sub posted)
      refl (left ∙ sym (append-nil v.left)) (tt, tt);
  stays = (tt, tt);
  last = tt;
  doings = posts (passes c, a) ∷ [];
  read = refl;
  posted = refl;
  order = (tt, tt);
  due_then = refl;
  waits_so = refl;
}

-- a frame was ignored
pub turned_ignored : (due : Bool) (v v' : Hearing) (r w : Bytes) (p : Notices) (refusal : Refusal)
    → ((stream : List ℕ) (given : List Item) → ShowsHearing v stream given → ShowsHearing v' stream (given ++ ignores refusal ∷ []))
    → v'.sub ≡ v.sub → v'.buffer ≡ v.buffer → v'.left ≡ v.left → Turned None due due false v v' r r w w p p
unfolding step
turned_ignored due v v' r w p refusal gives sub buffer left stream given shows = record {
  ran = step v v' r r w p p stream given [] (ignores refusal ∷ []) [] sub buffer
      (subst (λ x. ShowsHearing v' x (given ++ ignores refusal ∷ [])) (sym (append-nil stream)) (gives stream given shows))
      (consumes_nil r) (notes_nil p) refl (left ∙ sym (append-nil v.left)) tt;
  stays = tt;
  last = tt;
  doings = [];
  read = refl;
  posted = refl;
  order = tt;
  due_then = refl;
  waits_so = refl;
}

-- the bytes broke
pub turned_broken : (due : Bool) (v v' : Hearing) (r w : Bytes) (p : Notices) → ((stream : List ℕ) (given : List Item) → ShowsHearing v stream given → ShowsHearing v' stream given)
    → v'.sub ≡ v.sub → v'.buffer ≡ v.buffer → v'.left ≡ v.left → Turned None due due false v v' r r w w p p
unfolding step
turned_broken due v v' r w p gives sub buffer left stream given shows = record {
  ran = step v v' r r w p p stream given [] [] [] sub buffer
      (subst (λ x. ShowsHearing v' x (given ++ [])) (sym (append-nil stream)) (subst (ShowsHearing v' stream) (sym (append-nil given)) (gives stream given shows)))
      (consumes_nil r) (notes_nil p) refl (left ∙ sym (append-nil v.left)) tt;
  stays = tt;
  last = tt;
  doings = [];
  read = refl;
  posted = refl;
  order = tt;
  due_then = refl;
  waits_so = refl;
}

-- a drain was posted, where all was written and all commands were passed on
drain_doings : Bool → Answer → List Doing
drain_doings false a = posts (drains, a) ∷ []
drain_doings true a = waits ∷ posts (drains, a) ∷ []

drain_read : (waited : Bool) (a : Answer) → flat_map read_by (drain_doings waited a) ≡ []
unfolding drain_doings
drain_read false a = refl
drain_read true a = refl

drain_posted : (waited : Bool) (a : Answer) → flat_map call_by (drain_doings waited a) ≡ (drains, a) ∷ []
unfolding drain_doings
drain_posted false a = refl
drain_posted true a = refl

drain_order : (due waited : Bool) (a : Answer) (stream : List ℕ) (given : List Item) → (due || waited) ≡ true → given ≡ items_of stream → break_in stream ≡ None
    → InOrder due stream (flat_map command_in given) (drain_doings waited a)
unfolding drain_doings
drain_order due true a stream given is all whole = (
  tt,
  (
    (
      refl,
      append-nil (flat_map command_in given) ∙ ap (flat_map command_in) all ∙ ap (λ x. flat_map command_in (items_of x)) (sym (append-nil stream)),
      ap break_in (append-nil stream) ∙ whole,
    ),
    tt,
  ),
)
drain_order true false a stream given is all whole = ((refl, ap (flat_map command_in) all, whole), tt)
drain_order false false a stream given is all whole = absurd (cc)

drain_due : (due waited : Bool) (a : Answer) → due_after due (drain_doings waited a) ≡ false
unfolding drain_doings
drain_due due false a = refl
drain_due due true a = refl

drain_waits : (waited : Bool) (a : Answer) → has_wait (drain_doings waited a) ≡ waited
unfolding drain_doings
drain_waits false a = refl
drain_waits true a = refl

pub turned_drained : (due waited : Bool) (v v' : Hearing) (r w : Bytes) (p p' : Notices) (a : Answer) → (due || waited) ≡ true → HasGivenAll v → BreaksBy None v → v.left ≡ []
    → v'.left ≡ bytes_answered a → Notes p p' (posted_by v (drains, a) ∷ []) → v' ≡ record v { left = v'.left } → Turned (Some Quiet) due false waited v v' r r w w p p'
unfolding step
turned_drained due waited v v' r w p p' a is all whole empty left posted same stream given shows = record {
  ran = step v v' r r w p p' stream given [] [] ((drains, a) ∷ []) (ap (λ (x : Hearing). x.sub) same) (ap (λ (x : Hearing). x.buffer) same)
      (subst (λ x. ShowsHearing v' x (given ++ [])) (sym (append-nil stream)) (subst (ShowsHearing v' stream) (sym (append-nil given)) (left_unshown v v' stream given same shows)))
      (consumes_nil r) posted refl (left ∙ sym (append-nil (bytes_answered a)) ∙ ap (λ x. x ++ (bytes_answered a ++ [])) (sym empty))
      (([], append-nil v.left ∙ empty), tt);
  stays = (tt, tt);
  last = ([], a, refl, tt);
  doings = drain_doings waited a;
  read = drain_read waited a;
  posted = drain_posted waited a;
  order = drain_order due waited a stream given is (all stream given shows) (whole stream given shows);
  due_then = drain_due due waited a;
  waits_so = drain_waits waited a;
}

-- when a drain is due
-- A read ends a call only where the reader has ended or would block.
abbrev pub IsReadEnd : Option End → Type 0
IsReadEnd None = Unit {0}
IsReadEnd (Some Closed) = Unit {0}
IsReadEnd (Some Quiet) = Unit {0}
IsReadEnd (Some Stalled) = ⊥
IsReadEnd (Some (Fault n)) = ⊥

pub read_end : (end : Option End) (piece : List ℕ) (r : Bytes) → EndsRead end piece r → has_failed end ≡ false → IsReadEnd end
read_end None piece r is works = tt
read_end (Some Closed) piece r is works = tt
read_end (Some Quiet) piece r is works = tt
read_end (Some Stalled) piece r is works = absurd is
read_end (Some (Fault n)) piece r is works = absurd (let x : true ≡ false = works in cc)

pub closed_at_end : (end : Option End) (piece : List ℕ) (r : Bytes) → EndsRead end piece r → end ≡ Some Closed → IsAtEnd r
closed_at_end end piece r is closed = (subst (λ (e : Option End). EndsRead e piece r) closed is).1

-- a read that failed gave nothing
pub failed_gives_nothing : (end : Option End) (piece : List ℕ) (r : Bytes) → EndsRead end piece r → has_failed end ≡ true → piece ≡ []
failed_gives_nothing None piece r is failed = absurd (let x : false ≡ true = failed in cc)
failed_gives_nothing (Some Closed) piece r is failed = absurd (let x : false ≡ true = failed in cc)
failed_gives_nothing (Some Quiet) piece r is failed = absurd (let x : false ≡ true = failed in cc)
failed_gives_nothing (Some Stalled) piece r is failed = absurd is
failed_gives_nothing (Some (Fault n)) piece r is failed = is.1

-- and then nothing has changed
pub heard_nothing : (v v' : Hearing) (piece : List ℕ) → v' ≡ heard v piece → piece ≡ [] → v' ≡ v
heard_nothing v v' piece is none = is ∙ ap (heard v) none ∙ ap (λ (d : wire.Deframing). let x : Hearing = record v { bytes = d } in x) (fed_none v.bytes)

pub turned_failed : (due : Bool) (v v' : Hearing) (r r' w : Bytes) (p : Notices) (piece : List ℕ) → piece ≡ [] → Consumes r r' piece → v' ≡ heard v piece
    → Turned None due due false v v' r r' w w p p
turned_failed due v v' r r' w p piece none read is =
    subst (λ (x : Hearing). Turned None due due false v x r r' w w p p) (sym (heard_nothing v v' piece is none)) (turned_unread due v r r' w p (subst (Consumes r r') none read))

-- a write that was cut short
pub stuck_is_cut : (end : Option End) (left : List ℕ) → IfSome end (λ e. IsStuck e left) → IfSome end (λ e. is_cut e ≡ true)
stuck_is_cut None left is = tt
stuck_is_cut (Some Closed) left is = absurd is
stuck_is_cut (Some Quiet) left is = absurd is
stuck_is_cut (Some Stalled) left is = refl
stuck_is_cut (Some (Fault n)) left is = ap (λ m. m == 40) is.0

pub stuck_ends : (end : Option End) (v : Hearing) → IfSome end (λ e. IsStuck e v.left) → IfSome end (λ e. EndsBy e v)
stuck_ends None v is = tt
stuck_ends (Some Closed) v is = absurd is
stuck_ends (Some Quiet) v is = absurd is
stuck_ends (Some Stalled) v is = is
stuck_ends (Some (Fault n)) v is = inr (inl is)

pub drain_is_due : (end : Option End) (piece : List ℕ) (r : Bytes) → EndsRead end piece r → IsReadEnd end → is_closed end ≡ false → (due_read false piece || is_quiet end) ≡ true
drain_is_due None [] r is kind going = absurd (is refl)
drain_is_due None (byte ∷ piece) r is kind going = refl
drain_is_due (Some Closed) piece r is kind going = absurd (let x : true ≡ false = going in cc)
drain_is_due (Some Quiet) piece r is kind going = or-true (due_read false piece)
drain_is_due (Some Stalled) piece r is kind going = absurd kind
drain_is_due (Some (Fault n)) piece r is kind going = absurd kind

-- how turns end
pub unwaited : (end : End) → WaitsAt end false
unwaited Closed = refl
unwaited Quiet = tt
unwaited Stalled = tt
unwaited (Fault n) = inr refl

pub cut_waits : (end : End) (waited : Bool) → is_cut end ≡ true → WaitsAt end waited
cut_waits Closed waited cut = absurd (let x : false ≡ true = cut in cc)
cut_waits Quiet waited cut = tt
cut_waits Stalled waited cut = tt
cut_waits (Fault n) waited cut = inl (eqb-true n 40 cut)

pub ends_so : (end : Option End) → EndsSo end false (is_quiet end)
ends_so None = (refl, refl)
ends_so (Some Closed) = refl
ends_so (Some Quiet) = tt
ends_so (Some Stalled) = tt
ends_so (Some (Fault n)) = inr refl

-- whole turns that go on
pub turned_whole : (v v' : Hearing) (r r' w w' : Bytes) (p p' : Notices) → TurnedTo None v v' r r' w w' p p' → Turned None false false false v v' r r' w w' p p'
turned_whole v v' r r' w w' p p' turned =
    subst (λ d. Turned None false d false v v' r r' w w' p p') turned.2.0
    (subst (λ b. Turned None false turned.0 b v v' r r' w w' p p') turned.2.1 turned.3)

pub turned_to : (end : End) (v v' v'' : Hearing) (r r' r'' w w' w'' : Bytes) (p p' p'' : Notices) → Turned None false false false v v' r r' w w' p p'
    → TurnedTo (Some end) v' v'' r' r'' w' w'' p' p'' → TurnedTo (Some end) v v'' r r'' w w'' p p''
turned_to end v v' v'' r r' r'' w w' w'' p p' p'' first turned =
    (turned.0, turned.1, turned.2, turned_more (Some end) false false turned.0 false turned.1 v v' v'' r r' r'' w w' w'' p p' p'' first turned.3)

-- what a drain's reply hands out
pub bytes_drained : (bytes : List ℕ) (out : Result Drained Refusal) → take (handed_len out) bytes ≡ bytes_answered (tells (drain_told bytes out))
bytes_drained bytes (Ok out) = refl
bytes_drained bytes (Err refusal) = refl

-- what became of all that the session was fed
pub given_same : (v v' : Hearing) → v' ≡ record v { left = v'.left } → HasGivenAll v → HasGivenAll v'
given_same v v' same all stream given shows = all stream given (left_hidden v v' stream given same shows)

pub breaks_same : (broken : Option Refusal) (v v' : Hearing) → v' ≡ record v { left = v'.left } → BreaksBy broken v → BreaksBy broken v'
breaks_same broken v v' same breaks stream given shows = breaks stream given (left_hidden v v' stream given same shows)

pub broken_out : (v : Hearing) (refusal : Refusal) → v.bytes ≡ stopped refusal → HasGivenAll v × BreaksBy (Some refusal) v
broken_out v refusal is = ((λ stream given shows. (of stream given shows).0), (λ stream given shows. (of stream given shows).1))
  where
    no_frame : (rest : List ℕ) → break_of rest ≡ Some refusal → (frame more : List ℕ) → IsWhole frame → rest ≢ frame ++ more
    no_frame rest broken frame more whole e = absurd (let none : break_of rest ≡ None = ap break_of e ∙ (whole_at_front frame more whole).0 in cc)

    of : (stream : List ℕ) (given : List Item) → ShowsHearing v stream given → (given ≡ items_of stream) × (break_in stream ≡ Some refusal)
    of stream given shows = go shows.bytes
      where
        go : wire.ShowsStream v.bytes stream shows.frames → (given ≡ items_of stream) × (break_in stream ≡ Some refusal)
        go bytes =
            let state : (v.bytes.held ≡ []) × (break_of bytes.rest ≡ Some refusal) = subst (λ b. MatchOption b (bytes.rest ≡ v.bytes.held) (λ x. (v.bytes.held ≡ []) × (break_of bytes.rest ≡ Some x))) (ap (λ (d : wire.Deframing). d.broken) is) bytes.state in
            let none : (frame more : List ℕ) → IsWhole frame → bytes.rest ≢ frame ++ more = no_frame bytes.rest state.1 in
            let only = frames_in-only stream shows.frames bytes.rest (record { whole = bytes.whole; each = bytes.each; end = none }) in
            (shows.items ∙ ap (map item_of) only.0, ap break_of (sym only.1) ∙ state.1)

-- how a call ends where all was written
pub ends_read : (end : Option End) (v : Hearing) → IsReadEnd end → BreaksBy None v → v.left ≡ [] → IfSome end (λ e. EndsBy e v)
ends_read None v kind breaks left = tt
ends_read (Some Closed) v kind breaks left = (breaks, left)
ends_read (Some Quiet) v kind breaks left = (breaks, left)
ends_read (Some Stalled) v kind breaks left = absurd kind
ends_read (Some (Fault n)) v kind breaks left = absurd kind

or-false-right : (b : Bool) → (b || false) ≡ b
or-false-right true = refl
or-false-right false = refl

-- a call of the loop, with what it posts last
pub served_as : (end : End) (v v' : Hearing) (r r' w w' : Bytes) (p p' : Notices) → TurnedTo (Some end) v v' r r' w w' p p' → HasGivenAll v' → DoesNotHangUp end
    → Served end v v' r r' w w' p p'
served_as end v v' r r' w w' p p' turned all stays stream given shows =
    let a = turned.3 stream given shows in
    record {
      ran = a.ran;
      all = all (stream ++ a.ran.bytes) (given ++ a.ran.items) a.ran.shows;
      last = by end stays a.ran.calls a.stays a.last;
      drained = record {
        doings = a.doings;
        read = a.read;
        posted = a.posted;
        order = a.order;
        waited = subst (WaitsAt end) (sym a.waits_so) turned.2;
      };
    }
  where
    by : (e : End) → DoesNotHangUp e → (calls : List Call) → HasNoHangup calls → DrainsLast (Some e) calls → EndsWith e calls
    by Closed h calls stays last = absurd h
    by Quiet h calls stays last = last
    by Stalled h calls stays last = stays
    by (Fault n) h calls stays last = absurd h

pub served_hung_up : (end : End) (v v' : Hearing) (r r' w w' : Bytes) (p p' p'' : Notices) (a : Answer) → TurnedTo (Some end) v v' r r' w w' p p' → HasGivenAll v' → DoesHangUp end
    → Notes p' p'' (posted_by v' (hangs_up, a) ∷ []) → Served end v v' r r' w w' p p''
unfolding ran_more step
served_hung_up end v v' r r' w w' p p' p'' a turned all hangs posted stream given shows =
    let t = turned.3 stream given shows in
    let hung : RanFrom (stream ++ t.ran.bytes) (given ++ t.ran.items) v' v' r' r' w' w' p' p'' =
    step v' v' r' r' w' p' p'' (stream ++ t.ran.bytes) (given ++ t.ran.items) [] [] ((hangs_up, a) ∷ []) refl refl
    (subst (λ x. ShowsHearing v' x ((given ++ t.ran.items) ++ [])) (sym (append-nil (stream ++ t.ran.bytes))) (subst (ShowsHearing v' (stream ++ t.ran.bytes)) (sym (append-nil (given ++ t.ran.items))) t.ran.shows))
    (consumes_nil r') posted refl (sym (append-nil v'.left)) (tt, tt) in
    let ran = ran_more v v' v' r r' r' w w' w' p p' p'' stream given t.ran hung in
    record {
      ran = ran;
      all = all (stream ++ ran.bytes) (given ++ ran.items) ran.shows;
      last = by end hangs (t.ran.calls, a, refl, t.stays);
      drained = record {
        doings = t.doings ++ posts (hangs_up, a) ∷ [];
        read = flat_map-append read_by t.doings (posts (hangs_up, a) ∷ []) ∙ ap (λ x. x ++ []) t.read;
        posted = flat_map-append call_by t.doings (posts (hangs_up, a) ∷ []) ∙ ap (λ x. x ++ (hangs_up, a) ∷ []) t.posted;
        order = in_order_both false stream (flat_map command_in given) t.doings (posts (hangs_up, a) ∷ []) t.order (tt, tt);
        waited = subst (WaitsAt end) (sym (wait_both t.doings (posts (hangs_up, a) ∷ []) ∙ ap (λ x. x || false) t.waits_so ∙ or-false-right turned.1)) turned.2;
      };
    }
  where
    by : (e : End) → DoesHangUp e → {calls : List Call} → IsLast hangs_up calls → EndsWith e calls
    by Closed h last = last
    by Quiet h last = absurd h
    by Stalled h last = absurd h
    by (Fault n) h last = last
