-- Runs of private events that were read: each stream's frames are as long as its layouts say.
use Rattle.std.proofs.Common.{◌≡◌, ℕ, ◌+◌, nat_le, Bool, true, false, not, if◌then◌else◌, is_some, List, [], ◌∷◌, ◌++◌, length, map, slice_index, Option, Some, None, MatchOption, IsTrue, refl, sym, ap, ◌∙◌, subst, arith}
use Rattle.std.specs.List.{AllByRecursion}
use Rattle.pg_wire.specs.declared.refusal.Refusal.{Refusal}
use Rattle.pg_wire.specs.declared.refusal.Refusal.TheVariants.{BadDefinition, StreamExists, StreamsFull}
use Rattle.pg_data.specs.Pieces.{Piece}
use Rattle.pg_entitle.specs.Grants.{has_key}
use Rattle.pg_stream.specs.declared.definition.Definition.{Definition}
use Rattle.pg_stream.specs.Limits.{is_within_limits}
use Rattle.pg_align.specs.Histories.{StreamHistory}
use Rattle.pg_outcfg.specs.Listing.{Listing, without_config}
use Rattle.pg_session.specs.Events.{SubscriberEvent, grant, revoke, announce, measure, define, remove, tick, connect, hangup, command, drain}
use Rattle.pg_session.specs.Streams.{StreamOf, frame_len, still, reshape_turn, measure_turn, tick_turn}
use Rattle.pg_session.specs.Private.{ReplyValue, done, refused, handed, May, next, refusal, refuse, refused_at, effect, turns_of, stream_at, defined, stopped, switched, at_stream, put_first, put_all, with_refusal}
use Rattle.pg_session.specs.ByAll.{by_arrivals, by_numbers}
use Rattle.pg_session.specs.Shown.{Model, begin}
use Rattle.pg_session.specs.Laws.{Run, after}
use Rattle.pg_session.specs.Stamps.{IsLegal, made_of, made_at}
use Rattle.pg_laws.specs.Lengths.{IsRead, AreRead, IsReached, StaysDefined, AreKnownSince}
use Rattle.pg_laws.proofs.Layouts.{known-same, known-then}
use Rattle.pg_laws.proofs.Listings.{AreChecked, checked-without, checked-all, checked-first}
use Rattle.pg_laws.proofs.Turns.{OneStream, OneTurn, IsFit, Fits, AreOfLayout, Stays, still-fits, tick-fits, measure-fits, reshape-fits, defined-fits, stopped-stays, command-stays}
use Rattle.pg_laws.proofs.Numbers.{AreDistinct, KeepsNumbers, distinct-map, distinct-push, each-other, distinct-others, found-so, made-found, found-map, found-push, found-others}

-- ---- all streams

-- each stream is fit by the CFG-1 list
abbrev pub AreFit : Listing → List OneStream → Type 0
AreFit listed streams = AllByRecursion (IsFit listed) streams

-- what a turn is to each stream that is fit
abbrev FitEach : Listing → Listing → (OneStream → OneTurn) → Type 0
FitEach listed other f = (s : OneStream) → IsFit listed s → Fits other s (f s)

turns_keep : (listed other : Listing) (f : OneStream → OneTurn) → FitEach listed other f → (ss : List OneStream) → AreFit listed ss
    → KeepsNumbers (λ s. (f s).stream) ss
turns_keep listed other f each [] fit = tt
turns_keep listed other f each (s ∷ ss) fit = (ap (λ (d : Definition). d.stream) (each s fit.0).definition, turns_keep listed other f each ss fit.1)

-- a change of each stream
abbrev ChangesEach : Listing → (OneStream → OneStream) → Type 0
ChangesEach listed f = (s : OneStream) → IsFit listed s → Stays listed s (f s)

-- What a list of streams keeps: no number stands twice, and each is fit.
pub record AreKept (listed : Listing) (streams : List OneStream) : Type 0 where
  pub distinct : AreDistinct streams
  pub fit : AreFit listed streams

map_fit : (listed other : Listing) (f : OneStream → OneStream) → ((s : OneStream) → IsFit listed s → IsFit other (f s)) → (ss : List OneStream) → AreFit listed ss
    → AreFit other (map f ss)
map_fit listed other f each [] fit = tt
map_fit listed other f each (s ∷ ss) fit = (each s fit.0, map_fit listed other f each ss fit.1)

changes_keep : (listed : Listing) (f : OneStream → OneStream) → ChangesEach listed f → (ss : List OneStream) → AreFit listed ss → KeepsNumbers f ss
changes_keep listed f each [] fit = tt
changes_keep listed f each (s ∷ ss) fit = (ap (λ (d : Definition). d.stream) (each s fit.0).definition, changes_keep listed f each ss fit.1)

kept_changed : (listed : Listing) (f : OneStream → OneStream) → ChangesEach listed f → (ss : List OneStream) → AreKept listed ss → AreKept listed (map f ss)
kept_changed listed f each ss kept = record {
  distinct = distinct-map f ss (changes_keep listed f each ss kept.fit) kept.distinct;
  fit = map_fit listed listed f (λ s fit. (each s fit).fit) ss kept.fit;
}

turned_streams : (f : OneStream → OneTurn) (ss : List OneStream) → map (λ (t : OneTurn). t.stream) (map f ss) ≡ map (λ s. (f s).stream) ss
turned_streams f [] = refl
turned_streams f (s ∷ ss) = ap (λ rest. (f s).stream ∷ rest) (turned_streams f ss)

kept_turned : (listed other : Listing) (f : OneStream → OneTurn) → FitEach listed other f → (ss : List OneStream) → AreKept listed ss
    → AreKept other (map (λ (t : OneTurn). t.stream) (map f ss))
kept_turned listed other f each ss kept = subst (AreKept other) (sym (turned_streams f ss)) (record {
  distinct = distinct-map (λ s. (f s).stream) ss (turns_keep listed other f each ss kept.fit) kept.distinct;
  fit = map_fit listed other (λ s. (f s).stream) (λ s fit. (each s fit).fit) ss kept.fit;
})

push_fit : (listed : Listing) (ss : List OneStream) (x : OneStream) → AreFit listed ss → IsFit listed x → AreFit listed (ss ++ x ∷ [])
push_fit listed [] x fit is = (is, tt)
push_fit listed (s ∷ ss) x fit is = (fit.0, push_fit listed ss x fit.1 is)

-- the frames of the stream of a number
turned_frames : (listed other : Listing) (f : OneStream → OneTurn) → FitEach listed other f → (number : ℕ) (ss : List OneStream) (s : OneStream) → AreKept listed ss
    → stream_at ss number ≡ Some s → AreOfLayout s (made_of number (map f ss))
turned_frames listed other f each number ss s kept found =
    subst (AreOfLayout s) (sym (made-found f number ss s (turns_keep listed other f each ss kept.fit) kept.distinct found))
    (each s (found-so (IsFit listed) number ss s kept.fit found)).frames

-- ---- one event

-- What a private gateway keeps: the configurations of its CFG-1 list were checked, and its streams are kept by that list.
pub record IsKept (p : Model) : Type 0 where
  pub checked : AreChecked p.listed
  pub streams : AreKept p.listed p.streams

-- a definition that is not refused is of a number that is free
refuse_none : (a b c : Bool) → refuse (not a) BadDefinition (refuse b StreamExists (refuse c StreamsFull None)) ≡ None → b ≡ false
refuse_none true false c h = refl
refuse_none true true c h = absurd (cc h)
refuse_none false b c h = absurd (cc h)

none_is : (o : Option OneStream) → is_some o ≡ false → o ≡ None
none_is None e = refl
none_is (Some s) e = absurd (cc e)

effect_kept : (p : Model) (e : SubscriberEvent) (kept : ℕ) → refusal by_arrivals by_numbers p e ≡ None → IsRead p.listed e → IsKept p
    → IsKept (effect by_arrivals by_numbers p e kept)
effect_kept p (grant key config) kept none read w = by (has_key p.grants key) refl
  where
    by : (b : Bool) → has_key p.grants key ≡ b → IsKept (effect by_arrivals by_numbers p (grant key config) kept)
    by true t = rw t w
    by false t =
        let checked = checked-first p.listed key config read w.checked in
        rw t record {
          checked = checked;
          streams = kept_turned p.listed (put_first p.listed key config) (reshape_turn by_arrivals p.listed (put_first p.listed key config))
              (λ s fit. reshape-fits p.listed (put_first p.listed key config) s w.checked checked fit) p.streams w.streams;
        }
effect_kept p (revoke key) kept none read w =
    let checked = checked-without p.listed key w.checked in
    record {
      checked = checked;
      streams = kept_turned p.listed (without_config p.listed key) (reshape_turn by_arrivals p.listed (without_config p.listed key))
          (λ s fit. reshape-fits p.listed (without_config p.listed key) s w.checked checked fit) p.streams w.streams;
    }
effect_kept p (announce list) kept none read w =
    let checked = checked-all p.listed list read w.checked in
    record {
      checked = checked;
      streams = kept_turned p.listed (put_all p.listed list) (reshape_turn by_arrivals p.listed (put_all p.listed list))
          (λ s fit. reshape-fits p.listed (put_all p.listed list) s w.checked checked fit) p.streams w.streams;
    }
effect_kept p (measure soc quality frac samples) kept none read w = record {
  checked = w.checked;
  streams = kept_turned p.listed p.listed (measure_turn by_arrivals p.listed soc quality frac samples)
      (λ s fit. measure-fits p.listed soc quality frac samples s read fit) p.streams w.streams;
}
effect_kept p (tick soc) kept none read w = record {
  checked = w.checked;
  streams = kept_turned p.listed p.listed (tick_turn by_arrivals p.listed) (λ s fit. tick-fits p.listed s fit) p.streams w.streams;
}
effect_kept p (define definition) kept none read w =
    let free = refuse_none (is_within_limits definition) (is_some (stream_at p.streams definition.stream)) (nat_le 8 (length p.streams)) none in
    record {
      checked = w.checked;
      streams = record {
        distinct = distinct-push p.streams (defined by_arrivals by_numbers p definition) w.streams.distinct (none_is (stream_at p.streams definition.stream) free);
        fit = push_fit p.listed p.streams (defined by_arrivals by_numbers p definition) w.streams.fit (defined-fits p definition);
      };
    }
effect_kept p (remove gone) kept none read w = record {
  checked = w.checked;
  streams = record { distinct = distinct-others gone p.streams w.streams.distinct; fit = each-other (IsFit p.listed) gone p.streams w.streams.fit };
}
effect_kept p connect kept none read w = record { checked = w.checked; streams = w.streams }
effect_kept p hangup kept none read w = record {
  checked = w.checked;
  streams = kept_changed p.listed (stopped by_arrivals by_numbers) (stopped-stays p.listed) p.streams w.streams;
}
effect_kept p (command asked word) kept none read w = record {
  checked = w.checked;
  streams = kept_changed p.listed (at_stream by_arrivals by_numbers asked (switched by_arrivals by_numbers word)) (command-stays p.listed asked word) p.streams w.streams;
}
effect_kept p (drain n) kept none read w = record { checked = w.checked; streams = w.streams }

-- a refusal changes nothing but a counter
refused_kept : (p : Model) (e : SubscriberEvent) (r : Refusal) → IsKept p → IsKept (refused_at p e r)
refused_kept p (command asked word) r w = by p.connected
  where
    by : (b : Bool) → IsKept (if b then record p { output = with_refusal p.output r } else p)
    by true = record { checked = w.checked; streams = w.streams }
    by false = w
refused_kept p (grant key config) r w = w
refused_kept p (revoke key) r w = w
refused_kept p (announce list) r w = w
refused_kept p (measure soc quality frac samples) r w = w
refused_kept p (define definition) r w = w
refused_kept p (remove gone) r w = w
refused_kept p (tick soc) r w = w
refused_kept p connect r w = w
refused_kept p hangup r w = w
refused_kept p (drain n) r w = w

-- where the reply is no refusal, none holds
none_holds : (B : Type 0) (r : ReplyValue) → ((first : Refusal) → r ≡ refused first → ⊥) → (o : Option Refusal) → MatchOption o B (λ first. r ≡ refused first) → o ≡ None
none_holds B r plain None h = refl
none_holds B r plain (Some first) h = absurd (plain first h)

next_kept : (p : Model) (e : SubscriberEvent) (r : ReplyValue) → May by_arrivals by_numbers p e false r → IsRead p.listed e → IsKept p
    → IsKept (next by_arrivals by_numbers p e r)
next_kept p e (done made kept) may read w =
    effect_kept p e kept (none_holds _ (done made kept) (λ first h. cc h) (refusal by_arrivals by_numbers p e) may) read w
next_kept p e (refused r) may read w = refused_kept p e r w
next_kept p e (handed bytes begun gap) may read w =
    effect_kept p e 0 (none_holds _ (handed bytes begun gap) (λ first h. cc h) (refusal by_arrivals by_numbers p e) may) read w

-- the frames that a stream makes at an event
turns_long : (p : Model) (e : SubscriberEvent) (number : ℕ) (s : OneStream) → IsRead p.listed e → IsKept p → stream_at p.streams number ≡ Some s
    → AreOfLayout s (made_of number (turns_of by_arrivals by_numbers p e))
turns_long p (grant key config) number s read w found = by (has_key p.grants key)
  where
    by : (b : Bool)
        → AreOfLayout s (made_of number (if b then map still p.streams else map (reshape_turn by_arrivals p.listed (put_first p.listed key config)) p.streams))
    by true = turned_frames p.listed p.listed still (still-fits p.listed) number p.streams s w.streams found
    by false = turned_frames p.listed (put_first p.listed key config) _
        (λ x fit. reshape-fits p.listed (put_first p.listed key config) x w.checked (checked-first p.listed key config read w.checked) fit) number p.streams s w.streams found
turns_long p (revoke key) number s read w found =
    turned_frames p.listed (without_config p.listed key) _
    (λ x fit. reshape-fits p.listed (without_config p.listed key) x w.checked (checked-without p.listed key w.checked) fit) number p.streams s w.streams found
turns_long p (announce list) number s read w found =
    turned_frames p.listed (put_all p.listed list) _
    (λ x fit. reshape-fits p.listed (put_all p.listed list) x w.checked (checked-all p.listed list read w.checked) fit) number p.streams s w.streams found
turns_long p (measure soc quality frac samples) number s read w found =
    turned_frames p.listed p.listed _ (λ x fit. measure-fits p.listed soc quality frac samples x read fit) number p.streams s w.streams found
turns_long p (tick soc) number s read w found = turned_frames p.listed p.listed _ (λ x fit. tick-fits p.listed x fit) number p.streams s w.streams found
turns_long p (define definition) number s read w found = tt
turns_long p (remove gone) number s read w found = tt
turns_long p connect number s read w found = tt
turns_long p hangup number s read w found = tt
turns_long p (command asked word) number s read w found = tt
turns_long p (drain n) number s read w found = tt

made_long : (p : Model) (e : SubscriberEvent) (r : ReplyValue) (number : ℕ) (s : OneStream) → IsRead p.listed e → IsKept p → stream_at p.streams number ≡ Some s
    → AreOfLayout s (made_at number p e r)
made_long p e (done made kept) number s read w found = turns_long p e number s read w found
made_long p e (refused r) number s read w found = tt
made_long p e (handed bytes begun gap) number s read w found = turns_long p e number s read w found

-- ---- the layouts of a stream after an event

same_stream : (o : Option OneStream) (s t : OneStream) → o ≡ Some s → o ≡ Some t → s ≡ t
same_stream o s t e f = cc

-- the stream as it was
same_known : (events : ℕ) (listed : Listing) (number : ℕ) (ss : List OneStream) (s t : OneStream) → AreFit listed ss → stream_at ss number ≡ Some s → stream_at ss number ≡ Some t
    → AreKnownSince events s.layouts t.layouts
same_known events listed number ss s t fit found there =
    subst (λ (x : OneStream). AreKnownSince events s.layouts x.layouts) (same_stream (stream_at ss number) s t found there)
    (known-same events s.layouts (found-so (IsFit listed) number ss s fit found).number)

turned_known : (listed other : Listing) (f : OneStream → OneTurn) → FitEach listed other f → (number : ℕ) (ss : List OneStream) (s t : OneStream)
    → AreFit listed ss → stream_at ss number ≡ Some s → stream_at (map (λ (u : OneTurn). u.stream) (map f ss)) number ≡ Some t
    → AreKnownSince 1 s.layouts t.layouts
turned_known listed other f each number ss s t fit found there =
    let now = found-map (λ x. (f x).stream) number ss s (turns_keep listed other f each ss fit) found in
    let same = same_stream _ (f s).stream t now (sym (ap (λ xs. stream_at xs number) (turned_streams f ss)) ∙ there) in
    subst (λ (x : OneStream). AreKnownSince 1 s.layouts x.layouts) same (each s (found-so (IsFit listed) number ss s fit found)).known

changed_known : (listed : Listing) (f : OneStream → OneStream) → ChangesEach listed f → (number : ℕ) (ss : List OneStream) (s t : OneStream)
    → AreFit listed ss → stream_at ss number ≡ Some s → stream_at (map f ss) number ≡ Some t → AreKnownSince 1 s.layouts t.layouts
changed_known listed f each number ss s t fit found there =
    let now = found-map f number ss s (changes_keep listed f each ss fit) found in
    let same = same_stream (stream_at (map f ss) number) (f s) t now there in
    let one = found-so (IsFit listed) number ss s fit found in
    subst (λ l. AreKnownSince 1 s.layouts l) (sym (each s one).layouts ∙ ap (λ (x : OneStream). x.layouts) same) (known-same 1 s.layouts one.number)

effect_known : (p : Model) (e : SubscriberEvent) (kept number : ℕ) (s t : OneStream) → IsRead p.listed e → IsKept p → stream_at p.streams number ≡ Some s
    → stream_at (effect by_arrivals by_numbers p e kept).streams number ≡ Some t → AreKnownSince 1 s.layouts t.layouts
effect_known p (grant key config) kept number s t read w found there = by (has_key p.grants key) refl there
  where
    by : (b : Bool) → has_key p.grants key ≡ b → stream_at (effect by_arrivals by_numbers p (grant key config) kept).streams number ≡ Some t
        → AreKnownSince 1 s.layouts t.layouts
    by true e now = same_known 1 p.listed number p.streams s t w.streams.fit found (rw e at now)
    by false e now =
        turned_known p.listed (put_first p.listed key config) (reshape_turn by_arrivals p.listed (put_first p.listed key config))
        (λ x fit. reshape-fits p.listed (put_first p.listed key config) x w.checked (checked-first p.listed key config read w.checked) fit)
        number p.streams s t w.streams.fit found (rw e at now)
effect_known p (revoke key) kept number s t read w found there =
    turned_known p.listed (without_config p.listed key) (reshape_turn by_arrivals p.listed (without_config p.listed key))
    (λ x fit. reshape-fits p.listed (without_config p.listed key) x w.checked (checked-without p.listed key w.checked) fit)
    number p.streams s t w.streams.fit found there
effect_known p (announce list) kept number s t read w found there =
    turned_known p.listed (put_all p.listed list) (reshape_turn by_arrivals p.listed (put_all p.listed list))
    (λ x fit. reshape-fits p.listed (put_all p.listed list) x w.checked (checked-all p.listed list read w.checked) fit)
    number p.streams s t w.streams.fit found there
effect_known p (measure soc quality frac samples) kept number s t read w found there =
    turned_known p.listed p.listed (measure_turn by_arrivals p.listed soc quality frac samples)
    (λ x fit. measure-fits p.listed soc quality frac samples x read fit) number p.streams s t w.streams.fit found there
effect_known p (tick soc) kept number s t read w found there =
    turned_known p.listed p.listed (tick_turn by_arrivals p.listed) (λ x fit. tick-fits p.listed x fit) number p.streams s t w.streams.fit found there
effect_known p (define definition) kept number s t read w found there =
    let same = same_stream _ s t (found-push number p.streams (defined by_arrivals by_numbers p definition) s found) there in
    same_known 1 p.listed number p.streams s t w.streams.fit found (found ∙ ap Some same)
effect_known p (remove gone) kept number s t read w found there =
    same_known 1 p.listed number p.streams s t w.streams.fit found (found-others number gone p.streams t w.streams.distinct there)
effect_known p connect kept number s t read w found there = same_known 1 p.listed number p.streams s t w.streams.fit found there
effect_known p hangup kept number s t read w found there =
    changed_known p.listed (stopped by_arrivals by_numbers) (stopped-stays p.listed) number p.streams s t w.streams.fit found there
effect_known p (command asked word) kept number s t read w found there =
    changed_known p.listed (at_stream by_arrivals by_numbers asked (switched by_arrivals by_numbers word)) (command-stays p.listed asked word)
    number p.streams s t w.streams.fit found there
effect_known p (drain n) kept number s t read w found there = same_known 1 p.listed number p.streams s t w.streams.fit found there

refused_streams : (p : Model) (e : SubscriberEvent) (r : Refusal) → (refused_at p e r).streams ≡ p.streams
refused_streams p (command asked word) r = by p.connected
  where
    by : (b : Bool) → (if b then record p { output = with_refusal p.output r } else p).streams ≡ p.streams
    by true = refl
    by false = refl
refused_streams p (grant key config) r = refl
refused_streams p (revoke key) r = refl
refused_streams p (announce list) r = refl
refused_streams p (measure soc quality frac samples) r = refl
refused_streams p (define definition) r = refl
refused_streams p (remove gone) r = refl
refused_streams p (tick soc) r = refl
refused_streams p connect r = refl
refused_streams p hangup r = refl
refused_streams p (drain n) r = refl

next_known : (p : Model) (e : SubscriberEvent) (r : ReplyValue) (number : ℕ) (s t : OneStream) → IsRead p.listed e → IsKept p → stream_at p.streams number ≡ Some s
    → stream_at (next by_arrivals by_numbers p e r).streams number ≡ Some t → AreKnownSince 1 s.layouts t.layouts
next_known p e (done made kept) number s t read w found there = effect_known p e kept number s t read w found there
next_known p e (refused r) number s t read w found there =
    same_known 1 p.listed number p.streams s t w.streams.fit found (sym (ap (λ ss. stream_at ss number) (refused_streams p e r)) ∙ there)
next_known p e (handed bytes begun gap) number s t read w found there = effect_known p e 0 number s t read w found there

-- ---- runs

run_kept : (p : Model) (xs : Run) → IsLegal p xs → AreRead p xs → IsKept p → IsKept (after p xs)
run_kept p [] legal read w = w
run_kept p (x ∷ xs) legal read w =
    run_kept (next by_arrivals by_numbers p x.0 x.1) xs legal.1 read.1 (next_kept p x.0 x.1 legal.0 read.0 w)

-- a subscriber that was just added has no stream and an empty list
begin_kept : (size limit : ℕ) (last : Option ℕ) → IsKept (begin size limit last)
begin_kept size limit last = record { checked = tt; streams = record { distinct = tt; fit = tt } }

reached_kept : (p : Model) → IsReached p → IsKept p
reached_kept p is =
    subst IsKept is.state (run_kept (begin is.size is.limit is.last) is.run is.legal is.read (begin_kept is.size is.limit is.last))

pub head-told : (p : Model) (number : ℕ) (s : StreamOf (StreamHistory Piece)) → IsReached p → stream_at p.streams number ≡ Some s
    → slice_index s.layouts.lengths 0 ≡ frame_len p.listed s.definition.members
head-told p number s is found = (found-so (IsFit p.listed) number p.streams s (reached_kept p is).streams.fit found).head

pub frames-told : (p : Model) (number : ℕ) (s : StreamOf (StreamHistory Piece)) (e : SubscriberEvent) (r : ReplyValue) → IsReached p → stream_at p.streams number ≡ Some s
    → IsRead p.listed e → AllByRecursion (λ frame. length frame ≡ slice_index s.layouts.lengths 0) (made_at number p e r)
frames-told p number s e r is found read = made_long p e r number s read (reached_kept p is) found

there_is : (o : Option OneStream) → IsTrue (is_some o) → (s : OneStream) × (o ≡ Some s)
there_is None h = absurd (cc h)
there_is (Some s) h = (s, refl)

run_known : (p : Model) (xs : Run) (number : ℕ) (s t : OneStream) → IsKept p → IsLegal p xs → AreRead p xs → stream_at p.streams number ≡ Some s
    → StaysDefined number p xs → stream_at (after p xs).streams number ≡ Some t → AreKnownSince (length xs) s.layouts t.layouts
run_known p [] number s t w legal read found stays there = same_known 0 p.listed number p.streams s t w.streams.fit found there
run_known p (x ∷ []) number s t w legal read found stays there = next_known p x.0 x.1 number s t read.0 w found there
run_known p (x ∷ y ∷ xs) number s t w legal read found stays there =
    let q = next by_arrivals by_numbers p x.0 x.1 in
    let mid = there_is (stream_at q.streams number) stays.1.0 in
    let one_more : 1 + length (y ∷ xs) ≡ length (x ∷ y ∷ xs) = omega arith in
    subst (λ n. AreKnownSince n s.layouts t.layouts) one_more
    (known-then 1 (length (y ∷ xs)) s.layouts mid.0.layouts t.layouts (next_known p x.0 x.1 number s mid.0 read.0 w found mid.1)
    (run_known q (y ∷ xs) number mid.0 t (next_kept p x.0 x.1 legal.0 read.0 w) legal.1 read.1 mid.1 stays.1 there))

pub lengths-known : (p : Model) (run : Run) (number : ℕ) (s t : StreamOf (StreamHistory Piece)) → IsReached p → IsLegal p run → AreRead p run
    → stream_at p.streams number ≡ Some s → StaysDefined number p run → stream_at (after p run).streams number ≡ Some t
    → AreKnownSince (length run) s.layouts t.layouts
lengths-known p run number s t is legal read found stays there = run_known p run number s t (reached_kept p is) legal read found stays there
