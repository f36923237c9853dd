-- What each call does to the windows of a connection.
use Rattle.std.proofs.Common.{ℕ, zero, suc, ◌-◌, ◌<◌, ◌≤◌, ◌≡◌, ◌∙◌, sym, ap, subst, refl, inl, inr, max, Bool, true, false, ◌&&◌, ◌||◌, not, eqb, leb, List, [], ◌∷◌, length, get_or, map, Option, Some, None, arith}
use Rattle.std.specs.Prelude.{slice_get, slice_set}
use Rattle.std.specs.List.{All, fold}
use Rattle.std.specs.Option.{option_map_or}
use Rattle.std.proofs.lemmas.Bool.{and_parts, cases_order, cond_both, eqb-true, leb-true}
use Rattle.std.proofs.lemmas.List.Elements.{All-head, All-map, All-replicate, All-set, All-tail, All-weaker}
use Rattle.pg_limits.specs.Layouts.{are_unlike}
use Rattle.pg_limits.specs.Switched.{Switched, find}
use Rattle.pg_limits.specs.Windows.{begun_at, configured_by, drained, grown_to, idle_by, is_at, is_configured, is_keep, is_safe, is_unlike, judged, judged_noted, judged_off, judged_read, noted, reads_anew, resumed, resuming, settled, switched_by, unknown, was_idle}
use Rattle.pg_limits.specs.Connections.{Known, forgotten, is_among, judged_all, judged_at, judged_one, known_at, known_of, none, noted_all_gone, noted_gone, noted_one, place_for, place_of}
use Rattle.pg_limits.specs.Misreading.{Act, AreRight, AreRightActs, IsRight, IsRightAct, IsSafe, Lengths, after, after_one, drain, give_up, go_on, judge, judge_all, note, pay, resume, settle}
use Rattle.pg_limits.specs.declared.layouts.OnChange.{OnChange}
use Rattle.pg_limits.specs.declared.known_layout.FoundStream.{FoundStream}
use Rattle.pg_limits.specs.declared.known_layout.KnownLayout.{KnownLayout}
use Rattle.pg_limits.specs.declared.known_layout.ServedOnce.{ServedOnce}
use Rattle.pg_limits.specs.declared.known_layout.Verdict.{Verdict}
use Rattle.pg_limits.specs.declared.known_layouts.Judged.{Judged}
use Rattle.pg_limits.proofs.Apart.{unlike_at, unlike_known}

-- ---- one stream

-- the same window, whatever its reader commanded
abbrev pub commanded : Bool → Bool → Bool → Bool → Bool → KnownLayout → KnownLayout
commanded r t i u w k = record k { is_read = r; is_started = t; is_idle = i; resumes = u; owes_config = w }

pub noted_by : (P : KnownLayout → Type 0) (o : Option Bool) (c e : Bool) (k : KnownLayout) → ((r t i u w : Bool) → P (commanded r t i u w k))
    → P (idle_by e (configured_by c (switched_by o k)))
noted_by P None false e k h = h k.is_read k.is_started (k.is_idle || (e && not k.is_started)) k.resumes k.owes_config
noted_by P None true e k h = h true k.is_started (k.is_idle || (e && not k.is_started)) k.resumes false
noted_by P (Some on) false e k h = h true on (false || (e && not on)) false k.owes_config
noted_by P (Some on) true e k h = h true on (false || (e && not on)) false false

pub noted_any : (P : KnownLayout → Type 0) (s : ServedOnce) (k : KnownLayout) → ((r t i u w : Bool) → P (commanded r t i u w k)) → P (noted s k)
noted_any P s k h = noted_by P (find k.stream s.switched) (is_configured s k) s.is_emptied k h

-- ---- safe windows

begun_safe : (len : Lengths) (f : FoundStream) (k : KnownLayout) → IsSafe len (begun_at f k)
begun_safe len f k = record { same = λ read sent r s e. omega (arith, r.0, r.1, s.0, s.1) }

unknown_safe : (len : Lengths) (stream : ℕ) → IsSafe len (unknown stream)
unknown_safe len stream = record { same = λ read sent r s e. omega (arith, r.0, r.1, s.0, s.1) }

-- of two layouts from the floor up to the layout that was found the earlier one is not as long as the later one
later_is_other : (len : Lengths) (f : FoundStream) (floor a b : ℕ) → IsRight len f → are_unlike f.lengths floor f.layout ≡ true
    → floor ≤ a → a < b → b ≤ f.layout → len f.stream f.definition a ≡ len f.stream f.definition b → ⊥
later_is_other len f floor a b right unlike low less high e =
    let long : f.layout - floor < length f.lengths = unlike_known f.lengths floor f.layout unlike in
    let at_b : f.layout - (f.layout - b) ≡ b = omega arith in
    let at_a : f.layout - (f.layout - a) ≡ a = omega arith in
    let is_b : get_or f.lengths (f.layout - b) 0 ≡ len f.stream f.definition b =
    right (f.layout - b) (omega arith) (omega arith) ∙ ap (λ n. len f.stream f.definition n) at_b in
    let is_a : get_or f.lengths (f.layout - a) 0 ≡ len f.stream f.definition a =
    right (f.layout - a) (omega arith) (omega arith) ∙ ap (λ n. len f.stream f.definition n) at_a in
    unlike_at f.lengths floor f.layout (f.layout - b) (f.layout - a) unlike (omega arith) (omega arith) (is_b ∙ (sym e ∙ sym is_a))

pub grown_same : (len : Lengths) (f : FoundStream) (floor read sent : ℕ) → IsRight len f → are_unlike f.lengths floor f.layout ≡ true
    → floor ≤ read → read ≤ f.layout → floor ≤ sent → sent ≤ f.layout → len f.stream f.definition sent ≡ len f.stream f.definition read → sent ≡ read
grown_same len f floor read sent right unlike r0 r1 s0 s1 e =
    elim (cases_order sent read) [
      | inl same ↦ same
      | inr other ↦ elim other [
        | inl less ↦ absurd (later_is_other len f floor sent read right unlike s0 less r1 e)
        | inr more ↦ absurd (later_is_other len f floor read sent right unlike r0 more s1 (sym e))
      ]
    ]

pub unlike_parts : (f : FoundStream) (k : KnownLayout) → is_unlike f k ≡ true
    → (k.definition ≡ f.definition) × (k.floor ≤ f.layout) × (are_unlike f.lengths k.floor f.layout ≡ true)
unlike_parts f k h =
    let one = and_parts (eqb k.definition f.definition) _ h in
    let two = and_parts (leb k.floor f.layout) _ one.1 in
    (eqb-true _ _ one.0, leb-true _ _ two.0, two.1)

grown_safe : (len : Lengths) (f : FoundStream) (k : KnownLayout) → k.stream ≡ f.stream → IsRight len f → is_unlike f k ≡ true → IsSafe len (grown_to f k)
grown_safe len f k here right h =
    let parts = unlike_parts f k h in
    record {
      same = λ read sent r s e.
          grown_same len f k.floor read sent right parts.2 r.0 r.1 s.0 s.1
          (subst (λ (n : ℕ). len n f.definition sent ≡ len n f.definition read) here
          (subst (λ (n : ℕ). len k.stream n sent ≡ len k.stream n read) parts.0 e));
    }

commanded_safe : (len : Lengths) (k : KnownLayout) → IsSafe len k → (r t i u w : Bool) → IsSafe len (commanded r t i u w k)
commanded_safe len k h r t i u w = record { same = h.same }

noted_safe : (len : Lengths) (s : ServedOnce) (k : KnownLayout) → IsSafe len k → IsSafe len (noted s k)
noted_safe len s k h = noted_any (IsSafe len) s k (commanded_safe len k h)

off_safe : (len : Lengths) (f : FoundStream) (s : ServedOnce) (idle : Bool) (k : KnownLayout) → IsSafe len k → IsSafe len (judged_off f s idle k).0
off_safe len f s idle k h =
    cond_both (eqb k.definition f.definition) _ _ (λ (r : KnownLayout × Verdict). IsSafe len r.0) (λ e. h) (λ e. record { same = h.same })

read_safe : (len : Lengths) (f : FoundStream) (rule : OnChange) (k : KnownLayout) → k.stream ≡ f.stream → IsRight len f → IsSafe len k
    → IsSafe len (judged_read f rule k).0
read_safe len f rule k here right h =
    cond_both (is_safe rule && is_unlike f k) _ _ (λ (r : KnownLayout × Verdict). IsSafe len r.0)
    (λ e. grown_safe len f k here right (and_parts (is_safe rule) (is_unlike f k) e).1) (λ e. h)

judged_noted_safe : (len : Lengths) (f : FoundStream) (s : ServedOnce) (rule : OnChange) (begins idle : Bool) (k : KnownLayout) → k.stream ≡ f.stream
    → IsRight len f → IsSafe len k → IsSafe len (judged_noted f s rule begins idle k).0
judged_noted_safe len f s rule begins idle k here right h =
    let P : KnownLayout × Verdict → Type 0 = λ r. IsSafe len r.0 in
    cond_both (begins || not k.is_read) _ _ P (λ e. begun_safe len f k)
    (λ e. cond_both (is_at f k) _ _ P (λ e. h)
    (λ e. cond_both (f.is_on || is_configured s k) _ _ P (λ e. read_safe len f rule k here right h) (λ e. off_safe len f s idle k h)))

judged_safe : (len : Lengths) (f : FoundStream) (s : ServedOnce) (rule : OnChange) (k : KnownLayout) → k.stream ≡ f.stream → IsRight len f
    → IsSafe len k → IsSafe len (judged f s rule k).0
judged_safe len f s rule k here right h =
    noted_any (λ n. IsSafe len (judged_noted f s rule (is_keep rule || reads_anew f s rule k) (was_idle s k) n).0) s k
    (λ r t i u w. judged_noted_safe len f s rule (is_keep rule || reads_anew f s rule k) (was_idle s k) (commanded r t i u w k) here right (commanded_safe len k h r t i u w))

above_floor : (floor : ℕ) (next : Option ℕ) (n : ℕ) → option_map_or (max floor) next floor ≤ n → floor ≤ n
above_floor floor None n h = h
above_floor floor (Some next) n h = omega (arith, h)

above : (k : KnownLayout) (n : ℕ) → (settled k).floor ≤ n → k.floor ≤ n
above k n h = above_floor k.floor k.next_floor n h

settled_safe : (len : Lengths) (k : KnownLayout) → IsSafe len k → IsSafe len (settled k)
settled_safe len k h = record { same = λ read sent r s e. h.same read sent (above k read r.0, r.1) (above k sent s.0, s.1) e }

-- ---- all streams of a connection

-- what holds of each stream holds of what is known of one
known_keeps : (P : KnownLayout → Type 0) (stream : ℕ) → P (unknown stream) → (ks : Known) (place : ℕ) → All P ks → P (known_of stream (slice_get ks place))
known_keeps P stream new [] place h = new
known_keeps P stream new (k ∷ ks) zero h = cond_both (eqb k.stream stream) k (unknown stream) P (λ e. All-head P k ks h) (λ e. new)
known_keeps P stream new (k ∷ ks) (suc place) h = known_keeps P stream new ks place (All-tail P k ks h)

known_is : (stream : ℕ) (o : Option KnownLayout) → (known_of stream o).stream ≡ stream
known_is stream None = refl
known_is stream (Some k) = cond_both (eqb k.stream stream) k (unknown stream) (λ n. n.stream ≡ stream) (λ e. eqb-true _ _ e) (λ e. refl)

pub changed_keeps : (P : KnownLayout → Type 0) (stream : ℕ) → P (unknown stream) → (change : KnownLayout → KnownLayout)
    → ((k : KnownLayout) → k.stream ≡ stream → P k → P (change k)) → (o : Option ℕ) (ks : Known) → All P ks
    → All P (option_map_or (λ place. slice_set ks place (change (known_at place stream ks))) o ks)
changed_keeps P stream new change keeps None ks h = h
changed_keeps P stream new change keeps (Some place) ks h =
    All-set P ks place _ (keeps _ (known_is stream (slice_get ks place)) (known_keeps P stream new ks place h)) h

pub map_keeps : (P : KnownLayout → Type 0) (change : KnownLayout → KnownLayout) → ((k : KnownLayout) → P k → P (change k)) → (ks : Known) → All P ks
    → All P (map change ks)
map_keeps P change keeps ks h = All-map P change ks (All-weaker P (λ k. P (change k)) keeps ks h)

-- What is kept by each judgement that is right, and by each command, is kept by all of them. `new` is what is true of a stream that nothing is known of.
pub record Kept (P : KnownLayout → Type 0) (R : FoundStream → Type 0) (s : ServedOnce) (rule : OnChange) : Type 0 where
  pub new : (stream : ℕ) → P (unknown stream)
  pub noted : (k : KnownLayout) → P k → P (noted s k)
  pub judged : (f : FoundStream) (k : KnownLayout) → k.stream ≡ f.stream → R f → P k → P (judged f s rule k).0

pub judged_at_keeps : (P : KnownLayout → Type 0) (R : FoundStream → Type 0) (s : ServedOnce) (rule : OnChange) → Kept P R s rule
    → (f : FoundStream) → R f → (ks : Known) (o : Option ℕ) → All P ks → All P (judged_at f s rule ks o).0
judged_at_keeps P R s rule kept f right ks None h = h
judged_at_keeps P R s rule kept f right ks (Some place) h =
    All-set P ks place _ (kept.judged f _ (known_is f.stream (slice_get ks place)) right (known_keeps P f.stream (kept.new f.stream) ks place h)) h

abbrev pub AllRight : (FoundStream → Type 0) → List (Option FoundStream) → Type 0
AllRight R [] = Unit {0}
AllRight R (None ∷ found) = AllRight R found
AllRight R (Some f ∷ found) = R f × AllRight R found

each_keeps : (P : KnownLayout → Type 0) (R : FoundStream → Type 0) (s : ServedOnce) (rule : OnChange) → Kept P R s rule
    → (found : List (Option FoundStream)) → AllRight R found → (r : Known × Judged) → All P r.0 → All P (fold (judged_one s rule) r found).0
each_keeps P R s rule kept [] right r h = h
each_keeps P R s rule kept (None ∷ found) right r h = each_keeps P R s rule kept found right r h
each_keeps P R s rule kept (Some f ∷ found) right r h =
    each_keeps P R s rule kept found right.1 (judged_one s rule r (Some f)) (judged_at_keeps P R s rule kept f right.0 r.0 (place_for f.stream r.0) h)

gone_keeps : (P : KnownLayout → Type 0) (R : FoundStream → Type 0) (s : ServedOnce) (rule : OnChange) → Kept P R s rule
    → (found : List (Option FoundStream)) (commands : Switched) (ks : Known) → All P ks → All P (noted_all_gone found s commands ks)
gone_keeps P R s rule kept found [] ks h = h
gone_keeps P R s rule kept found (it ∷ commands) ks h =
    gone_keeps P R s rule kept found commands (noted_gone found s ks it.0)
    (cond_both (eqb it.0 0 || is_among found it.0) ks (noted_one it.0 s ks) (All P) (λ e. h)
    (λ e. changed_keeps P it.0 (kept.new it.0) (noted s) (λ k here. kept.noted k) (place_for it.0 ks) ks h))

pub all_keeps : (P : KnownLayout → Type 0) (R : FoundStream → Type 0) (s : ServedOnce) (rule : OnChange) → Kept P R s rule
    → (found : List (Option FoundStream)) → AllRight R found → (ks : Known) → All P ks → All P (judged_all found s rule ks).0
all_keeps P R s rule kept found right ks h =
    each_keeps P R s rule kept found right _
    (gone_keeps P R s rule kept found s.switched _
    (gone_keeps P R s rule kept found s.configured _
    (map_keeps P (forgotten found) (λ k p. cond_both (is_among found k.stream || k.is_read) k (unknown 0) P (λ e. p) (λ e. kept.new 0)) ks h)))

-- ---- safe windows in a whole connection

safe_kept : (len : Lengths) (s : ServedOnce) (rule : OnChange) → Kept (IsSafe len) (IsRight len) s rule
safe_kept len s rule = record { new = unknown_safe len; noted = noted_safe len s; judged = λ f. judged_safe len f s rule }

all_right : (len : Lengths) (found : List (Option FoundStream)) → AreRight len found → AllRight (IsRight len) found
all_right len [] h = tt
all_right len (None ∷ found) h = all_right len found h
all_right len (Some f ∷ found) h = (h.0, all_right len found h.1)

one_safe : (len : Lengths) (act : Act) (ks : Known) → IsRightAct len act → All (IsSafe len) ks → All (IsSafe len) (after_one act ks)
one_safe len (judge f s rule) ks right h = judged_at_keeps (IsSafe len) (IsRight len) s rule (safe_kept len s rule) f right ks (place_for f.stream ks) h
one_safe len (judge_all found s rule) ks right h =
    all_keeps (IsSafe len) (IsRight len) s rule (safe_kept len s rule) found (all_right len found right) ks h
one_safe len (note s) ks right h = map_keeps (IsSafe len) (noted s) (noted_safe len s) ks h
one_safe len (drain is_emptied) ks right h = map_keeps (IsSafe len) (drained is_emptied) (λ k p. record { same = p.same }) ks h
one_safe len settle ks right h = map_keeps (IsSafe len) settled (settled_safe len) ks h
one_safe len (pay stream) ks right h =
    changed_keeps (IsSafe len) stream (unknown_safe len stream) (λ k. record k { owes_config = false }) (λ k here p. record { same = p.same }) (place_of stream ks) ks h
one_safe len (resume stream) ks right h =
    changed_keeps (IsSafe len) stream (unknown_safe len stream) resuming (λ k here p. record { same = p.same }) (place_of stream ks) ks h
one_safe len (give_up stream) ks right h =
    changed_keeps (IsSafe len) stream (unknown_safe len stream) (λ k. record k { resumes = false }) (λ k here p. record { same = p.same }) (place_of stream ks) ks h
one_safe len (go_on f) ks right h =
    changed_keeps (IsSafe len) f.stream (unknown_safe len f.stream) (resumed f)
    (λ k here p. record { same = (begun_safe len f k).same }) (place_of f.stream ks) ks h

run_safe : (len : Lengths) (acts : List Act) (ks : Known) → AreRightActs len acts → All (IsSafe len) ks → All (IsSafe len) (after acts ks)
run_safe len [] ks right h = h
run_safe len (act ∷ acts) ks right h = run_safe len acts (after_one act ks) right.1 (one_safe len act ks right.0 h)

pub never_misread : (len : Lengths) (acts : List Act) → AreRightActs len acts → All (IsSafe len) (after acts none)
never_misread len acts right = run_safe len acts none right (All-replicate (IsSafe len) 8 (unknown 0) (unknown_safe len 0))
