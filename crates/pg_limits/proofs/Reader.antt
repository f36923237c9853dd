-- How the reader of a stream reads it.
use Rattle.std.proofs.Common.{ℕ, zero, suc, ◌+◌, ◌≤◌, ◌≡◌, ◌≢◌, ◌⊎◌, ◌∙◌, sym, ap, subst, refl, inl, inr, max, Bool, true, false, ◌&&◌, ◌||◌, not, eqb, cond, List, [], ◌∷◌, ◌++◌, length, map, take, drop, Option, Some, None, is_some, arith}
use Rattle.std.specs.List.{All}
use Rattle.std.specs.Option.{option_map_or}
use Rattle.std.proofs.lemmas.Bool.{and_parts, cond_both, eqb-false, false≢true, leb-true, not-true, or_cases}
use Rattle.std.proofs.lemmas.List.Elements.{All-append, All-cons, All-nil}
use Rattle.pg_limits.specs.Switched.{find}
use Rattle.pg_limits.specs.Windows.{begun_at, configured_by, drained, grown_to, idle_by, is_at, is_configured, is_keep, is_safe, is_unlike, judged, judged_noted, noted, reads_anew, settled, switched_by, was_idle}
use Rattle.pg_limits.specs.Misreading.{Lengths}
use Rattle.pg_limits.specs.Reading.{Connection, Finds, HasNoFrame, IsReadRight, Item, May, MayAll, Serves, Step, answered, ask, by_verdict, change, config, drain, frame, make, pass, pay, question, readings, reads_behind, run, started, stepped, switch}
use Rattle.pg_limits.specs.declared.layouts.OnChange.{OnChange}
use Rattle.pg_limits.specs.declared.layouts.OnChange.TheVariants.{Safe, HangUp, Keep}
use Rattle.pg_limits.specs.declared.known_layout.FoundStream.{FoundStream}
use Rattle.pg_limits.specs.declared.known_layout.KnownLayout.{KnownLayout}
use Rattle.pg_limits.specs.declared.known_layout.ServedOnce.{ServedOnce}
use Rattle.pg_limits.specs.declared.known_layout.Verdict.{Verdict}
use Rattle.pg_limits.specs.declared.known_layout.Verdict.TheVariants.{AskAgain, Disconnect}
use Rattle.pg_limits.proofs.Windowing.{commanded, grown_same, unlike_parts}
use Rattle.pg_limits.proofs.Verdicts.{at_parts}

-- ---- layouts between two

abbrev Within : ℕ → ℕ → List ℕ → Type 0
Within low high [] = Unit {0}
Within low high (n ∷ ns) = (low ≤ n) × (n ≤ high) × Within low high ns

within_more : (low high low2 high2 : ℕ) → low2 ≤ low → high ≤ high2 → (ns : List ℕ) → Within low high ns → Within low2 high2 ns
within_more low high low2 high2 l h [] w = tt
within_more low high low2 high2 l h (n ∷ ns) w = (omega (arith, w.0), omega (arith, w.1), within_more low high low2 high2 l h ns w.2)

within_push : (low high n : ℕ) → low ≤ n → n ≤ high → (ns : List ℕ) → Within low high ns → Within low high (ns ++ (n ∷ []))
within_push low high n l h [] w = (l, h, tt)
within_push low high n l h (m ∷ ns) w = (w.0, w.1, within_push low high n l h ns w.2)

within_take : (low high n : ℕ) (ns : List ℕ) → Within low high ns → Within low high (take n ns)
within_take low high zero ns w = tt
within_take low high (suc n) [] w = tt
within_take low high (suc n) (m ∷ ns) w = (w.0, w.1, within_take low high n ns w.2)

within_drop : (low high n : ℕ) (ns : List ℕ) → Within low high ns → Within low high (drop n ns)
within_drop low high zero ns w = w
within_drop low high (suc n) [] w = tt
within_drop low high (suc n) (m ∷ ns) w = within_drop low high n ns w.2

within_none : (low high n : ℕ) (ns : List ℕ) → length ns ≤ n → Within low high (drop n ns)
within_none low high zero [] l = tt
within_none low high zero (m ∷ ns) l = absurd (omega (arith, l))
within_none low high (suc n) [] l = tt
within_none low high (suc n) (m ∷ ns) l = within_none low high n ns (omega (arith, l))

-- each frame is read by a layout between two and is of one, and so is what its reader goes by in the end
abbrev Line : ℕ → ℕ → ℕ → List Item → Type 0
Line low high reads [] = (low ≤ reads) × (reads ≤ high)
Line low high reads (config n ∷ items) = Line low high n items
Line low high reads (frame n ∷ items) = (low ≤ reads) × (reads ≤ high) × (low ≤ n) × (n ≤ high) × Line low high reads items

line_more : (low high high2 : ℕ) → high ≤ high2 → (reads : ℕ) (items : List Item) → Line low high reads items → Line low high2 reads items
line_more low high high2 h reads [] l = (l.0, omega (arith, l.1))
line_more low high high2 h reads (config n ∷ items) l = line_more low high high2 h n items l
line_more low high high2 h reads (frame n ∷ items) l = (l.0, omega (arith, l.1), l.2, omega (arith, l.3), line_more low high high2 h reads items l.4)

line_config : (low high n : ℕ) → low ≤ n → n ≤ high → (reads : ℕ) (items : List Item) → Line low high reads items → Line low high reads (items ++ (config n ∷ []))
line_config low high n a b reads [] l = (a, b)
line_config low high n a b reads (config m ∷ items) l = line_config low high n a b m items l
line_config low high n a b reads (frame m ∷ items) l = (l.0, l.1, l.2, l.3, line_config low high n a b reads items l.4)

line_only : (low high reads : ℕ) (ns : List ℕ) → Within low high ns → low ≤ reads → reads ≤ high → Line low high reads (map frame ns)
line_only low high reads [] w a b = (a, b)
line_only low high reads (n ∷ ns) w a b = (a, b, w.0, w.1, line_only low high reads ns w.2 a b)

line_frames : (low high : ℕ) (ns : List ℕ) → Within low high ns → (reads : ℕ) (items : List Item) → Line low high reads items → Line low high reads (items ++ map frame ns)
line_frames low high ns w reads [] l = line_only low high reads ns w l.0 l.1
line_frames low high ns w reads (config m ∷ items) l = line_frames low high ns w m items l
line_frames low high ns w reads (frame m ∷ items) l = (l.0, l.1, l.2, l.3, line_frames low high ns w reads items l.4)

line_end : (low high reads : ℕ) (items : List Item) → Line low high reads items → (low ≤ reads_behind reads items) × (reads_behind reads items ≤ high)
line_end low high reads [] l = l
line_end low high reads (config m ∷ items) l = line_end low high m items l
line_end low high reads (frame m ∷ items) l = line_end low high reads items l.4

behind_config : (n reads : ℕ) (items : List Item) → reads_behind reads (items ++ (config n ∷ [])) ≡ n
behind_config n reads [] = refl
behind_config n reads (config m ∷ items) = behind_config n m items
behind_config n reads (frame m ∷ items) = behind_config n reads items

behind_only : (reads : ℕ) (ns : List ℕ) → reads_behind reads (map frame ns) ≡ reads
behind_only reads [] = refl
behind_only reads (n ∷ ns) = behind_only reads ns

behind_frames : (ns : List ℕ) (reads : ℕ) (items : List Item) → reads_behind reads (items ++ map frame ns) ≡ reads_behind reads items
behind_frames ns reads [] = behind_only reads ns
behind_frames ns reads (config m ∷ items) = behind_frames ns m items
behind_frames ns reads (frame m ∷ items) = behind_frames ns reads items

-- ---- layouts between two that no reader takes for each other

abbrev Apart : (ℕ → ℕ) → ℕ → ℕ → Type 0
Apart len low high = (read sent : ℕ) → low ≤ read → read ≤ high → low ≤ sent → sent ≤ high → len sent ≡ len read → sent ≡ read

abbrev Right : (ℕ → ℕ) → ℕ × ℕ → Type 0
Right len reading = len reading.1 ≡ len reading.0 → reading.1 ≡ reading.0

line_right : (len : ℕ → ℕ) (low high : ℕ) → Apart len low high → (reads : ℕ) (items : List Item) → Line low high reads items
    → All (Right len) (readings reads items)
line_right len low high apart reads [] l = All-nil (Right len)
line_right len low high apart reads (config m ∷ items) l = line_right len low high apart m items l
line_right len low high apart reads (frame m ∷ items) l =
    All-cons (Right len) (reads, m) (readings reads items) (λ e. apart reads m l.0 l.1 l.2 l.3 e) (line_right len low high apart reads items l.4)

-- ---- what stays true

-- whether a stream is on behind the last of its commands, if there was one
abbrev on_by : Option Bool → Bool → Bool
on_by None on = on
on_by (Some is_on) on = is_on

record Holds (len : ℕ → ℕ) (number defined : ℕ) (c : Connection) : Type 0 where
  stream : c.known.stream ≡ number
  definition : c.known.definition ≡ defined
  read : c.known.is_read ≡ true
  on : c.is_on ≡ on_by c.switched c.known.is_started
  low : c.known.floor ≤ c.known.newest
  mid : c.known.newest ≤ c.begun
  high : c.begun ≤ c.present
  line : Line c.known.floor c.present c.reads c.items
  waits : Within c.known.floor c.present c.waiting
  config : c.known.owes_config ≡ false → c.known.newest ≤ reads_behind c.reads c.items
  asked : c.is_asked ≡ true → c.begun ≤ reads_behind c.reads c.items
  emptied : c.is_emptied ≡ true → Within c.begun c.present c.waiting
  apart : Apart len c.known.floor c.known.newest
  idle : c.known.is_idle ≡ true → c.switched ≡ None → (c.is_on ≡ false) × (c.waiting ≡ []) × HasNoFrame c.items
  stale : c.known.is_idle ≡ true → Within c.begun c.present c.waiting
  fresh : c.known.is_idle ≡ true → c.is_asked ≡ true → (c.known.newest ≡ c.begun) ⊎ Line c.begun c.present c.reads c.items
  gone : c.is_emptied ≡ true → c.is_on ≡ false → c.waiting ≡ []

record Stays (len : ℕ → ℕ) (stream definition : ℕ) (c : Connection) : Type 0 where
  right : All (Right len) c.written
  holds : c.is_open ≡ true → Holds len stream definition c

-- the floor behind a drain
floor_cases : (e owes : Bool) (floor newest : ℕ) → floor ≤ newest
    → (option_map_or (max floor) (cond (e && not owes) (Some newest) None) floor ≡ floor)
    ⊎ ((e ≡ true) × (owes ≡ false) × (option_map_or (max floor) (cond (e && not owes) (Some newest) None) floor ≡ newest))
floor_cases true true floor newest l = inl refl
floor_cases true false floor newest l = inr (refl, refl, omega (arith, l))
floor_cases false owes floor newest l = inl refl

abbrev risen : Bool → KnownLayout → ℕ
risen e k = option_map_or (max k.floor) (cond (e && not k.owes_config) (Some k.newest) None) k.floor

record Raised (c : Connection) (floor : ℕ) : Type 0 where
  least : c.known.floor ≤ floor
  most : floor ≤ c.known.newest
  reads : floor ≤ reads_behind c.reads c.items
  waits : Within floor c.present c.waiting

raised_by : (len : ℕ → ℕ) (stream definition : ℕ) (c : Connection) (s : ServedOnce) → Holds len stream definition c → Serves c s
    → Raised c (risen s.is_emptied c.known)
raised_by len stream definition c s h serves =
    let ends = line_end c.known.floor c.present c.reads c.items h.line in
    elim (floor_cases s.is_emptied c.known.owes_config c.known.floor c.known.newest h.low) [
      | inl same ↦ subst (λ (n : ℕ). Raised c n) (sym same)
          (record { least = omega arith; most = h.low; reads = ends.0; waits = h.waits })
      | inr rose ↦ subst (λ (n : ℕ). Raised c n) (sym rose.2)
          (record {
            least = h.low;
            most = omega arith;
            reads = h.config rose.1;
            waits = within_more c.begun c.present c.known.newest c.present h.mid (omega arith) c.waiting (h.emptied (serves.emptied rose.0));
          })
    ]

-- what is written is read right, and what is known of the stream behind it goes on
record Known (len : ℕ → ℕ) (number defined : ℕ) (c : Connection) (k : KnownLayout) : Type 0 where
  stream : k.stream ≡ number
  definition : k.definition ≡ defined
  read : k.is_read ≡ true
  on : c.is_on ≡ k.is_started
  idle : k.is_idle ≡ true → (c.is_on ≡ false) × (c.waiting ≡ [])
  low : (settled k).floor ≤ k.newest
  high : k.newest ≤ c.present
  reads : (settled k).floor ≤ reads_behind c.reads c.items
  waits : Within (settled k).floor c.present c.waiting
  config : k.owes_config ≡ false → k.newest ≤ reads_behind c.reads c.items
  apart : Apart len (settled k).floor k.newest
  written : All (Right len) (readings c.reads c.items)

goes_on : (len : ℕ → ℕ) (stream definition : ℕ) (c : Connection) (k : KnownLayout) → All (Right len) c.written → Holds len stream definition c
    → Known len stream definition c k → Stays len stream definition (answered k c)
goes_on len stream definition c k right h known = record {
  right = All-append (Right len) c.written (readings c.reads c.items) right known.written;
  holds = λ is_on. record {
    stream = known.stream;
    definition = known.definition;
    read = known.read;
    on = known.on;
    low = known.low;
    mid = known.high;
    high = omega arith;
    line = (known.reads, (line_end c.known.floor c.present c.reads c.items h.line).1);
    waits = known.waits;
    config = known.config;
    asked = λ e. absurd (false≢true e);
    emptied = λ e. absurd (false≢true e);
    apart = known.apart;
    idle = λ e none. ((known.idle e).0, (known.idle e).1, tt);
    stale = λ e. subst (λ (ws : List ℕ). Within c.present c.present ws) (sym (known.idle e).1) tt;
    fresh = λ e asked. absurd (false≢true asked);
    gone = λ e. absurd (false≢true e);
  };
}

closes : (len : ℕ → ℕ) (stream definition : ℕ) (c : Connection) → All (Right len) c.written → Stays len stream definition (record c { is_open = false })
closes len stream definition c right = record { right = right; holds = λ e. absurd (false≢true e) }

-- ---- what its subscriber did

-- what is known of a stream behind what its subscriber did
record Noted (o : Option Bool) (configured e : Bool) (k : KnownLayout) (r t i w : Bool) : Type 0 where
  read : r ≡ true
  on : t ≡ on_by o k.is_started
  idle : i ≡ true → ((o ≡ None) × (k.is_idle ≡ true)) ⊎ ((e ≡ true) × (t ≡ false))
  config : w ≡ false → (k.owes_config ≡ false) ⊎ (configured ≡ true)

idle_cases : (i t e : Bool) → (i || (e && not t)) ≡ true → (i ≡ true) ⊎ ((e ≡ true) × (t ≡ false))
idle_cases i t e h = elim (or_cases i (e && not t) h) [
  | inl idle ↦ inl idle
  | inr off ↦ let parts = and_parts e (not t) off in inr (parts.0, not-true t parts.1)
]

idle_kept : (i t e : Bool) → (i || (e && not t)) ≡ true → (◌≡◌ {A = Option Bool} None None × (i ≡ true)) ⊎ ((e ≡ true) × (t ≡ false))
idle_kept i t e h = elim (idle_cases i t e h) [ inl idle ↦ inl (refl, idle) | inr off ↦ inr off ]

idle_anew : (b i t e : Bool) → (false || (e && not t)) ≡ true → ((Some b ≡ None) × (i ≡ true)) ⊎ ((e ≡ true) × (t ≡ false))
idle_anew b i t e h = elim (idle_cases false t e h) [ inl never ↦ absurd (false≢true never) | inr off ↦ inr off ]

noted_as : (P : KnownLayout → Type 0) (o : Option Bool) (c e : Bool) (k : KnownLayout) → k.is_read ≡ true
    → ((r t i u w : Bool) → Noted o c e k r t i w → P (commanded r t i u w k)) → P (idle_by e (configured_by c (switched_by o k)))
noted_as P None false e k read h =
    h k.is_read k.is_started (k.is_idle || (e && not k.is_started)) k.resumes k.owes_config
    (record { read = read; on = refl; idle = idle_kept k.is_idle k.is_started e; config = λ q. inl q })
noted_as P None true e k read h =
    h true k.is_started (k.is_idle || (e && not k.is_started)) k.resumes false
    (record { read = refl; on = refl; idle = idle_kept k.is_idle k.is_started e; config = λ q. inr refl })
noted_as P (Some b) false e k read h =
    h true b (false || (e && not b)) false k.owes_config
    (record { read = refl; on = refl; idle = idle_anew b k.is_idle b e; config = λ q. inl q })
noted_as P (Some b) true e k read h =
    h true b (false || (e && not b)) false false
    (record { read = refl; on = refl; idle = idle_anew b k.is_idle b e; config = λ q. inr refl })

abbrev NotedBy : Connection → ServedOnce → Bool → Bool → Bool → Bool → Type 0
NotedBy c s r t i w = Noted (find c.known.stream s.switched) (is_configured s c.known) s.is_emptied (drained s.is_emptied c.known) r t i w

still_on : (len : ℕ → ℕ) (stream definition : ℕ) (c : Connection) (s : ServedOnce) → Holds len stream definition c → Serves c s
    → (r t i w : Bool) → NotedBy c s r t i w → c.is_on ≡ t
still_on len stream definition c s h serves r t i w q =
    h.on ∙ (ap (λ (o : Option Bool). on_by o c.known.is_started) (sym serves.switched) ∙ sym q.on)

after_idle : (len : ℕ → ℕ) (stream definition : ℕ) (c : Connection) (s : ServedOnce) → Holds len stream definition c → Serves c s
    → (r t i w : Bool) → NotedBy c s r t i w → i ≡ true → (c.is_on ≡ false) × (c.waiting ≡ [])
after_idle len stream definition c s h serves r t i w q e = elim (q.idle e) [
  | inl was ↦ let before = h.idle was.1 (sym serves.switched ∙ was.0) in (before.0, before.1)
  | inr now ↦
      let off : c.is_on ≡ false = still_on len stream definition c s h serves r t i w q ∙ now.1 in
      (off, h.gone (serves.emptied now.0) off)
]

-- ---- the question

keep_is : (rule : OnChange) → is_keep rule ≡ true → rule ≡ Keep
keep_is Safe e = absurd (false≢true e)
keep_is HangUp e = absurd (false≢true e)
keep_is Keep e = refl

not_both : (b : Bool) → b ≡ true → b ≡ false → ⊥
not_both b t f = false≢true (sym f ∙ t)

none_of : (o : Option Bool) → not (is_some o) ≡ true → o ≡ None
none_of None e = refl
none_of (Some b) e = absurd (false≢true e)

anew_parts : (f : FoundStream) (s : ServedOnce) (rule : OnChange) (k : KnownLayout) → k.is_read ≡ true → reads_anew f s rule k ≡ true
    → (s.is_quiet ≡ true) × (is_configured s k ≡ true) × ((k.is_idle ≡ true) ⊎ ((s.is_emptied ≡ true) × ((is_at f k ≡ true) ⊎ (is_unlike f k ≡ true))))
anew_parts f s rule k read h =
    let one = and_parts s.is_quiet _ h in
    elim (or_cases (not k.is_read) _ one.1) [
      | inl unread ↦ absurd (false≢true (rw read at unread))
      | inr other ↦
          let two = and_parts (is_configured s k) _ other in
          elim (or_cases k.is_idle _ two.1) [
            | inl idle ↦ (one.0, two.0, inl idle)
            | inr more ↦
                let three = and_parts s.is_emptied _ more in
                elim (or_cases (is_at f k) _ three.1) [
                  | inl same ↦ (one.0, two.0, inr (three.0, inl same))
                  | inr unlike ↦ (one.0, two.0, inr (three.0, inr (and_parts (is_safe rule) (is_unlike f k) unlike).1))
                ]
          ]
    ]

none_right : (len : ℕ → ℕ) (reads : ℕ) (items : List Item) → HasNoFrame items → All (Right len) (readings reads items)
none_right len reads [] bare = All-nil (Right len)
none_right len reads (config m ∷ items) bare = none_right len m items bare
none_right len reads (frame m ∷ items) bare = absurd bare

wrote : (len : ℕ → ℕ) (stream definition : ℕ) (c : Connection) → Holds len stream definition c → Apart len c.known.floor c.present
    → All (Right len) (readings c.reads c.items)
wrote len stream definition c h apart = line_right len c.known.floor c.present apart c.reads c.items h.line

-- what is written behind a question that found the newest layout, or one up to which the window may grow
written_at : (len : Lengths) (stream definition : ℕ) (c : Connection) → Holds (len stream definition) stream definition c
    → c.known.newest ≡ c.present → Apart (len stream definition) c.known.floor c.present
written_at len stream definition c h same = subst (λ (n : ℕ). Apart (len stream definition) c.known.floor n) same h.apart

written_unlike : (len : Lengths) (stream definition : ℕ) (c : Connection) (f : FoundStream) → Holds (len stream definition) stream definition c
    → Finds len c f → is_unlike f c.known ≡ true → Apart (len stream definition) c.known.floor c.present
written_unlike len stream definition c f h finds unlike =
    let parts = unlike_parts f c.known unlike in
    let here : stream ≡ f.stream = sym (finds.stream ∙ h.stream) in
    let same : definition ≡ f.definition = sym (finds.definition ∙ h.definition) in
    let end : c.present ≡ f.layout = sym finds.layout in
    λ read sent a b p q e.
    grown_same len f c.known.floor read sent finds.right parts.2 a (subst (λ (n : ℕ). read ≤ n) end b) p (subst (λ (n : ℕ). sent ≤ n) end q)
    (subst (λ (n : ℕ). len n f.definition sent ≡ len n f.definition read) here
    (subst (λ (n : ℕ). len stream n sent ≡ len stream n read) same e))

-- the window stays as it was
same_stays : (len : Lengths) (stream definition : ℕ) (c : Connection) (s : ServedOnce) → All (Right (len stream definition)) c.written
    → Holds (len stream definition) stream definition c → Serves c s → All (Right (len stream definition)) (readings c.reads c.items) → (r t i u w : Bool)
    → NotedBy c s r t i w → Stays (len stream definition) stream definition (answered (commanded r t i u w (drained s.is_emptied c.known)) c)
same_stays len stream definition c s right h serves is_right r t i u w q =
    let raised = raised_by (len stream definition) stream definition c s h serves in
    goes_on (len stream definition) stream definition c (commanded r t i u w (drained s.is_emptied c.known)) right h (record {
      stream = h.stream;
      definition = h.definition;
      read = q.read;
      on = still_on (len stream definition) stream definition c s h serves r t i w q;
      idle = after_idle (len stream definition) stream definition c s h serves r t i w q;
      low = raised.most;
      high = omega (arith, h.mid, h.high);
      reads = raised.reads;
      waits = raised.waits;
      config = λ free. elim (q.config free) [
        | inl paid ↦ h.config paid
        | inr asked ↦ let later = h.asked (serves.configured asked) in let before = h.mid in omega (arith, later, before)
      ];
      apart = λ read sent a b p o e. h.apart read sent (omega (arith, a, raised.least)) b (omega (arith, p, raised.least)) o e;
      written = is_right;
    })

-- the window grows
grown_stays : (len : Lengths) (stream definition : ℕ) (c : Connection) (s : ServedOnce) (f : FoundStream) → All (Right (len stream definition)) c.written
    → Holds (len stream definition) stream definition c → Serves c s → Finds len c f → is_unlike f c.known ≡ true → (r t i u w : Bool)
    → NotedBy c s r t i w → Stays (len stream definition) stream definition (answered (grown_to f (commanded r t i u w (drained s.is_emptied c.known))) c)
grown_stays len stream definition c s f right h serves finds unlike r t i u w q =
    let raised = raised_by (len stream definition) stream definition c s h serves in
    let apart = written_unlike len stream definition c f h finds unlike in
    goes_on (len stream definition) stream definition c (grown_to f (commanded r t i u w (drained s.is_emptied c.known))) right h (record {
      stream = h.stream;
      definition = h.definition;
      read = q.read;
      on = still_on (len stream definition) stream definition c s h serves r t i w q;
      idle = after_idle (len stream definition) stream definition c s h serves r t i w q;
      low = omega (arith, raised.most, h.mid, h.high, finds.layout);
      high = omega (arith, finds.layout);
      reads = raised.reads;
      waits = raised.waits;
      config = λ free. absurd (false≢true (sym free));
      apart = λ read sent a b p o e.
          apart read sent (omega (arith, a, raised.least)) (omega (arith, b, finds.layout)) (omega (arith, p, raised.least)) (omega (arith, o, finds.layout)) e;
      written = wrote (len stream definition) stream definition c h apart;
    })

-- the window begins anew
begun_stays : (len : Lengths) (stream definition : ℕ) (c : Connection) (s : ServedOnce) (f : FoundStream) → All (Right (len stream definition)) c.written
    → Holds (len stream definition) stream definition c → Serves c s → Finds len c f → s.is_quiet ≡ true → is_configured s c.known ≡ true
    → Within c.begun c.present c.waiting → All (Right (len stream definition)) (readings c.reads c.items) → (r t i u w : Bool)
    → NotedBy c s r t i w → Stays (len stream definition) stream definition (answered (begun_at f (commanded r t i u w (drained s.is_emptied c.known))) c)
begun_stays len stream definition c s f right h serves finds quiet configured waits is_right r t i u w q =
    let still : c.begun ≡ c.present = serves.quiet quiet in
    let later : c.begun ≤ reads_behind c.reads c.items = h.asked (serves.configured configured) in
    goes_on (len stream definition) stream definition c (begun_at f (commanded r t i u w (drained s.is_emptied c.known))) right h (record {
      stream = h.stream;
      definition = finds.definition ∙ h.definition;
      read = q.read;
      on = still_on (len stream definition) stream definition c s h serves r t i w q;
      idle = after_idle (len stream definition) stream definition c s h serves r t i w q;
      low = omega arith;
      high = omega (arith, finds.layout);
      reads = omega (arith, finds.layout, still, later);
      waits = within_more c.begun c.present f.layout c.present (omega (arith, finds.layout, still)) (omega arith) c.waiting waits;
      config = λ free. omega (arith, finds.layout, still, later);
      apart = λ read sent a b p o e. omega (arith, a, b, p, o);
      written = is_right;
    })

anew_stays : (len : Lengths) (stream definition : ℕ) (c : Connection) (s : ServedOnce) (f : FoundStream) → All (Right (len stream definition)) c.written
    → Holds (len stream definition) stream definition c → Serves c s → Finds len c f → s.is_quiet ≡ true → is_configured s c.known ≡ true
    → (c.known.is_idle ≡ true) ⊎ ((s.is_emptied ≡ true) × ((is_at f c.known ≡ true) ⊎ (is_unlike f c.known ≡ true))) → (r t i u w : Bool)
    → NotedBy c s r t i w → Stays (len stream definition) stream definition (answered (begun_at f (commanded r t i u w (drained s.is_emptied c.known))) c)
anew_stays len stream definition c s f right h serves finds quiet configured how r t i u w q =
    let still : c.begun ≡ c.present = serves.quiet quiet in
    elim how [
      | inl idle ↦ begun_stays len stream definition c s f right h serves finds quiet configured (h.stale idle)
          (elim (h.fresh idle (serves.configured configured)) [
            | inl same ↦ wrote (len stream definition) stream definition c h (written_at len stream definition c h (same ∙ still))
            | inr line ↦ line_right (len stream definition) c.begun c.present (λ read sent a b p o e. omega (arith, still, a, b, p, o)) c.reads c.items line
          ])
          r t i u w q
      | inr more ↦ begun_stays len stream definition c s f right h serves finds quiet configured (h.emptied (serves.emptied more.0))
          (wrote (len stream definition) stream definition c h
          (elim more.1 [
            | inl same ↦ let ends = at_parts f c.known same in written_at len stream definition c h (ends.newest ∙ finds.layout)
            | inr unlike ↦ written_unlike len stream definition c f h finds unlike
          ]))
          r t i u w q
    ]

-- it is off, and is let alone
off_right : (len : Lengths) (stream definition : ℕ) (c : Connection) (s : ServedOnce) (f : FoundStream) → Holds (len stream definition) stream definition c
    → Serves c s → Finds len c f → (was_idle s c.known || is_unlike f c.known) ≡ true → All (Right (len stream definition)) (readings c.reads c.items)
off_right len stream definition c s f h serves finds e =
    elim (or_cases (was_idle s c.known) (is_unlike f c.known) e) [
      | inl was ↦
          let parts = and_parts c.known.is_idle _ was in
          none_right (len stream definition) c.reads c.items (h.idle parts.0 (sym serves.switched ∙ none_of (find c.known.stream s.switched) parts.1)).2
      | inr unlike ↦ wrote (len stream definition) stream definition c h (written_unlike len stream definition c f h finds unlike)
    ]

question_stays : (len : Lengths) (stream definition : ℕ) (c : Connection) (f : FoundStream) (s : ServedOnce) (rule : OnChange)
    → All (Right (len stream definition)) c.written → Holds (len stream definition) stream definition c → Serves c s → Finds len c f → rule ≢ Keep
    → Stays (len stream definition) stream definition (by_verdict c (judged f s rule (drained s.is_emptied c.known)))
question_stays len stream definition c f s rule right h serves finds other =
    let d : KnownLayout = drained s.is_emptied c.known in
    let begins : Bool = is_keep rule || reads_anew f s rule d in
    let S : Connection → Type 0 = λ n. Stays (len stream definition) stream definition n in
    noted_as (λ n. S (by_verdict c (judged_noted f s rule begins (was_idle s d) n))) (find c.known.stream s.switched) (is_configured s c.known) s.is_emptied d
    h.read
    (λ r t i u w q.
    let n : KnownLayout = commanded r t i u w d in
    cond_both (begins || not r) _ _ (λ (v : KnownLayout × Verdict). S (by_verdict c v))
    (λ e. elim (or_cases begins (not r) e) [
      | inr unread ↦ absurd (false≢true (rw q.read at unread))
      | inl anew ↦ elim (or_cases (is_keep rule) (reads_anew f s rule d) anew) [
        | inl keep ↦ absurd (other (keep_is rule keep))
        | inr reads ↦
            let parts = anew_parts f s rule d h.read reads in
            anew_stays len stream definition c s f right h serves finds parts.0 parts.1 parts.2 r t i u w q
      ]
    ])
    (λ e. cond_both (is_at f n) _ _ (λ (v : KnownLayout × Verdict). S (by_verdict c v))
    (λ at. let ends = at_parts f c.known at in
    same_stays len stream definition c s right h serves
    (wrote (len stream definition) stream definition c h (written_at len stream definition c h (ends.newest ∙ finds.layout))) r t i u w q)
    (λ changed. cond_both (f.is_on || is_configured s n) _ _ (λ (v : KnownLayout × Verdict). S (by_verdict c v))
    (λ on. cond_both (is_safe rule && is_unlike f n) _ _ (λ (v : KnownLayout × Verdict). S (by_verdict c v))
    (λ grows. grown_stays len stream definition c s f right h serves finds (and_parts (is_safe rule) (is_unlike f n) grows).1 r t i u w q)
    (λ refused. closes (len stream definition) stream definition c right))
    (λ off. cond_both (eqb n.definition f.definition) _ _ (λ (v : KnownLayout × Verdict). S (by_verdict c v))
    (λ same. cond_both (was_idle s d || is_unlike f n) AskAgain Disconnect (λ (v : Verdict). S (by_verdict c (n, v)))
    (λ safe. same_stays len stream definition c s right h serves (off_right len stream definition c s f h serves finds safe) r t i u w q)
    (λ refused. closes (len stream definition) stream definition c right))
    (λ anew. absurd (eqb-false c.known.definition f.definition anew (sym finds.definition)))))))

pass_stays : (len : Lengths) (stream definition : ℕ) (c : Connection) (s : ServedOnce) → All (Right (len stream definition)) c.written
    → Holds (len stream definition) stream definition c → Serves c s → c.present ≡ c.known.newest
    → Stays (len stream definition) stream definition (answered (noted s (drained s.is_emptied c.known)) c)
pass_stays len stream definition c s right h serves same =
    noted_as (λ n. Stays (len stream definition) stream definition (answered n c)) (find c.known.stream s.switched) (is_configured s c.known) s.is_emptied
    (drained s.is_emptied c.known) h.read
    (λ r t i u w q.
    same_stays len stream definition c s right h serves
    (wrote (len stream definition) stream definition c h (written_at len stream definition c h (sym same))) r t i u w q)

-- ---- items, once more

line_fresh : (low high n : ℕ) → low ≤ n → n ≤ high → (reads : ℕ) (items : List Item) → HasNoFrame items → Line low high reads (items ++ (config n ∷ []))
line_fresh low high n a b reads [] bare = (a, b)
line_fresh low high n a b reads (config m ∷ items) bare = line_fresh low high n a b m items bare
line_fresh low high n a b reads (frame m ∷ items) bare = absurd bare

none_config : (n : ℕ) (items : List Item) → HasNoFrame items → HasNoFrame (items ++ (config n ∷ []))
none_config n [] bare = tt
none_config n (config m ∷ items) bare = none_config n items bare
none_config n (frame m ∷ items) bare = absurd bare

none_taken : (n : ℕ) → HasNoFrame (map frame (take n []))
none_taken zero = tt
none_taken (suc n) = tt

none_frames : (n : ℕ) (items : List Item) → HasNoFrame items → HasNoFrame (items ++ map frame (take n []))
none_frames n [] bare = none_taken n
none_frames n (config m ∷ items) bare = none_frames n items bare
none_frames n (frame m ∷ items) bare = absurd bare

none_left : (n : ℕ) (ns : List ℕ) → length ns ≤ n → drop n ns ≡ []
none_left zero [] l = refl
none_left zero (m ∷ ns) l = absurd (omega (arith, l))
none_left (suc n) [] l = refl
none_left (suc n) (m ∷ ns) l = none_left n ns (omega (arith, l))

some_none : (b : Bool) → Some b ≡ None → ⊥
some_none b e = cc

-- ---- the other steps

change_stays : (len : ℕ → ℕ) (stream definition : ℕ) (c : Connection) → Holds len stream definition c → Holds len stream definition (stepped change c)
change_stays len stream definition c h = record {
  stream = h.stream;
  definition = h.definition;
  read = h.read;
  on = h.on;
  low = h.low;
  mid = h.mid;
  high = omega (arith, h.high);
  line = line_more c.known.floor c.present (c.present + 1) (omega arith) c.reads c.items h.line;
  waits = within_more c.known.floor c.present c.known.floor (c.present + 1) (omega arith) (omega arith) c.waiting h.waits;
  config = h.config;
  asked = h.asked;
  emptied = λ e. within_more c.begun c.present c.begun (c.present + 1) (omega arith) (omega arith) c.waiting (h.emptied e);
  apart = h.apart;
  idle = h.idle;
  stale = λ e. within_more c.begun c.present c.begun (c.present + 1) (omega arith) (omega arith) c.waiting (h.stale e);
  fresh = λ e asked. elim (h.fresh e asked) [
    | inl same ↦ inl same
    | inr line ↦ inr (line_more c.begun c.present (c.present + 1) (omega arith) c.reads c.items line)
  ];
  gone = h.gone;
}

make_stays : (len : ℕ → ℕ) (stream definition : ℕ) (c : Connection) → c.is_on ≡ true → Holds len stream definition c → Holds len stream definition (stepped make c)
make_stays len stream definition c is_on h = record {
  stream = h.stream;
  definition = h.definition;
  read = h.read;
  on = h.on;
  low = h.low;
  mid = h.mid;
  high = h.high;
  line = h.line;
  waits = within_push c.known.floor c.present c.present (omega (arith, h.low, h.mid, h.high)) (omega arith) c.waiting h.waits;
  config = h.config;
  asked = h.asked;
  emptied = λ e. within_push c.begun c.present c.present h.high (omega arith) c.waiting (h.emptied e);
  apart = h.apart;
  idle = λ e none. absurd (not_both c.is_on is_on (h.idle e none).0);
  stale = λ e. within_push c.begun c.present c.present h.high (omega arith) c.waiting (h.stale e);
  fresh = h.fresh;
  gone = λ e off. absurd (not_both c.is_on is_on off);
}

ask_stays : (len : ℕ → ℕ) (stream definition : ℕ) (c : Connection) → (c.known.newest ≡ c.begun) ⊎ HasNoFrame c.items → Holds len stream definition c
    → Holds len stream definition (stepped ask c)
ask_stays len stream definition c may h =
    let behind : reads_behind c.reads (c.items ++ (config c.present ∷ [])) ≡ c.present = behind_config c.present c.reads c.items in
    record {
      stream = h.stream;
      definition = h.definition;
      read = h.read;
      on = h.on;
      low = h.low;
      mid = h.mid;
      high = h.high;
      line = line_config c.known.floor c.present c.present (omega (arith, h.low, h.mid, h.high)) (omega arith) c.reads c.items h.line;
      waits = h.waits;
      config = λ e. omega (arith, behind, h.mid, h.high);
      asked = λ e. omega (arith, behind, h.high);
      emptied = h.emptied;
      apart = h.apart;
      idle = λ e none. let was = h.idle e none in (was.0, was.1, none_config c.present c.items was.2);
      stale = h.stale;
      fresh = λ e asked. elim may [
        | inl same ↦ inl same
        | inr bare ↦ inr (line_fresh c.begun c.present c.present h.high (omega arith) c.reads c.items bare)
      ];
      gone = h.gone;
    }

pay_stays : (len : ℕ → ℕ) (stream definition : ℕ) (c : Connection) → Holds len stream definition c → Holds len stream definition (stepped pay c)
pay_stays len stream definition c h =
    let behind : reads_behind c.reads (c.items ++ (config c.present ∷ [])) ≡ c.present = behind_config c.present c.reads c.items in
    record {
      stream = h.stream;
      definition = h.definition;
      read = h.read;
      on = h.on;
      low = h.low;
      mid = h.mid;
      high = h.high;
      line = line_config c.known.floor c.present c.present (omega (arith, h.low, h.mid, h.high)) (omega arith) c.reads c.items h.line;
      waits = h.waits;
      config = λ e. omega (arith, behind, h.mid, h.high);
      asked = λ e. omega (arith, behind, h.high);
      emptied = h.emptied;
      apart = h.apart;
      idle = λ e none. let was = h.idle e none in (was.0, was.1, none_config c.present c.items was.2);
      stale = h.stale;
      fresh = λ e asked. elim (h.fresh e asked) [
        | inl same ↦ inl same
        | inr line ↦ inr (line_config c.begun c.present c.present h.high (omega arith) c.reads c.items line)
      ];
      gone = h.gone;
    }

switch_stays : (len : ℕ → ℕ) (stream definition : ℕ) (b : Bool) (c : Connection) → Holds len stream definition c → Holds len stream definition (stepped (switch b) c)
switch_stays len stream definition b c h = record {
  stream = h.stream;
  definition = h.definition;
  read = h.read;
  on = refl;
  low = h.low;
  mid = h.mid;
  high = h.high;
  line = h.line;
  waits = h.waits;
  config = h.config;
  asked = h.asked;
  emptied = λ e. absurd (false≢true e);
  apart = h.apart;
  idle = λ e none. absurd (some_none b none);
  stale = h.stale;
  fresh = h.fresh;
  gone = λ e. absurd (false≢true e);
}

drain_stays : (len : ℕ → ℕ) (stream definition n : ℕ) (c : Connection) → Holds len stream definition c → Holds len stream definition (stepped (drain n) c)
drain_stays len stream definition n c h =
    let behind = behind_frames (take n c.waiting) c.reads c.items in
    record {
      stream = h.stream;
      definition = h.definition;
      read = h.read;
      on = h.on;
      low = h.low;
      mid = h.mid;
      high = h.high;
      line = line_frames c.known.floor c.present (take n c.waiting) (within_take c.known.floor c.present n c.waiting h.waits) c.reads c.items h.line;
      waits = within_drop c.known.floor c.present n c.waiting h.waits;
      config = λ e. rw behind (h.config e);
      asked = λ e. rw behind (h.asked e);
      emptied = λ e. within_none c.begun c.present n c.waiting (leb-true (length c.waiting) n e);
      apart = h.apart;
      idle = λ e none.
          let was = h.idle e none in (
            was.0,
            subst (λ (ws : List ℕ). drop n ws ≡ []) (sym was.1) (none_left n [] (omega arith)),
            subst (λ (ws : List ℕ). HasNoFrame (c.items ++ map frame (take n ws))) (sym was.1) (none_frames n c.items was.2),
          );
      stale = λ e. within_drop c.begun c.present n c.waiting (h.stale e);
      fresh = λ e asked. elim (h.fresh e asked) [
        | inl same ↦ inl same
        | inr line ↦ inr (line_frames c.begun c.present (take n c.waiting) (within_take c.begun c.present n c.waiting (h.stale e)) c.reads c.items line)
      ];
      gone = λ e off. none_left n c.waiting (leb-true (length c.waiting) n e);
    }

-- ---- whole runs

step_stays : (len : Lengths) (stream definition : ℕ) (c : Connection) (step : Step) → c.is_open ≡ true → May len c step → All (Right (len stream definition)) c.written
    → Holds (len stream definition) stream definition c → Stays (len stream definition) stream definition (stepped step c)
step_stays len stream definition c change is_on may right h = record { right = right; holds = λ e. change_stays (len stream definition) stream definition c h }
step_stays len stream definition c make is_on may right h = record { right = right; holds = λ e. make_stays (len stream definition) stream definition c may h }
step_stays len stream definition c ask is_on may right h = record { right = right; holds = λ e. ask_stays (len stream definition) stream definition c may h }
step_stays len stream definition c pay is_on may right h = record { right = right; holds = λ e. pay_stays (len stream definition) stream definition c h }
step_stays len stream definition c (switch b) is_on may right h = record { right = right; holds = λ e. switch_stays (len stream definition) stream definition b c h }
step_stays len stream definition c (drain n) is_on may right h = record { right = right; holds = λ e. drain_stays (len stream definition) stream definition n c h }
step_stays len stream definition c (question f s rule) is_on may right h = question_stays len stream definition c f s rule right h may.0 may.1 may.2
step_stays len stream definition c (pass s) is_on may right h = pass_stays len stream definition c s right h may.0 may.1

one_stays : (len : Lengths) (stream definition : ℕ) (c : Connection) (step : Step) (b : Bool) → c.is_open ≡ b → May len c step
    → Stays (len stream definition) stream definition c → Stays (len stream definition) stream definition (cond b (stepped step c) c)
one_stays len stream definition c step true is_on may stays = step_stays len stream definition c step is_on may stays.right (stays.holds is_on)
one_stays len stream definition c step false is_on may stays = stays

run_stays : (len : Lengths) (stream definition : ℕ) (c : Connection) (steps : List Step) → MayAll len c steps
    → Stays (len stream definition) stream definition c → Stays (len stream definition) stream definition (run c steps)
run_stays len stream definition c [] may stays = stays
run_stays len stream definition c (step ∷ steps) may stays =
    run_stays len stream definition (cond c.is_open (stepped step c) c) steps may.1 (one_stays len stream definition c step c.is_open refl may.0 stays)

start_stays : (len : Lengths) (k : KnownLayout) (f : FoundStream) → Stays (len k.stream f.definition) k.stream f.definition (started k f)
start_stays len k f = record {
  right = All-nil (Right (len k.stream f.definition));
  holds = λ is_on. record {
    stream = refl;
    definition = refl;
    read = refl;
    on = refl;
    low = omega arith;
    mid = omega arith;
    high = omega arith;
    line = (omega arith, omega arith);
    waits = tt;
    config = λ e. omega arith;
    asked = λ e. omega arith;
    emptied = λ e. tt;
    apart = λ read sent a b p o e. omega (arith, a, b, p, o);
    idle = λ e. absurd (false≢true e);
    stale = λ e. absurd (false≢true e);
    fresh = λ e. absurd (false≢true e);
    gone = λ e off. refl;
  };
}

pub read_right : (len : Lengths) (k : KnownLayout) (f : FoundStream) (steps : List Step) → MayAll len (started k f) steps
    → All (IsReadRight len (started k f).known) (run (started k f) steps).written
read_right len k f steps may = (run_stays len k.stream f.definition (started k f) steps may (start_stays len k f)).right
