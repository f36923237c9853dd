-- Why the reader of a connection takes no data frame for one of another layout, whatever happens.
use Rattle.std.specs.Prelude.{◌≡◌, ◌≢◌, ◌⊎◌, ℕ, ◌-◌, ◌<◌, ◌≤◌, max, nat_le, Bool, true, false, ◌&&◌, not, if◌then◌else◌, List, [], ◌∷◌, length, slice_index, map, Option, Some, None}
use Rattle.std.specs.Option.{option_map_or}
use Rattle.std.specs.List.{All}
use Rattle.pg_limits.specs.Connections.{Known, changed, judged_all, judged_in, none}
use Rattle.pg_limits.specs.Windows.{drained, is_at, is_unlike, judged, noted, resumed, resuming, settled}
use Rattle.pg_limits.specs.declared.layouts.OnChange.{OnChange}
use Rattle.pg_limits.specs.declared.layouts.OnChange.TheVariants.{Safe, Keep}
use Rattle.pg_limits.specs.declared.known_layout.FoundStream.{FoundStream}
use Rattle.pg_limits.specs.declared.known_layout.KnownLayout.{KnownLayout}
use Rattle.pg_limits.specs.declared.known_layout.ServedOnce.{ServedOnce}
use Rattle.pg_limits.specs.declared.known_layout.Verdict.{Verdict}
use Rattle.pg_limits.specs.declared.known_layout.Verdict.TheVariants.{Nothing, AskAgain, SendConfig, Disconnect}

-- the bytes of a data frame of each layout of one stream, by the number of its definition and by that of the layout; of each stream
abbrev pub Lengths : Type 0
Lengths = ℕ → ℕ → ℕ → ℕ

-- what is found of a stream tells the lengths of its last layouts
abbrev pub IsRight : Lengths → FoundStream → Type 0
IsRight len f = (back : ℕ) → back < length f.lengths → back ≤ f.layout → slice_index f.lengths back ≡ len f.stream f.definition (f.layout - back)

abbrev pub AreRight : Lengths → List (Option FoundStream) → Type 0
AreRight len [] = Unit {0}
AreRight len (None ∷ found) = AreRight len found
AreRight len (Some f ∷ found) = IsRight len f × AreRight len found

-- a layout of the window
abbrev pub IsInWindow : KnownLayout → ℕ → Type 0
IsInWindow k layout = (k.floor ≤ layout) × (layout ≤ k.newest)

-- A reader that goes by the CFG-2 of one layout takes a data frame that is as long as those of that layout for one of it. Of a safe window it
-- takes no frame of another layout for one of that.
pub record IsSafe (len : Lengths) (k : KnownLayout) : Type 0 where
  pub same : (read sent : ℕ) → IsInWindow k read → IsInWindow k sent → len k.stream k.definition sent ≡ len k.stream k.definition read → sent ≡ read

-- ---- what happens in a connection, one call after another

pub data Act : Type 0 where
  judge : FoundStream → ServedOnce → OnChange → Act
  judge_all : List (Option FoundStream) → ServedOnce → OnChange → Act
  note : ServedOnce → Act
  drain : Bool → Act
  settle : Act
  pay : ℕ → Act
  resume : ℕ → Act
  give_up : ℕ → Act
  go_on : FoundStream → Act

abbrev pub after_one : Act → Known → Known
after_one (judge f s rule) ks = (judged_in f s rule ks).0
after_one (judge_all found s rule) ks = (judged_all found s rule ks).0
after_one (note s) ks = map (noted s) ks
after_one (drain is_emptied) ks = map (drained is_emptied) ks
after_one settle ks = map settled ks
after_one (pay stream) ks = changed stream (λ k. record k { owes_config = false }) ks
after_one (resume stream) ks = changed stream resuming ks
after_one (give_up stream) ks = changed stream (λ k. record k { resumes = false }) ks
after_one (go_on f) ks = changed f.stream (resumed f) ks

abbrev pub after : List Act → Known → Known
after [] ks = ks
after (act ∷ acts) ks = after acts (after_one act ks)

abbrev pub IsRightAct : Lengths → Act → Type 0
IsRightAct len (judge f s rule) = IsRight len f
IsRightAct len (judge_all found s rule) = AreRight len found
IsRightAct len (note s) = Unit {0}
IsRightAct len (drain is_emptied) = Unit {0}
IsRightAct len settle = Unit {0}
IsRightAct len (pay stream) = Unit {0}
IsRightAct len (resume stream) = Unit {0}
IsRightAct len (give_up stream) = Unit {0}
IsRightAct len (go_on f) = IsRight len f

abbrev pub AreRightActs : Lengths → List Act → Type 0
AreRightActs len [] = Unit {0}
AreRightActs len (act ∷ acts) = IsRightAct len act × AreRightActs len acts

-- In a new connection, whatever is found, commanded and drained, by whatever rule: the window of each stream is safe.
abbrev pub NeverMisread : Type 0
NeverMisread = (len : Lengths) (acts : List Act) → AreRightActs len acts → All (IsSafe len) (after acts none)

-- ---- what a verdict says of the window

-- it is as it was
pub record HasStayed (k after : KnownLayout) : Type 0 where
  pub definition : after.definition ≡ k.definition
  pub floor : after.floor ≡ k.floor
  pub newest : after.newest ≡ k.newest

-- it ends at the layout that was found
pub record EndsAt (f : FoundStream) (after : KnownLayout) : Type 0 where
  pub definition : after.definition ≡ f.definition
  pub newest : after.newest ≡ f.layout

-- it begins anew: it is the layout that was found alone, whose CFG-2 its reader needs no more
pub record HasBegun (f : FoundStream) (after : KnownLayout) : Type 0 where
  pub at : EndsAt f after
  pub floor : after.floor ≡ f.layout
  pub config : after.owes_config ≡ false

-- it grows up to the layout that was found, whose CFG-2 is owed
pub record HasGrown (f : FoundStream) (k after : KnownLayout) : Type 0 where
  pub at : EndsAt f after
  pub same : after.definition ≡ k.definition
  pub floor : after.floor ≡ k.floor
  pub config : after.owes_config ≡ true
  pub unlike : is_unlike f k ≡ true

-- A CFG-2 is sent where the window grows, and nowhere else, by the rule Safe alone. A connection is closed only where the window does not end at the
-- layout that was found, and could not grow up to it by that rule. It is let go on in neither way only while the stream is off.
abbrev pub WindowAfter : FoundStream → OnChange → KnownLayout → Verdict → KnownLayout → Type 0
WindowAfter f rule k Nothing after = HasBegun f after ⊎ (HasStayed k after × EndsAt f after)
WindowAfter f rule k SendConfig after = HasGrown f k after × (rule ≡ Safe) × (is_at f k ≡ false)
WindowAfter f rule k AskAgain after = HasStayed k after × (f.is_on ≡ false)
WindowAfter f rule k Disconnect after = HasStayed k after × (is_at f k ≡ false) × ((rule ≡ Safe → is_unlike f k ≡ true → ⊥) × (rule ≢ Keep))

abbrev pub VerdictsKeepTheWindow : Type 0
VerdictsKeepTheWindow = (f : FoundStream) (s : ServedOnce) (rule : OnChange) (k : KnownLayout) → WindowAfter f rule k (judged f s rule k).1 (judged f s rule k).0

-- ---- the other rules

-- the window is one layout, and stays one where its floor rises
pub record IsOne (k : KnownLayout) : Type 0 where
  pub window : k.floor ≡ k.newest
  pub next : option_map_or (λ next. nat_le next k.newest) k.next_floor true ≡ true

abbrev pub IsNotSafe : Act → Type 0
IsNotSafe (judge f s rule) = rule ≢ Safe
IsNotSafe (judge_all found s rule) = rule ≢ Safe
IsNotSafe (note s) = Unit {0}
IsNotSafe (drain is_emptied) = Unit {0}
IsNotSafe settle = Unit {0}
IsNotSafe (pay stream) = Unit {0}
IsNotSafe (resume stream) = Unit {0}
IsNotSafe (give_up stream) = Unit {0}
IsNotSafe (go_on f) = Unit {0}

abbrev pub AreNotSafe : List Act → Type 0
AreNotSafe [] = Unit {0}
AreNotSafe (act ∷ acts) = IsNotSafe act × AreNotSafe acts

-- By the rules HangUp and Keep no window ever has two layouts.
abbrev pub OneLayout : Type 0
OneLayout = (acts : List Act) → AreNotSafe acts → All IsOne (after acts none)

-- ---- where the floor rises

-- What a drain handed out is judged before the floor rises, and it rises no further than to what was the newest layout at the drain; unless the
-- window begins anew.
abbrev pub FloorRises : Type 0
FloorRises = (f : FoundStream) (s : ServedOnce) (rule : OnChange) (k : KnownLayout) (is_emptied : Bool)
    → HasBegun f (settled (judged f s rule (drained is_emptied k)).0)
    ⊎ ((settled (judged f s rule (drained is_emptied k)).0).floor ≡ (if is_emptied && not k.owes_config then max k.floor k.newest else k.floor))
