-- CFG-1 lists of configurations that their readers checked: where the effective blocks of a stream stay, so do their lengths.
use Rattle.std.proofs.Common.{◌≡◌, ℕ, zero, suc, ◌+◌, ◌-◌, ◌*◌, ◌<◌, List, [], ◌∷◌, length, get_or, slice_get, Bool, true, false, cond, not, if◌then◌else◌, IsTrue, Option, Some, None, IfSome, option_map, refl, sym, ap, ap₂, ◌∙◌, subst, arith}
use Rattle.std.specs.List.{AllByRecursion, cons_option}
use Rattle.std.proofs.lemmas.List.{get_or-take}
use Rattle.std.proofs.lemmas.List.Elements.{All-head, All-tail}
use Rattle.std.specs.Prelude.{All}
use Rattle.pg_wire.specs.declared.ids.PmuKey.{PmuKey}
use Rattle.pg_wire.specs.Keys.{key_eq, key_before}
use Rattle.pg_wire.specs.Head.{two_at}
use Rattle.pg_config.specs.Parts.{Part, IsPart, data_len, data_lens}
use Rattle.pg_config.specs.Writing.{uncounted}
use Rattle.pg_data.specs.Pieces.{Piece}
use Rattle.pg_outcfg.specs.Frames.{effective_of}
use Rattle.pg_outcfg.specs.Listing.{Listing, config_at, with_config, without_config}
use Rattle.pg_session.specs.Counts.{uncounted_at}
use Rattle.pg_session.specs.Events.{Announcing}
use Rattle.pg_session.specs.Private.{put_all, put_first}
use Rattle.pg_session.specs.Shape.{same_shape}
use Rattle.pg_session.specs.Streams.{frame_len}
use Rattle.pg_session.proofs.Counting.{shape-there}
use Rattle.pg_laws.specs.Lengths.{IsChecked}
use Rattle.pg_laws.proofs.Blocks.{IsLong, part_of}

-- each configuration of the list was checked
abbrev pub AreChecked : Listing → Type 0
AreChecked listed = AllByRecursion (λ e. IsPart e.1) listed

checked_at : (listed : Listing) (key : PmuKey) (part : Part) → AreChecked listed → config_at listed key ≡ Some part → IsPart part
checked_at [] key part w e = absurd (cc e)
checked_at (x ∷ xs) key part w e = by (key_eq key x.0) e (checked_at xs key part w.1)
  where
    by : (b : Bool) → cond b (Some x.1) (config_at xs key) ≡ Some part → (config_at xs key ≡ Some part → IsPart part) → IsPart part
    by true found rest = subst IsPart (let same : x.1 ≡ part = cc found in same) w.0
    by false found rest = rest found

-- ---- what an event makes of a list

pub checked-with : (listed : Listing) (key : PmuKey) (part : Part) → IsPart part → AreChecked listed → AreChecked (with_config listed key part)
checked-with [] key part is w = (is, tt)
checked-with (e ∷ es) key part is w = by (key_eq key e.0) (key_before key e.0) (checked-with es key part is w.1)
  where
    by : (a b : Bool) → AreChecked (with_config es key part)
        → AreChecked (if a then (key, part) ∷ es else (if b then (key, part) ∷ e ∷ es else e ∷ with_config es key part))
    by true b rest = (is, w.1)
    by false true rest = (is, w)
    by false false rest = (w.0, rest)

pub checked-without : (listed : Listing) (key : PmuKey) → AreChecked listed → AreChecked (without_config listed key)
checked-without [] key w = tt
checked-without (e ∷ es) key w = by (not (key_eq key e.0)) (checked-without es key w.1)
  where
    by : (b : Bool) → AreChecked (without_config es key) → AreChecked (if b then e ∷ without_config es key else without_config es key)
    by true rest = (w.0, rest)
    by false rest = rest

pub checked-all : (listed : Listing) (list : List Announcing) → AllByRecursion IsChecked list → AreChecked listed → AreChecked (put_all listed list)
checked-all listed [] are w = w
checked-all listed (a ∷ list) are w = checked-with (put_all listed list) a.key a.config are.0 (checked-all listed list are.1 w)

pub checked-first : (listed : Listing) (key : PmuKey) (config : Option Part) → IfSome config IsPart → AreChecked listed → AreChecked (put_first listed key config)
checked-first listed key None is w = w
checked-first listed key (Some config) is w = checked-with listed key config is w

-- ---- blocks that differ in CFGCNT alone

-- a byte before CFGCNT
byte_at : (p : Part) (i : ℕ) → IsPart p → i < 28 → get_or p.block i 0 ≡ get_or (uncounted p) i 0
byte_at p i is lt = sym (get_or-take (length p.block - 2) p.block i 0 (omega (arith, lt, is.block.size)))

two_same : (p q : Part) (i : ℕ) → IsPart p → IsPart q → i < 27 → uncounted p ≡ uncounted q → two_at p.block i ≡ two_at q.block i
two_same p q i is_p is_q lt e =
    let one = byte_at p i is_p (omega (arith, lt)) ∙ ap (λ xs. get_or xs i 0) e ∙ sym (byte_at q i is_q (omega (arith, lt))) in
    let next = byte_at p (i + 1) is_p (omega (arith, lt)) ∙ ap (λ xs. get_or xs (i + 1) 0) e ∙ sym (byte_at q (i + 1) is_q (omega (arith, lt))) in
    ap₂ (λ a b. 256 * a + b) one next

len_same : (p q : Part) → IsPart p → IsPart q → uncounted p ≡ uncounted q → data_len p ≡ data_len q
len_same p q is_p is_q e =
    let phasors : p.phasors ≡ q.phasors =
    sym (ap (λ (x : Part). x.phasors) is_p.counts) ∙ two_same p q 20 is_p is_q (omega arith) e ∙ ap (λ (x : Part). x.phasors) is_q.counts in
    let analogs : p.analogs ≡ q.analogs =
    sym (ap (λ (x : Part). x.analogs) is_p.counts) ∙ two_same p q 22 is_p is_q (omega arith) e ∙ ap (λ (x : Part). x.analogs) is_q.counts in
    let digitals : p.digitals ≡ q.digitals =
    sym (ap (λ (x : Part). x.digitals) is_p.counts) ∙ two_same p q 24 is_p is_q (omega arith) e ∙ ap (λ (x : Part). x.digitals) is_q.counts in
    omega (arith, phasors, analogs, digitals)

lens_same : (a b : Option Part) → ((p : Part) → a ≡ Some p → IsPart p) → ((q : Part) → b ≡ Some q → IsPart q)
    → option_map uncounted a ≡ option_map uncounted b → option_map data_len a ≡ option_map data_len b
lens_same None None u v e = refl
lens_same None (Some q) u v e = absurd (cc e)
lens_same (Some p) None u v e = absurd (cc e)
lens_same (Some p) (Some q) u v e = ap Some (len_same p q (u p refl) (v q refl) (let same : uncounted p ≡ uncounted q = cc e in same))

-- ---- a shape that stays

-- each member's blocks are as long by one list as by the other
abbrev pub SameLens : Listing → Listing → List PmuKey → Type 0
SameLens listed other members = AllByRecursion (λ key. option_map data_len (config_at listed key) ≡ option_map data_len (config_at other key)) members

each_same : (members : List PmuKey) (listed other : Listing) → AreChecked listed → AreChecked other
    → All (λ key. uncounted_at listed key ≡ uncounted_at other key) members → SameLens listed other members
each_same [] listed other w v h = tt
each_same (key ∷ members) listed other w v h = (
  lens_same (config_at listed key) (config_at other key) (λ p e. checked_at listed key p w e) (λ q e. checked_at other key q v e)
      (All-head (λ k. uncounted_at listed k ≡ uncounted_at other k) key members h),
  each_same members listed other w v (All-tail (λ k. uncounted_at listed k ≡ uncounted_at other k) key members h),
)

pub lens-same : (members : List PmuKey) (listed other : Listing) → AreChecked listed → AreChecked other → IsTrue (same_shape members listed other)
    → SameLens listed other members
lens-same members listed other w v h = each_same members listed other w v (shape-there members listed other h)

sum_same : (members : List PmuKey) (listed other : Listing) → SameLens listed other members
    → data_lens (effective_of listed members) ≡ data_lens (effective_of other members)
sum_same [] listed other same = refl
sum_same (key ∷ members) listed other same = by (config_at listed key) (config_at other key) same.0 (sum_same members listed other same.1)
  where
    by : (a b : Option Part) → option_map data_len a ≡ option_map data_len b
        → data_lens (effective_of listed members) ≡ data_lens (effective_of other members)
        → data_lens (cons_option a (effective_of listed members)) ≡ data_lens (cons_option b (effective_of other members))
    by None None e rest = rest
    by None (Some q) e rest = absurd (cc e)
    by (Some p) None e rest = absurd (cc e)
    by (Some p) (Some q) e rest = ap₂ (λ m n. m + n) (let same : data_len p ≡ data_len q = cc e in same) rest

pub frame-same : (members : List PmuKey) (listed other : Listing) → SameLens listed other members → frame_len listed members ≡ frame_len other members
frame-same members listed other same = ap (λ n. 16 + n) (sum_same members listed other same)

long_same : (a b : Option Part) (piece : Option Piece) → option_map data_len a ≡ option_map data_len b → IsLong a piece → IsLong b piece
long_same a b None e is = tt
long_same None None (Some piece) e is = tt
long_same None (Some q) (Some piece) e is = absurd (cc e)
long_same (Some p) None (Some piece) e is = tt
long_same (Some p) (Some q) (Some piece) e is = is ∙ (let same : data_len p ≡ data_len q = cc e in same)

pub long-same : (members : List PmuKey) (listed other : Listing) (k : ℕ) (piece : Option Piece) → SameLens listed other members
    → IsLong (part_of listed (slice_get members k)) piece → IsLong (part_of other (slice_get members k)) piece
long-same [] listed other k None same is = tt
long-same [] listed other k (Some piece) same is = tt
long-same (key ∷ members) listed other zero piece same is = long_same (config_at listed key) (config_at other key) piece same.0 is
long-same (key ∷ members) listed other (suc k) piece same is = long-same members listed other k piece same.1 is
