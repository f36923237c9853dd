-- What is listed is granted: so the CFG-1 list is never longer than the list of grants.
use Rattle.std.proofs.Common.{◌≡◌, ℕ, suc, ◌<◌, ◌≤◌, ◌||◌, nat_lt, nat_le, List, [], ◌∷◌, ◌++◌, length, map, slice_get, Bool, true, false, if◌then◌else◌, IsTrue, Option, Some, None, inl, refl, sym, ap, ap₂, ◌∙◌, arith}
use Rattle.std.proofs.lemmas.Bool.Decides.{nat_tests}
use Rattle.std.specs.List.{flat_map}
use Rattle.pg_data.specs.Pieces.{Piece}
use Rattle.pg_align.specs.Slots.{Aligned}
use Rattle.pg_ring.specs.Shown.{Queue}
use Rattle.pg_wire.specs.declared.ids.PmuKey.{PmuKey}
use Rattle.pg_wire.specs.Keys.{key_eq, key_before}
use Rattle.pg_config.specs.Parts.{Part}
use Rattle.pg_entitle.specs.Grants.{has_key, with_key, without_key, granted}
use Rattle.pg_entitle.proofs.Orders.{before_is_other, eq_refl}
use Rattle.pg_outcfg.specs.Listing.{Listing, IsBelow, IsRising, config_at, with_config}
use Rattle.pg_session.specs.Events.{Announcing, grant}
use Rattle.pg_session.specs.Private.{put_all, done, May, next, refusal, turns_of, turned}
use Rattle.pg_session.specs.Shape.{same_config, same_at, keys_of}
use Rattle.pg_session.specs.Streams.{StreamOf, Turn, still, reshape_turn}
use Rattle.pg_session.specs.Output.{Output, turns_taken}
use Rattle.pg_session.specs.Kept.{by_slots, by_gaps}
use Rattle.pg_session.specs.Wanted.{granted_wanted}
use Rattle.pg_session.specs.Shown.{Own}
use Rattle.pg_outcfg.proofs.Places.{rising-with}
use Rattle.pg_session.specs.Ready.{AreOwn}
use Rattle.pg_session.specs.Fields.{AreGranted}
use Rattle.pg_session.proofs.Fitting.{granted_step}
use Rattle.pg_session.proofs.Shapes.{all_pass, same_self}
use Rattle.pg_session.proofs.Turning.{own_changed, same_changed}

-- fewer than 32
pub below_so : (n : ℕ) → n < 32 → nat_lt n 32 ≡ true
below_so n h = grind (arith, nat_tests)

pub below_32 : (n : ℕ) → nat_le 32 n ≡ false → n < 32
below_32 n h = grind (arith, nat_tests)

-- a grant less
removed_length : (key : PmuKey) (grants : List PmuKey) → IsTrue (has_key grants key) → length grants ≡ suc (length (without_key grants key))
removed_length key [] h = absurd (cc h)
removed_length key (g ∷ grants) h = by (key_eq key g) h (removed_length key grants)
  where
    by : (b : Bool) → IsTrue (b || has_key grants key) → (IsTrue (has_key grants key) → length grants ≡ suc (length (without_key grants key)))
        → suc (length grants) ≡ suc (length (if b then grants else g ∷ without_key grants key))
    by true t rest = refl
    by false t rest = ap suc (rest t)

-- those above a key are granted also without it
above_granted : (key : PmuKey) (grants : List PmuKey) (listed : Listing) → IsBelow key listed → AreGranted grants listed
    → AreGranted (without_key grants key) listed
above_granted key grants [] b w = tt
above_granted key grants (e ∷ es) b w =
    (granted_step key e.0 grants (before_is_other key e.0 b.0).1 w.0, above_granted key grants es b.1 w.1)

pub granted_few : (listed : Listing) (grants : List PmuKey) → IsRising listed → AreGranted grants listed → length listed ≤ length grants
granted_few [] grants r w = omega arith
granted_few (e ∷ es) grants r w =
    omega (arith, granted_few es (without_key grants e.0) r.1 (above_granted e.0 grants es r.0 w.1), removed_length e.0 grants w.0)

-- with one configuration more
pub granted_put : (grants : List PmuKey) (listed : Listing) (key : PmuKey) (part : Part) → IsTrue (has_key grants key) → AreGranted grants listed
    → AreGranted grants (with_config listed key part)
granted_put grants [] key part h w = (h, tt)
granted_put grants (e ∷ es) key part h w = by (key_eq key e.0) (key_before key e.0) (granted_put grants es key part h w.1)
  where
    by : (b c : Bool) → AreGranted grants (with_config es key part)
        → AreGranted grants (if b then (key, part) ∷ es else (if c then (key, part) ∷ e ∷ es else e ∷ with_config es key part))
    by true c rest = (h, w.1)
    by false true rest = (h, w)
    by false false rest = (w.0, rest)

pub granted_put_all : (grants : List PmuKey) (listed : Listing) (list : List Announcing) → AreOwn grants list → AreGranted grants listed
    → AreGranted grants (put_all listed list)
granted_put_all grants listed [] g w = w
granted_put_all grants listed (a ∷ list) g w = granted_put grants (put_all listed list) a.key a.config g.0 (granted_put_all grants listed list g.1 w)

-- with one grant more
has_with : (grants : List PmuKey) (key k : PmuKey) → IsTrue (has_key grants k) → IsTrue (has_key (with_key grants key) k)
has_with [] key k h = absurd (cc h)
has_with (g ∷ grants) key k h = by (key_eq key g) (key_before key g) (key_eq k g) refl h (has_with grants key k)
  where
    here : (d : Bool) → d ≡ true → IsTrue (d || has_key (with_key grants key) k)
    here true e = refl
    here false e = absurd (cc e)

    front : (d e : Bool) → IsTrue e → IsTrue (d || e)
    front true e t = refl
    front false e t = t

    by : (b c d : Bool) → key_eq k g ≡ d → IsTrue (d || has_key grants k) → (IsTrue (has_key grants k) → IsTrue (has_key (with_key grants key) k))
        → IsTrue (has_key (if b then g ∷ grants else (if c then key ∷ g ∷ grants else g ∷ with_key grants key)) k)
    by true c d e t rest = rw e t
    by false true d e t rest = rw e (front (key_eq k key) (d || has_key grants k) t)
    by false false true e t rest = rw e refl
    by false false false e t rest = rw e (rest t)

own_with : (grants : List PmuKey) (key : PmuKey) → IsTrue (has_key (with_key grants key) key)
own_with [] key = rw (eq_refl key) refl
own_with (g ∷ grants) key = by (key_eq key g) (key_before key g) refl (own_with grants key)
  where
    by : (b c : Bool) → key_eq key g ≡ b → IsTrue (has_key (with_key grants key) key)
        → IsTrue (has_key (if b then g ∷ grants else (if c then key ∷ g ∷ grants else g ∷ with_key grants key)) key)
    by true c e rest = rw e refl
    by false true e rest = rw (eq_refl key) refl
    by false false e rest = rw e rest

-- where there is room for it, the key is granted, and others are as they were
pub granted_more : (grants : List PmuKey) (key : PmuKey) (listed : Listing) → AreGranted grants listed → AreGranted (with_key grants key) listed
granted_more grants key [] w = tt
granted_more grants key (e ∷ es) w = (has_with grants key e.0 w.0, granted_more grants key es w.1)

pub granted_now : (grants : List PmuKey) (key : PmuKey) → IsTrue (has_key (with_key grants key) key)
granted_now = own_with

-- the copy that lies ready for a PMU that is granted anew is of what it has announced
pub wanted_now : (grants : List PmuKey) (key : PmuKey) (config : Option Part) → has_key grants key ≡ false → length grants < 32
    → slice_get (granted_wanted grants key config) 0 ≡ config
wanted_now grants key None h l = refl
wanted_now grants key (Some config) h l =
    rw (h, below_so (length grants) l) refl

-- a list that stays is no change to a stream
stays_at : (listed : Listing) (keys : List PmuKey) → same_at listed listed keys ≡ true
stays_at listed keys = all_pass (λ key. same_config (config_at listed key) (config_at listed key)) keys (λ key. same_self (config_at listed key))

stays : (listed : Listing) (s : StreamOf (Aligned Piece)) → reshape_turn by_slots listed listed s ≡ still s
stays listed s = rw (stays_at listed s.definition.members, stays_at listed (keys_of listed ++ keys_of listed)) refl

pub all_stay : (listed : Listing) (ss : List (StreamOf (Aligned Piece))) → map (reshape_turn by_slots listed listed) ss ≡ map still ss
all_stay listed [] = refl
all_stay listed (s ∷ ss) = ap₂ (λ t ts. t ∷ ts) (stays listed s) (all_stay listed ss)

-- streams to which an event is nothing
pub still_frames : (ss : List (StreamOf (Aligned Piece))) → flat_map (λ (t : Turn (Aligned Piece)). t.frames) (map still ss) ≡ []
still_frames [] = refl
still_frames (s ∷ ss) = still_frames ss

still_streams : (ss : List (StreamOf (Aligned Piece))) → map (λ (t : Turn (Aligned Piece)). t.stream) (map still ss) ≡ ss
still_streams [] = refl
still_streams (s ∷ ss) = ap (λ xs. s ∷ xs) (still_streams ss)

still_output : (ss : List (StreamOf (Aligned Piece))) (out : Output Queue) → turns_taken by_gaps 0 (map still ss) out ≡ out
still_output [] out = refl
still_output (s ∷ ss) out = still_output ss out

-- the grant of a PMU that is granted already
pub again : (own : Own) (key : PmuKey) (config : Option Part) (lost : Bool) → has_key own.grants key ≡ true
    → May by_slots by_gaps own (grant key config) lost (done 0 0) × (own ≡ next by_slots by_gaps own (grant key config) (done 0 0))
again own key config lost h =
    let frames : length (flat_map (λ (t : Turn (Aligned Piece)). t.frames) (map still own.streams)) ≡ 0 = ap length (still_frames own.streams) in
    (rw h (inl (0, omega arith, λ x. refl, ap (λ n. done n 0) (sym frames))), rw h refl)

-- the grant of one that has announced nothing
pub unannounced : (own : Own) (key : PmuKey) (lost : Bool) → has_key own.grants key ≡ false → length own.grants < 32
    → May by_slots by_gaps own (grant key None) lost (done 0 0)
    × (own_changed own (granted own.grants key) own.listed own.streams own.output ≡ next by_slots by_gaps own (grant key None) (done 0 0))
unannounced own key lost h l =
    let turns : turns_of by_slots by_gaps own (grant key None) ≡ map still own.streams =
    ap (λ b. if b then map still own.streams else map (reshape_turn by_slots own.listed own.listed) own.streams) h ∙ all_stay own.listed own.streams in
    let frames : length (flat_map (λ (t : Turn (Aligned Piece)). t.frames) (map (reshape_turn by_slots own.listed own.listed) own.streams)) ≡ 0 =
    ap (λ ts. length (flat_map (λ (t : Turn (Aligned Piece)). t.frames) ts)) (all_stay own.listed own.streams) ∙ ap length (still_frames own.streams) in (
      rw (h, below_so (length own.grants) l) (inl (0, omega arith, λ x. refl, ap (λ n. done n 0) (sym frames))),
      sym (ap (λ b. if b then own else record (turned by_slots by_gaps own (grant key None) 0) { grants = granted own.grants key; listed = own.listed }) h
          ∙ same_changed own refl refl (ap (map (λ (t : Turn (Aligned Piece)). t.stream)) turns ∙ still_streams own.streams)
          (ap (λ ts. turns_taken by_gaps 0 ts own.output) turns ∙ still_output own.streams own.output)),
    )

-- a PMU that is granted anew
pub anew : (own : Own) (key : PmuKey) (config : Part) → has_key own.grants key ≡ false
    → turns_of by_slots by_gaps own (grant key (Some config)) ≡ map (reshape_turn by_slots own.listed (with_config own.listed key config)) own.streams
anew own key config h = ap (λ b. if b then map still own.streams else map (reshape_turn by_slots own.listed (with_config own.listed key config)) own.streams) h

pub anew_allowed : (own : Own) (key : PmuKey) (config : Option Part) → has_key own.grants key ≡ false → length own.grants < 32
    → refusal by_slots by_gaps own (grant key config) ≡ None
anew_allowed own key config h l = rw (h, below_so (length own.grants) l) refl

pub anew_after : (own : Own) (key : PmuKey) (config : Part) (kept : ℕ) → has_key own.grants key ≡ false
    → record (turned by_slots by_gaps own (grant key (Some config)) kept) { grants = granted own.grants key; listed = with_config own.listed key config }
    ≡ next by_slots by_gaps own (grant key (Some config)) (done 0 kept)
anew_after own key config kept h =
    sym (ap (λ b. if b then own
    else record (turned by_slots by_gaps own (grant key (Some config)) kept) { grants = granted own.grants key; listed = with_config own.listed key config }) h)

pub granted_is : (grants : List PmuKey) (key : PmuKey) → has_key grants key ≡ false → length grants < 32 → granted grants key ≡ with_key grants key
granted_is grants key h l = rw (h, below_so (length grants) l) refl

-- announcements of PMUs that are granted
abbrev pub announces : List PmuKey → List Announcing → Type 0
announces = AreOwn

pub rising_put_all : (listed : Listing) (list : List Announcing) → IsRising listed → IsRising (put_all listed list)
rising_put_all listed [] r = r
rising_put_all listed (a ∷ list) r = rising-with (put_all listed list) a.key a.config (rising_put_all listed list r)

pub wanted_some : (grants : List PmuKey) (key : PmuKey) (config : Part) → has_key grants key ≡ false → length grants < 32
    → granted_wanted grants key (Some config) ≡ config ∷ []
wanted_some grants key config h l = rw (h, below_so (length grants) l) refl

-- a list of one
pub only_one : (xs : List Part) (config : Part) → length xs ≡ 1 → slice_get xs 0 ≡ Some config → xs ≡ config ∷ []
only_one [] config n e = absurd (cc e)
only_one (x ∷ []) config n e = ap (λ y. y ∷ []) (let same : x ≡ config = cc e in same)
only_one (x ∷ y ∷ xs) config n e = absurd (omega (arith, n))
