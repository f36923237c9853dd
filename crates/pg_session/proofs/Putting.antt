-- Configurations that are put into a CFG-1 list, the last one first.
use Rattle.std.proofs.Common.{◌≡◌, ℕ, zero, suc, ◌+◌, ◌-◌, ◌<◌, ◌≤◌, List, [], ◌∷◌, ◌++◌, length, map, take, drop, get_or, slice_get, All, Bool, true, false, if◌then◌else◌, Option, Some, None, IfSome, refl, sym, ap, ◌∙◌, arith}
use Rattle.std.proofs.lemmas.List.{drop_more, length-map, take-take, take-map, length-take-le}
use Rattle.std.proofs.lemmas.Option.{slice_get-map, slice_get_within}
use Rattle.circular_buffer.specs.Buffer.{last_item}
use Rattle.circular_buffer.proofs.Places.{slice_get-take}
use Rattle.pg_wire.specs.declared.ids.PmuKey.{PmuKey}
use Rattle.pg_wire.specs.Keys.{key_eq, key_before}
use Rattle.pg_config.specs.Parts.{Part, Source, block_id}
use Rattle.pg_outcfg.specs.Listing.{Listing, config_at, with_config}
use Rattle.pg_session.specs.Events.{Announcing, config_of, key_in, announced_part, announced_at}
use Rattle.pg_session.specs.Private.{put_all}
use Rattle.pg_session.proofs.Changing.{key_made}

-- a list grows by one that it did not have, and never shrinks
pub put_new : (listed : Listing) (key : PmuKey) (part : Part) → config_at listed key ≡ None → length (with_config listed key part) ≡ suc (length listed)
put_new [] key part h = refl
put_new (e ∷ es) key part h = by (key_eq key e.0) (key_before key e.0) h (put_new es key part)
  where
    by : (b c : Bool) → (if b then Some e.1 else config_at es key) ≡ None
        → (config_at es key ≡ None → length (with_config es key part) ≡ suc (length es))
        → length (if b then (key, part) ∷ es else (if c then (key, part) ∷ e ∷ es else e ∷ with_config es key part)) ≡ suc (suc (length es))
    by true c f rest = absurd (cc f)
    by false true f rest = refl
    by false false f rest = ap suc (rest f)

put_grows : (listed : Listing) (key : PmuKey) (part : Part) → length listed ≤ length (with_config listed key part)
put_grows [] key part = omega arith
put_grows (e ∷ es) key part = by (key_eq key e.0) (key_before key e.0) (put_grows es key part)
  where
    by : (b c : Bool) → length es ≤ length (with_config es key part)
        → suc (length es) ≤ length (if b then (key, part) ∷ es else (if c then (key, part) ∷ e ∷ es else e ∷ with_config es key part))
    by true c rest = omega arith
    by false true rest = omega arith
    by false false rest = omega (arith, rest)

all_first : {X : Type 0} (P : X → Type 0) (x : X) (xs : List X) → All P (x ∷ xs) → P x × All P xs
all_first P x xs h = (h 0 x (omega arith), λ k d l. h (suc k) d (omega (arith, l)))

put_part : (config : Source) (listed : Listing) (o : Option Part) (places : List ℕ)
    → length (put_all listed (announced_at config places)) ≤ length (put_all listed (announced_part config o ++ announced_at config places))
put_part config listed None places = omega arith
put_part config listed (Some part) places = put_grows (put_all listed (announced_at config places)) (key_in config part) part

pub put_more : (config : Source) (listed : Listing) (places : List ℕ) (k : ℕ)
    → length (put_all listed (announced_at config (drop k places))) ≤ length (put_all listed (announced_at config places))
put_more config listed [] zero = omega arith
put_more config listed [] (suc k) = omega arith
put_more config listed (p ∷ places) zero = omega arith
put_more config listed (p ∷ places) (suc k) =
    omega (arith, put_more config listed places k, put_part config listed (slice_get config.parts p) places)

-- what the places of PMUs that a source has announce: each one its configuration
pub part_at : {X : Type 0} (xs : List X) (i : ℕ) → i < length xs → (x : X) × (slice_get xs i ≡ Some x)
part_at [] i h = absurd (omega arith)
part_at (x ∷ xs) zero h = (x, refl)
part_at (x ∷ xs) (suc i) h = part_at xs i (omega arith)

pub one_announced : (config : Source) (o : Option Part) (part : Part) (others : List Announcing) → o ≡ Some part
    → announced_part config o ++ others ≡ record { key = key_in config part; config = part } ∷ others
one_announced config None part others e = absurd (cc e)
one_announced config (Some q) part others e = ap (λ (p : Part). record { key = key_in config p; config = p } ∷ others) (let same : q ≡ part = cc e in same)

pub announced_wanted : (config : Source) (places : List ℕ) → All (λ i. i < length config.parts) places → (k : ℕ) → k < length places
    → slice_get (map config_of (announced_at config places)) k ≡ slice_get config.parts (get_or places k 0)
announced_wanted config [] h k l = absurd (omega (arith, l))
announced_wanted config (p ∷ places) h k l =
    let parts = all_first (λ i. i < length config.parts) p places h in
    let here = part_at config.parts p parts.0 in
    ap (λ list. slice_get (map config_of list) k) (one_announced config (slice_get config.parts p) here.0 (announced_at config places) here.1)
    ∙ by k l here.0 here.1 (announced_wanted config places parts.1)
  where
    by : (k : ℕ) → k < suc (length places) → (part : Part) → slice_get config.parts p ≡ Some part
        → ((j : ℕ) → j < length places → slice_get (map config_of (announced_at config places)) j ≡ slice_get config.parts (get_or places j 0))
        → slice_get (part ∷ map config_of (announced_at config places)) k ≡ slice_get config.parts (get_or (p ∷ places) k 0)
    by zero l part e rest = sym e
    by (suc j) l part e rest = rest j (omega arith)

pub announced_length : (config : Source) (places : List ℕ) → All (λ i. i < length config.parts) places → length (announced_at config places) ≡ length places
announced_length config [] h = refl
announced_length config (p ∷ places) h =
    let parts = all_first (λ i. i < length config.parts) p places h in
    let here = part_at config.parts p parts.0 in
    ap length (one_announced config (slice_get config.parts p) here.0 (announced_at config places) here.1)
    ∙ ap suc (announced_length config places parts.1)

-- The copies that are left are those of the first places, and the others are put.
pub record PutSoFar {X : Type 0} (f : X → Part) (config : Source) (places : List ℕ) (before : Listing) (left : List X) (listed : Listing) : Type 0 where
  pub few : length left ≤ length places
  pub ready : map f left ≡ take (length left) (map config_of (announced_at config places))
  pub put : listed ≡ put_all before (announced_at config (drop (length left) places))

pub put_none : {X : Type 0} (f : X → Part) (config : Source) (places : List ℕ) (before : Listing) (left : List X)
    → All (λ i. i < length config.parts) places → map f left ≡ map config_of (announced_at config places)
    → PutSoFar f config places before left before
put_none f config places before left h e =
    let n : length left ≡ length places =
    sym (length-map left f) ∙ ap length e ∙ length-map (announced_at config places) config_of ∙ announced_length config places h in
    record {
      few = omega (arith, n);
      ready = e ∙ sym (whole (map config_of (announced_at config places)) (length left)
          (n ∙ sym (length-map (announced_at config places) config_of ∙ announced_length config places h)));
      put = sym (ap (λ ps. put_all before (announced_at config ps)) (past places (length left) n));
    }
  where
    whole : {Y : Type 0} (ys : List Y) (n : ℕ) → n ≡ length ys → take n ys ≡ ys
    whole [] zero e = refl
    whole [] (suc n) e = refl
    whole (y ∷ ys) zero e = absurd (omega (arith, e))
    whole (y ∷ ys) (suc n) e = ap (λ zs. y ∷ zs) (whole ys n (omega (arith, e)))

    past : {Y : Type 0} (ys : List Y) (n : ℕ) → n ≡ length ys → drop n ys ≡ []
    past [] zero e = refl
    past [] (suc n) e = refl
    past (y ∷ ys) zero e = absurd (omega (arith, e))
    past (y ∷ ys) (suc n) e = past ys n (omega (arith, e))

-- the configuration of the last copy that is left, and what is left after it
pub put_last : {X : Type 0} (f : X → Part) (config : Source) (places : List ℕ) (before : Listing) (left : List X) (listed : Listing) (x : X) (key : PmuKey) (k : ℕ)
    → All (λ i. i < length config.parts) places → PutSoFar f config places before left listed → last_item left ≡ Some x → k ≡ length left - 1
    → key.source ≡ config.source → IfSome (slice_get config.parts (get_or places k 0)) (λ p. key.pmu ≡ block_id p.block)
    → (length left ≡ suc k) × PutSoFar f config places before (take k left) (with_config listed key (f x))
put_last {X = X} f config places before left listed x key k h so last kn s p =
    let within : length left - 1 < length left = slice_get_within left (length left - 1) x last in
    let n : length left ≡ suc k = omega (arith, kn, within) in
    let short : length (take k left) ≡ k = length-take-le k left (omega (arith, n)) in
    let at : slice_get config.parts (get_or places k 0) ≡ Some (f x) =
    sym (announced_wanted config places h k (omega (arith, n, so.few)))
    ∙ sym (slice_get-take (length left) (map config_of (announced_at config places)) k (omega (arith, n)))
    ∙ sym (ap (λ ps. slice_get ps k) so.ready) ∙ slice_get-map f left k
    ∙ ap (λ o. mapped o) (ap (slice_get left) kn ∙ last) in (
      n,
      record {
        few = omega (arith, short, n, so.few);
        ready = sym (take-map f k left) ∙ ap (take k) so.ready
            ∙ take-take k (length left) (map config_of (announced_at config places)) (omega (arith, n))
            ∙ ap (λ m. take m (map config_of (announced_at config places))) (sym short);
        put = ap (λ l. with_config l key (f x)) (so.put ∙ ap (λ m. put_all before (announced_at config (drop m places))) (omega (arith, n)))
            ∙ sym (one (slice_get config.parts (get_or places k 0)) at p)
            ∙ sym (ap (λ ps. put_all before (announced_at config ps)) (drop_more places k 0 (omega (arith, n, so.few))))
            ∙ ap (λ m. put_all before (announced_at config (drop m places))) (sym short);
      },
    )
  where
    mapped : Option X → Option Part
    mapped None = None
    mapped (Some y) = Some (f y)

    rest : Listing
    rest = put_all before (announced_at config (drop (k + 1) places))

    one : (o : Option Part) → o ≡ Some (f x) → IfSome o (λ q. key.pmu ≡ block_id q.block)
        → put_all before (announced_part config o ++ announced_at config (drop (k + 1) places)) ≡ with_config rest key (f x)
    one None e q = absurd (cc e)
    one (Some part) e q =
        let same : part ≡ f x = cc e in
        ap (λ (y : PmuKey). with_config rest y part) (sym (key_made s q)) ∙ ap (with_config rest key) same

-- where there is no last copy all are put
none_last : {X : Type 0} (x : X) (xs : List X) → slice_get (x ∷ xs) (length xs) ≡ None → ⊥
none_last x [] e = absurd (cc e)
none_last x (y ∷ xs) e = none_last y xs e

pub none_left : {X : Type 0} (left : List X) → last_item left ≡ None → left ≡ []
none_left [] e = refl
none_left (x ∷ left) e = absurd (none_last x left (let n : suc (length left) - 1 ≡ length left = omega arith in sym (ap (slice_get (x ∷ left)) n) ∙ e))

pub put_done : {X : Type 0} (f : X → Part) (config : Source) (places : List ℕ) (before : Listing) (left : List X) (listed : Listing)
    → PutSoFar f config places before left listed → left ≡ [] → listed ≡ put_all before (announced_at config places)
put_done f config places before left listed so e =
    so.put ∙ ap (λ n. put_all before (announced_at config (drop n places))) (ap length e)
