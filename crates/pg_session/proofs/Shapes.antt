-- Two CFG-1 lists that differ at some keys at most are the same where they are at these keys.
use Rattle.std.proofs.Common.{◌≡◌, ℕ, ◌&&◌, ◌||◌, List, [], ◌∷◌, ◌++◌, map, Bool, true, false, if◌then◌else◌, Option, Some, None, refl, sym, ap, ap₂, ◌∙◌}
use Rattle.std.specs.List.{list_all, list_any}
use Rattle.std.specs.Str.{bytes_eq}
use Rattle.std.proofs.lemmas.Slice.Eq.{bytes_eq-Decides}
use Rattle.pg_wire.specs.declared.ids.PmuKey.{PmuKey}
use Rattle.pg_wire.specs.Keys.{key_eq}
use Rattle.pg_config.specs.Parts.{Part}
use Rattle.pg_config.specs.Writing.{uncounted}
use Rattle.pg_outcfg.specs.Listing.{Listing, config_at, with_config, without_config}
use Rattle.pg_outcfg.proofs.Orders.{same_key}
use Rattle.pg_session.specs.Events.{Announcing}
use Rattle.pg_session.specs.Private.{put_all}
use Rattle.pg_session.specs.Shape.{same_config, same_at, keys_of, same_list}
use Rattle.pg_session.proofs.Changing.{at-put, at-removed}

same_truth : (a b : Bool) → (a ≡ true → b ≡ true) → (b ≡ true → a ≡ true) → a ≡ b
same_truth true b f g = sym (f refl)
same_truth false true f g = absurd (cc (g refl))
same_truth false false f g = refl

pub both : (b c : Bool) → (b && c) ≡ true → (b ≡ true) × (c ≡ true)
both true true h = (refl, refl)
both true false h = absurd (cc h)
both false c h = absurd (cc h)

pub and_true : (b c : Bool) → b ≡ true → c ≡ true → (b && c) ≡ true
and_true true true e f = refl
and_true false c e f = absurd (cc e)
and_true true false e f = absurd (cc f)

-- a test that passes everywhere, and one that passes at each of two lists
pub all_pass : (f : PmuKey → Bool) (xs : List PmuKey) → ((x : PmuKey) → f x ≡ true) → list_all f xs ≡ true
all_pass f [] h = refl
all_pass f (x ∷ xs) h = and_true (f x) (list_all f xs) (h x) (all_pass f xs h)

pub all_front : (f : PmuKey → Bool) (xs ys : List PmuKey) → list_all f (xs ++ ys) ≡ true → (list_all f xs ≡ true) × (list_all f ys ≡ true)
all_front f [] ys h = (refl, h)
all_front f (x ∷ xs) ys h =
    let parts = both (f x) (list_all f (xs ++ ys)) h in
    let rest = all_front f xs ys parts.1 in
    (and_true (f x) (list_all f xs) parts.0 rest.0, rest.1)

-- a key that a list has is among its keys
pub listed_pass : (f : PmuKey → Bool) (listed : Listing) (key : PmuKey) (part : Part) → config_at listed key ≡ Some part → list_all f (keys_of listed) ≡ true → f key ≡ true
listed_pass f [] key part e h = absurd (cc e)
listed_pass f (x ∷ xs) key part e h =
    let parts = both (f x.0) (list_all f (keys_of xs)) h in
    by (key_eq key x.0) refl e (λ found. listed_pass f xs key part found parts.1) parts.0
  where
    by : (b : Bool) → key_eq key x.0 ≡ b → (if b then Some x.1 else config_at xs key) ≡ Some part → (config_at xs key ≡ Some part → f key ≡ true) → f x.0 ≡ true → f key ≡ true
    by true is found rest here = ap f (same_key key x.0 is) ∙ here
    by false is found rest here = rest found

bytes_same : (xs : List ℕ) → bytes_eq xs xs ≡ true
bytes_same xs = (bytes_eq-Decides xs xs).1 refl

pub same_self : (o : Option Part) → same_config o o ≡ true
same_self None = refl
same_self (Some p) = bytes_same (uncounted p)

-- what holds at each key of a change holds at each key
among_pass : (f : PmuKey → Bool) (keys : List PmuKey) (key : PmuKey) → list_any (λ k. key_eq key k) keys ≡ true → list_all f keys ≡ true → f key ≡ true
among_pass f [] key e h = absurd (cc e)
among_pass f (k ∷ keys) key e h =
    let parts = both (f k) (list_all f keys) h in
    by (key_eq key k) refl e (λ found. among_pass f keys key found parts.1) parts.0
  where
    by : (b : Bool) → key_eq key k ≡ b → (b || list_any (λ x. key_eq key x) keys) ≡ true
        → (list_any (λ x. key_eq key x) keys ≡ true → f key ≡ true) → f k ≡ true → f key ≡ true
    by true is found rest here = ap f (same_key key k is) ∙ here
    by false is found rest here = rest found

pub same_list_by : (listed other : Listing) (keys : List PmuKey)
    → ((key : PmuKey) → list_any (λ k. key_eq key k) keys ≡ false → config_at other key ≡ config_at listed key)
    → same_list listed other ≡ same_at listed other keys
same_list_by listed other keys elsewhere =
    same_truth (same_list listed other) (same_at listed other keys) there back
  where
    test : PmuKey → Bool
    test key = same_config (config_at listed key) (config_at other key)

    here : (key : PmuKey) → list_all test (keys_of listed) ≡ true → list_all test (keys_of other) ≡ true
        → (a b : Option Part) → config_at listed key ≡ a → config_at other key ≡ b → test key ≡ true
    here key h g None None e f = ap₂ same_config e f
    here key h g (Some p) b e f = listed_pass test listed key p e h
    here key h g None (Some q) e f = listed_pass test other key q f g

    there : same_list listed other ≡ true → same_at listed other keys ≡ true
    there h =
        let parts = all_front test (keys_of listed) (keys_of other) h in
        all_pass test keys (λ key. here key parts.0 parts.1 _ _ refl refl)

    one : (key : PmuKey) → same_at listed other keys ≡ true → (b : Bool) → list_any (λ k. key_eq key k) keys ≡ b → test key ≡ true
    one key h true e = among_pass test keys key e h
    one key h false e = ap (same_config (config_at listed key)) (elsewhere key e) ∙ same_self (config_at listed key)

    back : same_at listed other keys ≡ true → same_list listed other ≡ true
    back h = all_pass test (keys_of listed ++ keys_of other) (λ key. one key h _ refl)

one_test : (b : Bool) → (b && true) ≡ b
one_test true = refl
one_test false = refl

first_false : (b c : Bool) → (b || c) ≡ false → (b ≡ false) × (c ≡ false)
first_false false c h = (refl, h)
first_false true c h = absurd (cc h)

-- a change of one key
pub put_counts : (listed : Listing) (key : PmuKey) (part : Part)
    → same_list listed (with_config listed key part) ≡ same_config (config_at listed key) (config_at (with_config listed key part) key)
put_counts listed key part =
    same_list_by listed (with_config listed key part) (key ∷ [])
    (λ k h. at-put listed k key part false (first_false (key_eq k key) false h).0)
    ∙ one_test _

pub removed_counts : (listed : Listing) (key : PmuKey)
    → same_list listed (without_config listed key) ≡ same_config (config_at listed key) (config_at (without_config listed key) key)
removed_counts listed key =
    same_list_by listed (without_config listed key) (key ∷ [])
    (λ k h. at-removed listed k key false (first_false (key_eq k key) false h).0)
    ∙ one_test _

-- a change of several
elsewhere_all : (listed : Listing) (anns : List Announcing) (key : PmuKey) → list_any (λ k. key_eq key k) (map (λ (a : Announcing). a.key) anns) ≡ false
    → config_at (put_all listed anns) key ≡ config_at listed key
elsewhere_all listed [] key h = refl
elsewhere_all listed (a ∷ anns) key h =
    let parts = first_false (key_eq key a.key) (list_any (λ k. key_eq key k) (map (λ (b : Announcing). b.key) anns)) h in
    at-put (put_all listed anns) key a.key a.config false parts.0 ∙ elsewhere_all listed anns key parts.1

pub all_counts : (listed : Listing) (anns : List Announcing)
    → same_list listed (put_all listed anns) ≡ same_at listed (put_all listed anns) (map (λ (a : Announcing). a.key) anns)
all_counts listed anns = same_list_by listed (put_all listed anns) (map (λ (a : Announcing). a.key) anns) (elsewhere_all listed anns)
