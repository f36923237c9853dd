-- Which changes of a CFG-1 list count, and which of them flush a stream.
use Rattle.std.proofs.Common.{◌≡◌, ℕ, IsTrue, Bool, true, false, cond, List, [], ◌∷◌, All, Option, Some, None, option_map, refl, sym, ap, ap₂, ◌∙◌}
use Rattle.std.proofs.lemmas.List.Elements.{All-nil, All-cons, All-head, All-tail}
use Rattle.std.proofs.lemmas.Slice.Eq.{bytes_eq-Decides}
use Rattle.std.specs.Prelude.{◌↔◌}
use Rattle.std.specs.Map.{lookup}
use Rattle.pg_wire.specs.declared.ids.PmuKey.{PmuKey}
use Rattle.pg_wire.specs.Keys.{key_eq, key_before}
use Rattle.pg_config.specs.Parts.{Part}
use Rattle.pg_config.specs.Writing.{uncounted}
use Rattle.pg_outcfg.specs.Listing.{Listing, IsRising, config_at, with_config, without_config}
use Rattle.pg_outcfg.proofs.Orders.{same_key, own_key, comes_after}
use Rattle.pg_outcfg.proofs.Places.{none-below, below-before}
use Rattle.pg_session.specs.Shape.{same_config, keys_of, same_list, same_shape}
use Rattle.pg_session.specs.Counts.{uncounted_list, uncounted_at}
use Rattle.pg_session.proofs.Changing.{at-put, at-removed}
use Rattle.pg_session.proofs.Shapes.{both, and_true, all_pass, all_front, listed_pass, put_counts, removed_counts}

-- the test of two blocks
blocks_there : (a b : Option Part) → IsTrue (same_config a b) → option_map uncounted a ≡ option_map uncounted b
blocks_there None None h = refl
blocks_there None (Some y) h = absurd (cc h)
blocks_there (Some x) None h = absurd (cc h)
blocks_there (Some x) (Some y) h = ap Some ((bytes_eq-Decides (uncounted x) (uncounted y)).0 h)

blocks_back : (a b : Option Part) → option_map uncounted a ≡ option_map uncounted b → IsTrue (same_config a b)
blocks_back None None e = refl
blocks_back None (Some y) e = absurd (cc e)
blocks_back (Some x) None e = absurd (cc e)
blocks_back (Some x) (Some y) e = (bytes_eq-Decides (uncounted x) (uncounted y)).1 (let one : uncounted x ≡ uncounted y = cc e in one)

-- ---- shapes

abbrev SameAt : Listing → Listing → PmuKey → Type 0
SameAt listed other key = uncounted_at listed key ≡ uncounted_at other key

pub shape-there : (members : List PmuKey) (listed other : Listing) → IsTrue (same_shape members listed other) → All (SameAt listed other) members
shape-there [] listed other h = All-nil (SameAt listed other)
shape-there (key ∷ members) listed other h =
    let parts = both (same_config (config_at listed key) (config_at other key)) (same_shape members listed other) h in
    All-cons (SameAt listed other) key members (blocks_there (config_at listed key) (config_at other key) parts.0) (shape-there members listed other parts.1)

pub shape-back : (members : List PmuKey) (listed other : Listing) → All (SameAt listed other) members → IsTrue (same_shape members listed other)
shape-back [] listed other h = refl
shape-back (key ∷ members) listed other h =
    and_true (same_config (config_at listed key) (config_at other key)) (same_shape members listed other)
    (blocks_back (config_at listed key) (config_at other key) (All-head (SameAt listed other) key members h))
    (shape-back members listed other (All-tail (SameAt listed other) key members h))

-- ---- lists

-- lists that test as the same are so at each key
same_everywhere : (listed other : Listing) (key : PmuKey) → IsTrue (same_list listed other) → IsTrue (same_config (config_at listed key) (config_at other key))
same_everywhere listed other key h = by (config_at listed key) (config_at other key) refl refl
  where
    by : (a b : Option Part) → config_at listed key ≡ a → config_at other key ≡ b → same_config (config_at listed key) (config_at other key) ≡ true
    by None None e f = ap₂ same_config e f
    by (Some p) b e f = listed_pass (λ k. same_config (config_at listed k) (config_at other k)) listed key p e
        (all_front (λ k. same_config (config_at listed k) (config_at other k)) (keys_of listed) (keys_of other) h).0
    by None (Some q) e f = listed_pass (λ k. same_config (config_at listed k) (config_at other k)) other key q f
        (all_front (λ k. same_config (config_at listed k) (config_at other k)) (keys_of listed) (keys_of other) h).1

-- what a list has at its first key, and at the others
first_at : (e : PmuKey × Part) (es : Listing) → uncounted_at (e ∷ es) e.0 ≡ Some (uncounted e.1)
first_at e es = ap (λ b. option_map uncounted (cond b (Some e.1) (config_at es e.0))) (own_key e.0)

past_first : (e : PmuKey × Part) (es : Listing) (key : PmuKey) → key_eq key e.0 ≡ false → uncounted_at (e ∷ es) key ≡ uncounted_at es key
past_first e es key t = ap (λ b. option_map uncounted (cond b (Some e.1) (config_at es key))) t

-- Rising lists that agree at each key are the same.
agree : (a b : Listing) → IsRising a → IsRising b → ((key : PmuKey) → uncounted_at a key ≡ uncounted_at b key) → uncounted_list a ≡ uncounted_list b
agree [] [] r q each = refl
agree [] (f ∷ fs) r q each = absurd (cc (each f.0, first_at f fs))
agree (e ∷ es) [] r q each = absurd (cc (each e.0, first_at e es))
agree (e ∷ es) (f ∷ fs) r q each = by (key_eq e.0 f.0) refl (key_before e.0 f.0) refl (agree es fs r.1 q.1)
  where
    none_of : (key : PmuKey) (listed : Listing) → config_at listed key ≡ None → uncounted_at listed key ≡ None
    none_of key listed n = ap (option_map uncounted) n

    one_key : (x : PmuKey) → e.0 ≡ x → uncounted_at (e ∷ es) e.0 ≡ uncounted_at (f ∷ fs) x
    one_key x s = each e.0 ∙ ap (uncounted_at (f ∷ fs)) s

    rest_at : e.0 ≡ f.0 → (key : PmuKey) (b : Bool) → key_eq key e.0 ≡ b → uncounted_at es key ≡ uncounted_at fs key
    rest_at s key true t =
        let here : key ≡ e.0 = same_key key e.0 t in
        ap (uncounted_at es) here ∙ none_of e.0 es (none-below e.0 es r.0)
        ∙ sym (ap (uncounted_at fs) (here ∙ s) ∙ none_of f.0 fs (none-below f.0 fs q.0))
    rest_at s key false t =
        sym (past_first e es key t) ∙ each key ∙ past_first f fs key (ap (key_eq key) (sym s) ∙ t)

    by : (same : Bool) → key_eq e.0 f.0 ≡ same → (before : Bool) → key_before e.0 f.0 ≡ before
        → (((key : PmuKey) → uncounted_at es key ≡ uncounted_at fs key) → uncounted_list es ≡ uncounted_list fs)
        → uncounted_list (e ∷ es) ≡ uncounted_list (f ∷ fs)
    by true s before b rest =
        let keys : e.0 ≡ f.0 = same_key e.0 f.0 s in
        let blocks : uncounted e.1 ≡ uncounted f.1 = some_same _ _ (sym (first_at e es) ∙ one_key f.0 keys ∙ first_at f fs) in
        ap₂ (λ (k : PmuKey) (x : List ℕ). (k, x) ∷ uncounted_list es) keys blocks
        ∙ ap (λ l. (f.0, uncounted f.1) ∷ l) (rest (λ key. rest_at keys key _ refl))
      where
        some_same : (x y : List ℕ) → Some x ≡ Some y → x ≡ y
        some_same x y h = cc h
    by false s true b rest =
        absurd (let none = none_of e.0 (f ∷ fs) (none-below e.0 (f ∷ fs) (b, below-before e.0 f.0 fs b q.0)) in
        cc (each e.0, first_at e es, none))
    by false s false b rest =
        let after = comes_after e.0 f.0 s b in
        absurd (let none = none_of f.0 (e ∷ es) (none-below f.0 (e ∷ es) (after, below-before f.0 e.0 es after r.0)) in
        cc (each f.0, first_at f fs, none))

pub list-there : (listed other : Listing) → IsRising listed → IsRising other → IsTrue (same_list listed other) → uncounted_list listed ≡ uncounted_list other
list-there listed other r q h =
    agree listed other r q (λ key. blocks_there (config_at listed key) (config_at other key) (same_everywhere listed other key h))

-- a key's block is looked up in what counts
looked_up : (listed : Listing) (key : PmuKey) → lookup (key_eq key) (uncounted_list listed) ≡ uncounted_at listed key
looked_up [] key = refl
looked_up (e ∷ es) key = by (looked_up es key) (key_eq key e.0)
  where
    by : lookup (key_eq key) (uncounted_list es) ≡ uncounted_at es key → (same : Bool)
        → cond same (Some (uncounted e.1)) (lookup (key_eq key) (uncounted_list es)) ≡ option_map uncounted (cond same (Some e.1) (config_at es key))
    by rest true = refl
    by rest false = rest

pub list-back : (listed other : Listing) → uncounted_list listed ≡ uncounted_list other → IsTrue (same_list listed other)
list-back listed other e =
    all_pass (λ k. same_config (config_at listed k) (config_at other k)) _
    (λ key. blocks_back (config_at listed key) (config_at other key) (sym (looked_up listed key) ∙ ap (lookup (key_eq key)) e ∙ looked_up other key))

pub list-shape : (members : List PmuKey) (listed other : Listing) → IsTrue (same_list listed other) → IsTrue (same_shape members listed other)
list-shape members listed other h =
    all_pass (λ k. same_config (config_at listed k) (config_at other k)) members (λ key. same_everywhere listed other key h)

-- ---- one change

put-is : (listed : Listing) (key : PmuKey) (part : Part) → same_list listed (with_config listed key part) ≡ same_config (config_at listed key) (Some part)
put-is listed key part = put_counts listed key part ∙ ap (same_config (config_at listed key)) (at-put listed key key part true (own_key key))

pub put-told : (listed : Listing) (key : PmuKey) (part : Part)
    → IsTrue (same_list listed (with_config listed key part)) ↔ (uncounted_at listed key ≡ Some (uncounted part))
put-told listed key part = (
  (λ h. blocks_there (config_at listed key) (Some part) (sym (put-is listed key part) ∙ h)),
  (λ e. put-is listed key part ∙ blocks_back (config_at listed key) (Some part) e),
)

removed-is : (listed : Listing) (key : PmuKey) → same_list listed (without_config listed key) ≡ same_config (config_at listed key) None
removed-is listed key = removed_counts listed key ∙ ap (same_config (config_at listed key)) (at-removed listed key key true (own_key key))

none_there : (o : Option Part) → IsTrue (same_config o None) → o ≡ None
none_there None h = refl
none_there (Some p) h = absurd (cc h)

pub removed-told : (listed : Listing) (key : PmuKey) → IsTrue (same_list listed (without_config listed key)) ↔ (config_at listed key ≡ None)
removed-told listed key = (
  (λ h. none_there (config_at listed key) (sym (removed-is listed key) ∙ h)),
  (λ e. removed-is listed key ∙ ap (λ o. same_config o None) e),
)
