-- What a search finds in a list that rises, and what an edit at that place does.
use Rattle.std.proofs.Common.{◌≡◌, ℕ, zero, suc, ◌<◌, ◌≤◌, Bool, true, false, not, List, [], ◌∷◌, length, map, get_or, if◌then◌else◌, Option, Some, None, Result, Ok, Err, IfOk, IfErr, refl, sym, ap, ◌∙◌, arith}
use Rattle.std.proofs.Math.ListN.{set}
use Rattle.std.specs.List.{insert, remove}
use Rattle.std.specs.List.Sorted.{IsNonDecreasingBy, IsSearchInRange, IsBinarySearchResult}
use Rattle.std.specs.Ordering.{ordering_index}
use Rattle.std.specs.declared.cmp.Ordering.TheVariants.{Less, Equal, Greater}
use Rattle.pg_wire.specs.declared.ids.PmuKey.{PmuKey}
use Rattle.pg_wire.specs.Keys.{key_eq, key_before}
use Rattle.pg_config.specs.Parts.{Part}
use Rattle.pg_outcfg.specs.Listing.{Listing, IsBelow, IsRising, config_at, with_config, without_config}
use Rattle.pg_outcfg.specs.Places.{StandsAt, FitsAt}
use Rattle.pg_outcfg.proofs.Orders.{before_is_other, after_is_other, before_not_after, before_trans, comes_after, eq_before, before_eq, eq_alike, unlike, key_cmp, less_is_before, greater_is_after, equal_is_same, cmp_rises}

-- a key that stands among those after another comes after it
stands-after : (k : PmuKey) (es : Listing) (key : PmuKey) (i : ℕ) → IsBelow k es → StandsAt es key i → key_before k key ≡ true
stands-after k [] key i below at = absurd at
stands-after k (e ∷ es) key zero below at = before_eq k e.0 key below.0 at
stands-after k (e ∷ es) key (suc i) below at = stands-after k es key i below.1 at

-- what comes before a key comes before those after it
pub below-before : (a b : PmuKey) (es : Listing) → key_before a b ≡ true → IsBelow b es → IsBelow a es
below-before a b [] h below = tt
below-before a b (e ∷ es) h below = (before_trans a b e.0 h below.0, below-before a b es h below.1)

below-eq : (a b : PmuKey) (es : Listing) → key_eq a b ≡ true → IsBelow b es → IsBelow a es
below-eq a b [] h below = tt
below-eq a b (e ∷ es) h below = (eq_before a b e.0 h below.0, below-eq a b es h below.1)

-- ---- looking up

pub none-below : (key : PmuKey) (es : Listing) → IsBelow key es → config_at es key ≡ None
none-below key [] below = refl
none-below key (e ∷ es) below = rw (before_is_other key e.0 below.0) (none-below key es below.1)

pub none-fits : (es : Listing) (key : PmuKey) (i : ℕ) → FitsAt es key i → config_at es key ≡ None
none-fits es key zero fits = none-below key es fits
none-fits [] key (suc i) fits = absurd fits
none-fits (e ∷ es) key (suc i) fits = rw (after_is_other e.0 key fits.0) (none-fits es key i fits.1)

pub some-stands : {A : Type 0} (f : A → PmuKey × Part) (xs : List A) (key : PmuKey) (i : ℕ) (x : A) → IsRising (map f xs) → StandsAt (map f xs) key i
    → x ≡ get_or xs i x → config_at (map f xs) key ≡ Some (f x).1
some-stands f [] key i x rising at is = absurd at
some-stands f (y ∷ ys) key zero x rising at is = rw at (ap (λ z. Some (f z).1) (sym is))
some-stands f (y ∷ ys) key (suc i) x rising at is =
    rw (after_is_other (f y).0 key (stands-after (f y).0 (map f ys) key i rising.0 at)) (some-stands f ys key i x rising.1 at is)

-- a key that is compared with the entry at a place
pub stands-here : {A : Type 0} (f : A → PmuKey × Part) (xs : List A) (key : PmuKey) (i : ℕ) (d : A) → i < length xs
    → key_eq key (f (get_or xs i d)).0 ≡ true → StandsAt (map f xs) key i
stands-here f [] key i d lt same = absurd (omega arith)
stands-here f (y ∷ ys) key zero d lt same = same
stands-here f (y ∷ ys) key (suc i) d lt same = stands-here f ys key i d (omega arith) same

-- ---- putting

pub put-insert : {A : Type 0} (f : A → PmuKey × Part) (xs : List A) (i : ℕ) (x : A) → FitsAt (map f xs) (f x).0 i
    → map f (insert xs i x) ≡ with_config (map f xs) (f x).0 (f x).1
put-insert f [] zero x fits = refl
put-insert f [] (suc i) x fits = absurd fits
put-insert f (y ∷ ys) zero x fits = rw (before_is_other (f x).0 (f y).0 fits.0, fits.0) refl
put-insert f (y ∷ ys) (suc i) x fits =
    rw (after_is_other (f y).0 (f x).0 fits.0, before_not_after (f y).0 (f x).0 fits.0) (ap (λ l. f y ∷ l) (put-insert f ys i x fits.1))

pub put-set : {A : Type 0} (f : A → PmuKey × Part) (xs : List A) (i : ℕ) (x : A) → IsRising (map f xs) → StandsAt (map f xs) (f x).0 i
    → map f (set xs i x) ≡ with_config (map f xs) (f x).0 (f x).1
put-set f [] i x rising at = absurd at
put-set f (y ∷ ys) zero x rising at = rw at refl
put-set f (y ∷ ys) (suc i) x rising at =
    let before = stands-after (f y).0 (map f ys) (f x).0 i rising.0 at in
    rw (after_is_other (f y).0 (f x).0 before, before_not_after (f y).0 (f x).0 before) (ap (λ l. f y ∷ l) (put-set f ys i x rising.1 at))

below-with : (k : PmuKey) (es : Listing) (key : PmuKey) (part : Part) → key_before k key ≡ true → IsBelow k es → IsBelow k (with_config es key part)
below-with k [] key part h below = (h, tt)
below-with k (e ∷ es) key part h below = by (below-with k es key part h below.1) (key_eq key e.0) (key_before key e.0)
  where
    by : IsBelow k (with_config es key part) → (same before : Bool)
        → IsBelow k (if same then (key, part) ∷ es else if before then (key, part) ∷ e ∷ es else e ∷ with_config es key part)
    by rest true before = (h, below.1)
    by rest false true = (h, below)
    by rest false false = (below.0, rest)

pub rising-with : (es : Listing) (key : PmuKey) (part : Part) → IsRising es → IsRising (with_config es key part)
rising-with [] key part rising = (tt, tt)
rising-with (e ∷ es) key part rising = by (rising-with es key part rising.1) (key_eq key e.0) refl (key_before key e.0) refl
  where
    by : IsRising (with_config es key part) → (same : Bool) → key_eq key e.0 ≡ same → (before : Bool) → key_before key e.0 ≡ before
        → IsRising (if same then (key, part) ∷ es else if before then (key, part) ∷ e ∷ es else e ∷ with_config es key part)
    by rest true s before b = (below-eq key e.0 es s rising.0, rising.1)
    by rest false s true b = ((b, below-before key e.0 es b rising.0), rising)
    by rest false s false b = (below-with e.0 es key part (comes_after key e.0 s b) rising.0, rest)

-- what is looked up after a put
pub at-with : (es : Listing) (key : PmuKey) (part : Part) (k : PmuKey) → config_at (with_config es key part) k ≡ (if key_eq k key then Some part else config_at es k)
at-with [] key part k = refl
at-with (e ∷ es) key part k = by (at-with es key part k) (key_eq key e.0) refl (key_before key e.0) (key_eq k key) refl (key_eq k e.0) refl
  where
    by : config_at (with_config es key part) k ≡ (if key_eq k key then Some part else config_at es k)
        → (same : Bool) → key_eq key e.0 ≡ same → (before : Bool) → (this : Bool) → key_eq k key ≡ this → (that : Bool) → key_eq k e.0 ≡ that
        → config_at (if same then (key, part) ∷ es else if before then (key, part) ∷ e ∷ es else e ∷ with_config es key part) k
        ≡ (if this then Some part else if that then Some e.1 else config_at es k)
    by rest true s before true t that u = rw t refl
    by rest true s before false t true u = absurd (let no : false ≡ true = sym t ∙ eq_alike k key e.0 s ∙ u in cc)
    by rest true s before false t false u = rw t refl
    by rest false s true this t that u = rw (t, u) refl
    by rest false s false true t true u = absurd (let no : false ≡ true = sym (unlike k key e.0 t s) ∙ u in cc)
    by rest false s false true t false u = rw u (rest ∙ rw t refl)
    by rest false s false false t true u = rw u refl
    by rest false s false false t false u = rw u (rest ∙ rw t refl)

-- ---- removing

-- those after a key stay where it is removed
without-below : (key k : PmuKey) (es : Listing) → key_eq key k ≡ true → IsBelow k es → without_config es key ≡ es
without-below key k [] same below = refl
without-below key k (e ∷ es) same below =
    rw (before_is_other key e.0 (eq_before key k e.0 same below.0)) (ap (λ l. e ∷ l) (without-below key k es same below.1))

pub without-stands : {A : Type 0} (f : A → PmuKey × Part) (xs : List A) (key : PmuKey) (i : ℕ) → IsRising (map f xs) → StandsAt (map f xs) key i
    → map f (remove xs i) ≡ without_config (map f xs) key
without-stands f [] key i rising at = absurd at
without-stands f (y ∷ ys) key zero rising at = rw at (sym (without-below key (f y).0 (map f ys) at rising.0))
without-stands f (y ∷ ys) key (suc i) rising at =
    rw (after_is_other (f y).0 key (stands-after (f y).0 (map f ys) key i rising.0 at)) (ap (λ l. f y ∷ l) (without-stands f ys key i rising.1 at))

without-absent : (key : PmuKey) (es : Listing) → IsBelow key es → without_config es key ≡ es
without-absent key [] below = refl
without-absent key (e ∷ es) below = rw (before_is_other key e.0 below.0) (ap (λ l. e ∷ l) (without-absent key es below.1))

pub without-fits : (es : Listing) (key : PmuKey) (i : ℕ) → FitsAt es key i → without_config es key ≡ es
without-fits es key zero fits = without-absent key es fits
without-fits [] key (suc i) fits = absurd fits
without-fits (e ∷ es) key (suc i) fits = rw (after_is_other e.0 key fits.0) (ap (λ l. e ∷ l) (without-fits es key i fits.1))

below-without : (k : PmuKey) (es : Listing) (key : PmuKey) → IsBelow k es → IsBelow k (without_config es key)
below-without k [] key below = tt
below-without k (e ∷ es) key below = by (below-without k es key below.1) (key_eq key e.0)
  where
    by : IsBelow k (without_config es key) → (same : Bool) → IsBelow k (if not same then e ∷ without_config es key else without_config es key)
    by rest true = rest
    by rest false = (below.0, rest)

pub rising-without : (es : Listing) (key : PmuKey) → IsRising es → IsRising (without_config es key)
rising-without [] key rising = tt
rising-without (e ∷ es) key rising = by (rising-without es key rising.1) (key_eq key e.0)
  where
    by : IsRising (without_config es key) → (same : Bool) → IsRising (if not same then e ∷ without_config es key else without_config es key)
    by rest true = rest
    by rest false = (below-without e.0 es key rising.0, rest)

nothing : (same : Bool) → ◌≡◌ {A = Option Part} None (if same then None else None)
nothing true = refl
nothing false = refl

-- what is looked up after a removal
pub at-without : (es : Listing) (key k : PmuKey) → config_at (without_config es key) k ≡ (if key_eq k key then None else config_at es k)
at-without [] key k = nothing (key_eq k key)
at-without (e ∷ es) key k = by (at-without es key k) (key_eq key e.0) refl (key_eq k key) refl (key_eq k e.0) refl
  where
    by : config_at (without_config es key) k ≡ (if key_eq k key then None else config_at es k)
        → (same : Bool) → key_eq key e.0 ≡ same → (this : Bool) → key_eq k key ≡ this → (that : Bool) → key_eq k e.0 ≡ that
        → config_at (if not same then e ∷ without_config es key else without_config es key) k ≡ (if this then None else if that then Some e.1 else config_at es k)
    by rest true s true t that u = rest ∙ rw t refl
    by rest true s false t true u = absurd (let no : false ≡ true = sym t ∙ eq_alike k key e.0 s ∙ u in cc)
    by rest true s false t false u = rest ∙ rw t refl
    by rest false s true t true u = absurd (let no : false ≡ true = sym (unlike k key e.0 t s) ∙ u in cc)
    by rest false s true t false u = rw u (rest ∙ rw t refl)
    by rest false s false t true u = rw u refl
    by rest false s false t false u = rw u (rest ∙ rw t refl)

-- ---- searching

-- each entry from place i on comes after a key before them all
below-at : {A : Type 0} (f : A → PmuKey × Part) (k : PmuKey) (xs : List A) (i : ℕ) (d : A) → IsBelow k (map f xs) → i < length xs → key_before k (f (get_or xs i d)).0 ≡ true
below-at f k [] i d below lt = absurd (omega arith)
below-at f k (x ∷ xs) zero d below lt = below.0
below-at f k (x ∷ xs) (suc i) d below lt = below-at f k xs i d below.1 (omega arith)

comparisons-rise : {A : Type 0} (f : A → PmuKey × Part) (key : PmuKey) (xs : List A) → IsRising (map f xs) → IsNonDecreasingBy (λ x. ordering_index (key_cmp (f x).0 key)) xs
comparisons-rise f key [] rising i j d le lt = absurd (omega arith)
comparisons-rise f key (x ∷ xs) rising zero zero d le lt = omega arith
comparisons-rise f key (x ∷ xs) rising zero (suc j) d le lt = cmp_rises (f x).0 (f (get_or xs j d)).0 key (below-at f (f x).0 xs j d rising.0 (omega arith))
comparisons-rise f key (x ∷ xs) rising (suc i) zero d le lt = absurd (omega arith)
comparisons-rise f key (x ∷ xs) rising (suc i) (suc j) d le lt = comparisons-rise f key xs rising.1 i j d (omega arith) (omega arith)

stands-found : {A : Type 0} (f : A → PmuKey × Part) (key : PmuKey) (xs : List A) (i : ℕ) → i < length xs → ((d : A) → key_cmp (f (get_or xs i d)).0 key ≡ Equal) → StandsAt (map f xs) key i
stands-found f key [] i lt equal = absurd (omega arith)
stands-found f key (x ∷ xs) zero lt equal = equal_is_same (f x).0 key (equal x)
stands-found f key (x ∷ xs) (suc i) lt equal = stands-found f key xs i (omega arith) equal

below-found : {A : Type 0} (f : A → PmuKey × Part) (key : PmuKey) (xs : List A) → ((j : ℕ) (d : A) → j < length xs → key_cmp (f (get_or xs j d)).0 key ≡ Greater) → IsBelow key (map f xs)
below-found f key [] greater = tt
below-found f key (x ∷ xs) greater = (greater_is_after (f x).0 key (greater 0 x (omega arith)), below-found f key xs (λ j d lt. greater (suc j) d (omega arith)))

fits-found : {A : Type 0} (f : A → PmuKey × Part) (key : PmuKey) (xs : List A) (i : ℕ) → i ≤ length xs
    → ((j : ℕ) (d : A) → j < i → key_cmp (f (get_or xs j d)).0 key ≡ Less) → ((j : ℕ) (d : A) → i ≤ j → j < length xs → key_cmp (f (get_or xs j d)).0 key ≡ Greater)
    → FitsAt (map f xs) key i
fits-found f key xs zero le less greater = below-found f key xs (λ j d lt. greater j d (omega arith) lt)
fits-found f key [] (suc i) le less greater = absurd (omega arith)
fits-found f key (x ∷ xs) (suc i) le less greater =
    (less_is_before (f x).0 key (less 0 x (omega arith)), fits-found f key xs i (omega arith) (λ j d lt. less (suc j) d (omega arith)) (λ j d at lt. greater (suc j) d (omega arith) (omega arith)))

-- what a search by the key answers
pub searched-found : {A : Type 0} (f : A → PmuKey × Part) (key : PmuKey) (xs : List A) (r : Result ℕ ℕ) → IsSearchInRange r (length xs)
    → IsBinarySearchResult (λ x. key_cmp (f x).0 key) xs r → IfOk r (StandsAt (map f xs) key)
searched-found f key xs (Ok i) within equal = stands-found f key xs i within equal
searched-found f key xs (Err i) within parted = tt

pub searched-absent : {A : Type 0} (f : A → PmuKey × Part) (key : PmuKey) (xs : List A) (r : Result ℕ ℕ) → IsRising (map f xs) → IsSearchInRange r (length xs)
    → IsBinarySearchResult (λ x. key_cmp (f x).0 key) xs r → IfErr r (FitsAt (map f xs) key)
searched-absent f key xs (Ok i) rising within equal = tt
searched-absent f key xs (Err i) rising within parted =
    let parts = parted (comparisons-rise f key xs rising) in
    fits-found f key xs i within (λ j d lt. parts.0 j d (omega arith) lt) (λ j d at lt. parts.1 j d at lt)
