-- Edits of a setup, compared, and lists that have them.
use Rattle.std.proofs.Common.{◌≡◌, ◌∙◌, sym, ap, refl, ℕ, Bool, true, false, List, [], ◌∷◌, ◌++◌, arith}
use Rattle.std.proofs.lemmas.Bool.{false≢true}
use Rattle.std.proofs.lemmas.Bool.Decides.{nat_tests}
use Rattle.std.proofs.lemmas.List.Folds.{list_any-append}
use Rattle.std.specs.Prelude.{◌==◌, ◌&&◌, ◌||◌, if◌then◌else◌, nat_eq}
use Rattle.std.specs.Cmp.Lexicographic.{pointwise}
use Rattle.std.specs.Str.{bytes_eq}
use Rattle.pg_wire.specs.declared.ids.PmuKey.{PmuKey}
use Rattle.pg_wire.specs.Keys.{key_eq}
use Rattle.pg_stream.specs.declared.definition.Definition.{Definition}
use Rattle.pg_gateway.specs.declared.edit.Edit.{Edit}
use Rattle.pg_gateway.specs.declared.edit.Edit.TheVariants.{AddPmu, AddSub, Grant, Define}
use Rattle.pg_setup.specs.Alike.{adds_with, defines, definition_eq, edit_eq, grants, has, registers}
use Rattle.pg_setup.specs.Edits.{once_after}

-- ---- each edit of a setup is itself

pub number_same : (n : ℕ) → (n == n) ≡ true
number_same n = grind (arith, nat_tests)

pub nat_same : (n : ℕ) → nat_eq n n ≡ true
nat_same n = grind (arith, nat_tests)

pub key_same : (k : PmuKey) → key_eq k k ≡ true
key_same k = grind (arith, nat_tests)

pub all_same : {X : Type 0} (eq : X → X → Bool) → ((x : X) → eq x x ≡ true) → (xs : List X) → pointwise eq xs xs ≡ true
all_same eq same [] = refl
all_same eq same (x ∷ xs) = λ i. same x i && all_same eq same xs i

definition_same : (d : Definition) → definition_eq d d ≡ true
definition_same d =
    λ i. (((((number_same d.stream i && number_same d.rate i) && number_same d.base i) && number_same d.wait i) && number_same d.window i)
    && all_same nat_eq nat_same d.header i) && all_same key_eq key_same d.members i

pub sub_same : (u size bytes : ℕ) → edit_eq (AddSub u size bytes) (AddSub u size bytes) ≡ true
sub_same u size bytes = λ i. (number_same u i && number_same size i) && number_same bytes i

pub grant_same : (u : ℕ) (k : PmuKey) → edit_eq (Grant u k) (Grant u k) ≡ true
grant_same u k = λ i. number_same u i && key_same k i

pub stream_same : (u : ℕ) (d : Definition) → edit_eq (Define u d) (Define u d) ≡ true
stream_same u d = λ i. number_same u i && definition_same d i

-- ---- edits that a test finds to be the same are

and_first : (a b : Bool) → (a && b) ≡ true → a ≡ true
and_first true b h = refl
and_first false b h = h

and_second : (a b : Bool) → (a && b) ≡ true → b ≡ true
and_second true b h = h
and_second false b h = absurd (false≢true h)

pub number_is : (m n : ℕ) → (m == n) ≡ true → m ≡ n
number_is m n h = grind (arith, nat_tests)

nat_is : (m n : ℕ) → nat_eq m n ≡ true → m ≡ n
nat_is m n h = grind (arith, nat_tests)

pub key_is : (k l : PmuKey) → key_eq k l ≡ true → k ≡ l
key_is k l h =
    let source : k.source ≡ l.source = grind (arith, nat_tests) in
    let pmu : k.pmu ≡ l.pmu = grind (arith, nat_tests) in
    λ i. record { source = source i; pmu = pmu i }

all_is : {X : Type 0} (eq : X → X → Bool) → ((x y : X) → eq x y ≡ true → x ≡ y) → (xs ys : List X) → pointwise eq xs ys ≡ true → xs ≡ ys
all_is eq is [] [] h = refl
all_is eq is [] (y ∷ ys) h = absurd (false≢true h)
all_is eq is (x ∷ xs) [] h = absurd (false≢true h)
all_is eq is (x ∷ xs) (y ∷ ys) h =
    let one : x ≡ y = is x y (and_first (eq x y) (pointwise eq xs ys) h) in
    let more : xs ≡ ys = all_is eq is xs ys (and_second (eq x y) (pointwise eq xs ys) h) in
    λ i. one i ∷ more i

definition_is : (d e : Definition) → definition_eq d e ≡ true → d ≡ e
definition_is d e h =
    let c1 : Bool = d.stream == e.stream in
    let c2 : Bool = c1 && d.rate == e.rate in
    let c3 : Bool = c2 && d.base == e.base in
    let c4 : Bool = c3 && d.wait == e.wait in
    let c5 : Bool = c4 && d.window == e.window in
    let c6 : Bool = c5 && bytes_eq d.header e.header in
    let h6 : c6 ≡ true = and_first c6 (pointwise key_eq d.members e.members) h in
    let h5 : c5 ≡ true = and_first c5 (bytes_eq d.header e.header) h6 in
    let h4 : c4 ≡ true = and_first c4 (d.window == e.window) h5 in
    let h3 : c3 ≡ true = and_first c3 (d.wait == e.wait) h4 in
    let h2 : c2 ≡ true = and_first c2 (d.base == e.base) h3 in
    let h1 : c1 ≡ true = and_first c1 (d.rate == e.rate) h2 in
    let members : d.members ≡ e.members = all_is key_eq key_is d.members e.members (and_second c6 (pointwise key_eq d.members e.members) h) in
    let header : d.header ≡ e.header = all_is nat_eq nat_is d.header e.header (and_second c5 (bytes_eq d.header e.header) h6) in
    let window : d.window ≡ e.window = number_is d.window e.window (and_second c4 (d.window == e.window) h5) in
    let wait : d.wait ≡ e.wait = number_is d.wait e.wait (and_second c3 (d.wait == e.wait) h4) in
    let base : d.base ≡ e.base = number_is d.base e.base (and_second c2 (d.base == e.base) h3) in
    let rate : d.rate ≡ e.rate = number_is d.rate e.rate (and_second c1 (d.rate == e.rate) h2) in
    let stream : d.stream ≡ e.stream = number_is d.stream e.stream h1 in
    λ i. record { stream = stream i; rate = rate i; base = base i; wait = wait i; window = window i; header = header i; members = members i }

registers_is : (k : PmuKey) (e : Edit) → registers k e ≡ true → AddPmu k ≡ e
registers_is k (AddPmu l) h = ap AddPmu (key_is k l h)
registers_is k e h = absurd (false≢true h)

adds_is : (u size bytes : ℕ) (e : Edit) → adds_with u size bytes e ≡ true → AddSub u size bytes ≡ e
adds_is u size bytes (AddSub v ring limit) h =
    let both = and_first (u == v && size == ring) (bytes == limit) h in
    let sub : u ≡ v = number_is u v (and_first (u == v) (size == ring) both) in
    let frames : size ≡ ring = number_is size ring (and_second (u == v) (size == ring) both) in
    let most : bytes ≡ limit = number_is bytes limit (and_second (u == v && size == ring) (bytes == limit) h) in
    λ i. AddSub (sub i) (frames i) (most i)
adds_is u size bytes e h = absurd (false≢true h)

grants_is : (u : ℕ) (k : PmuKey) (e : Edit) → grants u k e ≡ true → Grant u k ≡ e
grants_is u k (Grant v l) h =
    let sub : u ≡ v = number_is u v (and_first (u == v) (key_eq k l) h) in
    let key : k ≡ l = key_is k l (and_second (u == v) (key_eq k l) h) in
    λ i. Grant (sub i) (key i)
grants_is u k e h = absurd (false≢true h)

defines_is : (u : ℕ) (d : Definition) (e : Edit) → defines u d e ≡ true → Define u d ≡ e
defines_is u d (Define v e) h =
    let sub : u ≡ v = number_is u v (and_first (u == v) (definition_eq d e) h) in
    let made : d ≡ e = definition_is d e (and_second (u == v) (definition_eq d e) h) in
    λ i. Define (sub i) (made i)
defines_is u d e h = absurd (false≢true h)

pub edit_is : (d e : Edit) → edit_eq d e ≡ true → d ≡ e
edit_is (AddPmu k) e h = registers_is k e h
edit_is (AddSub u size bytes) e h = adds_is u size bytes e h
edit_is (Grant u k) e h = grants_is u k e h
edit_is (Define u d) e h = defines_is u d e h
edit_is d e h = absurd (false≢true h)

-- ---- lists of which each edit stands in another

pub or_left : (a b : Bool) → a ≡ true → (a || b) ≡ true
or_left a b e = ap (λ t. t || b) e

pub or_right : (a b : Bool) → b ≡ true → (a || b) ≡ true
or_right true b e = refl
or_right false b e = e

abbrev pub Within : List Edit → List Edit → Type 0
Within xs all = (e : Edit) → has xs e ≡ true → has all e ≡ true

abbrev pub IsIn : List Edit → Edit → Type 0
IsIn all x = edit_eq x x ≡ true → has all x ≡ true

pub first_in : (x : Edit) (xs all : List Edit) → Within (x ∷ xs) all → IsIn all x
first_in x xs all within own = within x (or_left (edit_eq x x) (has xs x) own)

pub rest_in : (x : Edit) (xs all : List Edit) → Within (x ∷ xs) all → Within xs all
rest_in x xs all within e there = within e (or_right (edit_eq x e) (has xs e) there)

-- once_after has just what was seen and what the list has
once_has : (seen xs : List Edit) (e : Edit) → has (once_after seen xs) e ≡ (has seen e || has xs e)
once_has seen [] e = or_none (has seen e)
  where
    or_none : (a : Bool) → a ≡ (a || false)
    or_none true = refl
    or_none false = refl
once_has seen (x ∷ xs) e = by (has seen x) refl (once_has seen xs e) (once_has (seen ++ x ∷ []) xs e)
  where
    regroup : (a b c : Bool) → ((a || (b || false)) || c) ≡ (a || (b || c))
    regroup true b c = refl
    regroup false true c = refl
    regroup false false c = refl

    both : (a c : Bool) → a ≡ true → (a || c) ≡ (a || (true || c))
    both true c h = refl
    both false c h = absurd (false≢true h)

    known : (s : Bool) → edit_eq x e ≡ s → has seen x ≡ true → (has seen e || has xs e) ≡ (has seen e || (s || has xs e))
    known false other is = refl
    known true same is =
        let there : has seen e ≡ true = ap (has seen) (sym (edit_is x e same)) ∙ is in
        both (has seen e) (has xs e) there

    by : (t : Bool) → has seen x ≡ t → has (once_after seen xs) e ≡ (has seen e || has xs e)
        → has (once_after (seen ++ x ∷ []) xs) e ≡ (has (seen ++ x ∷ []) e || has xs e)
        → has (if t then once_after seen xs else once_after (seen ++ x ∷ []) xs) e ≡ (has seen e || (edit_eq x e || has xs e))
    by true is before after = before ∙ known (edit_eq x e) refl is
    by false is before after =
        after ∙ ap (λ b. b || has xs e) (list_any-append (λ d. edit_eq d e) seen (x ∷ [])) ∙ regroup (has seen e) (edit_eq x e) (has xs e)

pub once_same : (xs : List Edit) (e : Edit) → has (once_after [] xs) e ≡ has xs e
once_same xs e = once_has [] xs e

pub once_within : (xs : List Edit) → Within (once_after [] xs) xs
once_within xs e there = sym (once_same xs e) ∙ there
