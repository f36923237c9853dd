-- A list of the setup file, read item by item.
use Rattle.std.proofs.Common.{Bool, true, false, ◌≡◌, ◌∙◌, sym, ap, refl, rules, append-nil, ℕ, suc, ◌+◌, ◌<◌, ◌≤◌, List, [], ◌∷◌, ◌++◌, drop, length, get_or, Option, Some, None, option_map, append_assoc}
use Rattle.std.proofs.lemmas.List.{at_drop_more, at_drop_all}
use Rattle.toml.specs.Data.{Data, Items, string, integer, float, boolean, datetime, array, table, as_array}
use Rattle.toml.specs.View.{view, items_view}
use Rattle.toml.specs.declared.value.Value.{Value}
use Rattle.std.specs.Prelude.{◌&&◌, is_some, option_and_then, if◌then◌else◌, nat_le}
use Rattle.std.specs.List.{filter_map, list_all}
use Rattle.pg_operator.specs.Addresses.{AddressValue}
use Rattle.pg_operator.specs.Setups.{address_in, each, few_in, list_of}

pub pushed : {X : Type 0} (old : List X) (x : X) (o : Option (List X))
    → option_map (λ more. old ++ more) (option_map (λ rest. x ∷ rest) o) ≡ option_map (λ more. (old ++ x ∷ []) ++ more) o
pushed old x None = refl
pushed old x (Some rest) = ap Some (sym (append_assoc old (x ∷ []) rest))

-- what is read so far, before what is left
abbrev pub joins : {X : Type 0} → (Data → Option X) → List X → List Value → Option (List X)
joins read old vs = option_map (λ rest. old ++ rest) (each read (items_view vs))

pub one_read : {X : Type 0} (read : Data → Option X) (old : List X) (v : Value) (x : X) (vs : List Value) → read (view v) ≡ Some x
    → joins read old (v ∷ vs) ≡ joins read (old ++ x ∷ []) vs
one_read read old v x vs h = rw h (pushed old x (each read (items_view vs)))

pub next_read : {X : Type 0} (read : Data → Option X) (all : List Value) (i : ℕ) (v : Value) (x : X) (old new : List X) (whole : Option (List X))
    → i < length all → v ≡ get_or all i v → read (view v) ≡ Some x → new ≡ old ++ x ∷ [] → whole ≡ joins read old (drop i all)
    → whole ≡ joins read new (drop (i + 1) all)
next_read read all i v x old new whole l at h grown so_far =
    so_far ∙ at_drop_more (joins read old) all i v l ∙ ap (λ y. joins read old (y ∷ drop (i + 1) all)) (sym at)
    ∙ one_read read old v x (drop (i + 1) all) h ∙ ap (λ zs. joins read zs (drop (i + 1) all)) (sym grown)

pub same_option : {X : Type 0} (o : Option (List X)) → option_map (λ more. [] ++ more) o ≡ o
same_option None = refl
same_option (Some xs) = refl

pub nothing_yet : {X : Type 0} (read : Data → Option X) (all : List Value) (new : List X) → new ≡ [] → each read (items_view all) ≡ joins read new all
nothing_yet read all new e = sym (same_option (each read (items_view all))) ∙ ap (λ xs. joins read xs all) (sym e)

pub not_read : {X : Type 0} (read : Data → Option X) (all : List Value) (i : ℕ) (v : Value) (old : List X) (whole : Option (List X))
    → i < length all → v ≡ get_or all i v → read (view v) ≡ None → whole ≡ joins read old (drop i all) → whole ≡ None
not_read read all i v old whole l at h so_far =
    so_far ∙ at_drop_more (joins read old) all i v l ∙ ap (λ y. joins read old (y ∷ drop (i + 1) all)) (sym at) ∙ rw h refl

pub all_read : {X : Type 0} (read : Data → Option X) (all : List Value) (i : ℕ) (old : List X) (whole : Option (List X))
    → length all ≤ i → whole ≡ joins read old (drop i all) → whole ≡ Some old
all_read read all i old whole l so_far = so_far ∙ at_drop_all (joins read old) all i l ∙ ap Some (append-nil old)

listed : {X : Type 0} (read : Data → Option X) (d : Data) (ds : Items) → Some ds ≡ as_array d → list_of read d ≡ each read ds
listed read (array es) ds e = let same : ds ≡ es = search (rules, e) in ap (each read) (sym same)
listed read (string s) ds e = absurd (search (rules, e))
listed read (integer n) ds e = absurd (search (rules, e))
listed read (float x) ds e = absurd (search (rules, e))
listed read (boolean b) ds e = absurd (search (rules, e))
listed read (datetime t) ds e = absurd (search (rules, e))
listed read (table ms) ds e = absurd (search (rules, e))

-- a value that is a list is read as its items are
pub items_listed : {X : Type 0} (read : Data → Option X) (d : Data) (held all : List Value) → Some (items_view held) ≡ as_array d → all ≡ held
    → list_of read d ≡ each read (items_view all)
items_listed read d held all e same = listed read d (items_view held) e ∙ ap (λ vs. each read (items_view vs)) (sym same)

-- ---- a list of which each item is read, or not each

abbrev all_read_in : {X : Type 0} → (Data → Option X) → List Value → Bool
all_read_in read vs = list_all (λ v. is_some (read (view v))) vs

abbrev pub read_in : {X : Type 0} → (Data → Option X) → List Value → List X
read_in read vs = filter_map (λ v. read (view v)) vs

pub each_read : {X : Type 0} (read : Data → Option X) (vs : List Value) → all_read_in read vs ≡ true → each read (items_view vs) ≡ Some (read_in read vs)
each_read {X = X} read [] h = refl
each_read {X = X} read (v ∷ vs) h = by (read (view v)) refl h (λ k. each_read read vs k)
  where
    by : (o : Option X) → read (view v) ≡ o → (is_some o && all_read_in read vs) ≡ true → (all_read_in read vs ≡ true → each read (items_view vs) ≡ Some (read_in read vs)) → each read (items_view (v ∷ vs)) ≡ Some (read_in read (v ∷ vs))
    by None e k rest = absurd (search (rules, k))
    by (Some x) e k rest = rw e (ap (λ o. option_map (λ xs. x ∷ xs) o) (rest k))

pub not_each : {X : Type 0} (read : Data → Option X) (vs : List Value) → all_read_in read vs ≡ false → each read (items_view vs) ≡ None
not_each {X = X} read [] h = absurd (search (rules, h))
not_each {X = X} read (v ∷ vs) h = by (read (view v)) refl h (λ k. not_each read vs k)
  where
    by : (o : Option X) → read (view v) ≡ o → (is_some o && all_read_in read vs) ≡ false → (all_read_in read vs ≡ false → each read (items_view vs) ≡ None) → each read (items_view (v ∷ vs)) ≡ None
    by None e k rest = rw e refl
    by (Some x) e k rest = rw e (ap (λ o. option_map (λ xs. x ∷ xs) o) (rest k))

pub as_many : {X : Type 0} (read : Data → Option X) (vs : List Value) → all_read_in read vs ≡ true → length (read_in read vs) ≡ length vs
as_many {X = X} read [] h = refl
as_many {X = X} read (v ∷ vs) h = by (read (view v)) refl h (λ k. as_many read vs k)
  where
    by : (o : Option X) → read (view v) ≡ o → (is_some o && all_read_in read vs) ≡ true → (all_read_in read vs ≡ true → length (read_in read vs) ≡ length vs) → length (read_in read (v ∷ vs)) ≡ length (v ∷ vs)
    by None e k rest = absurd (search (rules, k))
    by (Some x) e k rest = rw e (ap suc (rest k))

-- as many as there may be, of these addresses
abbrev in_range : ℕ → List AddressValue → Option (List AddressValue)
in_range n list = if nat_le 1 n && nat_le n 4 then Some list else None

pub few_read : (vs : List Value) → all_read_in address_in vs ≡ true → (nat_le 1 (length vs) && nat_le (length vs) 4) ≡ true → few_in (items_view vs) ≡ Some (read_in address_in vs)
few_read vs all few =
    rw (each_read address_in vs all) (ap (λ n. in_range n (read_in address_in vs)) (as_many address_in vs all) ∙ rw few refl)

pub many_read : (vs : List Value) → (nat_le 1 (length vs) && nat_le (length vs) 4) ≡ false → few_in (items_view vs) ≡ None
many_read vs many = by (all_read_in address_in vs) refl
  where
    by : (b : Bool) → all_read_in address_in vs ≡ b → few_in (items_view vs) ≡ None
    by true all = rw (each_read address_in vs all) (ap (λ n. in_range n (read_in address_in vs)) (as_many address_in vs all) ∙ rw many refl)
    by false some = rw (not_each address_in vs some) refl

pub bad_read : (vs : List Value) → all_read_in address_in vs ≡ false → few_in (items_view vs) ≡ None
bad_read vs some = rw (not_each address_in vs some) refl
