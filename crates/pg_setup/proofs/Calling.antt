-- Calls of two setups, and the orders between them.
use Rattle.std.proofs.Common.{◌≡◌, ◌∙◌, sym, ap, refl, ℕ, Bool, true, false, true≢false, List, [], ◌∷◌, ◌++◌, map, Option, Some, None, append_assoc}
use Rattle.std.proofs.lemmas.Bool.{false≢true}
use Rattle.std.proofs.lemmas.List.Folds.{list_any-append}
use Rattle.std.specs.Prelude.{if◌then◌else◌, ◌==◌, ◌&&◌, ◌||◌, nat_eq}
use Rattle.std.specs.Cmp.Lexicographic.{pointwise}
use Rattle.std.specs.Option.{option_eq}
use Rattle.std.specs.List.{cons_option, filter_map, list_any}
use Rattle.pg_operator.specs.Addresses.{AddressValue, at, named}
use Rattle.pg_operator.specs.Setups.{PortValue, SourceValue}
use Rattle.pg_limits.specs.Hosts.{Net}
use Rattle.pg_limits.specs.declared.layouts.OnChange.{OnChange}
use Rattle.pg_limits.specs.declared.layouts.OnChange.TheVariants as on_change
use Rattle.pg_setup.specs.Ports.{allow_eq, change_eq, is_same_bool, net_eq, opened_eq}
use Rattle.pg_setup.specs.Orders.{SameCalls, SamePorts, OrderValue, address_eq, called_eq, dialled, is_about, is_of, listened, orders_between, port_orders_between, undialled, unlistened}
use Rattle.pg_setup.proofs.Adding.{any_made, made_of}
use Rattle.pg_setup.proofs.Same.{all_same, nat_same, number_same, or_left, or_right}

-- ---- one among others

abbrev pub is_there : {X V : Type 0} → (V → V → Bool) → (X → V) → List X → X → Bool
is_there eq view others x = list_any (λ d. eq (view d) (view x)) others

-- what is ordered of it, where the others have it not
abbrev pub unless_there : {V : Type 0} → (V → V → Bool) → (V → OrderValue) → List V → V → Option OrderValue
unless_there eq order others v = if list_any (λ d. eq d v) others then None else Some (order v)

pub ordered : {X V : Type 0} (eq : V → V → Bool) (order : V → OrderValue) (view : X → V) (others : List X) (x : X) (v : V) → v ≡ view x → is_there eq view others x ≡ false
    → unless_there eq order (map view others) (view x) ≡ Some (order v)
ordered eq order view others x v is absent =
    ap (λ t. if t then None else Some (order (view x))) (any_made (λ d. eq d (view x)) view others ∙ absent) ∙ ap (λ z. Some (order z)) (sym is)

pub not_ordered : {X V : Type 0} (eq : V → V → Bool) (order : V → OrderValue) (view : X → V) (others : List X) (x : X) → is_there eq view others x ≡ true
    → unless_there eq order (map view others) (view x) ≡ None
not_ordered eq order view others x there =
    ap (λ t. if t then None else Some (order (view x))) (any_made (λ d. eq d (view x)) view others ∙ there)

-- those that end, then those that begin
pub whole_orders : {X V : Type 0} (view : X → V) (end begin : List V → V → Option OrderValue) (none some all : List OrderValue) (xs others : List X) (before after : List V)
    → map view xs ≡ before → map view others ≡ after
    → some ≡ none ++ filter_map (λ x. end (map view others) (view x)) xs
    → all ≡ some ++ filter_map (λ x. begin (map view xs) (view x)) others
    → all ≡ none ++ (filter_map (end after) before ++ filter_map (begin before) after)
whole_orders view end begin none some all xs others before after is_before is_after first second =
    let left : filter_map (λ x. end (map view others) (view x)) xs ≡ filter_map (end after) before =
    sym (made_of (end (map view others)) view xs) ∙ (λ i. filter_map (end (is_after i)) (is_before i)) in
    let right : filter_map (λ x. begin (map view xs) (view x)) others ≡ filter_map (begin before) after =
    sym (made_of (begin (map view xs)) view others) ∙ (λ i. filter_map (begin (is_before i)) (is_after i)) in
    second ∙ (λ i. first i ++ right i) ∙ (λ i. (none ++ left i) ++ filter_map (begin before) after)
    ∙ append_assoc none (filter_map (end after) before) (filter_map (begin before) after)

-- ---- where both setups have the same of some calls, no order is about these

clock_same : (o : Option ℕ) → option_eq nat_eq o o ≡ true
clock_same None = refl
clock_same (Some n) = nat_same n

address_same : (a : AddressValue) → address_eq a a ≡ true
address_same (at e) = λ i. number_same e.0 i && number_same e.1 i
address_same (named w) = all_same nat_eq nat_same w

connect_same : (list : List AddressValue) → pointwise address_eq list list ≡ true
connect_same list = all_same address_eq address_same list

truth_same : (b : Bool) → is_same_bool b b ≡ true
truth_same true = refl
truth_same false = refl

called_same : (c : SourceValue) → called_eq c c ≡ true
called_same c =
    λ i. connect_same c.connect i
    && ((((number_same c.rules.source i && number_same c.rules.silence i) && clock_same c.rules.clock_ms i) && number_same c.rules.ahead_ms i) && truth_same c.rules.prefer_first i)

abbrev some_told : (OrderValue → Bool) → Option OrderValue → Bool
some_told p None = false
some_told p (Some t) = p t

port_same : (o : PortValue) → opened_eq o o ≡ true
port_same o =
    λ i. number_same o.port i && ((((((number_same o.rules.sub i && number_same o.rules.address i) && allow_same o.rules.allow i) && truth_same o.rules.takeover i)
    && number_same o.rules.stall i) && number_same o.rules.idle i) && change_same o.rules.change i)
  where
    net_same : (n : Net) → net_eq n n ≡ true
    net_same n = λ i. number_same n.address i && number_same n.bits i

    allow_same : (a : Option (List Net)) → allow_eq a a ≡ true
    allow_same None = refl
    allow_same (Some ns) = all_same net_eq net_same ns

    change_same : (c : OnChange) → change_eq c c ≡ true
    change_same on_change.Safe = refl
    change_same on_change.HangUp = refl
    change_same on_change.Keep = refl

-- an order is given only where the other setup has the thing not, which it has where it is one of these
unsaid : (p : OrderValue → Bool) (t : OrderValue) (there mine : Bool) → p t ≡ mine → (mine ≡ true → there ≡ true) → some_told p (if there then None else Some t) ≡ false
unsaid p t true mine is has = refl
unsaid p t false true is has = absurd (false≢true (has refl))
unsaid p t false false is has = is

abbrev is_in : {X : Type 0} → (X → X → Bool) → List X → X → Bool
is_in eq xs x = list_any (λ y. eq y x) xs

quiet_in : {X : Type 0} (eq : X → X → Bool) (same : (x : X) → eq x x ≡ true) (p : OrderValue → Bool) (f : X → Option OrderValue) (all xs : List X)
    → ((x : X) → is_in eq xs x ≡ true → is_in eq all x ≡ true)
    → ((x : X) → is_in eq all x ≡ true → some_told p (f x) ≡ false) → list_any p (filter_map f xs) ≡ false
quiet_in eq same p f all [] within each = refl
quiet_in eq same p f all (x ∷ xs) within each =
    by (f x) (each x (within x (or_left (eq x x) (is_in eq xs x) (same x))))
    (quiet_in eq same p f all xs (λ c there. within c (or_right (eq x c) (is_in eq xs c) there)) each)
  where
    by : (o : Option OrderValue) → some_told p o ≡ false → list_any p (filter_map f xs) ≡ false → list_any p (cons_option o (filter_map f xs)) ≡ false
    by None none rest = rest
    by (Some t) none rest = ap (λ a. a || list_any p (filter_map f xs)) none ∙ rest

no_orders : {X : Type 0} (eq : X → X → Bool) (same : (x : X) → eq x x ≡ true) (end begin : X → OrderValue) (p : OrderValue → Bool) (q : X → Bool)
    → ((x : X) → p (end x) ≡ q x) → ((x : X) → p (begin x) ≡ q x)
    → (old new : List X) → ((x : X) → q x ≡ true → is_in eq old x ≡ is_in eq new x)
    → list_any p (filter_map (λ x. if is_in eq new x then None else Some (end x)) old ++ filter_map (λ x. if is_in eq old x then None else Some (begin x)) new) ≡ false
no_orders eq same end begin p q of_end of_begin old new agree =
    list_any-append p (filter_map (λ x. if is_in eq new x then None else Some (end x)) old) (filter_map (λ x. if is_in eq old x then None else Some (begin x)) new)
    ∙ ap (λ a. a || list_any p (filter_map (λ x. if is_in eq old x then None else Some (begin x)) new))
    (quiet_in eq same p (λ x. if is_in eq new x then None else Some (end x)) old old (λ c h. h)
    (λ x there. unsaid p (end x) (is_in eq new x) (q x) (of_end x) (λ mine. sym (agree x mine) ∙ there)))
    ∙ quiet_in eq same p (λ x. if is_in eq old x then None else Some (begin x)) new new (λ c h. h)
    (λ x there. unsaid p (begin x) (is_in eq old x) (q x) (of_begin x) (λ mine. agree x mine ∙ there))

-- of calls and of ports
calls_left : (p : OrderValue → Bool) (q : SourceValue → Bool) → ((c : SourceValue) → p (undialled c.rules.source) ≡ q c) → ((c : SourceValue) → p (dialled c) ≡ q c)
    → (old new : List SourceValue) → SameCalls q old new → list_any p (orders_between old new) ≡ false
calls_left p q a b old new agree = no_orders called_eq called_same (λ c. undialled c.rules.source) dialled p q a b old new agree

ports_left : (p : OrderValue → Bool) (q : PortValue → Bool) → ((o : PortValue) → p (unlistened o.rules.sub) ≡ q o) → ((o : PortValue) → p (listened o) ≡ q o)
    → (old new : List PortValue) → SamePorts q old new → list_any p (port_orders_between old new) ≡ false
ports_left p q a b old new agree = no_orders opened_eq port_same (λ o. unlistened o.rules.sub) listened p q a b old new agree

either_none : (p : OrderValue → Bool) (xs ys : List OrderValue) → list_any p xs ≡ false → list_any p ys ≡ false → list_any p (xs ++ ys) ≡ false
either_none p xs ys a b = list_any-append p xs ys ∙ ap (λ t. t || list_any p ys) a ∙ b

pub source_left : (old new : List SourceValue) (before after : List PortValue) (s : ℕ) → SameCalls (λ c. c.rules.source == s) old new
    → list_any (is_about s) (orders_between old new ++ port_orders_between before after) ≡ false
source_left old new before after s agree =
    either_none (is_about s) (orders_between old new) (port_orders_between before after)
    (calls_left (is_about s) (λ c. c.rules.source == s) (λ c. refl) (λ c. refl) old new agree)
    (ports_left (is_about s) (λ o. false) (λ o. refl) (λ o. refl) before after (λ o h. absurd (false≢true h)))

pub port_left : (old new : List SourceValue) (before after : List PortValue) (u : ℕ) → SamePorts (λ o. o.rules.sub == u) before after
    → list_any (is_of u) (orders_between old new ++ port_orders_between before after) ≡ false
port_left old new before after u agree =
    either_none (is_of u) (orders_between old new) (port_orders_between before after)
    (calls_left (is_of u) (λ c. false) (λ c. refl) (λ c. refl) old new (λ c h. absurd (false≢true h)))
    (ports_left (is_of u) (λ o. o.rules.sub == u) (λ o. refl) (λ o. refl) before after agree)

none_told : (ts : List OrderValue) → list_any (λ t. true) ts ≡ false → ts ≡ []
none_told [] h = refl
none_told (t ∷ ts) h = absurd (true≢false h)

pub no_order : (old new : List SourceValue) (before after : List PortValue) → SameCalls (λ c. true) old new → SamePorts (λ o. true) before after
    → orders_between old new ++ port_orders_between before after ≡ []
no_order old new before after calls ports =
    none_told (orders_between old new ++ port_orders_between before after)
    (either_none (λ t. true) (orders_between old new) (port_orders_between before after)
    (calls_left (λ t. true) (λ c. true) (λ c. refl) (λ c. refl) old new calls)
    (ports_left (λ t. true) (λ o. true) (λ o. refl) (λ o. refl) before after ports))

pub orders_joined : (none some all calls ports : List OrderValue) → all ≡ some ++ ports → some ≡ none ++ calls → none ≡ [] → all ≡ calls ++ ports
orders_joined none some all calls ports whole is empty = whole ∙ ap (λ t. t ++ ports) (is ∙ ap (λ t. t ++ calls) empty)
