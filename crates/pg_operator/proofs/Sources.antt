-- What the tables of sources say together, and the rules of sources, each made where its source first stands.
use Rattle.std.proofs.Common.{◌≡◌, ◌∙◌, sym, ap, refl, rules, eqb-true, ℕ, Bool, true, false, not, List, [], ◌∷◌, ◌++◌, Option, Some, None, option_map, append-nil}
use Rattle.std.specs.Prelude.{◌==◌, ◌&&◌, ◌||◌, filter, option_and_then, option_to_list}
use Rattle.std.specs.List.{list_any}
use Rattle.std.specs.Option.{option_map_or, unwrap_or}
use Rattle.std.proofs.lemmas.List.Folds.{list_any-append}
use Rattle.pg_operator.proofs.Lists.{pushed, same_option}
use Rattle.pg_operator.specs.declared.source.SourceRules.{SourceRules}
use Rattle.pg_operator.specs.Addresses.{AddressValue}
use Rattle.pg_operator.specs.Setups.{Pmu, SourceValue, agreed, bit, every, once, rules_of, said, single, source_by}

-- ---- what two tables say together, and those that are left

pub together_some : (a b c : Option ℕ) (vs : List ℕ) → agreed (option_to_list a ++ option_to_list b) ≡ Some c
    → agreed (option_to_list a ++ (option_to_list b ++ vs)) ≡ agreed (option_to_list c ++ vs)
together_some None None c vs h = let e : None ≡ c = search (rules, h) in ap (λ o. agreed (option_to_list o ++ vs)) e
together_some None (Some b) c vs h = let e : Some b ≡ c = search (rules, h) in ap (λ o. agreed (option_to_list o ++ vs)) e
together_some (Some a) None c vs h = let e : Some a ≡ c = search (rules, h) in ap (λ o. agreed (option_to_list o ++ vs)) e
together_some (Some a) (Some b) c vs h = go (b == a) refl h
  where
    go : (t : Bool) → (b == a) ≡ t → agreed (a ∷ b ∷ []) ≡ Some c → agreed (a ∷ b ∷ vs) ≡ agreed (option_to_list c ++ vs)
    go true e k =
        let one : agreed (a ∷ b ∷ []) ≡ Some (Some a) = rw e refl in
        let f : Some a ≡ c = search (rules, sym one ∙ k) in
        rw e (ap (λ o. agreed (option_to_list o ++ vs)) f)
    go false e k = let two : agreed (a ∷ b ∷ []) ≡ None = rw e refl in absurd (search (rules, sym two ∙ k))

pub together_none : (a b : Option ℕ) (vs : List ℕ) → agreed (option_to_list a ++ option_to_list b) ≡ None
    → agreed (option_to_list a ++ (option_to_list b ++ vs)) ≡ None
together_none None None vs h = absurd (search (rules, h))
together_none None (Some b) vs h = absurd (search (rules, h))
together_none (Some a) None vs h = absurd (search (rules, h))
together_none (Some a) (Some b) vs h = go (b == a) refl h
  where
    go : (t : Bool) → (b == a) ≡ t → agreed (a ∷ b ∷ []) ≡ None → agreed (a ∷ b ∷ vs) ≡ None
    go true e k = let one : agreed (a ∷ b ∷ []) ≡ Some (Some a) = rw e refl in absurd (search (rules, sym one ∙ k))
    go false e k = rw e refl

-- what is said so far, and by the tables that are left
abbrev pub goes_on : (Pmu → Option ℕ) → ℕ → Option ℕ → List Pmu → Option (Option ℕ)
goes_on key source seen ps = agreed (option_to_list seen ++ said key source ps)

pub own_table : (key : Pmu → Option ℕ) (source : ℕ) (a c : Option ℕ) (p : Pmu) (ps : List Pmu) → (p.key.source == source) ≡ true
    → agreed (option_to_list a ++ option_to_list (key p)) ≡ Some c → goes_on key source a (p ∷ ps) ≡ goes_on key source c ps
own_table key source a c p ps own h = rw own (together_some a (key p) c (said key source ps) h)

pub differs_here : (key : Pmu → Option ℕ) (source : ℕ) (a : Option ℕ) (p : Pmu) (ps : List Pmu) → (p.key.source == source) ≡ true
    → agreed (option_to_list a ++ option_to_list (key p)) ≡ None → goes_on key source a (p ∷ ps) ≡ None
differs_here key source a p ps own h = rw own (together_none a (key p) (said key source ps) h)

pub other_table : (key : Pmu → Option ℕ) (source : ℕ) (a : Option ℕ) (p : Pmu) (ps : List Pmu) → (p.key.source == source) ≡ false
    → goes_on key source a (p ∷ ps) ≡ goes_on key source a ps
other_table key source a p ps other = rw other refl

pub none_left : (key : Pmu → Option ℕ) (source : ℕ) (a : Option ℕ) → goes_on key source a [] ≡ Some a
none_left key source None = refl
none_left key source (Some v) = refl

pub no_silence : (pmus : List Pmu) (source : ℕ) → agreed (said (λ p. p.silence) source pmus) ≡ None → rules_of pmus source ≡ None
no_silence pmus source h = rw h refl

-- what the four values make
abbrev pub ruled : ℕ → Option ℕ → Option ℕ → Option ℕ → Option ℕ → SourceRules
ruled source silence clock ahead first = record { source = source; silence = unwrap_or silence 10; clock_ms = clock; ahead_ms = unwrap_or ahead 200; prefer_first = option_map_or (λ b. b == 1) first false }

abbrev pub by_four : ℕ → Option (Option ℕ) → Option (Option ℕ) → Option (Option ℕ) → Option (Option ℕ) → Option SourceRules
by_four source s c a f =
    option_and_then (λ silence. option_and_then (λ clock. option_and_then (λ ahead. option_map (ruled source silence clock ahead) f) a) c) s

clock_none : (source : ℕ) (s a f : Option (Option ℕ)) → by_four source s None a f ≡ None
clock_none source None a f = refl
clock_none source (Some s) a f = refl

ahead_none : (source : ℕ) (s c f : Option (Option ℕ)) → by_four source s c None f ≡ None
ahead_none source None c f = refl
ahead_none source (Some s) None f = refl
ahead_none source (Some s) (Some c) f = refl

first_none : (source : ℕ) (s c a : Option (Option ℕ)) → by_four source s c a None ≡ None
first_none source None c a = refl
first_none source (Some s) None a = refl
first_none source (Some s) (Some c) None = refl
first_none source (Some s) (Some c) (Some a) = refl

-- what the tables of a source say of each
abbrev pub silence_of : List Pmu → ℕ → Option (Option ℕ)
silence_of pmus source = agreed (said (λ p. p.silence) source pmus)

abbrev pub clock_of : List Pmu → ℕ → Option (Option ℕ)
clock_of pmus source = agreed (said (λ p. p.clock_ms) source pmus)

abbrev pub ahead_of : List Pmu → ℕ → Option (Option ℕ)
ahead_of pmus source = agreed (said (λ p. p.ahead_ms) source pmus)

abbrev pub first_of : List Pmu → ℕ → Option (Option ℕ)
first_of pmus source = agreed (said (λ p. option_map bit p.prefer_first) source pmus)

pub no_clock : (pmus : List Pmu) (source : ℕ) → clock_of pmus source ≡ None → rules_of pmus source ≡ None
no_clock pmus source h =
    ap (λ o. by_four source (silence_of pmus source) o (ahead_of pmus source) (first_of pmus source)) h
    ∙ clock_none source (silence_of pmus source) (ahead_of pmus source) (first_of pmus source)

pub no_ahead : (pmus : List Pmu) (source : ℕ) → ahead_of pmus source ≡ None → rules_of pmus source ≡ None
no_ahead pmus source h =
    ap (λ o. by_four source (silence_of pmus source) (clock_of pmus source) o (first_of pmus source)) h
    ∙ ahead_none source (silence_of pmus source) (clock_of pmus source) (first_of pmus source)

pub no_first : (pmus : List Pmu) (source : ℕ) → first_of pmus source ≡ None → rules_of pmus source ≡ None
no_first pmus source h =
    ap (λ o. by_four source (silence_of pmus source) (clock_of pmus source) (ahead_of pmus source) o) h
    ∙ first_none source (silence_of pmus source) (clock_of pmus source) (ahead_of pmus source)

-- ---- one address at most

pub one_or_other : {X : Type 0} (a b c : Option X) (vs : List X) → single (option_to_list a ++ option_to_list b) ≡ Some c
    → single (option_to_list a ++ (option_to_list b ++ vs)) ≡ single (option_to_list c ++ vs)
one_or_other None None c vs h = let e : None ≡ c = search (rules, h) in ap (λ o. single (option_to_list o ++ vs)) e
one_or_other None (Some b) c vs h = let e : Some b ≡ c = search (rules, h) in ap (λ o. single (option_to_list o ++ vs)) e
one_or_other (Some a) None c vs h = let e : Some a ≡ c = search (rules, h) in ap (λ o. single (option_to_list o ++ vs)) e
one_or_other (Some a) (Some b) c vs h = absurd (search (rules, h))

pub both : {X : Type 0} (a b : Option X) (vs : List X) → single (option_to_list a ++ option_to_list b) ≡ None
    → single (option_to_list a ++ (option_to_list b ++ vs)) ≡ None
both None None vs h = absurd (search (rules, h))
both None (Some b) vs h = absurd (search (rules, h))
both (Some a) None vs h = absurd (search (rules, h))
both (Some a) (Some b) vs h = refl

-- the address so far, and those of the tables that are left
abbrev pub with_left : ℕ → Option (List AddressValue) → List Pmu → Option (Option (List AddressValue))
with_left source seen ps = single (option_to_list seen ++ said (λ p. p.connect) source ps)

pub own_address : (source : ℕ) (a c : Option (List AddressValue)) (p : Pmu) (ps : List Pmu) → (p.key.source == source) ≡ true
    → single (option_to_list a ++ option_to_list p.connect) ≡ Some c → with_left source a (p ∷ ps) ≡ with_left source c ps
own_address source a c p ps own h = rw own (one_or_other a p.connect c (said (λ q. q.connect) source ps) h)

pub second_address : (source : ℕ) (a : Option (List AddressValue)) (p : Pmu) (ps : List Pmu) → (p.key.source == source) ≡ true
    → single (option_to_list a ++ option_to_list p.connect) ≡ None → with_left source a (p ∷ ps) ≡ None
second_address source a p ps own h = rw own (both a p.connect (said (λ q. q.connect) source ps) h)

pub other_address : (source : ℕ) (a : Option (List AddressValue)) (p : Pmu) (ps : List Pmu) → (p.key.source == source) ≡ false
    → with_left source a (p ∷ ps) ≡ with_left source a ps
other_address source a p ps other = rw other refl

pub no_address_left : (source : ℕ) (a : Option (List AddressValue)) → with_left source a [] ≡ Some a
no_address_left source None = refl
no_address_left source (Some v) = refl

-- ---- each source once

abbrev pub has : ℕ → List SourceValue → Bool
has y sources = list_any (λ s. s.rules.source == y) sources

-- the sources that are there, and those that are left
abbrev pub made : List Pmu → List SourceValue → List ℕ → Option (List SourceValue)
made all seen ys = option_map (λ more. seen ++ more) (every (source_by all) (filter (λ y. not (has y seen)) ys))

filter_both : (p q r : ℕ → Bool) → ((y : ℕ) → (p y && q y) ≡ r y) → (ys : List ℕ) → filter p (filter q ys) ≡ filter r ys
filter_both p q r h [] = refl
filter_both p q r h (y ∷ ys) = go (p y) (q y) refl refl (h y) (filter_both p q r h ys)
  where
    go : (a b : Bool) → p y ≡ a → q y ≡ b → (p y && q y) ≡ r y → filter p (filter q ys) ≡ filter r ys → filter p (filter q (y ∷ ys)) ≡ filter r (y ∷ ys)
    go true true ea eb e ih = let k : r y ≡ true = sym e ∙ rw (ea, eb) refl in rw (eb, ea, k) (ap (λ l. y ∷ l) ih)
    go false true ea eb e ih = let k : r y ≡ false = sym e ∙ rw ea refl in rw (eb, ea, k) ih
    go true false ea eb e ih = let k : r y ≡ false = sym e ∙ rw (ea, eb) refl in rw (eb, k) ih
    go false false ea eb e ih = let k : r y ≡ false = sym e ∙ rw ea refl in rw (eb, k) ih

all_kept : (ys : List ℕ) → filter (λ y. true) ys ≡ ys
all_kept [] = refl
all_kept (y ∷ ys) = ap (λ l. y ∷ l) (all_kept ys)

pub at_first : (all : List Pmu) (ys : List ℕ) → made all [] ys ≡ every (source_by all) ys
at_first all ys = same_option (every (source_by all) (filter (λ y. true) ys)) ∙ ap (every (source_by all)) (all_kept ys)

pub at_last : (all : List Pmu) (seen : List SourceValue) → made all seen [] ≡ Some seen
at_last all seen = ap Some (append-nil seen)

and_true : (a : Bool) → (a && true) ≡ a
and_true true = refl
and_true false = refl

pub seen_before : (all : List Pmu) (seen : List SourceValue) (s : ℕ) (xs : List ℕ) → has s seen ≡ true
    → made all seen (once (s ∷ xs)) ≡ made all seen (once xs)
seen_before all seen s xs h =
    rw h (ap (λ l. option_map (λ more. seen ++ more) (every (source_by all) l)) (filter_both (λ y. not (has y seen)) (λ y. not (s == y)) (λ y. not (has y seen)) same (once xs)))
  where
    go : (y : ℕ) (t : Bool) → (s == y) ≡ t → (not (has y seen) && not (s == y)) ≡ not (has y seen)
    go y true e = let k : has y seen ≡ true = ap (λ x. has x seen) (sym (eqb-true s y e)) ∙ h in rw k refl
    go y false e = rw e (and_true (not (has y seen)))

    same : (y : ℕ) → (not (has y seen) && not (s == y)) ≡ not (has y seen)
    same y = go y (s == y) refl

own_source : (all : List Pmu) (s : ℕ) (r : SourceValue) → source_by all s ≡ Some r → r.rules.source ≡ s
own_source all s r h = go (single (said (λ p. p.connect) s all)) (rules_of all s) refl h
  where
    of_rules : (q : SourceRules) → rules_of all s ≡ Some q → q.source ≡ s
    of_rules q k = by (silence_of all s) (clock_of all s) (ahead_of all s) (first_of all s) k
      where
        by : (x y z v : Option (Option ℕ)) → by_four s x y z v ≡ Some q → q.source ≡ s
        by None y z v k = absurd (search (rules, k))
        by (Some a) None z v k = absurd (search (rules, k))
        by (Some a) (Some b) None v k = absurd (search (rules, k))
        by (Some a) (Some b) (Some c) None k = absurd (search (rules, k))
        by (Some a) (Some b) (Some c) (Some d) k = let e : ruled s a b c d ≡ q = search (rules, k) in sym (ap (λ t. t.source) e)

    go : (x : Option (Option (List AddressValue))) (y : Option SourceRules) → rules_of all s ≡ y
        → option_and_then (λ connect. option_map (λ rules. record { connect = unwrap_or connect []; rules = rules }) y) x ≡ Some r → r.rules.source ≡ s
    go None y e k = absurd (search (rules, k))
    go (Some a) None e k = absurd (search (rules, k))
    go (Some a) (Some q) e k =
        let same : record { connect = unwrap_or a []; rules = q } ≡ r = search (rules, k) in sym (ap (λ t. t.rules.source) same) ∙ of_rules q e

not_either : (a b : Bool) → (not a && not b) ≡ not (a || (b || false))
not_either true b = refl
not_either false true = refl
not_either false false = refl

pub first_seen : (all : List Pmu) (seen : List SourceValue) (s : ℕ) (xs : List ℕ) (r : SourceValue) → has s seen ≡ false → source_by all s ≡ Some r
    → made all seen (once (s ∷ xs)) ≡ made all (seen ++ r ∷ []) (once xs)
first_seen all seen s xs r h k =
    rw (h, k) (pushed seen r (every (source_by all) (filter (λ y. not (has y seen)) (filter (λ y. not (s == y)) (once xs))))
    ∙ ap (λ l. option_map (λ more. (seen ++ r ∷ []) ++ more) (every (source_by all) l)) (filter_both (λ y. not (has y seen)) (λ y. not (s == y)) (λ y. not (has y (seen ++ r ∷ []))) same (once xs)))
  where
    same : (y : ℕ) → (not (has y seen) && not (s == y)) ≡ not (has y (seen ++ r ∷ []))
    same y = not_either (has y seen) (s == y) ∙ ap (λ z. not (has y seen || (z == y || false))) (sym (own_source all s r k)) ∙ ap not (sym (list_any-append (λ t. t.rules.source == y) seen (r ∷ [])))

pub no_source : (all : List Pmu) (seen : List SourceValue) (s : ℕ) (xs : List ℕ) → has s seen ≡ false → source_by all s ≡ None
    → made all seen (once (s ∷ xs)) ≡ None
no_source all seen s xs h k = rw (h, k) refl
