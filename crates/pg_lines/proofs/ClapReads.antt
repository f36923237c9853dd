-- `clap` reads each line of plain words as a verb and the words after it.
use Rattle.std.proofs.Common.{◌≡◌, ◌∙◌, sym, ap, ap₂, refl, rules, arith, ℕ, ◌≤◌, ◌<◌, ◌==◌, ◌&&◌, ◌++◌, append-nil, append_assoc, Bool, true, false, List, [], ◌∷◌, length, map, Option, Some, None, is_some, option_map, inl, inr, codes, nat_lt, nat_le, leb-true, leb-false, le-leb, eqb-true, ltb-true, find, lt-ltb}
use Rattle.std.specs.Prelude.{if◌then◌else◌, fold}
use Rattle.std.specs.Option.{option_map_or}
use Rattle.std.proofs.lemmas.Bool.{cases_Bool, and_parts, false_from_ne_true}
use Rattle.std.specs.Str.{bytes_eq}
use Rattle.std.proofs.lemmas.Slice.Eq.{bytes_eq-Decides}
use Rattle.clap.proofs.OnLiterals.{clap_on_literals}
use Rattle.clap.proofs.FaultLemmas.{stopped_fault}
use Rattle.clap.specs.Walk.{Held, Names, Row, Rule, Walk, value, walked, walk, walk_from, nothing_held, finished, rows_after, settled, answers_to}
use Rattle.clap.specs.Simple.{subcommand_of, Shape, App, built, names_of, built_leaf, inherited, label_of, entered, rows_at, is_simple}
use Rattle.clap.specs.Kinds.{Kinds, IsAmong, or_else, range_kinds, values_kinds}
use Rattle.clap.specs.Faults.{fault_of, walk_fault, turn_fault, step_fault, level_fault, settle_fault, defaults_fault, check_fault, entered_fault, is_simple_and_free}
use Rattle.clap.specs.declared.error.kind.ErrorKind.{ErrorKind}
use Rattle.clap.specs.declared.builder.value_parser.ValueParser.TheVariants as vp
use Rattle.pg_lines.specs.Words.{Text}
use Rattle.pg_lines.specs.Lines.{is_plain, all_plain}
use Rattle.pg_lines.specs.Verbs.{verbs}
use Rattle.pg_lines.specs.Clap.{line_app, verb_app, is_nil, Asked, asked, asked_in, asked_by_clap}
use Rattle.pg_lines.proofs.PlainWords.{at, pass, passes_fault, fold_plain, walk_fault_plain, turn_plain}

-- a walk that has met a subcommand only gathers the words after it
pub stopped_walk : (c : List Rule) (names : Names) (v : Walk) (name : Text) (before ws : List Text) → fold (walked c names) (record v { stopped = Some (name, before) }) ws ≡ record v { stopped = Some (name, before ++ ws) }
unfolding walked
stopped_walk c names v name before [] = ap (λ xs. record v { stopped = Some (name, xs) }) (sym (append-nil before))
stopped_walk c names v name before (w ∷ ws) =
    stopped_walk c names v name (before ++ w ∷ []) ws ∙ ap (λ xs. record v { stopped = Some (name, xs) }) (append_assoc before (w ∷ []) ws)

-- one level of a parse of plain words, in terms that look at no word
abbrev pub end_plain : Shape → List Text → Held
end_plain s ws = (fold (pass s.rules) (at nothing_held false 1 false) ws).held

abbrev pub level_plain : Shape → List Text → Kinds
level_plain s ws = or_else (passes_fault s (at nothing_held false 1 false) ws)
    (or_else [] (or_else (settle_fault s.rules s.args_override_self (end_plain s ws))
    (or_else (defaults_fault (settled s.rules (end_plain s ws)).rows s.rules)
    (check_fault s (finished s.rules (end_plain s ws)) false))))

pub level_fault_plain : (s : Shape) (ws : List Text) → all_plain ws ≡ true → level_fault s [] nothing_held ws false [] ≡ level_plain s ws
level_fault_plain s ws e =
    ap₂ (λ x (v : Walk). or_else x (or_else [] (or_else (settle_fault s.rules s.args_override_self v.held)
    (or_else (defaults_fault (settled s.rules v.held).rows s.rules)
    (check_fault s (finished s.rules v.held) false)))))
    (walk_fault_plain s ws nothing_held false 1 false e) (fold_plain s.rules ws nothing_held false 1 false e)

pub rows_plain : (s : Shape) (ws : List Text) → all_plain ws ≡ true → rows_after s.rules [] ws ≡ finished s.rules (end_plain s ws)
rows_plain s ws e = ap (λ (v : Walk). finished s.rules v.held) (fold_plain s.rules ws nothing_held false 1 false e)

-- ---- the subcommand of a verb, whose place takes one to 39 words

abbrev line_built : App
line_built = built line_app

abbrev leaf : Text → Shape
leaf name = built_leaf (inherited line_app.top (verb_app name).top)

abbrev waiting_with : List Text → Walk
waiting_with vs = at (record { rows = []; pending = Some (codes "words", vs); skip = 0 }) true 1 false

gathers : (name : Text) (ws vs : List Text) → fold (pass (leaf name).rules) (waiting_with vs) ws ≡ waiting_with (vs ++ ws)
unfolding clap_on_literals
gathers name [] vs = ap waiting_with (sym (append-nil vs))
gathers name (w ∷ ws) vs = gathers name ws (vs ++ w ∷ []) ∙ ap waiting_with (append_assoc vs (w ∷ []) ws)

gathers_no_fault : (name : Text) (ws vs : List Text) → passes_fault (leaf name) (waiting_with vs) ws ≡ []
unfolding clap_on_literals passes_fault
gathers_no_fault name [] vs = refl
gathers_no_fault name (w ∷ ws) vs = gathers_no_fault name ws (vs ++ w ∷ [])

-- any text is a value
any_text : (vs : List Text) → values_kinds false vp.String vs ≡ []
any_text [] = refl
any_text (v ∷ vs) = any_text vs

end_is : (name m : Text) (ms : List Text) → end_plain (leaf name) (m ∷ ms) ≡ (waiting_with (m ∷ ms)).held
unfolding clap_on_literals
end_is name m ms = ap (λ (v : Walk). v.held) (gathers name ms (m ∷ []))

range_ok : (n : ℕ) → 1 ≤ n → n ≤ 39 → range_kinds 1 39 n ≡ []
range_ok n low high =
    let some : (n == 0) ≡ false = false_from_ne_true (n == 0) (λ e. let z : n ≡ 0 = eqb-true n 0 e in absurd (omega arith)) in
    let few : nat_lt n 1 ≡ false = false_from_ne_true (nat_lt n 1) (λ e. let z = ltb-true n 1 e in absurd (omega arith)) in
    let most : nat_lt 39 n ≡ false = false_from_ne_true (nat_lt 39 n) (λ e. let z = ltb-true 39 n e in absurd (omega arith)) in
    rw (some, few, most) refl

range_bad : (n : ℕ) → 39 < n → is_nil (range_kinds 1 39 n) ≡ false
range_bad n high =
    let some : (n == 0) ≡ false = false_from_ne_true (n == 0) (λ e. let z : n ≡ 0 = eqb-true n 0 e in absurd (omega arith)) in
    let few : nat_lt n 1 ≡ false = false_from_ne_true (nat_lt n 1) (λ e. let z = ltb-true n 1 e in absurd (omega arith)) in
    let most : nat_lt 39 n ≡ true = lt-ltb 39 n high in
    rw (some, few, most) refl

-- the fault of m words is that of their number
level_is : (name m : Text) (ms : List Text) → level_plain (leaf name) (m ∷ ms) ≡ or_else (range_kinds 1 39 (length (m ∷ ms))) []
unfolding clap_on_literals passes_fault
level_is name m ms =
    ap₂ (λ x h. or_else x (or_else [] (or_else (settle_fault (leaf name).rules (leaf name).args_override_self h)
    (or_else (defaults_fault (settled (leaf name).rules h).rows (leaf name).rules)
    (check_fault (leaf name) (finished (leaf name).rules h) false)))))
    (gathers_no_fault name ms (m ∷ [])) (end_is name m ms)
    ∙ ap (λ (k : Kinds). or_else (or_else (range_kinds 1 39 (length (m ∷ ms))) k) []) (any_text (m ∷ ms))
    ∙ twice (range_kinds 1 39 (length (m ∷ ms)))
  where
    twice : (k : Kinds) → or_else (or_else k []) [] ≡ or_else k []
    twice [] = refl
    twice (k ∷ ks) = refl

words_are : (name m : Text) (ms : List Text) → asked_in (Some (name, finished (leaf name).rules (end_plain (leaf name) (m ∷ ms)))) ≡ Some (name, m ∷ ms)
unfolding clap_on_literals
words_are name m ms = ap (λ h. asked_in (Some (name, finished (leaf name).rules h))) (end_is name m ms)

abbrev given : Text → List Text → Asked
given name ws = Some (name, ws)

abbrev in_range : List Text → Bool
in_range ws = nat_le 1 (length ws) && nat_le (length ws) 39

nil_so : (k : Kinds) → is_nil (or_else (or_else k []) []) ≡ is_nil k
nil_so [] = refl
nil_so (k ∷ ks) = refl

leaf_cases : (name : Text) (args : List Text)
    → (if is_nil (or_else (level_plain (leaf name) args) []) then asked_in (Some (name, finished (leaf name).rules (end_plain (leaf name) args))) else None) ≡ (if in_range args then given name args else None)
unfolding clap_on_literals passes_fault
leaf_cases name [] = refl
leaf_cases name (m ∷ ms) =
    ap₂ (λ (k : Kinds) (a : Asked). if is_nil (or_else k []) then a else None) (level_is name m ms) (words_are name m ms)
    ∙ go (nat_le (length (m ∷ ms)) 39) refl
  where
    n : ℕ
    n = length (m ∷ ms)

    some : nat_le 1 n ≡ true
    some = le-leb 1 n (omega arith)

    go : (b : Bool) → nat_le n 39 ≡ b → (if is_nil (or_else (or_else (range_kinds 1 39 n) []) []) then given name (m ∷ ms) else None) ≡ (if in_range (m ∷ ms) then given name (m ∷ ms) else None)
    go true e =
        ap (λ (k : Kinds). if is_nil (or_else (or_else k []) []) then given name (m ∷ ms) else None) (range_ok n (omega arith) (leb-true n 39 e))
        ∙ ap₂ (λ b c. if b && c then given name (m ∷ ms) else None) (sym some) (sym e)
    go false e =
        ap (λ (b : Bool). if b then given name (m ∷ ms) else None) (nil_so (range_kinds 1 39 n) ∙ range_bad n (leb-false n 39 e))
        ∙ ap₂ (λ b c. if b && c then given name (m ∷ ms) else None) (sym some) (sym e)

-- ---- the verb

names_found : (w : Text) (vs : List Text) → find (answers_to w) (map (λ v. (v, [])) vs) ≡ option_map (λ v. (v, [])) (find (λ v. bytes_eq v w) vs)
names_found w [] = refl
names_found w (v ∷ vs) = elim (cases_Bool (bytes_eq v w)) [
  | inl e ↦ rw e refl
  | inr e ↦ rw e (names_found w vs)
]

subs_found : (w : Text) (vs : List Text) → find (λ s. answers_to w (label_of s)) (map leaf vs) ≡ option_map leaf (find (λ v. bytes_eq v w) vs)
subs_found w [] = refl
subs_found w (v ∷ vs) = elim (cases_Bool (bytes_eq v w)) [
  | inl e ↦ rw e refl
  | inr e ↦ rw e (subs_found w vs)
]

find_is : (w : Text) (vs : List Text) (v : Text) → find (λ v. bytes_eq v w) vs ≡ Some v → v ≡ w
find_is w [] v h = absurd (none_some h)
  where
    none_some : None ≡ Some v → ⊥
    none_some e = search rules
find_is w (x ∷ xs) v h = elim (cases_Bool (bytes_eq x w)) [
  | inl e ↦ let first : Some x ≡ Some v = sym (rw e refl) ∙ h in let same : x ≡ v = search (rules, first) in sym same ∙ (bytes_eq-Decides x w).0 e
  | inr e ↦ find_is w xs v (sym (rw e refl) ∙ h)
]

-- a word that names a subcommand ends the walk
walked_verb : (c : List Rule) (ns : Names) (w : Text) (p : Text × List Text) → find (answers_to w) ns ≡ Some p
    → walked c ns (walk_from nothing_held) w ≡ record (walk_from nothing_held) { stopped = Some (p.0, []) }
unfolding walked
walked_verb c ns w p h = rw h refl

and_false : (b : Bool) → (b && false) ≡ false
and_false true = refl
and_false false = refl

turn_verb : (s : Shape) (ns : Names) (w : Text) (p : Text × List Text) → find (answers_to w) ns ≡ Some p → s.disable_help_subcommand ≡ true
    → turn_fault s ns (walk_from nothing_held) w ≡ []
turn_verb s ns w p h e = rw (h, e) (rw (and_false (bytes_eq p.0 (codes "help"))) refl)

walk_verb : (c : List Rule) (ns : Names) (w : Text) (args : List Text) → find (answers_to w) ns ≡ Some (w, [])
    → walk c ns nothing_held (w ∷ args) ≡ record (walk_from nothing_held) { stopped = Some (w, args) }
walk_verb c ns w args h = ap (λ v. fold (walked c ns) v args) (walked_verb c ns w (w, []) h) ∙ stopped_walk c ns (walk_from nothing_held) w [] args

verb_no_fault : (s : Shape) (ns : Names) (w : Text) (args : List Text) → find (answers_to w) ns ≡ Some (w, []) → s.disable_help_subcommand ≡ true
    → walk_fault s ns (walk_from nothing_held) (w ∷ args) ≡ []
unfolding walk_fault
verb_no_fault s ns w args h e =
    ap₂ or_else (turn_verb s ns w (w, []) h e) (ap (λ v. walk_fault s ns v args) (walked_verb s.rules ns w (w, []) h) ∙ stopped_fault s ns (walk_from nothing_held) (w, []) args)

-- what the top level comes to, by the fault of its walk and where that ended
abbrev at_top : Kinds → Walk → Kinds
at_top x v = or_else x (or_else (entered_fault line_built v.stopped)
    (or_else (settle_fault line_built.top.rules line_built.top.args_override_self v.held)
    (or_else (defaults_fault (settled line_built.top.rules v.held).rows line_built.top.rules)
    (check_fault line_built.top (finished line_built.top.rules v.held) (is_some (entered line_built v.stopped))))))

abbrev in_sub : List Text → Option Shape → Kinds
in_sub args o = or_else (option_map_or (λ s. level_fault s [] nothing_held args false []) o [])
    (check_fault line_built.top [] (is_some (option_map (λ s. rows_at s args) o)))

enter_fault : (w : Text) (args : List Text) → find (λ v. bytes_eq v w) verbs ≡ Some w → fault_of line_app (w ∷ args) ≡ or_else (level_fault (leaf w) [] nothing_held args false []) []
unfolding clap_on_literals
enter_fault w args h =
    let name : find (answers_to w) (names_of line_built) ≡ Some (w, []) = names_found w verbs ∙ ap (option_map (λ v. (v, []))) h in
    ap₂ at_top (verb_no_fault line_built.top (names_of line_built) w args name refl) (walk_verb line_built.top.rules (names_of line_built) w args name)
    ∙ ap (in_sub args) (subs_found w verbs ∙ ap (option_map leaf) h)

enter_rows : (w : Text) (args : List Text) → find (λ v. bytes_eq v w) verbs ≡ Some w → subcommand_of line_app (w ∷ args) ≡ Some (w, rows_after (leaf w).rules [] args)
unfolding clap_on_literals
enter_rows w args h =
    let name : find (answers_to w) (names_of line_built) ≡ Some (w, []) = names_found w verbs ∙ ap (option_map (λ v. (v, []))) h in
    ap (λ (v : Walk). entered line_built v.stopped) (walk_verb line_built.top.rules (names_of line_built) w args name)
    ∙ ap (λ o. option_map (λ s. rows_at s args) o) (subs_found w verbs ∙ ap (option_map leaf) h)

verb_read : (w : Text) (args : List Text) → find (λ v. bytes_eq v w) verbs ≡ Some w → all_plain args ≡ true → asked_by_clap (w ∷ args) ≡ (if in_range args then given w args else None)
verb_read w args h e =
    ap₂ (λ (k : Kinds) o. if is_nil k then asked_in o else None) (enter_fault w args h) (enter_rows w args h)
    ∙ ap₂ (λ (k : Kinds) rows. if is_nil (or_else k []) then asked_in (Some (w, rows)) else None) (level_fault_plain (leaf w) args e) (rows_plain (leaf w) args e)
    ∙ leaf_cases w args

-- a plain word that names no subcommand
turn_none : (s : Shape) (ns : Names) (w : Text) → find (answers_to w) ns ≡ None → is_plain w ≡ true → turn_fault s ns (walk_from nothing_held) w ≡ step_fault s 1 nothing_held value
turn_none s ns w h e = rw h refl ∙ turn_plain s false false 1 w nothing_held e

no_verb : (w : Text) (args : List Text) → is_plain w ≡ true → find (λ v. bytes_eq v w) verbs ≡ None → asked_by_clap (w ∷ args) ≡ None
unfolding walk_fault
no_verb w args e h =
    ap (λ (k : Kinds). if is_nil (at_top (or_else k (walk_fault line_built.top (names_of line_built) (walked line_built.top.rules (names_of line_built) (walk_from nothing_held) w) args))
    (walk line_built.top.rules (names_of line_built) nothing_held (w ∷ args))) then asked_in (subcommand_of line_app (w ∷ args)) else None)
    (turn_none line_built.top (names_of line_built) w (names_found w verbs ∙ ap (option_map (λ v. (v, []))) h) e)

-- clap reads each line of plain words as a verb and the words after it
pub reads_words : (ws : List Text) → all_plain ws ≡ true → asked_by_clap ws ≡ asked ws
unfolding clap_on_literals
reads_words [] e = refl
reads_words (w ∷ args) e = go (find (λ v. bytes_eq v w) verbs) refl
  where
    parts : (is_plain w ≡ true) × (all_plain args ≡ true)
    parts = and_parts (is_plain w) (all_plain args) e

    go : (o : Option Text) → find (λ v. bytes_eq v w) verbs ≡ o → asked_by_clap (w ∷ args) ≡ (if is_some o && in_range args then given w args else None)
    go None h = no_verb w args parts.0 h
    go (Some v) h = verb_read w args (h ∙ ap Some (find_is w verbs v h)) parts.1

pub line_ok : (ws : List Text) (found : Option (Text × List Row)) → all_plain ws ≡ true → fault_of line_app ws ≡ [] → found ≡ subcommand_of line_app ws → asked ws ≡ asked_in found
line_ok ws found plain none same =
    sym (reads_words ws plain) ∙ ap (λ (kinds : Kinds). if is_nil kinds then asked_in (subcommand_of line_app ws) else None) none ∙ ap asked_in (sym same)

-- an error of one of these kinds tells that there are some
pub among_some : (k : ErrorKind) (ks : Kinds) → IsAmong k ks → 0 < length ks
among_some k [] h = absurd h
among_some k (x ∷ xs) h = omega arith

pub is_simple_line : is_simple line_app ≡ true
is_simple_line = refl

pub is_free_line : is_simple_and_free line_app ≡ true
is_free_line = refl

pub line_bad : (ws : List Text) → all_plain ws ≡ true → 0 < length (fault_of line_app ws) → asked ws ≡ None
line_bad ws plain some = sym (reads_words ws plain) ∙ go (fault_of line_app ws) some
  where
    go : (kinds : Kinds) → 0 < length kinds → (if is_nil kinds then asked_in (subcommand_of line_app ws) else None) ≡ None
    go [] h = absurd (omega arith)
    go (k ∷ ks) h = refl
