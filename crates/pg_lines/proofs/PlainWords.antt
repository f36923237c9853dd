-- What clap makes of words of which none begins with a hyphen: each goes to the next positional.
use Rattle.std.proofs.Common.{◌≡◌, ◌∙◌, sym, ap, ap₂, refl, ℕ, ◌==◌, ◌||◌, Bool, true, false, not, List, [], ◌∷◌, Option, Some, None}
use Rattle.std.specs.Prelude.{if◌then◌else◌, fold}
use Rattle.std.proofs.lemmas.Bool.{and_parts}
use Rattle.clap.specs.Walk.{Held, Rule, Walk, Waiting, idle, positional, value, word_met, walked, to_positional, arg_by_index, positional_held, is_multiple, next_position}
use Rattle.clap.specs.Simple.{Shape}
use Rattle.clap.specs.Kinds.{Kinds, or_else}
use Rattle.clap.specs.Faults.{word_fault, turn_fault, step_fault, walk_fault}
use Rattle.pg_lines.specs.Words.{Text}
use Rattle.pg_lines.specs.Lines.{is_plain, all_plain}

pub not_is : (b : Bool) → not b ≡ true → b ≡ false
not_is true e = sym e
not_is false e = refl

abbrev pub waits : Bool → Waiting
waits b = if b then positional else idle

-- a walk that waits for no option, and has met no subcommand
abbrev pub at : Held → Bool → ℕ → Bool → Walk
at h b position trailing = record { held = h; waiting = waits b; position = position; is_trailing = trailing; stopped = None }

-- a plain word is a value
pub met_plain : (c : List Rule) (b trailing : Bool) (position : ℕ) (w : Text) (h : Held) → is_plain w ≡ true → word_met c [] trailing (waits b) position w h ≡ (h, value)
met_plain c b true position w h e = refl
met_plain c true false position [] h e = refl
met_plain c false false position [] h e = refl
met_plain c true false position (x ∷ xs) h e = let n = not_is (x == 45) e in rw n (rw n refl)
met_plain c false false position (x ∷ xs) h e = let n = not_is (x == 45) e in rw n (rw n refl)

-- and is no fault by itself
pub fault_plain : (s : Shape) (b trailing : Bool) (w : Text) (h : Held) → is_plain w ≡ true → word_fault s [] trailing (waits b) w h ≡ []
fault_plain s b true w h e = refl
fault_plain s true false [] h e = refl
fault_plain s false false [] h e = refl
fault_plain s true false (x ∷ xs) h e = let n = not_is (x == 45) e in rw n (rw n refl)
fault_plain s false false (x ∷ xs) h e = let n = not_is (x == 45) e in rw n (rw n refl)

-- the walk after one more plain word
abbrev pub pass : List Rule → Walk → Text → Walk
pass c v w = to_positional c (arg_by_index c v.position) w v v.held

pub walked_plain : (c : List Rule) (b trailing : Bool) (position : ℕ) (w : Text) (h : Held) → is_plain w ≡ true → walked c [] (at h b position trailing) w ≡ pass c (at h b position trailing) w
unfolding walked
walked_plain c b trailing position w h e = rw (met_plain c b trailing position w h e) refl

pub turn_plain : (s : Shape) (b trailing : Bool) (position : ℕ) (w : Text) (h : Held) → is_plain w ≡ true → turn_fault s [] (at h b position trailing) w ≡ step_fault s position h value
turn_plain s b trailing position w h e = rw (met_plain s.rules b trailing position w h e) (rw (fault_plain s b trailing w h e) refl)

-- over all the words
pub fold_plain : (c : List Rule) (ws : List Text) (h : Held) (b : Bool) (position : ℕ) (trailing : Bool) → all_plain ws ≡ true
    → fold (walked c []) (at h b position trailing) ws ≡ fold (pass c) (at h b position trailing) ws
fold_plain c [] h b position trailing e = refl
fold_plain c (w ∷ ws) h b position trailing e =
    let parts = and_parts (is_plain w) (all_plain ws) e in
    ap (λ v. fold (walked c []) v ws) (walked_plain c b trailing position w h parts.0)
    ∙ go (arg_by_index c position) (λ h' b' p' t'. fold_plain c ws h' b' p' t' parts.1)
  where
    go : (o : Option Rule) → ((h' : Held) (b' : Bool) (p' : ℕ) (t' : Bool) → fold (walked c []) (at h' b' p' t') ws ≡ fold (pass c) (at h' b' p' t') ws)
        → fold (walked c []) (to_positional c o w (at h b position trailing) h) ws ≡ fold (pass c) (to_positional c o w (at h b position trailing) h) ws
    go None ih = ih h b position trailing
    go (Some a) ih = ih (positional_held c a w h) (is_multiple a) (next_position a position) (trailing || a.trailing_var_arg)

-- the faults of a walk that looks at no word
unfoldable pub passes_fault : Shape → Walk → List Text → Kinds
passes_fault s v [] = []
passes_fault s v (w ∷ ws) = or_else (step_fault s v.position v.held value) (passes_fault s (pass s.rules v w) ws)

pub walk_fault_plain : (s : Shape) (ws : List Text) (h : Held) (b : Bool) (position : ℕ) (trailing : Bool) → all_plain ws ≡ true
    → walk_fault s [] (at h b position trailing) ws ≡ passes_fault s (at h b position trailing) ws
unfolding walk_fault passes_fault
walk_fault_plain s [] h b position trailing e = refl
walk_fault_plain s (w ∷ ws) h b position trailing e =
    let parts = and_parts (is_plain w) (all_plain ws) e in
    ap₂ or_else (turn_plain s b trailing position w h parts.0)
    (ap (λ v. walk_fault s [] v ws) (walked_plain s.rules b trailing position w h parts.0)
    ∙ go (arg_by_index s.rules position) (λ h' b' p' t'. walk_fault_plain s ws h' b' p' t' parts.1))
  where
    go : (o : Option Rule) → ((h' : Held) (b' : Bool) (p' : ℕ) (t' : Bool) → walk_fault s [] (at h' b' p' t') ws ≡ passes_fault s (at h' b' p' t') ws)
        → walk_fault s [] (to_positional s.rules o w (at h b position trailing) h) ws ≡ passes_fault s (to_positional s.rules o w (at h b position trailing) h) ws
    go None ih = ih h b position trailing
    go (Some a) ih = ih (positional_held s.rules a w h) (is_multiple a) (next_position a position) (trailing || a.trailing_var_arg)
