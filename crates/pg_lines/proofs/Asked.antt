-- What words ask for, beside the verb and the words after it.
use Rattle.std.proofs.Common.{◌≡◌, ◌∙◌, sym, ap, ap₂, refl, rules, arith, ℕ, ◌+◌, ◌&&◌, Bool, true, false, List, [], ◌∷◌, length, map, Option, Some, None, is_some, option_map, inl, inr, true≢false, nat_le, leb-true, le-leb, find}
use Rattle.std.specs.Prelude.{if◌then◌else◌, option_and_then}
use Rattle.std.proofs.lemmas.Bool.{cases_Bool, false_from_ne_true}
use Rattle.std.specs.Str.{bytes_eq}
use Rattle.pg_stream.specs.declared.definition.Definition.{Definition}
use Rattle.pg_wire.specs.declared.ids.PmuKey.{PmuKey}
use Rattle.pg_gateway.specs.declared.edit.Edit.TheVariants.{AddPmu, DropPmu, AddSub, DropSub, Grant, Revoke, Define, Remove, Stats, PmuStats, Audit}
use Rattle.pg_lines.specs.declared.verb.Verb.{Verb}
use Rattle.pg_lines.specs.declared.verb.Verb.TheVariants as verb
use Rattle.pg_lines.specs.Words.{Text, number_in, stream_id_in, subscriber_in, ring_size_in, key_in}
use Rattle.pg_lines.specs.Verbs.{table, verbs, verb_of}
use Rattle.pg_lines.specs.Lines.{one, two, add_sub, define, header_in, members_in, numbers_in, edit_by, edit_asked, edit_of_words}
use Rattle.pg_lines.specs.Clap.{asked}

abbrev in_range : List Text → Bool
in_range ws = nat_le 1 (length ws) && nat_le (length ws) 39

one_none : {X : Type 0} (read : Text → Option X) (ws : List Text) → in_range ws ≡ false → one read ws ≡ None
one_none read [] e = refl
one_none read (a ∷ []) e = absurd (true≢false e)
one_none read (a ∷ b ∷ ws) e = refl

two_none : {X Y : Type 0} (read : Text → Option X) (next : Text → Option Y) (ws : List Text) → in_range ws ≡ false → two read next ws ≡ None
two_none read next [] e = refl
two_none read next (a ∷ []) e = refl
two_none read next (a ∷ b ∷ []) e = absurd (true≢false e)
two_none read next (a ∷ b ∷ c ∷ ws) e = refl

add_sub_none : (ws : List Text) → in_range ws ≡ false → add_sub ws ≡ None
add_sub_none [] e = refl
add_sub_none (a ∷ []) e = refl
add_sub_none (a ∷ b ∷ []) e = absurd (true≢false e)
add_sub_none (a ∷ b ∷ c ∷ []) e = absurd (true≢false e)
add_sub_none (a ∷ b ∷ c ∷ d ∷ ws) e = go (subscriber_in a) (ring_size_in b)
  where
    go : (o p : Option ℕ) → option_and_then (λ id. option_and_then (λ size. option_map (AddSub id size) None) p) o ≡ None
    go None p = refl
    go (Some id) None = refl
    go (Some id) (Some size) = refl

above : (m n : ℕ) → m ≡ 7 + n → (nat_le 1 m && nat_le m 39) ≡ false → nat_le n 32 ≡ false
above m n size e = false_from_ne_true (nat_le n 32) (λ h.
    let small = leb-true n 32 h in
    let low : nat_le 1 m ≡ true = le-leb 1 m (omega (arith, size)) in
    let high : nat_le m 39 ≡ true = le-leb m 39 (omega (arith, size, small)) in
    absurd (true≢false (sym (rw (low, high) refl) ∙ e)))

and_false : (b : Bool) → (b && false) ≡ false
and_false true = refl
and_false false = refl

no_members : (ms : List Text) → nat_le (length ms) 32 ≡ false → members_in ms ≡ None
no_members ms e = rw e (rw (and_false (nat_le 1 (length ms))) refl)

define_none : (ws : List Text) → in_range ws ≡ false → define ws ≡ None
define_none [] e = refl
define_none (a ∷ []) e = refl
define_none (a ∷ b ∷ []) e = refl
define_none (a ∷ b ∷ c ∷ []) e = refl
define_none (a ∷ b ∷ c ∷ d ∷ []) e = refl
define_none (a ∷ b ∷ c ∷ d ∷ f ∷ []) e = refl
define_none (a ∷ b ∷ c ∷ d ∷ f ∷ g ∷ []) e = refl
define_none (a ∷ b ∷ c ∷ d ∷ f ∷ g ∷ h ∷ ms) e =
    ap (λ o. option_and_then (λ id. option_and_then (λ made. option_and_then (λ text. option_map (λ keys. Define id (made text keys)) o) (header_in h)) (numbers_in b c d f g)) (subscriber_in a))
    (no_members ms (above (length (a ∷ b ∷ c ∷ d ∷ f ∷ g ∷ h ∷ ms)) (length ms) (omega arith) e))
    ∙ go (subscriber_in a) (numbers_in b c d f g) (header_in h)
  where
    go : (o : Option ℕ) (p : Option (List ℕ → List PmuKey → Definition)) (q : Option (List ℕ))
        → option_and_then (λ id. option_and_then (λ made. option_and_then (λ text. option_map (λ keys. Define id (made text keys)) None) q) p) o ≡ None
    go None p q = refl
    go (Some id) None q = refl
    go (Some id) (Some made) None = refl
    go (Some id) (Some made) (Some text) = refl

no_edit : (v : Verb) (ws : List Text) → in_range ws ≡ false → edit_by v ws ≡ None
no_edit verb.AddPmu ws e = ap (option_map AddPmu) (one_none key_in ws e)
no_edit verb.DropPmu ws e = ap (option_map DropPmu) (one_none key_in ws e)
no_edit verb.AddSub ws e = add_sub_none ws e
no_edit verb.DropSub ws e = ap (option_map DropSub) (one_none subscriber_in ws e)
no_edit verb.Grant ws e = ap (option_map (λ p. Grant p.0 p.1)) (two_none subscriber_in key_in ws e)
no_edit verb.Revoke ws e = ap (option_map (λ p. Revoke p.0 p.1)) (two_none subscriber_in key_in ws e)
no_edit verb.Define ws e = define_none ws e
no_edit verb.Remove ws e = ap (option_map (λ p. Remove p.0 p.1)) (two_none subscriber_in stream_id_in ws e)
no_edit verb.Stats ws e = ap (option_map Stats) (one_none subscriber_in ws e)
no_edit verb.PmuStats ws e = ap (option_map PmuStats) (one_none key_in ws e)
no_edit verb.Audit ws e = ap (option_map (λ p. Audit p.0 p.1)) (two_none subscriber_in (number_in 0 63) ws e)

-- the verbs as they are written, beside the table
find_row : (w : Text) (rows : List (Text × Verb)) → find (λ v. bytes_eq v w) (map (λ row. row.0) rows) ≡ option_map (λ row. row.0) (find (λ row. bytes_eq row.0 w) rows)
find_row w [] = refl
find_row w (r ∷ rows) = elim (cases_Bool (bytes_eq r.0 w)) [
  | inl e ↦ rw e refl
  | inr e ↦ rw e (find_row w rows)
]

is_verb : (w : Text) → is_some (find (λ v. bytes_eq v w) verbs) ≡ is_some (verb_of w)
is_verb w = ap is_some (find_row w table) ∙ go (find (λ row. bytes_eq row.0 w) table)
  where
    go : (o : Option (Text × Verb)) → is_some (option_map (λ row. row.0) o) ≡ is_some (option_map (λ row. row.1) o)
    go None = refl
    go (Some row) = refl

abbrev Pair : Type 0
Pair = Option (Text × List Text)

abbrev given : Text → List Text → Pair
given w ws = Some (w, ws)

abbrev asked_so : Text → List Text → Bool → Option Verb → Pair
asked_so w ws b o = if is_some o && b then given w ws else None

asked_is : (w : Text) (ws : List Text) → asked (w ∷ ws) ≡ asked_so w ws (in_range ws) (verb_of w)
asked_is w ws = ap (λ b. if b && in_range ws then given w ws else None) (is_verb w)

none_some : (w : Text) (ws : List Text) → ◌≡◌ {A = Pair} None (given w ws) → ⊥
none_some w ws e = search (rules, e)

-- where clap finds no verb with words, nothing is asked for
pub asked_none : (ws : List Text) → asked ws ≡ None → edit_of_words ws ≡ None
asked_none [] e = refl
asked_none (w ∷ ws) e = go (verb_of w) (in_range ws) refl (sym (asked_is w ws) ∙ e)
  where
    go : (o : Option Verb) (b : Bool) → in_range ws ≡ b → asked_so w ws (in_range ws) o ≡ None → option_and_then (λ v. edit_by v ws) o ≡ None
    go None b h e = refl
    go (Some v) false h e = no_edit v ws h
    go (Some v) true h e = absurd (none_some w ws (sym e ∙ ap (λ b. asked_so w ws b (Some v)) h))

-- where it does, that is what is asked for
pub asked_edit : (ws : List Text) (w : Text) (args : List Text) → asked ws ≡ given w args → edit_of_words ws ≡ edit_asked w args
asked_edit [] w args e = absurd (none_some w args e)
asked_edit (x ∷ xs) w args e = go (verb_of x) (in_range xs) refl (sym (asked_is x xs) ∙ e)
  where
    some : given x xs ≡ given w args → edit_asked x xs ≡ edit_asked w args
    some h = let first : x ≡ w = search (rules, h) in let rest : xs ≡ args = search (rules, h) in ap₂ edit_asked first rest

    go : (o : Option Verb) (b : Bool) → in_range xs ≡ b → asked_so x xs (in_range xs) o ≡ given w args → edit_asked x xs ≡ edit_asked w args
    go None b h e = absurd (none_some w args e)
    go (Some v) false h e = absurd (none_some w args (sym (ap (λ b. asked_so x xs b (Some v)) h) ∙ e))
    go (Some v) true h e = some (sym (ap (λ b. asked_so x xs b (Some v)) h) ∙ e)
