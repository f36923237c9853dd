-- Where both setups have the same of some edits, none of these is among the edits between them.
use Rattle.std.proofs.Common.{◌≡◌, ◌∙◌, sym, ap, refl, ℕ, Bool, true, false, true≢false, not, List, [], ◌∷◌, ◌++◌, Option, Some, None}
use Rattle.std.proofs.lemmas.List.Folds.{list_any-append}
use Rattle.std.specs.Prelude.{◌==◌, ◌&&◌, ◌||◌}
use Rattle.std.specs.List.{list_any, filter_map, cons_option}
use Rattle.pg_wire.specs.declared.ids.PmuKey.{PmuKey}
use Rattle.pg_stream.specs.declared.definition.Definition.{Definition}
use Rattle.pg_gateway.specs.declared.edit.Edit.{Edit}
use Rattle.pg_gateway.specs.declared.edit.Edit.TheVariants.{AddPmu, DropPmu, AddSub, DropSub, Grant, Revoke, Define, Remove}
use Rattle.pg_setup.specs.Alike.{has}
use Rattle.pg_setup.specs.Edits.{added_pmu, added_sub, adds, comes, defined, dropped_pmu, dropped_sub, edits_between, granted, once_after, removed, revoked, stays, when}
use Rattle.pg_setup.specs.Apart.{Agree, AgreeOn, touches}
use Rattle.pg_setup.proofs.Same.{IsIn, Within, first_in, grant_same, key_same, number_is, once_within, rest_in, stream_same, sub_same}

-- ---- a step that makes none of these edits

abbrev some_of : (Edit → Bool) → Option Edit → Bool
some_of p None = false
some_of p (Some e) = p e

quiet : (p : Edit → Bool) (f : Edit → Option Edit) (all xs : List Edit) → Within xs all
    → ((x : Edit) → IsIn all x → some_of p (f x) ≡ false) → list_any p (filter_map f xs) ≡ false
quiet p f all [] within each = refl
quiet p f all (x ∷ xs) within each = by (f x) (each x (first_in x xs all within)) (quiet p f all xs (rest_in x xs all within) each)
  where
    by : (o : Option Edit) → some_of p o ≡ false → list_any p (filter_map f xs) ≡ false → list_any p (cons_option o (filter_map f xs)) ≡ false
    by None none rest = rest
    by (Some e) none rest = ap (λ a. a || list_any p (filter_map f xs)) none ∙ rest

-- an edit is made only where a test holds, which does not hold for these
kept_out : (p : Edit → Bool) (b : Bool) (e : Edit) → (p e ≡ true → b ≡ false) → some_of p (when b e) ≡ false
kept_out p false e never = refl
kept_out p true e never = by (p e) refl
  where
    by : (t : Bool) → p e ≡ t → t ≡ false
    by true holds = never holds
    by false fails = refl

and_false : (a b : Bool) → b ≡ false → (a && b) ≡ false
and_false true b e = e
and_false false b e = refl

-- ---- which edits: what undoes one of them is one of them, and with a grant or a stream of a subscriber its addition is

pub record IsClosed (p : Edit → Bool) : Type 0 where
  pub sub : (u size bytes : ℕ) → p (DropSub u) ≡ p (AddSub u size bytes)
  pub pmu : (k : PmuKey) → p (DropPmu k) ≡ p (AddPmu k)
  pub grant : (u : ℕ) (k : PmuKey) → p (Revoke u k) ≡ p (Grant u k)
  pub stream : (u : ℕ) (d : Definition) → p (Remove u d.stream) ≡ p (Define u d)
  pub holder : (u : ℕ) (k : PmuKey) → p (Grant u k) ≡ true → (size bytes : ℕ) → p (AddSub u size bytes) ≡ true
  pub owner : (u : ℕ) (d : Definition) → p (Define u d) ≡ true → (size bytes : ℕ) → p (AddSub u size bytes) ≡ true

-- what both have is no difference
same_there : (p : Edit → Bool) (old new : List Edit) → AgreeOn p old new → (x : Edit) → p x ≡ true → has old x ≡ true → not (has new x) ≡ false
same_there p old new agree x holds there = ap not (sym (agree x holds) ∙ there)

same_back : (p : Edit → Bool) (old new : List Edit) → AgreeOn p old new → (x : Edit) → p x ≡ true → has new x ≡ true → not (has old x) ≡ false
same_back p old new agree x holds there = ap not (agree x holds ∙ there)

-- a subscriber of these does not come
not_first : (p : Edit → Bool) (old new : List Edit) → AgreeOn p old new → (u : ℕ) → ((size bytes : ℕ) → p (AddSub u size bytes) ≡ true)
    → (x : Edit) → IsIn new x → (adds u x && not (has old x)) ≡ false
not_first p old new agree u holds (AddSub v size bytes) own = by (v == u) refl
  where
    by : (t : Bool) → (v == u) ≡ t → (t && not (has old (AddSub v size bytes))) ≡ false
    by false e = refl
    by true e =
        same_back p old new agree (AddSub v size bytes) (ap (λ w. p (AddSub w size bytes)) (number_is v u e) ∙ holds size bytes)
        (own (sub_same v size bytes))
not_first p old new agree u holds x own = refl

pub no_such : (p : Edit → Bool) (all xs : List Edit) → Within xs all → ((x : Edit) → IsIn all x → p x ≡ false) → list_any p xs ≡ false
no_such p all [] within each = refl
no_such p all (x ∷ xs) within each =
    ap (λ a. a || list_any p xs) (each x (first_in x xs all within)) ∙ no_such p all xs (rest_in x xs all within) each

none_come : (p : Edit → Bool) (old new : List Edit) → AgreeOn p old new → (u : ℕ) → ((size bytes : ℕ) → p (AddSub u size bytes) ≡ true)
    → comes old new u ≡ false
none_come p old new agree u holds = no_such (λ e. adds u e && not (has old e)) new new (λ e h. h) (not_first p old new agree u holds)

-- ---- step by step

no_dropped_sub : (p : Edit → Bool) (old new : List Edit) → IsClosed p → AgreeOn p old new → (x : Edit) → IsIn old x → some_of p (dropped_sub new x) ≡ false
no_dropped_sub p old new is agree (AddSub u size bytes) own =
    kept_out p (not (has new (AddSub u size bytes))) (DropSub u)
    (λ holds. same_there p old new agree (AddSub u size bytes) (sym (is.sub u size bytes) ∙ holds) (own (sub_same u size bytes)))
no_dropped_sub p old new is agree x own = refl

no_dropped_pmu : (p : Edit → Bool) (old new : List Edit) → IsClosed p → AgreeOn p old new → (x : Edit) → IsIn old x → some_of p (dropped_pmu new x) ≡ false
no_dropped_pmu p old new is agree (AddPmu k) own =
    kept_out p (not (has new (AddPmu k))) (DropPmu k)
    (λ holds. same_there p old new agree (AddPmu k) (sym (is.pmu k) ∙ holds) (own (key_same k)))
no_dropped_pmu p old new is agree x own = refl

no_added_pmu : (p : Edit → Bool) (old new : List Edit) → AgreeOn p old new → (x : Edit) → IsIn new x → some_of p (added_pmu old x) ≡ false
no_added_pmu p old new agree (AddPmu k) own =
    kept_out p (not (has old (AddPmu k))) (AddPmu k) (λ holds. same_back p old new agree (AddPmu k) holds (own (key_same k)))
no_added_pmu p old new agree x own = refl

no_added_sub : (p : Edit → Bool) (old new : List Edit) → IsClosed p → AgreeOn p old new → (x : Edit) → IsIn new x → some_of p (added_sub old new x) ≡ false
no_added_sub p old new is agree (AddSub u size bytes) own =
    kept_out p (comes old new u) (AddSub u size bytes) (λ holds. none_come p old new agree u (others holds))
  where
    others : p (AddSub u size bytes) ≡ true → (ring limit : ℕ) → p (AddSub u ring limit) ≡ true
    others holds ring limit = sym (is.sub u ring limit) ∙ is.sub u size bytes ∙ holds
no_added_sub p old new is agree (Grant u k) own = kept_out p (comes old new u) (Grant u k) (λ holds. none_come p old new agree u (is.holder u k holds))
no_added_sub p old new is agree (Define u d) own = kept_out p (comes old new u) (Define u d) (λ holds. none_come p old new agree u (is.owner u d holds))
no_added_sub p old new is agree x own = refl

no_revoked : (p : Edit → Bool) (old new : List Edit) → IsClosed p → AgreeOn p old new → (x : Edit) → IsIn old x → some_of p (revoked old new x) ≡ false
no_revoked p old new is agree (Grant u k) own =
    kept_out p ((stays old new u && has new (AddPmu k)) && not (has new (Grant u k))) (Revoke u k)
    (λ holds. and_false (stays old new u && has new (AddPmu k)) (not (has new (Grant u k)))
    (same_there p old new agree (Grant u k) (sym (is.grant u k) ∙ holds) (own (grant_same u k))))
no_revoked p old new is agree x own = refl

no_granted : (p : Edit → Bool) (old new : List Edit) → AgreeOn p old new → (x : Edit) → IsIn new x → some_of p (granted old new x) ≡ false
no_granted p old new agree (Grant u k) own =
    kept_out p (stays old new u && not (has old (Grant u k))) (Grant u k)
    (λ holds. and_false (stays old new u) (not (has old (Grant u k))) (same_back p old new agree (Grant u k) holds (own (grant_same u k))))
no_granted p old new agree x own = refl

no_removed : (p : Edit → Bool) (old new : List Edit) → IsClosed p → AgreeOn p old new → (x : Edit) → IsIn old x → some_of p (removed old new x) ≡ false
no_removed p old new is agree (Define u d) own =
    kept_out p (stays old new u && not (has new (Define u d))) (Remove u d.stream)
    (λ holds. and_false (stays old new u) (not (has new (Define u d)))
    (same_there p old new agree (Define u d) (sym (is.stream u d) ∙ holds) (own (stream_same u d))))
no_removed p old new is agree x own = refl

no_defined : (p : Edit → Bool) (old new : List Edit) → AgreeOn p old new → (x : Edit) → IsIn new x → some_of p (defined old new x) ≡ false
no_defined p old new agree (Define u d) own =
    kept_out p (stays old new u && not (has old (Define u d))) (Define u d)
    (λ holds. and_false (stays old new u) (not (has old (Define u d))) (same_back p old new agree (Define u d) holds (own (stream_same u d))))
no_defined p old new agree x own = refl

-- ---- all steps

any_joined : (p : Edit → Bool) (xs ys : List Edit) → list_any p xs ≡ false → list_any p ys ≡ false → list_any p (xs ++ ys) ≡ false
any_joined p xs ys a b = list_any-append p xs ys ∙ ap (λ t. t || list_any p ys) a ∙ b

pub none_between : (p : Edit → Bool) (old new : List Edit) → IsClosed p → AgreeOn p old new → list_any p (edits_between old new) ≡ false
none_between p old new is agree =
    any_joined p _ _ (any_joined p _ _ (any_joined p _ _ (any_joined p _ _ (any_joined p _ _ (any_joined p _ _ (any_joined p _ _
    (quiet p (dropped_sub new) old old (λ e h. h) (no_dropped_sub p old new is agree))
    (quiet p (removed old new) old old (λ e h. h) (no_removed p old new is agree)))
    (quiet p (dropped_pmu new) old old (λ e h. h) (no_dropped_pmu p old new is agree)))
    (quiet p (added_pmu old) new new (λ e h. h) (no_added_pmu p old new agree)))
    (quiet p (added_sub old new) new new (λ e h. h) (no_added_sub p old new is agree)))
    (quiet p (revoked old new) old (once_after [] old) (once_within old) (no_revoked p old new is agree)))
    (quiet p (granted old new) new new (λ e h. h) (no_granted p old new agree)))
    (quiet p (defined old new) new new (λ e h. h) (no_defined p old new agree))

-- ---- the edits that touch a subscriber, and all edits

touching : (setup : List Edit) (u : ℕ) → IsClosed (touches setup u)
touching setup u = record {
  sub = λ v size bytes. refl;
  pmu = λ k. refl;
  grant = λ v k. refl;
  stream = λ v d. refl;
  holder = λ v k holds size bytes. holds;
  owner = λ v d holds size bytes. holds;
}

pub untouched : (old new : List Edit) (u : ℕ) → AgreeOn (touches old u) old new → list_any (touches old u) (edits_between old new) ≡ false
untouched old new u agree = none_between (touches old u) old new (touching old u) agree

every : IsClosed (λ e. true)
every = record {
  sub = λ v size bytes. refl;
  pmu = λ k. refl;
  grant = λ v k. refl;
  stream = λ v d. refl;
  holder = λ v k holds size bytes. refl;
  owner = λ v d holds size bytes. refl;
}

none_at_all : (xs : List Edit) → list_any (λ e. true) xs ≡ false → xs ≡ []
none_at_all [] h = refl
none_at_all (x ∷ xs) h = absurd (true≢false h)

pub nothing_between : (old new : List Edit) → Agree old new → edits_between old new ≡ []
nothing_between old new agree = none_at_all (edits_between old new) (none_between (λ e. true) old new every (λ e holds. agree e))
