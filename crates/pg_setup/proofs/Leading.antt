-- The edits between two setups lead from the one to the other.
use Rattle.std.proofs.Common.{◌≡◌, ◌∙◌, sym, ap, refl, ℕ, Bool, true, false, true≢false, not, List, [], ◌∷◌, ◌++◌, Option, Some, None}
use Rattle.std.proofs.lemmas.Bool.{false≢true}
use Rattle.std.specs.Prelude.{◌==◌, ◌&&◌, ◌||◌}
use Rattle.std.specs.List.{list_any, filter_map, cons_option}
use Rattle.pg_wire.specs.declared.ids.PmuKey.{PmuKey}
use Rattle.pg_wire.specs.Keys.{key_eq}
use Rattle.pg_stream.specs.declared.definition.Definition.{Definition}
use Rattle.pg_gateway.specs.declared.edit.Edit.{Edit}
use Rattle.pg_gateway.specs.declared.edit.Edit.TheVariants.{AddPmu, DropPmu, AddSub, DropSub, Grant, Revoke, Define, Remove}
use Rattle.pg_setup.specs.Alike.{edit_eq, has}
use Rattle.pg_setup.specs.Edits.{added_pmu, added_sub, adds, comes, defined, dropped_pmu, dropped_sub, edits_between, granted, once_after, removed, revoked, stays, when}
use Rattle.pg_setup.specs.Leading.{HasSub, IsSound, LeadsFrom, has_after, takes}
use Rattle.pg_setup.proofs.Same.{IsIn, edit_is, number_is, number_same, once_same, sub_same, stream_same}
use Rattle.pg_setup.proofs.Quiet.{no_such}

-- ---- truth values

and_comm : (a b : Bool) → (a && b) ≡ (b && a)
and_comm true true = refl
and_comm true false = refl
and_comm false true = refl
and_comm false false = refl

and_none : (a : Bool) → (a && false) ≡ false
and_none true = refl
and_none false = refl

-- ---- steps that take alone, and steps that add alone

abbrev takes_of : Edit → Option Edit → Bool
takes_of e None = false
takes_of e (Some d) = takes d e

abbrev gives_of : Edit → Option Edit → Bool
gives_of e None = false
gives_of e (Some d) = edit_eq d e

after_joined : (xs ys : List Edit) (e : Edit) (b : Bool) → has_after (xs ++ ys) e b ≡ has_after ys e (has_after xs e b)
after_joined [] ys e b = refl
after_joined (x ∷ xs) ys e b = after_joined xs ys e ((b && not (takes x e)) || edit_eq x e)

taken_over : (f : Edit → Option Edit) (e : Edit) → ((x : Edit) → gives_of e (f x) ≡ false) → (xs : List Edit) (b : Bool)
    → has_after (filter_map f xs) e b ≡ (b && not (list_any (λ x. takes_of e (f x)) xs))
taken_over f e none [] b = and_true b
  where
    and_true : (a : Bool) → a ≡ (a && true)
    and_true true = refl
    and_true false = refl
taken_over f e none (x ∷ xs) b = by (f x) (none x) (λ a. taken_over f e none xs a)
  where
    once_more : (a t r : Bool) → (((a && not t) || false) && not r) ≡ (a && not (t || r))
    once_more true true r = refl
    once_more true false r = refl
    once_more false t r = refl

    by : (o : Option Edit) → gives_of e o ≡ false
        → ((a : Bool) → has_after (filter_map f xs) e a ≡ (a && not (list_any (λ y. takes_of e (f y)) xs)))
        → has_after (cons_option o (filter_map f xs)) e b ≡ (b && not (takes_of e o || list_any (λ y. takes_of e (f y)) xs))
    by None fails more = more b
    by (Some d) fails more =
        ap (λ g. has_after (filter_map f xs) e ((b && not (takes d e)) || g)) fails ∙ more ((b && not (takes d e)) || false)
        ∙ once_more b (takes d e) (list_any (λ y. takes_of e (f y)) xs)

added_over : (f : Edit → Option Edit) (e : Edit) → ((x : Edit) → takes_of e (f x) ≡ false) → (xs : List Edit) (b : Bool)
    → has_after (filter_map f xs) e b ≡ (b || list_any (λ x. gives_of e (f x)) xs)
added_over f e none [] b = or_none b
  where
    or_none : (a : Bool) → a ≡ (a || false)
    or_none true = refl
    or_none false = refl
added_over f e none (x ∷ xs) b = by (f x) (none x) (λ a. added_over f e none xs a)
  where
    once_more : (a g r : Bool) → (((a && true) || g) || r) ≡ (a || (g || r))
    once_more true g r = refl
    once_more false g r = refl

    by : (o : Option Edit) → takes_of e o ≡ false
        → ((a : Bool) → has_after (filter_map f xs) e a ≡ (a || list_any (λ y. gives_of e (f y)) xs))
        → has_after (cons_option o (filter_map f xs)) e b ≡ (b || (gives_of e o || list_any (λ y. gives_of e (f y)) xs))
    by None fails more = more b
    by (Some d) fails more =
        ap (λ t. has_after (filter_map f xs) e ((b && not t) || edit_eq d e)) fails ∙ more ((b && true) || edit_eq d e)
        ∙ once_more b (edit_eq d e) (list_any (λ y. gives_of e (f y)) xs)

takes_when : (e : Edit) (b : Bool) (d : Edit) → takes_of e (when b d) ≡ (b && takes d e)
takes_when e true d = refl
takes_when e false d = refl

gives_when : (e : Edit) (b : Bool) (d : Edit) → gives_of e (when b d) ≡ (b && edit_eq d e)
gives_when e true d = refl
gives_when e false d = refl

takes_none : (e : Edit) (b : Bool) (d : Edit) → takes d e ≡ false → takes_of e (when b d) ≡ false
takes_none e true d h = h
takes_none e false d h = refl

gives_none : (e : Edit) (b : Bool) (d : Edit) → edit_eq d e ≡ false → gives_of e (when b d) ≡ false
gives_none e true d h = h
gives_none e false d h = refl

drop_sub_gives : (new : List Edit) (e x : Edit) → gives_of e (dropped_sub new x) ≡ false
drop_sub_gives new e (AddSub u size bytes) = gives_none e (not (has new (AddSub u size bytes))) (DropSub u) refl
drop_sub_gives new e x = refl

drop_pmu_gives : (new : List Edit) (e x : Edit) → gives_of e (dropped_pmu new x) ≡ false
drop_pmu_gives new e (AddPmu k) = gives_none e (not (has new (AddPmu k))) (DropPmu k) refl
drop_pmu_gives new e x = refl

revoke_gives : (old new : List Edit) (e x : Edit) → gives_of e (revoked old new x) ≡ false
revoke_gives old new e (Grant u k) = gives_none e ((stays old new u && has new (AddPmu k)) && not (has new (Grant u k))) (Revoke u k) refl
revoke_gives old new e x = refl

remove_gives : (old new : List Edit) (e x : Edit) → gives_of e (removed old new x) ≡ false
remove_gives old new e (Define u d) = gives_none e (stays old new u && not (has new (Define u d))) (Remove u d.stream) refl
remove_gives old new e x = refl

add_pmu_takes : (old : List Edit) (e x : Edit) → takes_of e (added_pmu old x) ≡ false
add_pmu_takes old e (AddPmu k) = takes_none e (not (has old (AddPmu k))) (AddPmu k) refl
add_pmu_takes old e x = refl

add_sub_takes : (old new : List Edit) (e x : Edit) → takes_of e (added_sub old new x) ≡ false
add_sub_takes old new e (AddSub u size bytes) = takes_none e (comes old new u) (AddSub u size bytes) refl
add_sub_takes old new e (Grant u k) = takes_none e (comes old new u) (Grant u k) refl
add_sub_takes old new e (Define u d) = takes_none e (comes old new u) (Define u d) refl
add_sub_takes old new e x = refl

grant_takes : (old new : List Edit) (e x : Edit) → takes_of e (granted old new x) ≡ false
grant_takes old new e (Grant u k) = takes_none e (stays old new u && not (has old (Grant u k))) (Grant u k) refl
grant_takes old new e x = refl

define_takes : (old new : List Edit) (e x : Edit) → takes_of e (defined old new x) ≡ false
define_takes old new e (Define u d) = takes_none e (stays old new u && not (has old (Define u d))) (Define u d) refl
define_takes old new e x = refl

-- ---- what the eight steps do about one edit of a setup

record Fate : Type 0 where
  drop_sub : Bool
  remove : Bool
  drop_pmu : Bool
  add_pmu : Bool
  add_sub : Bool
  revoke : Bool
  grant : Bool
  define : Bool

abbrev fate : List Edit → List Edit → Edit → Fate
fate old new e = record {
  drop_sub = list_any (λ x. takes_of e (dropped_sub new x)) old;
  remove = list_any (λ x. takes_of e (removed old new x)) old;
  drop_pmu = list_any (λ x. takes_of e (dropped_pmu new x)) old;
  add_pmu = list_any (λ x. gives_of e (added_pmu old x)) new;
  add_sub = list_any (λ x. gives_of e (added_sub old new x)) new;
  revoke = list_any (λ x. takes_of e (revoked old new x)) (once_after [] old);
  grant = list_any (λ x. gives_of e (granted old new x)) new;
  define = list_any (λ x. gives_of e (defined old new x)) new;
}

abbrev ends : Bool → Fate → Bool
ends b f = ((((((((b && not f.drop_sub) && not f.remove) && not f.drop_pmu) || f.add_pmu) || f.add_sub) && not f.revoke) || f.grant) || f.define)

all_steps : (old new : List Edit) (e : Edit) (b : Bool) → has_after (edits_between old new) e b ≡ ends b (fate old new e)
all_steps old new e b =
    let s1 : List Edit = filter_map (dropped_sub new) old in
    let s2 : List Edit = filter_map (removed old new) old in
    let s3 : List Edit = filter_map (dropped_pmu new) old in
    let s4 : List Edit = filter_map (added_pmu old) new in
    let s5 : List Edit = filter_map (added_sub old new) new in
    let s6 : List Edit = filter_map (revoked old new) (once_after [] old) in
    let s7 : List Edit = filter_map (granted old new) new in
    let s8 : List Edit = filter_map (defined old new) new in
    let f : Fate = fate old new e in
    let b1 : Bool = b && not f.drop_sub in
    let b2 : Bool = b1 && not f.remove in
    let b3 : Bool = b2 && not f.drop_pmu in
    let b4 : Bool = b3 || f.add_pmu in
    let b5 : Bool = b4 || f.add_sub in
    let b6 : Bool = b5 && not f.revoke in
    let b7 : Bool = b6 || f.grant in
    let e1 : has_after s1 e b ≡ b1 = taken_over (dropped_sub new) e (drop_sub_gives new e) old b in
    let e2 : has_after (s1 ++ s2) e b ≡ b2 = after_joined s1 s2 e b ∙ ap (has_after s2 e) e1 ∙ taken_over (removed old new) e (remove_gives old new e) old b1 in
    let e3 : has_after ((s1 ++ s2) ++ s3) e b ≡ b3 = after_joined (s1 ++ s2) s3 e b ∙ ap (has_after s3 e) e2 ∙ taken_over (dropped_pmu new) e (drop_pmu_gives new e) old b2 in
    let e4 : has_after (((s1 ++ s2) ++ s3) ++ s4) e b ≡ b4 = after_joined ((s1 ++ s2) ++ s3) s4 e b ∙ ap (has_after s4 e) e3 ∙ added_over (added_pmu old) e (add_pmu_takes old e) new b3 in
    let e5 : has_after ((((s1 ++ s2) ++ s3) ++ s4) ++ s5) e b ≡ b5 = after_joined (((s1 ++ s2) ++ s3) ++ s4) s5 e b ∙ ap (has_after s5 e) e4 ∙ added_over (added_sub old new) e (add_sub_takes old new e) new b4 in
    let e6 : has_after (((((s1 ++ s2) ++ s3) ++ s4) ++ s5) ++ s6) e b ≡ b6 = after_joined ((((s1 ++ s2) ++ s3) ++ s4) ++ s5) s6 e b ∙ ap (has_after s6 e) e5 ∙ taken_over (revoked old new) e (revoke_gives old new e) (once_after [] old) b5 in
    let e7 : has_after ((((((s1 ++ s2) ++ s3) ++ s4) ++ s5) ++ s6) ++ s7) e b ≡ b7 = after_joined (((((s1 ++ s2) ++ s3) ++ s4) ++ s5) ++ s6) s7 e b ∙ ap (has_after s7 e) e6 ∙ added_over (granted old new) e (grant_takes old new e) new b6 in
    after_joined ((((((s1 ++ s2) ++ s3) ++ s4) ++ s5) ++ s6) ++ s7) s8 e b ∙ ap (has_after s8 e) e7 ∙ added_over (defined old new) e (define_takes old new e) new b7

-- ---- tests of lists

any_same : (p q : Edit → Bool) → ((x : Edit) → p x ≡ q x) → (xs : List Edit) → list_any p xs ≡ list_any q xs
any_same p q same [] = refl
any_same p q same (x ∷ xs) = λ i. same x i || any_same p q same xs i

none_of : (p : Edit → Bool) → ((x : Edit) → p x ≡ false) → (xs : List Edit) → list_any p xs ≡ false
none_of p none [] = refl
none_of p none (x ∷ xs) = ap (λ a. a || list_any p xs) (none x) ∙ none_of p none xs

-- one of the list is e and passes: the list has e, and e passes
meet : (c : Edit → Bool) (e : Edit) (xs : List Edit) → list_any (λ x. edit_eq x e && c x) xs ≡ (has xs e && c e)
meet c e [] = refl
meet c e (x ∷ xs) = ap (λ r. (edit_eq x e && c x) || r) (meet c e xs) ∙ by (edit_eq x e) refl (has xs e)
  where
    absorbed : (a h : Bool) → (a || (h && a)) ≡ a
    absorbed true h = refl
    absorbed false true = refl
    absorbed false false = refl

    by : (t : Bool) → edit_eq x e ≡ t → (h : Bool) → ((t && c x) || (h && c e)) ≡ ((t || h) && c e)
    by false other h = refl
    by true same h = ap (λ a. a || (h && c e)) (ap c (edit_is x e same)) ∙ absorbed (c e) h

-- e stands in the list and passes, so one of the list passes
found : (p : Edit → Bool) (e : Edit) (xs : List Edit) → has xs e ≡ true → p e ≡ true → list_any p xs ≡ true
found p e [] there holds = there
found p e (x ∷ xs) there holds = by (edit_eq x e) refl there (λ h. found p e xs h holds)
  where
    or_true : (a : Bool) → (a || true) ≡ true
    or_true true = refl
    or_true false = refl

    by : (t : Bool) → edit_eq x e ≡ t → (t || has xs e) ≡ true → (has xs e ≡ true → list_any p xs ≡ true) → (p x || list_any p xs) ≡ true
    by true same h more = ap (λ a. a || list_any p xs) (ap p (edit_is x e same) ∙ holds)
    by false other h more = ap (λ r. p x || r) (more h) ∙ or_true (p x)

-- ---- which edits of a setup a step is about

abbrev is_new_pmu : List Edit → Edit → Bool
is_new_pmu old (AddPmu k) = not (has old (AddPmu k))
is_new_pmu old x = false

abbrev is_coming : List Edit → List Edit → Edit → Bool
is_coming old new (AddSub u size bytes) = comes old new u
is_coming old new (Grant u k) = comes old new u
is_coming old new (Define u d) = comes old new u
is_coming old new x = false

abbrev is_gone_grant : List Edit → List Edit → Edit → Bool
is_gone_grant old new (Grant u k) = (stays old new u && has new (AddPmu k)) && not (has new (Grant u k))
is_gone_grant old new x = false

abbrev is_new_grant : List Edit → List Edit → Edit → Bool
is_new_grant old new (Grant u k) = stays old new u && not (has old (Grant u k))
is_new_grant old new x = false

abbrev is_new_stream : List Edit → List Edit → Edit → Bool
is_new_stream old new (Define u d) = stays old new u && not (has old (Define u d))
is_new_stream old new x = false

adds_pmu_so : (old : List Edit) (e x : Edit) → gives_of e (added_pmu old x) ≡ (edit_eq x e && is_new_pmu old x)
adds_pmu_so old e (AddPmu k) = gives_when e (not (has old (AddPmu k))) (AddPmu k) ∙ and_comm (not (has old (AddPmu k))) (edit_eq (AddPmu k) e)
adds_pmu_so old e x = sym (and_none (edit_eq x e))

adds_sub_so : (old new : List Edit) (e x : Edit) → gives_of e (added_sub old new x) ≡ (edit_eq x e && is_coming old new x)
adds_sub_so old new e (AddSub u size bytes) = gives_when e (comes old new u) (AddSub u size bytes) ∙ and_comm (comes old new u) (edit_eq (AddSub u size bytes) e)
adds_sub_so old new e (Grant u k) = gives_when e (comes old new u) (Grant u k) ∙ and_comm (comes old new u) (edit_eq (Grant u k) e)
adds_sub_so old new e (Define u d) = gives_when e (comes old new u) (Define u d) ∙ and_comm (comes old new u) (edit_eq (Define u d) e)
adds_sub_so old new e x = sym (and_none (edit_eq x e))

revokes_so : (old new : List Edit) (e x : Edit) → takes_of e (revoked old new x) ≡ (edit_eq x e && is_gone_grant old new x)
revokes_so old new e (Grant u k) =
    takes_when e (is_gone_grant old new (Grant u k)) (Revoke u k) ∙ and_comm (is_gone_grant old new (Grant u k)) (edit_eq (Grant u k) e)
revokes_so old new e x = sym (and_none (edit_eq x e))

grants_so : (old new : List Edit) (e x : Edit) → gives_of e (granted old new x) ≡ (edit_eq x e && is_new_grant old new x)
grants_so old new e (Grant u k) =
    gives_when e (is_new_grant old new (Grant u k)) (Grant u k) ∙ and_comm (is_new_grant old new (Grant u k)) (edit_eq (Grant u k) e)
grants_so old new e x = sym (and_none (edit_eq x e))

defines_so : (old new : List Edit) (e x : Edit) → gives_of e (defined old new x) ≡ (edit_eq x e && is_new_stream old new x)
defines_so old new e (Define u d) =
    gives_when e (is_new_stream old new (Define u d)) (Define u d) ∙ and_comm (is_new_stream old new (Define u d)) (edit_eq (Define u d) e)
defines_so old new e x = sym (and_none (edit_eq x e))

-- the fate of an edit, where the two drops and the removal of it are these
fate_is : (old new : List Edit) (e : Edit) (d1 d3 d2 : Bool) → (fate old new e).drop_sub ≡ d1 → (fate old new e).drop_pmu ≡ d3 → (fate old new e).remove ≡ d2
    → has_after (edits_between old new) e (has old e) ≡ ends (has old e) (record {
      drop_sub = d1;
      remove = d2;
      drop_pmu = d3;
      add_pmu = has new e && is_new_pmu old e;
      add_sub = has new e && is_coming old new e;
      revoke = has old e && is_gone_grant old new e;
      grant = has new e && is_new_grant old new e;
      define = has new e && is_new_stream old new e;
    })
fate_is old new e d1 d3 d2 e1 e3 e2 =
    let e4 : (fate old new e).add_pmu ≡ (has new e && is_new_pmu old e) =
    any_same (λ x. gives_of e (added_pmu old x)) (λ x. edit_eq x e && is_new_pmu old x) (adds_pmu_so old e) new ∙ meet (is_new_pmu old) e new in
    let e5 : (fate old new e).add_sub ≡ (has new e && is_coming old new e) =
    any_same (λ x. gives_of e (added_sub old new x)) (λ x. edit_eq x e && is_coming old new x) (adds_sub_so old new e) new ∙ meet (is_coming old new) e new in
    let e6 : (fate old new e).revoke ≡ (has old e && is_gone_grant old new e) =
    any_same (λ x. takes_of e (revoked old new x)) (λ x. edit_eq x e && is_gone_grant old new x) (revokes_so old new e) (once_after [] old)
    ∙ meet (is_gone_grant old new) e (once_after [] old) ∙ ap (λ h. h && is_gone_grant old new e) (once_same old e) in
    let e7 : (fate old new e).grant ≡ (has new e && is_new_grant old new e) =
    any_same (λ x. gives_of e (granted old new x)) (λ x. edit_eq x e && is_new_grant old new x) (grants_so old new e) new ∙ meet (is_new_grant old new) e new in
    let e8 : (fate old new e).define ≡ (has new e && is_new_stream old new e) =
    any_same (λ x. gives_of e (defined old new x)) (λ x. edit_eq x e && is_new_stream old new x) (defines_so old new e) new ∙ meet (is_new_stream old new) e new in
    all_steps old new e (has old e)
    ∙ (λ i. ends (has old e) (record { drop_sub = e1 i; remove = e2 i; drop_pmu = e3 i; add_pmu = e4 i; add_sub = e5 i; revoke = e6 i; grant = e7 i; define = e8 i }))

-- ---- what drops and removals do about an edit

no_sub_drop : (new : List Edit) (e : Edit) → ((v : ℕ) → takes (DropSub v) e ≡ false) → (xs : List Edit) → list_any (λ x. takes_of e (dropped_sub new x)) xs ≡ false
no_sub_drop new e none = none_of (λ x. takes_of e (dropped_sub new x)) each
  where
    each : (x : Edit) → takes_of e (dropped_sub new x) ≡ false
    each (AddSub v size bytes) = takes_none e (not (has new (AddSub v size bytes))) (DropSub v) (none v)
    each x = refl

no_pmu_drop : (new : List Edit) (e : Edit) → ((l : PmuKey) → takes (DropPmu l) e ≡ false) → (xs : List Edit) → list_any (λ x. takes_of e (dropped_pmu new x)) xs ≡ false
no_pmu_drop new e none = none_of (λ x. takes_of e (dropped_pmu new x)) each
  where
    each : (x : Edit) → takes_of e (dropped_pmu new x) ≡ false
    each (AddPmu l) = takes_none e (not (has new (AddPmu l))) (DropPmu l) (none l)
    each x = refl

no_removal : (old new : List Edit) (e : Edit) → ((v n : ℕ) → takes (Remove v n) e ≡ false) → (xs : List Edit) → list_any (λ x. takes_of e (removed old new x)) xs ≡ false
no_removal old new e none = none_of (λ x. takes_of e (removed old new x)) each
  where
    each : (x : Edit) → takes_of e (removed old new x) ≡ false
    each (Define v d) = takes_none e (stays old new v && not (has new (Define v d))) (Remove v d.stream) (none v d.stream)
    each x = refl

sub_drop : (new : List Edit) (u : ℕ) (e : Edit) → ((v : ℕ) → takes (DropSub v) e ≡ (v == u)) → (old : List Edit)
    → list_any (λ x. takes_of e (dropped_sub new x)) old ≡ comes new old u
sub_drop new u e is = any_same (λ x. takes_of e (dropped_sub new x)) (λ x. adds u x && not (has new x)) each
  where
    each : (x : Edit) → takes_of e (dropped_sub new x) ≡ (adds u x && not (has new x))
    each (AddSub v size bytes) =
        takes_when e (not (has new (AddSub v size bytes))) (DropSub v) ∙ ap (λ t. not (has new (AddSub v size bytes)) && t) (is v)
        ∙ and_comm (not (has new (AddSub v size bytes))) (v == u)
    each x = refl

pmu_drop : (new : List Edit) (k : PmuKey) (e : Edit) → ((l : PmuKey) → takes (DropPmu l) e ≡ key_eq l k) → (xs : List Edit)
    → list_any (λ x. takes_of e (dropped_pmu new x)) xs ≡ (has xs (AddPmu k) && not (has new (AddPmu k)))
pmu_drop new k e is xs =
    any_same (λ x. takes_of e (dropped_pmu new x)) (λ x. edit_eq x (AddPmu k) && not (has new x)) each xs ∙ meet (λ x. not (has new x)) (AddPmu k) xs
  where
    each : (x : Edit) → takes_of e (dropped_pmu new x) ≡ (edit_eq x (AddPmu k) && not (has new x))
    each (AddPmu l) =
        takes_when e (not (has new (AddPmu l))) (DropPmu l) ∙ ap (λ t. not (has new (AddPmu l)) && t) (is l) ∙ and_comm (not (has new (AddPmu l))) (key_eq l k)
    each x = refl

-- ---- subscribers of sound setups: they stay, are gone, or come

not_coming : (old new : List Edit) → IsSound new → (u size bytes : ℕ) → has old (AddSub u size bytes) ≡ true → has new (AddSub u size bytes) ≡ true
    → comes old new u ≡ false
not_coming old new sound u size bytes there here = no_such (λ e. adds u e && not (has old e)) new new (λ e h. h) each
  where
    each : (x : Edit) → IsIn new x → (adds u x && not (has old x)) ≡ false
    each (AddSub v ring limit) own = by (v == u) refl
      where
        by : (t : Bool) → (v == u) ≡ t → (t && not (has old (AddSub v ring limit))) ≡ false
        by false other = refl
        by true same =
            let sub : v ≡ u = number_is v u same in
            let mine : has new (AddSub u ring limit) ≡ true = ap (λ w. has new (AddSub w ring limit)) (sym sub) ∙ own (sub_same v ring limit) in
            let alike : (size ≡ ring) × (bytes ≡ limit) = sound.one u size bytes ring limit here mine in
            let is : AddSub v ring limit ≡ AddSub u size bytes = λ i. AddSub (sub i) (sym alike.0 i) (sym alike.1 i) in
            ap not (ap (has old) is ∙ there)
    each x own = refl

stays_so : (old new : List Edit) (u size bytes : ℕ) → has old (AddSub u size bytes) ≡ true → has new (AddSub u size bytes) ≡ true → stays old new u ≡ true
stays_so old new u size bytes there here =
    found (λ e. adds u e && has new e) (AddSub u size bytes) old there (ap (λ t. t && has new (AddSub u size bytes)) (number_same u) ∙ here)

comes_so : (old new : List Edit) (u size bytes : ℕ) → has new (AddSub u size bytes) ≡ true → has old (AddSub u size bytes) ≡ false → comes old new u ≡ true
comes_so old new u size bytes here absent =
    found (λ e. adds u e && not (has old e)) (AddSub u size bytes) new here (ap (λ t. t && not (has old (AddSub u size bytes))) (number_same u) ∙ ap not absent)

-- it does not stay where one of the two has it otherwise
not_staying : (old new : List Edit) (u : ℕ) → ((ring limit : ℕ) → has old (AddSub u ring limit) ≡ true → has new (AddSub u ring limit) ≡ false)
    → stays old new u ≡ false
not_staying old new u otherwise = no_such (λ e. adds u e && has new e) old old (λ e h. h) each
  where
    each : (x : Edit) → IsIn old x → (adds u x && has new x) ≡ false
    each (AddSub v ring limit) own = by (v == u) refl
      where
        by : (t : Bool) → (v == u) ≡ t → (t && has new (AddSub v ring limit)) ≡ false
        by false other = refl
        by true same =
            let sub : v ≡ u = number_is v u same in
            ap (λ w. has new (AddSub w ring limit)) sub
            ∙ otherwise ring limit (ap (λ w. has old (AddSub w ring limit)) (sym sub) ∙ own (sub_same v ring limit))
    each x own = refl

gone_stays_not : (old new : List Edit) → IsSound old → (u size bytes : ℕ) → has old (AddSub u size bytes) ≡ true → has new (AddSub u size bytes) ≡ false
    → stays old new u ≡ false
gone_stays_not old new sound u size bytes there absent = not_staying old new u otherwise
  where
    otherwise : (ring limit : ℕ) → has old (AddSub u ring limit) ≡ true → has new (AddSub u ring limit) ≡ false
    otherwise ring limit h =
        let alike : (ring ≡ size) × (limit ≡ bytes) = sound.one u ring limit size bytes h there in
        let is : AddSub u ring limit ≡ AddSub u size bytes = λ i. AddSub u (alike.0 i) (alike.1 i) in
        ap (has new) is ∙ absent

fresh_stays_not : (old new : List Edit) → IsSound new → (u size bytes : ℕ) → has new (AddSub u size bytes) ≡ true → has old (AddSub u size bytes) ≡ false
    → stays old new u ≡ false
fresh_stays_not old new sound u size bytes here absent = not_staying old new u otherwise
  where
    by : (ring limit : ℕ) (t : Bool) → has new (AddSub u ring limit) ≡ t → has old (AddSub u ring limit) ≡ true → t ≡ false
    by ring limit false fails h = refl
    by ring limit true holds h =
        let alike : (ring ≡ size) × (limit ≡ bytes) = sound.one u ring limit size bytes holds here in
        let is : AddSub u ring limit ≡ AddSub u size bytes = λ i. AddSub u (alike.0 i) (alike.1 i) in
        absurd (true≢false (sym h ∙ ap (has old) is ∙ absent))

    otherwise : (ring limit : ℕ) → has old (AddSub u ring limit) ≡ true → has new (AddSub u ring limit) ≡ false
    otherwise ring limit h = by ring limit (has new (AddSub u ring limit)) refl h

-- ---- PMUs

pmu_ends : (o n : Bool) → ends o (record { drop_sub = false; drop_pmu = o && not n; add_pmu = n && not o; add_sub = n && false; revoke = o && false; grant = n && false; remove = false; define = n && false }) ≡ n
pmu_ends true true = refl
pmu_ends true false = refl
pmu_ends false true = refl
pmu_ends false false = refl

pmu_leads : (old new : List Edit) (k : PmuKey) → has_after (edits_between old new) (AddPmu k) (has old (AddPmu k)) ≡ has new (AddPmu k)
pmu_leads old new k =
    fate_is old new (AddPmu k) false (has old (AddPmu k) && not (has new (AddPmu k))) false
    (no_sub_drop new (AddPmu k) (λ v. refl) old) (pmu_drop new k (AddPmu k) (λ l. refl) old) (no_removal old new (AddPmu k) (λ v n. refl) old)
    ∙ pmu_ends (has old (AddPmu k)) (has new (AddPmu k))

-- ---- subscribers

sub_ends : (o n c d : Bool) → (o ≡ true → n ≡ true → (c ≡ false) × (d ≡ false)) → (o ≡ true → n ≡ false → d ≡ true) → (n ≡ true → o ≡ false → c ≡ true)
    → ends o (record { drop_sub = d; drop_pmu = false; add_pmu = n && false; add_sub = n && c; revoke = o && false; grant = n && false; remove = false; define = n && false }) ≡ n
sub_ends true true false false kept gone fresh = refl
sub_ends true true false true kept gone fresh = absurd (true≢false (kept refl refl).1)
sub_ends true true true d kept gone fresh = absurd (true≢false (kept refl refl).0)
sub_ends true false c true kept gone fresh = refl
sub_ends true false c false kept gone fresh = absurd (false≢true (gone refl refl))
sub_ends false true true d kept gone fresh = refl
sub_ends false true false d kept gone fresh = absurd (false≢true (fresh refl refl))
sub_ends false false c d kept gone fresh = refl

sub_leads : (old new : List Edit) → IsSound old → IsSound new → (u size bytes : ℕ)
    → has_after (edits_between old new) (AddSub u size bytes) (has old (AddSub u size bytes)) ≡ has new (AddSub u size bytes)
sub_leads old new before after u size bytes =
    fate_is old new (AddSub u size bytes) (comes new old u) false false
    (sub_drop new u (AddSub u size bytes) (λ v. refl) old) (no_pmu_drop new (AddSub u size bytes) (λ l. refl) old)
    (no_removal old new (AddSub u size bytes) (λ v n. refl) old)
    ∙ sub_ends (has old (AddSub u size bytes)) (has new (AddSub u size bytes)) (comes old new u) (comes new old u)
    (λ there here. (not_coming old new after u size bytes there here, not_coming new old before u size bytes here there))
    (λ there absent. comes_so new old u size bytes there absent)
    (λ here absent. comes_so old new u size bytes here absent)

-- ---- grants

abbrev grant_end : Bool → Bool → Bool → Bool → Bool → Bool → Bool → Bool
grant_end o n c d s po pn = ends o (record {
  drop_sub = d;
  drop_pmu = po && not pn;
  add_pmu = n && false;
  add_sub = n && c;
  revoke = o && ((s && pn) && not n);
  grant = n && (s && not o);
  remove = false;
  define = n && false;
})

grant_kept : (o n po pn : Bool) → (o ≡ true → po ≡ true) → (n ≡ true → pn ≡ true) → grant_end o n false false true po pn ≡ n
grant_kept true true true true ho hn = refl
grant_kept true true true false ho hn = absurd (false≢true (hn refl))
grant_kept true true false pn ho hn = absurd (false≢true (ho refl))
grant_kept true false true true ho hn = refl
grant_kept true false true false ho hn = refl
grant_kept true false false pn ho hn = absurd (false≢true (ho refl))
grant_kept false true po pn ho hn = refl
grant_kept false false po pn ho hn = refl

grant_gone : (c po pn : Bool) → grant_end true false c true false po pn ≡ false
grant_gone c po pn = refl

grant_fresh : (o d po pn : Bool) → grant_end o true true d false po pn ≡ true
grant_fresh false d po pn = refl
grant_fresh true true po pn = refl
grant_fresh true false false pn = refl
grant_fresh true false true true = refl
grant_fresh true false true false = refl

grant_nowhere : (c d s po pn : Bool) → grant_end false false c d s po pn ≡ false
grant_nowhere c d s po pn = refl

grant_leads : (old new : List Edit) → IsSound old → IsSound new → (u : ℕ) (k : PmuKey)
    → has_after (edits_between old new) (Grant u k) (has old (Grant u k)) ≡ has new (Grant u k)
grant_leads old new before after u k =
    fate_is old new (Grant u k) (comes new old u) (has old (AddPmu k) && not (has new (AddPmu k))) false
    (sub_drop new u (Grant u k) (λ v. refl) old) (pmu_drop new k (Grant u k) (λ l. refl) old) (no_removal old new (Grant u k) (λ v n. refl) old)
    ∙ by (has old (Grant u k)) (has new (Grant u k)) refl refl
  where
    both : (size bytes : ℕ) (o n : Bool) → has old (AddSub u size bytes) ≡ true → has new (AddSub u size bytes) ≡ true
        → (o ≡ true → has old (AddPmu k) ≡ true) → (n ≡ true → has new (AddPmu k) ≡ true)
        → grant_end o n (comes old new u) (comes new old u) (stays old new u) (has old (AddPmu k)) (has new (AddPmu k)) ≡ n
    both size bytes o n there here ho hn =
        let ec : comes old new u ≡ false = not_coming old new after u size bytes there here in
        let ed : comes new old u ≡ false = not_coming new old before u size bytes here there in
        let es : stays old new u ≡ true = stays_so old new u size bytes there here in
        (λ i. grant_end o n (ec i) (ed i) (es i) (has old (AddPmu k)) (has new (AddPmu k))) ∙ grant_kept o n (has old (AddPmu k)) (has new (AddPmu k)) ho hn

    gone : (size bytes : ℕ) → has old (AddSub u size bytes) ≡ true → has new (AddSub u size bytes) ≡ false
        → grant_end true false (comes old new u) (comes new old u) (stays old new u) (has old (AddPmu k)) (has new (AddPmu k)) ≡ false
    gone size bytes there absent =
        let ed : comes new old u ≡ true = comes_so new old u size bytes there absent in
        let es : stays old new u ≡ false = gone_stays_not old new before u size bytes there absent in
        (λ i. grant_end true false (comes old new u) (ed i) (es i) (has old (AddPmu k)) (has new (AddPmu k)))
        ∙ grant_gone (comes old new u) (has old (AddPmu k)) (has new (AddPmu k))

    fresh : (size bytes : ℕ) (o : Bool) → has new (AddSub u size bytes) ≡ true → has old (AddSub u size bytes) ≡ false
        → grant_end o true (comes old new u) (comes new old u) (stays old new u) (has old (AddPmu k)) (has new (AddPmu k)) ≡ true
    fresh size bytes o here absent =
        let ec : comes old new u ≡ true = comes_so old new u size bytes here absent in
        let es : stays old new u ≡ false = fresh_stays_not old new after u size bytes here absent in
        (λ i. grant_end o true (ec i) (comes new old u) (es i) (has old (AddPmu k)) (has new (AddPmu k)))
        ∙ grant_fresh o (comes new old u) (has old (AddPmu k)) (has new (AddPmu k))

    by : (o n : Bool) → has old (Grant u k) ≡ o → has new (Grant u k) ≡ n
        → grant_end o n (comes old new u) (comes new old u) (stays old new u) (has old (AddPmu k)) (has new (AddPmu k)) ≡ n
    by o true eo en =
        let h : HasSub new u = after.holder u k en in
        split (has old (AddSub u h.size h.bytes)) h refl
      where
        split : (t : Bool) (h : HasSub new u) → has old (AddSub u h.size h.bytes) ≡ t
            → grant_end o true (comes old new u) (comes new old u) (stays old new u) (has old (AddPmu k)) (has new (AddPmu k)) ≡ true
        split true h there = both h.size h.bytes o true there h.added (λ e. before.held u k (eo ∙ e)) (λ e. after.held u k en)
        split false h absent = fresh h.size h.bytes o h.added absent
    by true false eo en =
        let h : HasSub old u = before.holder u k eo in
        split (has new (AddSub u h.size h.bytes)) h refl
      where
        split : (t : Bool) (h : HasSub old u) → has new (AddSub u h.size h.bytes) ≡ t
            → grant_end true false (comes old new u) (comes new old u) (stays old new u) (has old (AddPmu k)) (has new (AddPmu k)) ≡ false
        split true h here = both h.size h.bytes true false h.added here (λ e. before.held u k eo) (λ e. absurd (false≢true e))
        split false h absent = gone h.size h.bytes h.added absent
    by false false eo en = grant_nowhere (comes old new u) (comes new old u) (stays old new u) (has old (AddPmu k)) (has new (AddPmu k))

-- ---- streams

abbrev stream_end : Bool → Bool → Bool → Bool → Bool → Bool → Bool
stream_end o n c d s r = ends o (record {
  drop_sub = d;
  drop_pmu = false;
  add_pmu = n && false;
  add_sub = n && c;
  revoke = o && false;
  grant = n && false;
  remove = r;
  define = n && (s && not o);
})

stream_kept : (o n r : Bool) → (o ≡ true → n ≡ true → r ≡ false) → (o ≡ true → n ≡ false → r ≡ true) → stream_end o n false false true r ≡ n
stream_kept true true false quiet removed = refl
stream_kept true true true quiet removed = absurd (true≢false (quiet refl refl))
stream_kept true false true quiet removed = refl
stream_kept true false false quiet removed = absurd (false≢true (removed refl refl))
stream_kept false true r quiet removed = refl
stream_kept false false r quiet removed = refl

stream_gone : (c r : Bool) → stream_end true false c true false r ≡ false
stream_gone c r = refl

stream_fresh : (o d : Bool) → stream_end o true true d false false ≡ true
stream_fresh false d = refl
stream_fresh true true = refl
stream_fresh true false = refl

stream_nowhere : (c d s r : Bool) → stream_end false false c d s r ≡ false
stream_nowhere c d s r = refl

-- a stream is not removed where none of its number is gone or changed
not_removed : (old new : List Edit) (u : ℕ) (d : Definition)
    → ((e : Definition) → e.stream ≡ d.stream → has old (Define u e) ≡ true → (stays old new u && not (has new (Define u e))) ≡ false)
    → list_any (λ x. takes_of (Define u d) (removed old new x)) old ≡ false
not_removed old new u d none = no_such (λ x. takes_of (Define u d) (removed old new x)) old old (λ e h. h) each
  where
    each : (x : Edit) → IsIn old x → takes_of (Define u d) (removed old new x) ≡ false
    each (Define v e) own = takes_when (Define u d) (stays old new v && not (has new (Define v e))) (Remove v e.stream) ∙ by (v == u) refl (e.stream == d.stream) refl
      where
        by : (s : Bool) → (v == u) ≡ s → (t : Bool) → (e.stream == d.stream) ≡ t → ((stays old new v && not (has new (Define v e))) && (s && t)) ≡ false
        by false es t et = and_none (stays old new v && not (has new (Define v e)))
        by true es false et = and_none (stays old new v && not (has new (Define v e)))
        by true es true et =
            let sub : v ≡ u = number_is v u es in
            let fails : (stays old new v && not (has new (Define v e))) ≡ false =
            ap (λ w. stays old new w && not (has new (Define w e))) sub
            ∙ none e (number_is e.stream d.stream et) (ap (λ w. has old (Define w e)) (sym sub) ∙ own (stream_same v e)) in
            ap (λ b. b && true) fails
    each x own = refl

-- one that stays and is gone is removed
removed_so : (old new : List Edit) (u : ℕ) (d : Definition) → stays old new u ≡ true → has old (Define u d) ≡ true → has new (Define u d) ≡ false
    → list_any (λ x. takes_of (Define u d) (removed old new x)) old ≡ true
removed_so old new u d stay there absent =
    found (λ x. takes_of (Define u d) (removed old new x)) (Define u d) old there
    (takes_when (Define u d) (stays old new u && not (has new (Define u d))) (Remove u d.stream)
    ∙ (λ i. (stay i && not (absent i)) && (number_same u i && number_same d.stream i)))

stream_leads : (old new : List Edit) → IsSound old → IsSound new → (u : ℕ) (d : Definition)
    → has_after (edits_between old new) (Define u d) (has old (Define u d)) ≡ has new (Define u d)
stream_leads old new before after u d =
    fate_is old new (Define u d) (comes new old u) false (list_any (λ x. takes_of (Define u d) (removed old new x)) old)
    (sub_drop new u (Define u d) (λ v. refl) old) (no_pmu_drop new (Define u d) (λ l. refl) old) refl
    ∙ by (has old (Define u d)) (has new (Define u d)) refl refl
  where
    both : (size bytes : ℕ) (o n : Bool) → has old (Define u d) ≡ o → has new (Define u d) ≡ n
        → has old (AddSub u size bytes) ≡ true → has new (AddSub u size bytes) ≡ true
        → stream_end o n (comes old new u) (comes new old u) (stays old new u) (list_any (λ x. takes_of (Define u d) (removed old new x)) old) ≡ n
    both size bytes o n eo en there here =
        let ec : comes old new u ≡ false = not_coming old new after u size bytes there here in
        let ed : comes new old u ≡ false = not_coming new old before u size bytes here there in
        let es : stays old new u ≡ true = stays_so old new u size bytes there here in
        let r : Bool = list_any (λ x. takes_of (Define u d) (removed old new x)) old in
        (λ i. stream_end o n (ec i) (ed i) (es i) r)
        ∙ stream_kept o n r
        (λ yo yn. not_removed old new u d (λ e number h.
        let is : e ≡ d = before.numbered u e d h (eo ∙ yo) number in
        ap (λ b. stays old new u && not b) (ap (λ x. has new (Define u x)) is ∙ en ∙ yn) ∙ and_none (stays old new u)))
        (λ yo nn. removed_so old new u d es (eo ∙ yo) (en ∙ nn))

    gone : (size bytes : ℕ) → has old (AddSub u size bytes) ≡ true → has new (AddSub u size bytes) ≡ false
        → stream_end true false (comes old new u) (comes new old u) (stays old new u) (list_any (λ x. takes_of (Define u d) (removed old new x)) old) ≡ false
    gone size bytes there absent =
        let ed : comes new old u ≡ true = comes_so new old u size bytes there absent in
        let es : stays old new u ≡ false = gone_stays_not old new before u size bytes there absent in
        let r : Bool = list_any (λ x. takes_of (Define u d) (removed old new x)) old in
        (λ i. stream_end true false (comes old new u) (ed i) (es i) r) ∙ stream_gone (comes old new u) r

    fresh : (size bytes : ℕ) (o : Bool) → has new (AddSub u size bytes) ≡ true → has old (AddSub u size bytes) ≡ false
        → stream_end o true (comes old new u) (comes new old u) (stays old new u) (list_any (λ x. takes_of (Define u d) (removed old new x)) old) ≡ true
    fresh size bytes o here absent =
        let ec : comes old new u ≡ true = comes_so old new u size bytes here absent in
        let es : stays old new u ≡ false = fresh_stays_not old new after u size bytes here absent in
        let er : list_any (λ x. takes_of (Define u d) (removed old new x)) old ≡ false =
        not_removed old new u d (λ e number h. ap (λ b. b && not (has new (Define u e))) es) in
        (λ i. stream_end o true (ec i) (comes new old u) (es i) (er i)) ∙ stream_fresh o (comes new old u)

    by : (o n : Bool) → has old (Define u d) ≡ o → has new (Define u d) ≡ n
        → stream_end o n (comes old new u) (comes new old u) (stays old new u) (list_any (λ x. takes_of (Define u d) (removed old new x)) old) ≡ n
    by o true eo en =
        let h : HasSub new u = after.owner u d en in
        split (has old (AddSub u h.size h.bytes)) h refl
      where
        split : (t : Bool) (h : HasSub new u) → has old (AddSub u h.size h.bytes) ≡ t
            → stream_end o true (comes old new u) (comes new old u) (stays old new u) (list_any (λ x. takes_of (Define u d) (removed old new x)) old) ≡ true
        split true h there = both h.size h.bytes o true eo en there h.added
        split false h absent = fresh h.size h.bytes o h.added absent
    by true false eo en =
        let h : HasSub old u = before.owner u d eo in
        split (has new (AddSub u h.size h.bytes)) h refl
      where
        split : (t : Bool) (h : HasSub old u) → has new (AddSub u h.size h.bytes) ≡ t
            → stream_end true false (comes old new u) (comes new old u) (stays old new u) (list_any (λ x. takes_of (Define u d) (removed old new x)) old) ≡ false
        split true h here = both h.size h.bytes true false eo en h.added here
        split false h absent = gone h.size h.bytes h.added absent
    by false false eo en =
        stream_nowhere (comes old new u) (comes new old u) (stays old new u) (list_any (λ x. takes_of (Define u d) (removed old new x)) old)

-- ---- edits that no setup makes

abbrev is_asked : Edit → Bool
is_asked (AddPmu k) = true
is_asked (AddSub u size bytes) = true
is_asked (Grant u k) = true
is_asked (Define u d) = true
is_asked e = false

not_same : (d e : Edit) → is_asked e ≡ false → edit_eq d e ≡ false
not_same d e other = by (edit_eq d e) refl
  where
    asked : (x : Edit) → edit_eq x x ≡ true → is_asked x ≡ true
    asked (AddPmu k) h = refl
    asked (AddSub u size bytes) h = refl
    asked (Grant u k) h = refl
    asked (Define u d) h = refl
    asked x h = absurd (false≢true h)

    by : (t : Bool) → edit_eq d e ≡ t → t ≡ false
    by false h = refl
    by true h =
        let is : d ≡ e = edit_is d e h in
        absurd (true≢false (sym (asked e (ap (λ x. edit_eq x e) (sym is) ∙ h)) ∙ other))

never : (e : Edit) → is_asked e ≡ false → (xs : List Edit) → has_after xs e false ≡ false
never e other [] = refl
never e other (x ∷ xs) = ap (has_after xs e) (not_same x e other) ∙ never e other xs

other_leads : (old new : List Edit) (e : Edit) → is_asked e ≡ false → has_after (edits_between old new) e (has old e) ≡ has new e
other_leads old new e other =
    ap (has_after (edits_between old new) e) (none_of (λ d. edit_eq d e) (λ d. not_same d e other) old)
    ∙ never e other (edits_between old new) ∙ sym (none_of (λ d. edit_eq d e) (λ d. not_same d e other) new)

-- ---- all

pub leads : (old new : List Edit) → IsSound old → IsSound new → LeadsFrom old new (edits_between old new)
leads old new before after (AddPmu k) = pmu_leads old new k
leads old new before after (AddSub u size bytes) = sub_leads old new before after u size bytes
leads old new before after (Grant u k) = grant_leads old new before after u k
leads old new before after (Define u d) = stream_leads old new before after u d
leads old new before after e = other_leads old new e refl
