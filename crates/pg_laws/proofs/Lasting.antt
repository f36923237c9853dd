-- Where the last Connect of two equal views is the one of a seat, the views up to it are equal.
use Rattle.std.proofs.Common.{◌≡◌, refl, sym, ap, ap₂, subst, ◌∙◌, ℕ, List, [], ◌∷◌, ◌++◌, append_assoc}
use Rattle.pg_session.specs.Events.{connect}
use Rattle.pg_gateway.specs.GatewayEvents.{GatewayEvent, gateway_event}
use Rattle.pg_gateway.specs.State.{SharedMachine, opening}
use Rattle.pg_gateway.specs.Laws.{after}
use Rattle.pg_gateway.specs.Views.{ViewEvent, takes, part, shared_step, shared_run, view}
use Rattle.pg_shared.specs.Sharing.{Call}
use Rattle.pg_shared.specs.Delivery.{events_in}
use Rattle.pg_laws.specs.Since.{SeesNoConnect, ConnectsLast}

events_more : (a b : List Call) → events_in (a ++ b) ≡ events_in a ++ events_in b
events_more [] b = refl
events_more (x ∷ a) b = ap (λ l. gateway_event x.0 ∷ l) (events_more a b)

view_more : (u : ℕ) (S : SharedMachine) (es fs : List GatewayEvent) → view u S (es ++ fs) ≡ view u S es ++ view u (shared_run S es) fs
view_more u S [] fs = refl
view_more u S (e ∷ es) fs =
    ap (λ v. part u S e ++ v) (view_more u (shared_step S e) es fs)
    ∙ sym (append_assoc (part u S e) (view u (shared_step S e) es) (view u (shared_run (shared_step S e) es) fs))

-- a view behind what was seen before
view_behind : (u : ℕ) (whole before since : List Call) → whole ≡ before ++ since
    → view u opening (events_in whole) ≡ view u opening (events_in before) ++ view u (after (events_in before)) (events_in since)
view_behind u whole before since split =
    ap (λ calls. view u opening (events_in calls)) split ∙ ap (view u opening) (events_more before since)
    ∙ view_more u opening (events_in before) (events_in since)

-- there is a Connect
sees : (xs ys : List ViewEvent) → SeesNoConnect ((xs ++ takes connect ∷ []) ++ ys) → ⊥
sees [] ys none = none.0 refl
sees (x ∷ xs) ys none = sees xs ys none.1

none_as : (xs ys : List ViewEvent) → xs ≡ ys → SeesNoConnect xs → SeesNoConnect ys
none_as xs ys same none = subst SeesNoConnect same none

head_same : (x y : ViewEvent) (xs ys : List ViewEvent) → x ∷ xs ≡ y ∷ ys → x ≡ y
head_same x y xs ys same = cc

tail_same : (x y : ViewEvent) (xs ys : List ViewEvent) → x ∷ xs ≡ y ∷ ys → xs ≡ ys
tail_same x y xs ys same = cc

-- The last Connect of a list stands at one place.
last_same : (xs ys more others : List ViewEvent) → SeesNoConnect more → SeesNoConnect others
    → (xs ++ takes connect ∷ []) ++ more ≡ (ys ++ takes connect ∷ []) ++ others → xs ≡ ys
last_same [] [] more others none none' same = refl
last_same [] (y ∷ ys) more others none none' same =
    absurd (sees ys others (none_as more ((ys ++ takes connect ∷ []) ++ others) (tail_same (takes connect) y more ((ys ++ takes connect ∷ []) ++ others) same) none))
last_same (x ∷ xs) [] more others none none' same =
    absurd (sees xs more (none_as others ((xs ++ takes connect ∷ []) ++ more) (sym (tail_same x (takes connect) ((xs ++ takes connect ∷ []) ++ more) others same)) none'))
last_same (x ∷ xs) (y ∷ ys) more others none none' same =
    ap₂ (λ z zs. z ∷ zs) (head_same x y ((xs ++ takes connect ∷ []) ++ more) ((ys ++ takes connect ∷ []) ++ others) same)
    (last_same xs ys more others none none' (tail_same x y ((xs ++ takes connect ∷ []) ++ more) ((ys ++ takes connect ∷ []) ++ others) same))

-- Equal views of two histories, where the last Connect of each is behind these calls, are equal up to there.
pub same_before : (u : ℕ) (whole before since whole' before' since' : List Call) → whole ≡ before ++ since → whole' ≡ before' ++ since'
    → ConnectsLast u before since → ConnectsLast u before' since' → view u opening (events_in whole) ≡ view u opening (events_in whole')
    → view u opening (events_in before) ≡ view u opening (events_in before')
same_before u whole before since whole' before' since' split split' one two same =
    let more = view u (after (events_in before)) (events_in since) in
    let others = view u (after (events_in before')) (events_in since') in
    one.there ∙ ap (λ xs. xs ++ takes connect ∷ []) (last_same one.earlier two.earlier more others one.last two.last
    (ap (λ xs. xs ++ more) (sym one.there) ∙ sym (view_behind u whole before since split) ∙ same ∙ view_behind u whole' before' since' split'
    ∙ ap (λ xs. xs ++ others) two.there)) ∙ sym two.there
