-- What is due is done, one after another.
use Rattle.std.proofs.Common.{◌≡◌, ℕ, List, [], ◌∷◌, ◌++◌, map, Option, Some, None, refl, sym, ap, ap₂, ◌∙◌, subst, append_assoc}
use Rattle.std.proofs.lemmas.List.{append-nil, map-append}
use Rattle.std.proofs.lemmas.Grind.{flat_map-append}
use Rattle.pg_wire.specs.declared.refusal.Refusal.{Refusal}
use Rattle.pg_wire.specs.declared.refusal.Refusal.TheVariants.{WrongType}
use Rattle.pg_session.specs.Commands as session
use Rattle.pg_session.specs.Commands.{Hearing, items_of}
use Rattle.pg_ingest.specs.Items as link
use Rattle.pg_ingest.specs.Commands.{tells}
use Rattle.pg_ingest.specs.Linking.{Linking}
use Rattle.pg_ingest.specs.Shown as ingest
use Rattle.pg_ingest.specs.Shown.{LinkPast, IsAllTold, doing, feeding}
use Rattle.pg_gateway.specs.GatewayEvents.{GatewayEvent, Answer}
use Rattle.pg_gateway.specs.State.{SharedMachine, next}
use Rattle.pg_gateway.specs.Histories.{Legal, state_after}
use Rattle.pg_gateway.specs.Shown.{GatewayValue, GatewayShows, Goes}
use Rattle.pg_shared.proofs.Opening.{state_after-append}
use Rattle.pg_serve.specs.Inputs.{Noted, replied, ignored, closed}
use Rattle.pg_serve.specs.Actions.{Action, posts, ignores_frame, closes, answered, ignored_frame, closed_at, action_of, note_of, notes_of, pairs_by, pairs_of, item_action, told_action, link_action, telling_so}
use Rattle.pg_serve.specs.Feeding.{Did, Tells, TellsAll, TakesPiece, Hears, HearsAll}

pub Legal-append : (S : SharedMachine) (h k : List (GatewayEvent × Answer)) → Legal S h → Legal (state_after S h) k → Legal S (h ++ k)
Legal-append S [] k legal more = more
Legal-append S (x ∷ xs) k legal more = (legal.0, Legal-append (next S x.0 x.1) xs k legal.1 more)

-- ---- effects

pub Did-none : (S : SharedMachine) (notes : List Noted) (g : GatewayValue) → GatewayShows g S → Did S [] notes notes g
Did-none S notes g shows = record { effects = []; are = refl; legal = tt; shows = shows; notes = sym (append-nil notes) }

pub Did-event : (S : SharedMachine) (e : GatewayEvent) (a : Answer) (before after : List Noted) (g h : GatewayValue) → GatewayShows g S → Goes g e a h
    → after ≡ before ++ replied a ∷ [] → Did S (posts e ∷ []) before after h
Did-event S e a before after g h shows goes notes =
    let step = goes S shows in
    record { effects = answered e a ∷ []; are = refl; legal = (step.may, tt); shows = step.shows; notes = notes }

pub Did-ignored : (S : SharedMachine) (r : Refusal) (before after : List Noted) (g : GatewayValue) → GatewayShows g S
    → after ≡ before ++ ignored r ∷ [] → Did S (ignores_frame r ∷ []) before after g
Did-ignored S r before after g shows notes = record { effects = ignored_frame r ∷ []; are = refl; legal = tt; shows = shows; notes = notes }

pub Did-closed : (S : SharedMachine) (r : Refusal) (before after : List Noted) (g : GatewayValue) → GatewayShows g S
    → after ≡ before ++ closed r ∷ [] → Did S (closes r ∷ []) before after g
Did-closed S r before after g shows notes = record { effects = closed_at r ∷ []; are = refl; legal = tt; shows = shows; notes = notes }

pub Did-more : (S : SharedMachine) (ds es : List Action) (before mid after : List Noted) (g h : GatewayValue) (did : Did S ds before mid g)
    → Did (state_after S (pairs_of did.effects)) es mid after h → Did S (ds ++ es) before after h
Did-more S ds es before mid after g h did more =
    let pairs : pairs_of did.effects ++ pairs_of more.effects ≡ pairs_of (did.effects ++ more.effects) = sym (flat_map-append pairs_by did.effects more.effects) in
    record {
      effects = did.effects ++ more.effects;
      are = map-append action_of did.effects more.effects ∙ ap₂ (λ x y. x ++ y) did.are more.are;
      legal = subst (Legal S) pairs (Legal-append S (pairs_of did.effects) (pairs_of more.effects) did.legal more.legal);
      shows = subst (λ k. GatewayShows h (state_after S k)) pairs
          (subst (GatewayShows h) (sym (state_after-append S (pairs_of did.effects) (pairs_of more.effects))) more.shows);
      notes = more.notes ∙ ap (λ x. x ++ notes_of more.effects) did.notes ∙ append_assoc before (notes_of did.effects) (notes_of more.effects)
          ∙ ap (λ x. before ++ x) (sym (map-append note_of did.effects more.effects));
    }

-- ---- a source's bytes

so_more : (past : LinkPast) (items more : List link.Item) → telling_so (telling_so past items) more ≡ telling_so past (items ++ more)
so_more past items more = ap (λ acts. record past { acts = acts })
    (append_assoc past.acts (map tells items) (map tells more) ∙ ap (λ acts. past.acts ++ acts) (sym (map-append tells items more)))

so_none : (past : LinkPast) → past ≡ telling_so past []
so_none past = ap (λ acts. record past { acts = acts }) (sym (append-nil past.acts))

pub Tells-none : (S : SharedMachine) (past : LinkPast) (notes : List Noted) (g : GatewayValue) (v : Linking) → GatewayShows g S → ingest.ShowsLink v past
    → Tells S past notes notes g v
Tells-none S past notes g v shown shows = record { items = []; shows = subst (ingest.ShowsLink v) (so_none past) shows; did = Did-none S notes g shown }

-- more were told
pub Tells-more : (S : SharedMachine) (past : LinkPast) (before mid after : List Noted) (g h : GatewayValue) (v w : Linking) (t : Tells S past before mid g v)
    → Tells (state_after S (pairs_of t.did.effects)) (telling_so past t.items) mid after h w → Tells S past before after h w
Tells-more S past before mid after g h v w t more = record {
  items = t.items ++ more.items;
  shows = subst (ingest.ShowsLink w) (so_more past t.items more.items) more.shows;
  did = subst (λ ds. Did S ds before after h) (sym (map-append told_action t.items more.items))
      (Did-more S (map told_action t.items) (map told_action more.items) before mid after g h t.did more.did);
}

pub Tells-one : (S : SharedMachine) (past : LinkPast) (before mid after : List Noted) (g h : GatewayValue) (v w : Linking) (item : link.Item) (t : Tells S past before mid g v)
    → ingest.ShowsLink w (doing (telling_so past t.items) (tells item))
    → Did (state_after S (pairs_of t.did.effects)) (told_action item ∷ []) mid after h → Tells S past before after h w
Tells-one S past before mid after g h v w item t shows did =
    Tells-more S past before mid after g h v w t (record { items = item ∷ []; shows = shows; did = did })

pub TellsAll-more : (S : SharedMachine) (past : LinkPast) (broken : Option Refusal) (before mid after : List Noted) (g h : GatewayValue) (v w : Linking) (t : Tells S past before mid g v)
    → TellsAll (state_after S (pairs_of t.did.effects)) (telling_so past t.items) broken mid after h w → TellsAll S past broken before after h w
TellsAll-more S past broken before mid after g h v w t more = record {
  items = t.items ++ more.items;
  all = subst IsAllTold (so_more past t.items more.items) more.all;
  end = more.end;
  shows = subst (ingest.ShowsLink w) (so_more past t.items more.items) more.shows;
  did = subst (λ ds. Did S ds before after h) (sym (map-append told_action t.items more.items))
      (Did-more S (map told_action t.items) (map told_action more.items) before mid after g h t.did more.did);
}

pub TellsAll-end : (S : SharedMachine) (past : LinkPast) (broken : Option Refusal) (before after : List Noted) (g : GatewayValue) (v w : Linking) (t : Tells S past before after g v)
    → IsAllTold (telling_so past t.items) × (link.break_in past.stream ≡ broken) × ingest.ShowsLink w (telling_so past t.items) → TellsAll S past broken before after g w
TellsAll-end S past broken before after g v w t end =
    record { items = t.items; all = end.0; end = end.1; shows = end.2; did = t.did }

pub told_of_all : (S : SharedMachine) (past : LinkPast) (broken : Option Refusal) (before after : List Noted) (g : GatewayValue) (v : Linking)
    → TellsAll S past broken before after g v → Tells S past before after g v
told_of_all S past broken before after g v t = record { items = t.items; shows = t.shows; did = t.did }

pub ignored_action : (item : link.Item) (r : Refusal) → link.reason_of item ≡ Some r → told_action item ≡ ignores_frame r
ignored_action (link.announces config) r h = absurd (cc)
ignored_action (link.measures m) r h = absurd (cc)
ignored_action (link.skips x) r h = let same : x ≡ r = cc in ap ignores_frame same
ignored_action (link.rejects_config x) r h = let same : x ≡ r = cc in ap ignores_frame same
ignored_action (link.rejects_data x) r h = let same : x ≡ r = cc in ap ignores_frame same
ignored_action link.passes_over r h = let same : WrongType ≡ r = cc in ap ignores_frame same

-- a piece came
pub Tells-fed : (S : SharedMachine) (past : LinkPast) (stream piece all : List ℕ) (before after : List Noted) (g : GatewayValue) (v w : Linking)
    → stream ++ piece ≡ all → Tells S (feeding past stream) before after g v
    → ((p : LinkPast) → ingest.ShowsLink v p → ingest.ShowsLink w (feeding p piece)) → Tells S (feeding past all) before after g w
Tells-fed S past stream piece all before after g v w is t feeds = record {
  items = t.items;
  shows = subst (ingest.ShowsLink w) (ap (λ s. record past { stream = s; acts = past.acts ++ map tells t.items })
      (append_assoc past.stream stream piece ∙ ap (λ s. past.stream ++ s) is)) (feeds (telling_so (feeding past stream) t.items) t.shows);
  did = t.did;
}

pub fed_none : (past : LinkPast) → past ≡ feeding past []
fed_none past = ap (λ s. record past { stream = s }) (sym (append-nil past.stream))

-- a break is noted
pub TakesPiece-whole : (S : SharedMachine) (past : LinkPast) (before after : List Noted) (g : GatewayValue) (v : Linking)
    → TellsAll S past None before after g v → TakesPiece S past before after g v
TakesPiece-whole S past before after g v t = record {
  items = t.items;
  all = t.all;
  shows = t.shows;
  did = subst (λ ds. Did S ds before after g) (sym (append-nil (map told_action t.items)) ∙ ap (λ b. link_action t.items b) (sym t.end)) t.did;
}

pub TakesPiece-broken : (S : SharedMachine) (past : LinkPast) (r : Refusal) (before mid after : List Noted) (g : GatewayValue) (v : Linking)
    → TellsAll S past (Some r) before mid g v → after ≡ mid ++ closed r ∷ [] → TakesPiece S past before after g v
TakesPiece-broken S past r before mid after g v t notes = record {
  items = t.items;
  all = t.all;
  shows = t.shows;
  did = subst (λ ds. Did S ds before after g) (ap (λ b. link_action t.items b) (sym t.end))
      (Did-more S (map told_action t.items) (closes r ∷ []) before mid after g g t.did
      (Did-closed (state_after S (pairs_of t.did.effects)) r mid after g t.did.shows notes));
}

-- ---- a subscriber's bytes

pub Hears-none : (S : SharedMachine) (u : ℕ) (stream : List ℕ) (given : List session.Item) (notes : List Noted) (g : GatewayValue) (v : Hearing)
    → GatewayShows g S → session.ShowsHearing v stream given → Hears S u stream given notes notes g v
Hears-none S u stream given notes g v shown shows =
    record { more = []; shows = subst (session.ShowsHearing v stream) (sym (append-nil given)) shows; did = Did-none S notes g shown }

pub Hears-more : (S : SharedMachine) (u : ℕ) (stream : List ℕ) (given : List session.Item) (before mid after : List Noted) (g h : GatewayValue) (v w : Hearing)
    → (t : Hears S u stream given before mid g v) → Hears (state_after S (pairs_of t.did.effects)) u stream (given ++ t.more) mid after h w
    → Hears S u stream given before after h w
Hears-more S u stream given before mid after g h v w t more = record {
  more = t.more ++ more.more;
  shows = subst (session.ShowsHearing w stream) (append_assoc given t.more more.more) more.shows;
  did = subst (λ ds. Did S ds before after h) (sym (map-append (item_action u) t.more more.more))
      (Did-more S (map (item_action u) t.more) (map (item_action u) more.more) before mid after g h t.did more.did);
}

pub Hears-one : (S : SharedMachine) (u : ℕ) (stream : List ℕ) (given : List session.Item) (before mid after : List Noted) (g h : GatewayValue) (v w : Hearing) (item : session.Item)
    → (t : Hears S u stream given before mid g v) → session.ShowsHearing w stream ((given ++ t.more) ++ item ∷ [])
    → Did (state_after S (pairs_of t.did.effects)) (item_action u item ∷ []) mid after h → Hears S u stream given before after h w
Hears-one S u stream given before mid after g h v w item t shows did =
    Hears-more S u stream given before mid after g h v w t (record { more = item ∷ []; shows = shows; did = did })

pub HearsAll-more : (S : SharedMachine) (u : ℕ) (stream : List ℕ) (given : List session.Item) (broken : Option Refusal) (before mid after : List Noted) (g h : GatewayValue) (v w : Hearing)
    → (t : Hears S u stream given before mid g v) → HearsAll (state_after S (pairs_of t.did.effects)) u stream (given ++ t.more) broken mid after h w
    → HearsAll S u stream given broken before after h w
HearsAll-more S u stream given broken before mid after g h v w t more = record {
  more = t.more ++ more.more;
  all = sym (append_assoc given t.more more.more) ∙ more.all;
  end = more.end;
  shows = subst (session.ShowsHearing w stream) (append_assoc given t.more more.more) more.shows;
  did = subst (λ ds. Did S ds before after h) (sym (map-append (item_action u) t.more more.more))
      (Did-more S (map (item_action u) t.more) (map (item_action u) more.more) before mid after g h t.did more.did);
}

pub HearsAll-end : (S : SharedMachine) (u : ℕ) (stream : List ℕ) (given : List session.Item) (broken : Option Refusal) (before after : List Noted) (g : GatewayValue) (v w : Hearing)
    → (t : Hears S u stream given before after g v)
    → (given ++ t.more ≡ items_of stream) × (session.break_in stream ≡ broken) × session.ShowsHearing w stream (given ++ t.more)
    → HearsAll S u stream given broken before after g w
HearsAll-end S u stream given broken before after g v w t end =
    record { more = t.more; all = end.0; end = end.1; shows = end.2; did = t.did }

pub heard_of_all : (S : SharedMachine) (u : ℕ) (stream : List ℕ) (given : List session.Item) (broken : Option Refusal) (before after : List Noted) (g : GatewayValue) (v : Hearing)
    → HearsAll S u stream given broken before after g v → Hears S u stream given before after g v
heard_of_all S u stream given broken before after g v t = record { more = t.more; shows = t.shows; did = t.did }

pub Hears-fed : (S : SharedMachine) (u : ℕ) (start stream piece all : List ℕ) (given : List session.Item) (before after : List Noted) (g : GatewayValue) (v w : Hearing)
    → stream ++ piece ≡ all → Hears S u (start ++ stream) given before after g v
    → ((s : List ℕ) (items : List session.Item) → session.ShowsHearing v s items → session.ShowsHearing w (s ++ piece) items)
    → Hears S u (start ++ all) given before after g w
Hears-fed S u start stream piece all given before after g v w is t feeds = record {
  more = t.more;
  shows = subst (λ s. session.ShowsHearing w s (given ++ t.more)) (append_assoc start stream piece ∙ ap (λ s. start ++ s) is)
      (feeds (start ++ stream) (given ++ t.more) t.shows);
  did = t.did;
}
