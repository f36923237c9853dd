-- One input is taken.
use Rattle.std.proofs.Common.{◌<◌, append_assoc, ap₂, arith, drop, Result, Ok, Err, IsOk, OnOk, option_map, ◌≡◌, ◌⊎◌, ◌≤◌, ◌&&◌, ◌||◌, ℕ, nat_eq, nat_le, length, is_some, if◌then◌else◌, MatchOption, Bool, true, false, List, [], ◌∷◌, ◌++◌, map, Option, Some, None, inl, inr, refl, sym, ap, ◌∙◌, subst}
use Rattle.std.proofs.lemmas.List.{append-nil, map-append}
use Rattle.std.proofs.Math.Seq.{drop-append_seam}
use Rattle.std.proofs.lemmas.Bool.{eq-eqb, eqb-true}
use Rattle.std.specs.Option.{option_map_or}
use Rattle.pg_registry.specs.Registered as registered
use Rattle.pg_registry.specs.Registered.{Pmus}
use Rattle.indexmap.specs.IndexMap.{insert_entry}
use Rattle.pg_wire.specs.declared.ids.PmuKey.{PmuKey}
use Rattle.pg_wire.specs.Keys.{key_eq}
use Rattle.std.specs.Map.{lookup, set_value, remove_entry}
use Rattle.pg_wire.specs.declared.refusal.Refusal.{Refusal}
use Rattle.pg_wire.specs.declared.refusal.Refusal.TheVariants.{NoSuchPmu, NoMemory, PmuExists, PmusFull, NoSuchSub, Busy}
use Rattle.pg_session.specs.Private as private
use Rattle.pg_session.specs.Commands as session
use Rattle.pg_session.specs.Commands.{Hearing, items_of, break_in}
use Rattle.pg_gateway.specs.GatewayEvents.{GatewayEvent, add_pmu, drop_pmu, asks, Answer, tells}
use Rattle.pg_gateway.specs.State.{SharedMachine, May, next, refusal, made, answer, takes_memory, own_refusal, slot_of, own_of}
use Rattle.pg_gateway.specs.Sharing.{SubscriberSlot}
use Rattle.pg_gateway.specs.Histories.{state_after}
use Rattle.pg_session.specs.Events.{connect, hangup}
use Rattle.pg_serve.specs.Feeding.{Did, HearsAll}
use Rattle.pg_serve.proofs.Doing.{Did-more}
use Rattle.pg_gateway.specs.Related.{Related}
use Rattle.pg_gateway.specs.Shown.{GatewayValue, GatewayShows}
use Rattle.pg_gateway.proofs.RelatedLaws.{Related-set_value, Related-remove_entry}
use Rattle.pg_serve.specs.declared.source_link.SourceLink.{SourceLink}
use Rattle.pg_serve.specs.Inputs.{link_up, pmu_bytes, sub_bytes, names, Outcome, Noted, replied, closed}
use Rattle.pg_serve.specs.Actions.{answered, refused, closed_at, refuses, posts, closes, pairs_of, item_action, hang_up, session_action, session_grows}
use Rattle.pg_serve.specs.WorldStates.{SourceLinkPast, WorldState, absence, has_source, new_source_link, is_done, lines_by, fed_by, begins, gives_all, gone_up, fed_line}
use Rattle.pg_serve.specs.Shown.{SourceLinkShows, SessionShows, Holding, WorldStateShows}
use Rattle.pg_serve.specs.Taking.{Takes, GoesUp, TakesBytes, Spares, Ends}

abbrev with_parts : GatewayValue → List (ℕ × SourceLink) → List (ℕ × Hearing) → Holding
with_parts g links hearings = record { gateway = g; lines = links; sessions = hearings }

pub named_taken : (m : WorldState) (e : GatewayEvent) (a : Answer) (o : Outcome) (g : GatewayValue) (links : List (ℕ × SourceLink)) (hearings : List (ℕ × Hearing))
    → o ≡ record { notes = replied a ∷ []; to_pmu = [] } → May m.shared e a → GatewayShows g (next m.shared e a)
    → Related SourceLinkShows links (lines_by m.lines m.shared (next m.shared e a) e (is_done a))
    → Related SessionShows hearings (fed_by m.fed e (is_done a)) → Takes m (names e) o (with_parts g links hearings)
named_taken m e a o g links hearings is may shows lines sessions = record {
  turn = record { input = names e; effects = answered e a ∷ []; told = [] };
  is = refl;
  legal = record { makes = (refl, inl refl); legal = (may, tt) };
  outcome = is;
  shows = record { gateway = shows; lines = lines; sessions = sessions };
}

-- an event that concerns no link and no session
pub spared : (m : WorldState) (e : GatewayEvent) (a : Answer) (o : Outcome) (g : GatewayValue) (links : List (ℕ × SourceLink)) (hearings : List (ℕ × Hearing))
    → Spares e → o ≡ record { notes = replied a ∷ []; to_pmu = [] } → May m.shared e a → GatewayShows g (next m.shared e a)
    → Related SourceLinkShows links m.lines → Related SessionShows hearings m.fed → Takes m (names e) o (with_parts g links hearings)
spared m e a o g links hearings spares is may shows lines sessions =
    named_taken m e a o g links hearings is may shows
    (subst (Related SourceLinkShows links) (sym (spares.lines m.lines m.shared (next m.shared e a) (is_done a))) lines)
    (subst (Related SessionShows hearings) (sym (spares.fed m.fed (is_done a))) sessions)

-- an event that ends a session, where it is done
pub ended : (u : ℕ) (m : WorldState) (e : GatewayEvent) (a : Answer) (o : Outcome) (g : GatewayValue) (links : List (ℕ × SourceLink)) (hearings : List (ℕ × Hearing))
    → Ends u e → is_done a ≡ true → o ≡ record { notes = replied a ∷ []; to_pmu = [] } → May m.shared e a → GatewayShows g (next m.shared e a)
    → Related SourceLinkShows links m.lines → Related SessionShows hearings m.fed → Takes m (names e) o (with_parts g links (remove_entry (nat_eq u) hearings))
ended u m e a o g links hearings ends done is may shows lines sessions =
    named_taken m e a o g links (remove_entry (nat_eq u) hearings) is may shows
    (subst (Related SourceLinkShows links) (sym (ends.lines m.lines m.shared (next m.shared e a) (is_done a))) lines)
    (subst (Related SessionShows (remove_entry (nat_eq u) hearings)) (sym (ap (fed_by m.fed e) done ∙ ends.fed m.fed true))
    (Related-remove_entry SessionShows (nat_eq u) hearings m.fed sessions))

pub not_ended : (u : ℕ) (m : WorldState) (e : GatewayEvent) (a : Answer) (o : Outcome) (g : GatewayValue) (links : List (ℕ × SourceLink)) (hearings : List (ℕ × Hearing))
    → Ends u e → is_done a ≡ false → o ≡ record { notes = replied a ∷ []; to_pmu = [] } → May m.shared e a → GatewayShows g (next m.shared e a)
    → Related SourceLinkShows links m.lines → Related SessionShows hearings m.fed → Takes m (names e) o (with_parts g links hearings)
not_ended u m e a o g links hearings ends done is may shows lines sessions =
    named_taken m e a o g links hearings is may shows
    (subst (Related SourceLinkShows links) (sym (ends.lines m.lines m.shared (next m.shared e a) (is_done a))) lines)
    (subst (Related SessionShows hearings) (sym (ap (fed_by m.fed e) done ∙ ends.fed m.fed false)) sessions)

-- a source that has no line
pub up_none : (m : WorldState) (s : ℕ) (o : Outcome) (g : GatewayValue) (links : List (ℕ × SourceLink)) (hearings : List (ℕ × Hearing))
    → lookup (nat_eq s) m.lines ≡ None → o ≡ record { notes = replied (tells (private.refused NoSuchPmu)) ∷ []; to_pmu = [] }
    → WorldStateShows (with_parts g links hearings) m → Takes m (link_up s) o (with_parts g links hearings)
up_none m s o g links hearings none is shows = record {
  turn = record { input = link_up s; effects = refused NoSuchPmu ∷ []; told = [] };
  is = refl;
  legal = record { makes = (refl, rw none refl); legal = tt };
  outcome = rw none is;
  shows = record { gateway = shows.gateway; lines = rw none shows.lines; sessions = shows.sessions };
}

is_answering : (o : Outcome) (notes : List Noted) (to_pmu : List ℕ) → o.notes ≡ notes → o.to_pmu ≡ to_pmu → o ≡ record { notes = notes; to_pmu = to_pmu }
is_answering o notes to_pmu n t = subst (λ (x : List Noted). o ≡ record { notes = x; to_pmu = to_pmu }) n
    (subst (λ (x : List ℕ). o ≡ record { notes = o.notes; to_pmu = x }) t refl)

pub up_some : (m : WorldState) (s : ℕ) (line : SourceLinkPast) (o : Outcome) (g : GatewayValue) (links : List (ℕ × SourceLink)) (v : SourceLink) (hearings : List (ℕ × Hearing))
    → lookup (nat_eq s) m.lines ≡ Some line → o.notes ≡ [] → GoesUp line o.to_pmu v
    → WorldStateShows (with_parts g links hearings) m → Takes m (link_up s) o (with_parts g (set_value (nat_eq s) links v) hearings)
up_some m s line o g links v hearings found none goes shows = record {
  turn = record { input = link_up s; effects = []; told = [] };
  is = refl;
  legal = record { makes = (refl, rw found refl); legal = tt };
  outcome = rw found (is_answering o _ _ none goes.sent);
  shows = record {
    gateway = shows.gateway;
    lines = rw found (Related-set_value SourceLinkShows (nat_eq s) v (gives_all (gone_up line)) goes.shows links m.lines shows.lines);
    sessions = shows.sessions;
  };
}

pub bytes_none : (m : WorldState) (s : ℕ) (bytes : List ℕ) (o : Outcome) (g : GatewayValue) (links : List (ℕ × SourceLink)) (hearings : List (ℕ × Hearing))
    → lookup (nat_eq s) m.lines ≡ None → o ≡ record { notes = replied (tells (private.refused NoSuchPmu)) ∷ []; to_pmu = [] }
    → WorldStateShows (with_parts g links hearings) m → Takes m (pmu_bytes s bytes) o (with_parts g links hearings)
bytes_none m s bytes o g links hearings none is shows = record {
  turn = record { input = pmu_bytes s bytes; effects = refused NoSuchPmu ∷ []; told = [] };
  is = refl;
  legal = record { makes = rw none (refl, refl); legal = tt };
  outcome = rw none is;
  shows = record { gateway = shows.gateway; lines = rw none shows.lines; sessions = shows.sessions };
}

pub bytes_some : (m : WorldState) (s : ℕ) (bytes : List ℕ) (line : SourceLinkPast) (o : Outcome) (g h : GatewayValue) (links : List (ℕ × SourceLink)) (v : SourceLink) (hearings : List (ℕ × Hearing))
    → lookup (nat_eq s) m.lines ≡ Some line → TakesBytes m.shared line bytes o h v
    → WorldStateShows (with_parts g links hearings) m → Takes m (pmu_bytes s bytes) o (with_parts h (set_value (nat_eq s) links v) hearings)
bytes_some m s bytes line o g h links v hearings found takes shows = record {
  turn = record { input = pmu_bytes s bytes; effects = takes.did.effects; told = takes.items };
  is = refl;
  legal = record { makes = rw found (takes.all, takes.did.are); legal = takes.did.legal };
  outcome = rw found (is_answering o _ _ takes.did.notes takes.sent);
  shows = record {
    gateway = takes.did.shows;
    lines = rw found (Related-set_value SourceLinkShows (nat_eq s) v (gives_all (fed_line line bytes takes.items)) takes.shows links m.lines shows.lines);
    sessions = shows.sessions;
  };
}

-- ---- PMUs

pub Related-insert : {V W : Type 0} (R : V → W → Type 0) (u : ℕ) (v : V) (w : W) → R v w → (xs : List (ℕ × V)) (ys : List (ℕ × W)) → Related R xs ys
    → Related R (insert_entry nat_eq xs u v) (insert_entry nat_eq ys u w)
Related-insert R u v w r [] [] h = (refl, r, tt)
Related-insert R u v w r [] (y ∷ ys) h = absurd h
Related-insert R u v w r (x ∷ xs) [] h = absurd h
Related-insert {V} {W} R u v w r (x ∷ xs) (y ∷ ys) h = rw h.0 (by (nat_eq u y.0) (Related-insert R u v w r xs ys h.2))
  where
    by : (b : Bool) → Related R (insert_entry nat_eq xs u v) (insert_entry nat_eq ys u w)
        → Related R (if b then (y.0, v) ∷ xs else (y.0, x.1) ∷ insert_entry nat_eq xs u v) (if b then (y.0, w) ∷ ys else y ∷ insert_entry nat_eq ys u w)
    by true rest = (refl, r, h.2)
    by false rest = (refl, h.1, rest)

may_refused : (S : SharedMachine) (e : GatewayEvent) (a : Answer) (r : Refusal) → May S e a → refusal S e ≡ Some r → is_done a ≡ false
may_refused S e a r may is =
    let told : a ≡ tells (private.refused r) = subst (λ o. MatchOption o
    (((k : ℕ) × (k ≤ made S e) × (a ≡ answer S e k)) ⊎ ((a ≡ tells (private.refused NoMemory)) × (takes_memory e ≡ true)))
    (λ first. a ≡ tells (private.refused first))) is may in
    ap is_done told

-- there is no memory for the link or session of the event
pub no_memory : (m : WorldState) (e : GatewayEvent) (o : Outcome) (g : GatewayValue) (links : List (ℕ × SourceLink)) (hearings : List (ℕ × Hearing))
    → begins e ≡ true → refusal m.shared e ≡ None → o ≡ record { notes = replied (tells (private.refused NoMemory)) ∷ []; to_pmu = [] }
    → WorldStateShows (with_parts g links hearings) m → Takes m (names e) o (with_parts g links hearings)
no_memory m e o g links hearings b none is shows = record {
  turn = record { input = names e; effects = refused NoMemory ∷ []; told = [] };
  is = refl;
  legal = record { makes = (refl, inr (refl, b, none)); legal = tt };
  outcome = is;
  shows = shows;
}

pub line_added : (m : WorldState) (key : PmuKey) (a : Answer) (o : Outcome) (g : GatewayValue) (links : List (ℕ × SourceLink)) (v : SourceLink) (hearings : List (ℕ × Hearing))
    → is_done a ≡ true → has_source m.shared key.source ≡ false → SourceLinkShows v (new_source_link key.source)
    → o ≡ record { notes = replied a ∷ []; to_pmu = [] } → May m.shared (add_pmu key) a → GatewayShows g (next m.shared (add_pmu key) a)
    → Related SourceLinkShows links m.lines → Related SessionShows hearings m.fed
    → Takes m (names (add_pmu key)) o (with_parts g (insert_entry nat_eq links key.source v) hearings)
line_added m key a o g links v hearings done first new is may shows lines sessions =
    named_taken m (add_pmu key) a o g (insert_entry nat_eq links key.source v) hearings is may shows
    (rw (done, first) (Related-insert SourceLinkShows key.source v (new_source_link key.source) new links m.lines lines)) sessions

pub line_not_added : (m : WorldState) (key : PmuKey) (a : Answer) (o : Outcome) (g : GatewayValue) (links : List (ℕ × SourceLink)) (hearings : List (ℕ × Hearing))
    → is_done a ≡ false → o ≡ record { notes = replied a ∷ []; to_pmu = [] } → May m.shared (add_pmu key) a → GatewayShows g (next m.shared (add_pmu key) a)
    → Related SourceLinkShows links m.lines → Related SessionShows hearings m.fed → Takes m (names (add_pmu key)) o (with_parts g links hearings)
line_not_added m key a o g links hearings done is may shows lines sessions =
    named_taken m (add_pmu key) a o g links hearings is may shows (rw done lines) sessions

pub line_stays : (m : WorldState) (key : PmuKey) (a : Answer) (o : Outcome) (g : GatewayValue) (links : List (ℕ × SourceLink)) (hearings : List (ℕ × Hearing))
    → has_source m.shared key.source ≡ true → o ≡ record { notes = replied a ∷ []; to_pmu = [] } → May m.shared (add_pmu key) a → GatewayShows g (next m.shared (add_pmu key) a)
    → Related SourceLinkShows links m.lines → Related SessionShows hearings m.fed → Takes m (names (add_pmu key)) o (with_parts g links hearings)
line_stays m key a o g links hearings there is may shows lines sessions =
    named_taken m (add_pmu key) a o g links hearings is may shows
    (subst (Related SourceLinkShows links) (sym (by (is_done a))) lines) sessions
  where
    by : (b : Bool) → lines_by m.lines m.shared (next m.shared (add_pmu key) a) (add_pmu key) b ≡ m.lines
    by true = rw there refl
    by false = refl

flip : (a b : ℕ) → nat_eq a b ≡ false → nat_eq b a ≡ false
flip a b none = by (nat_eq b a) refl
  where
    by : (c : Bool) → nat_eq b a ≡ c → c ≡ false
    by true is = sym (eq-eqb a b (sym (eqb-true b a is))) ∙ none
    by false is = refl

no_key : (key : PmuKey) (pmus : Pmus) → registered.has_source pmus key.source ≡ false → is_some (lookup (key_eq key) pmus) ≡ false
no_key key [] h = refl
no_key key (p ∷ pmus) h = by (nat_eq p.0.source key.source) refl (nat_eq key.pmu p.0.pmu) h (no_key key pmus)
  where
    by : (b : Bool) → nat_eq p.0.source key.source ≡ b → (c : Bool) → (b || registered.has_source pmus key.source) ≡ false
        → (registered.has_source pmus key.source ≡ false → is_some (lookup (key_eq key) pmus) ≡ false)
        → is_some (if nat_eq key.source p.0.source && c then Some p.1 else lookup (key_eq key) pmus) ≡ false
    by true is c h rest = absurd (cc)
    by false is c h rest = rw (flip p.0.source key.source is) (rest h)

pub full_refuses : (m : WorldState) (key : PmuKey) (a : Answer) (o : Outcome) (g : GatewayValue) (links : List (ℕ × SourceLink)) (hearings : List (ℕ × Hearing))
    → nat_le 256 (length m.shared.pmus) ≡ true → o ≡ record { notes = replied a ∷ []; to_pmu = [] } → May m.shared (add_pmu key) a → GatewayShows g (next m.shared (add_pmu key) a)
    → Related SourceLinkShows links m.lines → Related SessionShows hearings m.fed → Takes m (names (add_pmu key)) o (with_parts g links hearings)
full_refuses m key a o g links hearings full is may shows lines sessions =
    line_not_added m key a o g links hearings (by (is_some (lookup (key_eq key) m.shared.pmus)) refl) is may shows lines sessions
  where
    by : (b : Bool) → is_some (lookup (key_eq key) m.shared.pmus) ≡ b → is_done a ≡ false
    by true e = may_refused m.shared (add_pmu key) a PmuExists may (rw e refl)
    by false e = may_refused m.shared (add_pmu key) a PmusFull may (rw (e, full) refl)

pub may_add : (m : WorldState) (key : PmuKey) → has_source m.shared key.source ≡ false → nat_le 256 (length m.shared.pmus) ≡ false → refusal m.shared (add_pmu key) ≡ None
may_add m key none room = rw (no_key key m.shared.pmus none, room) refl

pub line_dropped : (m : WorldState) (key : PmuKey) (a : Answer) (o : Outcome) (g : GatewayValue) (links : List (ℕ × SourceLink)) (hearings : List (ℕ × Hearing))
    → has_source (next m.shared (drop_pmu key) a) key.source ≡ false
    → o ≡ record { notes = replied a ∷ []; to_pmu = [] } → May m.shared (drop_pmu key) a → GatewayShows g (next m.shared (drop_pmu key) a)
    → Related SourceLinkShows links m.lines → Related SessionShows hearings m.fed → Takes m (names (drop_pmu key)) o (with_parts g (remove_entry (nat_eq key.source) links) hearings)
line_dropped m key a o g links hearings none is may shows lines sessions =
    named_taken m (drop_pmu key) a o g (remove_entry (nat_eq key.source) links) hearings is may shows
    (subst (λ b. Related SourceLinkShows (remove_entry (nat_eq key.source) links) (if b then m.lines else remove_entry (nat_eq key.source) m.lines)) (sym none)
    (Related-remove_entry SourceLinkShows (nat_eq key.source) links m.lines lines)) sessions

pub line_kept : (m : WorldState) (key : PmuKey) (a : Answer) (o : Outcome) (g : GatewayValue) (links : List (ℕ × SourceLink)) (hearings : List (ℕ × Hearing))
    → has_source (next m.shared (drop_pmu key) a) key.source ≡ true
    → o ≡ record { notes = replied a ∷ []; to_pmu = [] } → May m.shared (drop_pmu key) a → GatewayShows g (next m.shared (drop_pmu key) a)
    → Related SourceLinkShows links m.lines → Related SessionShows hearings m.fed → Takes m (names (drop_pmu key)) o (with_parts g links hearings)
line_kept m key a o g links hearings there is may shows lines sessions =
    named_taken m (drop_pmu key) a o g links hearings is may shows
    (subst (λ b. Related SourceLinkShows links (if b then m.lines else remove_entry (nat_eq key.source) m.lines)) (sym there) lines) sessions

on_ok : {A B P : Type 0} (r : Result A B) → IsOk r → OnOk r P → P
on_ok (Ok x) i h = h
on_ok (Err e) i h = absurd (cc)

pub entries_after : {A B P : Type 0} (r : Result A B) (spare : ℕ) → 1 ≤ spare → (0 < spare → IsOk r) → OnOk r P → P
entries_after r spare room ok h = on_ok r (ok (omega (arith, room))) h

-- ---- subscribers

connect_by : (o : Option SubscriberSlot) → is_some o ≡ false → own_refusal o connect ≡ Some NoSuchSub
connect_by None h = refl
connect_by (Some s) h = absurd (cc)

busy_by : (o : Option SubscriberSlot) → option_map_or (λ p. p.connected) (option_map (λ s. s.own) o) false ≡ true → own_refusal o connect ≡ Some Busy
busy_by None h = absurd (cc)
busy_by (Some s) h = rw h refl

free_by : (o : Option SubscriberSlot) → is_some o ≡ true → option_map_or (λ p. p.connected) (option_map (λ s. s.own) o) false ≡ false → own_refusal o connect ≡ None
free_by None i h = absurd (cc)
free_by (Some s) i h = rw h refl

pub may_connect : (m : WorldState) (u : ℕ) → is_some (slot_of u m.shared.subs) ≡ true → option_map_or (λ p. p.connected) (own_of u m.shared) false ≡ false
    → refusal m.shared (asks u connect) ≡ None
may_connect m u there free = free_by (slot_of u m.shared.subs) there free

pub not_connected : (m : WorldState) (u : ℕ) (a : Answer) (o : Outcome) (g : GatewayValue) (links : List (ℕ × SourceLink)) (hearings : List (ℕ × Hearing))
    → is_done a ≡ false → o ≡ record { notes = replied a ∷ []; to_pmu = [] } → May m.shared (asks u connect) a → GatewayShows g (next m.shared (asks u connect) a)
    → Related SourceLinkShows links m.lines → Related SessionShows hearings m.fed → Takes m (names (asks u connect)) o (with_parts g links hearings)
not_connected m u a o g links hearings done is may shows lines sessions =
    named_taken m (asks u connect) a o g links hearings is may shows lines (rw done sessions)

pub absent_connects : (m : WorldState) (u : ℕ) (a : Answer) → is_some (slot_of u m.shared.subs) ≡ false → May m.shared (asks u connect) a → is_done a ≡ false
absent_connects m u a absent may = may_refused m.shared (asks u connect) a NoSuchSub may (connect_by (slot_of u m.shared.subs) absent)

pub busy_connects : (m : WorldState) (u : ℕ) (a : Answer) → option_map_or (λ p. p.connected) (own_of u m.shared) false ≡ true → May m.shared (asks u connect) a → is_done a ≡ false
busy_connects m u a busy may = may_refused m.shared (asks u connect) a Busy may (busy_by (slot_of u m.shared.subs) busy)

pub session_added : (m : WorldState) (u : ℕ) (a : Answer) (o : Outcome) (g : GatewayValue) (links : List (ℕ × SourceLink)) (hearings : List (ℕ × Hearing)) (v : Hearing)
    → is_done a ≡ true → SessionShows v [] → o ≡ record { notes = replied a ∷ []; to_pmu = [] } → May m.shared (asks u connect) a → GatewayShows g (next m.shared (asks u connect) a)
    → Related SourceLinkShows links m.lines → Related SessionShows hearings m.fed → Takes m (names (asks u connect)) o (with_parts g links (insert_entry nat_eq hearings u v))
session_added m u a o g links hearings v done new is may shows lines sessions =
    named_taken m (asks u connect) a o g links (insert_entry nat_eq hearings u v) is may shows lines
    (rw done (Related-insert SessionShows u v [] new hearings m.fed sessions))

pub heard_none : (m : WorldState) (u : ℕ) (bytes : List ℕ) (o : Outcome) (g : GatewayValue) (links : List (ℕ × SourceLink)) (hearings : List (ℕ × Hearing)) (r : Refusal)
    → lookup (nat_eq u) m.fed ≡ None → r ≡ absence (is_some (slot_of u m.shared.subs))
    → o ≡ record { notes = replied (tells (private.refused r)) ∷ []; to_pmu = [] }
    → WorldStateShows (with_parts g links hearings) m → Takes m (sub_bytes u bytes) o (with_parts g links hearings)
heard_none m u bytes o g links hearings r none why is shows = record {
  turn = record { input = sub_bytes u bytes; effects = refused r ∷ []; told = [] };
  is = refl;
  legal = record { makes = (refl, rw none (ap (λ x. refuses x ∷ []) why)); legal = tt };
  outcome = is;
  shows = record { gateway = shows.gateway; lines = shows.lines; sessions = rw none shows.sessions };
}

-- what a piece makes more
pub grows : (u : ℕ) (stream piece : List ℕ) (more : List session.Item) (broken : Option Refusal) → break_in stream ≡ None
    → items_of stream ++ more ≡ items_of (stream ++ piece) → break_in (stream ++ piece) ≡ broken
    → map (item_action u) more ++ hang_up u broken ≡ session_grows u stream piece
grows u stream piece more broken whole all end =
    let before : session_action u stream ≡ map (item_action u) (items_of stream) =
    ap (λ b. map (item_action u) (items_of stream) ++ hang_up u b) whole ∙ append-nil (map (item_action u) (items_of stream)) in
    let after : session_action u (stream ++ piece) ≡ map (item_action u) (items_of stream) ++ (map (item_action u) more ++ hang_up u broken) =
    ap₂ (λ is b. map (item_action u) is ++ hang_up u b) (sym all) end
    ∙ ap (λ ds. ds ++ hang_up u broken) (map-append (item_action u) (items_of stream) more)
    ∙ append_assoc (map (item_action u) (items_of stream)) (map (item_action u) more) (hang_up u broken) in
    sym (ap₂ (λ xs ys. drop (length xs) ys) before after
    ∙ drop-append_seam (map (item_action u) (items_of stream)) (map (item_action u) more ++ hang_up u broken))

pub heard_whole : (m : WorldState) (u : ℕ) (bytes stream : List ℕ) (o : Outcome) (g h : GatewayValue) (links : List (ℕ × SourceLink)) (hearings : List (ℕ × Hearing)) (v : Hearing)
    → lookup (nat_eq u) m.fed ≡ Some stream → break_in stream ≡ None → HearsAll m.shared u (stream ++ bytes) (items_of stream) None [] o.notes h v → o.to_pmu ≡ []
    → WorldStateShows (with_parts g links hearings) m → Takes m (sub_bytes u bytes) o (with_parts h links (set_value (nat_eq u) hearings v))
heard_whole m u bytes stream o g h links hearings v found whole hears none shows =
    let one : SessionShows v (stream ++ bytes) = record { shows = subst (session.ShowsHearing v (stream ++ bytes)) hears.all hears.shows; whole = hears.end } in
    record {
      turn = record { input = sub_bytes u bytes; effects = hears.did.effects; told = [] };
      is = refl;
      legal = record {
        makes = (refl, rw found (hears.did.are ∙ sym (append-nil (map (item_action u) hears.more)) ∙ grows u stream bytes hears.more None whole hears.all hears.end));
        legal = hears.did.legal;
      };
      outcome = is_answering o _ _ hears.did.notes none;
      shows = record {
        gateway = hears.did.shows;
        lines = shows.lines;
        sessions = rw (found, hears.end) (Related-set_value SessionShows (nat_eq u) v (stream ++ bytes) one hearings m.fed shows.sessions);
      };
    }

remove_set : {V : Type 0} (test : ℕ → Bool) (v : V) (xs : List (ℕ × V)) → remove_entry test (set_value test xs v) ≡ remove_entry test xs
remove_set test v [] = refl
remove_set {V} test v (x ∷ xs) = by (test x.0) refl (remove_set test v xs)
  where
    by : (b : Bool) → test x.0 ≡ b → remove_entry test (set_value test xs v) ≡ remove_entry test xs
        → remove_entry test (set_value test (x ∷ xs) v) ≡ remove_entry test (x ∷ xs)
    by true e rest = rw e (rw e refl)
    by false e rest = rw e (rw e (ap (λ r. x ∷ r) rest))

pub heard_break : (m : WorldState) (u : ℕ) (bytes stream : List ℕ) (r : Refusal) (o : Outcome) (g h i : GatewayValue) (links : List (ℕ × SourceLink)) (hearings : List (ℕ × Hearing)) (v : Hearing) (mid closed_notes : List Noted)
    → lookup (nat_eq u) m.fed ≡ Some stream → break_in stream ≡ None → HearsAll m.shared u (stream ++ bytes) (items_of stream) (Some r) [] mid h v
    → closed_notes ≡ mid ++ closed r ∷ [] → ((S : SharedMachine) → GatewayShows h S → Did S (posts (asks u hangup) ∷ []) closed_notes o.notes i) → o.to_pmu ≡ []
    → WorldStateShows (with_parts g links hearings) m → Takes m (sub_bytes u bytes) o (with_parts i links (remove_entry (nat_eq u) (set_value (nat_eq u) hearings v)))
heard_break m u bytes stream r o g h i links hearings v mid closed_notes found whole hears noted goes none shows =
    let S = state_after m.shared (pairs_of hears.did.effects) in
    let closed_so : Did S (closes r ∷ []) mid closed_notes h =
    record { effects = closed_at r ∷ []; are = refl; legal = tt; shows = hears.did.shows; notes = noted } in
    let ends = Did-more S (closes r ∷ []) (posts (asks u hangup) ∷ []) mid closed_notes o.notes h i closed_so (goes S hears.did.shows) in
    let did = Did-more m.shared (map (item_action u) hears.more) (closes r ∷ posts (asks u hangup) ∷ []) [] mid o.notes h i hears.did ends in
    record {
      turn = record { input = sub_bytes u bytes; effects = did.effects; told = [] };
      is = refl;
      legal = record {
        makes = (refl, rw found (did.are ∙ grows u stream bytes hears.more (Some r) whole hears.all hears.end));
        legal = did.legal;
      };
      outcome = is_answering o _ _ did.notes none;
      shows = record {
        gateway = did.shows;
        lines = shows.lines;
        sessions = rw (found, hears.end, remove_set (nat_eq u) v hearings) (Related-remove_entry SessionShows (nat_eq u) hearings m.fed shows.sessions);
      };
    }
