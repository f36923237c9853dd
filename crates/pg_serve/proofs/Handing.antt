-- What the outputs hand to a subscriber is what the answers to its events hand out.
use Rattle.std.proofs.Common.{◌≡◌, ℕ, nat_eq, is_some, Bool, true, false, if◌then◌else◌, List, [], ◌∷◌, ◌++◌, Option, Some, None, refl, sym, ap, ap₂, ◌∙◌, subst, append_assoc}
use Rattle.std.specs.List.{flat_map}
use Rattle.std.specs.Map.{lookup}
use Rattle.pg_wire.specs.declared.refusal.Refusal.{Refusal}
use Rattle.pg_ingest.specs.Items as link
use Rattle.pg_gateway.specs.GatewayEvents.{GatewayEvent, add_pmu, drop_pmu, add_sub, drop_sub, grant, asks, announce, measure, tick, Answer, inquires}
use Rattle.pg_gateway.specs.State.{SharedMachine, slot_of}
use Rattle.pg_gateway.specs.Views.{Handed, handed_one, handed_to, full_answer, shared_step}
use Rattle.pg_gateway.specs.Laws.{events_of, answers_of}
use Rattle.pg_serve.specs.Inputs.{InputValue, link_up, pmu_bytes, sub_bytes, names, replied}
use Rattle.pg_serve.specs.Actions.{Action, posts, ignores_frame, closes, refuses, notes_of, pairs_of, link_action}
use Rattle.pg_serve.specs.WorldStates.{SourceLinkPast, WorldState, opening, after_turn, all_outcomes, history_of, up_action}
use Rattle.pg_serve.specs.Full.{full_effects, told_more, told_actions, actions_of, full_turn, full_turns, events_made, answers_made, full_outcomes, is_asked, handed_note, handed_at, handed_over}
use Rattle.pg_serve.proofs.Neighbours.{AllAt, at_heard}

-- what the answers of a history hand to u
abbrev paired : ℕ → List (GatewayEvent × Answer) → List Handed
paired u pairs = handed_to u (events_of pairs) (answers_of pairs)

paired-append : (u : ℕ) (h k : List (GatewayEvent × Answer)) → paired u (h ++ k) ≡ paired u h ++ paired u k
paired-append u [] k = refl
paired-append u (x ∷ h) k = ap (λ l. handed_one u x.0 x.1 ++ l) (paired-append u h k) ∙ sym (append_assoc (handed_one u x.0 x.1) (paired u h) (paired u k))

-- nothing is handed to u at these
abbrev IsSilent : ℕ → Action → Type 0
IsSilent u (posts e) = (a : Answer) → handed_one u e a ≡ []
IsSilent u (ignores_frame r) = Unit {0}
IsSilent u (closes r) = Unit {0}
IsSilent u (refuses r) = Unit {0}

abbrev AreSilent : ℕ → List Action → Type 0
AreSilent u [] = Unit {0}
AreSilent u (d ∷ actions) = IsSilent u d × AreSilent u actions

silent_none : (u : ℕ) (S : SharedMachine) (actions : List Action) → AreSilent u actions → [] ≡ paired u (pairs_of (full_effects S actions))
silent_none u S [] h = refl
silent_none u S (posts e ∷ actions) h = ap₂ (λ x y. x ++ y) (sym (h.0 (full_answer S e))) (silent_none u (shared_step S e) actions h.1)
silent_none u S (ignores_frame r ∷ actions) h = silent_none u S actions h.1
silent_none u S (closes r ∷ actions) h = silent_none u S actions h.1
silent_none u S (refuses r ∷ actions) h = silent_none u S actions h.1

told_silent : (u : ℕ) (items : List link.Item) (broken : Option Refusal) → AreSilent u (link_action items broken)
told_silent u [] None = tt
told_silent u [] (Some r) = (tt, tt)
told_silent u (link.announces config ∷ items) broken = ((λ a. refl), told_silent u items broken)
told_silent u (link.measures m ∷ items) broken = ((λ a. refl), told_silent u items broken)
told_silent u (link.skips r ∷ items) broken = (tt, told_silent u items broken)
told_silent u (link.rejects_config r ∷ items) broken = (tt, told_silent u items broken)
told_silent u (link.rejects_data r ∷ items) broken = (tt, told_silent u items broken)
told_silent u (link.passes_over ∷ items) broken = (tt, told_silent u items broken)

at_silent : (u w : ℕ) (actions : List Action) → nat_eq u w ≡ false → AllAt w actions → AreSilent u actions
at_silent u w [] apart h = tt
at_silent u w (posts e ∷ actions) apart h =
    (subst (λ x. (a : Answer) → handed_one u x a ≡ []) (sym h.0.1) (λ a. rw apart refl), at_silent u w actions apart h.1)
at_silent u w (ignores_frame r ∷ actions) apart h = (tt, at_silent u w actions apart h.1)
at_silent u w (closes r ∷ actions) apart h = (tt, at_silent u w actions apart h.1)
at_silent u w (refuses r ∷ actions) apart h = (tt, at_silent u w actions apart h.1)

-- what is due at u alone
at_handed : (u w : ℕ) (S : SharedMachine) (actions : List Action) → nat_eq u w ≡ true → AllAt w actions
    → flat_map handed_note (notes_of (full_effects S actions)) ≡ paired u (pairs_of (full_effects S actions))
at_handed u w S [] same h = refl
at_handed u w S (posts e ∷ actions) same h =
    ap₂ (λ x y. x ++ y) (subst (λ x. handed_note (replied (full_answer S e)) ≡ handed_one u x (full_answer S e)) (sym h.0.1) (rw same refl))
    (at_handed u w (shared_step S e) actions same h.1)
at_handed u w S (ignores_frame r ∷ actions) same h = at_handed u w S actions same h.1
at_handed u w S (closes r ∷ actions) same h = at_handed u w S actions same h.1
at_handed u w S (refuses r ∷ actions) same h = at_handed u w S actions same h.1

up_silent : (u : ℕ) (o : Option SourceLinkPast) → AreSilent u (up_action o)
up_silent u None = (tt, tt)
up_silent u (Some line) = tt

bytes_silent : (u : ℕ) (piece : List ℕ) (o : Option SourceLinkPast) → AreSilent u (told_actions piece o)
bytes_silent u piece None = (tt, tt)
bytes_silent u piece (Some line) = told_silent u (told_more piece (Some line)) (link.break_in (line.link.stream ++ piece))

named_handed : (u : ℕ) (e : GatewayEvent) (a : Answer) → (if is_asked u e then handed_note (replied a) ++ [] else []) ≡ handed_one u e a ++ []
named_handed u (add_pmu key) a = refl
named_handed u (drop_pmu key) a = refl
named_handed u (add_sub w size bytes) a = refl
named_handed u (drop_sub w) a = refl
named_handed u (grant w key) a = refl
named_handed u (asks w x) a = by (nat_eq u w)
  where
    by : (b : Bool) → (if b then handed_note (replied a) ++ [] else []) ≡ (if b then handed_note (replied a) else []) ++ []
    by true = refl
    by false = refl
named_handed u (announce config) a = refl
named_handed u (measure m) a = refl
named_handed u (tick soc) a = refl
named_handed u (inquires q) a = refl

turn_handed : (u : ℕ) (m : WorldState) (f : InputValue) → handed_at u f (notes_of (full_turn m f).effects) ≡ paired u (pairs_of (full_turn m f).effects)
turn_handed u m (link_up s) = silent_none u m.shared (up_action (lookup (nat_eq s) m.lines)) (up_silent u (lookup (nat_eq s) m.lines))
turn_handed u m (pmu_bytes s piece) = silent_none u m.shared (told_actions piece (lookup (nat_eq s) m.lines)) (bytes_silent u piece (lookup (nat_eq s) m.lines))
turn_handed u m (sub_bytes w piece) = by (nat_eq u w) refl
  where
    actions : List Action
    actions = actions_of m (sub_bytes w piece)

    at : AllAt w actions
    at = at_heard w piece (is_some (slot_of w m.shared.subs)) (lookup (nat_eq w) m.fed)

    by : (b : Bool) → nat_eq u w ≡ b → (if b then flat_map handed_note (notes_of (full_effects m.shared actions)) else []) ≡ paired u (pairs_of (full_effects m.shared actions))
    by true same = at_handed u w m.shared actions same at
    by false apart = silent_none u m.shared actions (at_silent u w actions apart at)
turn_handed u m (names e) = named_handed u e (full_answer m.shared e)

all_handed : (u : ℕ) (m : WorldState) (inputs : List InputValue) → handed_over u inputs (all_outcomes m (full_turns m inputs)) ≡ paired u (history_of (full_turns m inputs))
all_handed u m [] = refl
all_handed u m (f ∷ inputs) =
    ap₂ (λ x y. x ++ y) (turn_handed u m f) (all_handed u (after_turn m (full_turn m f)) inputs)
    ∙ sym (paired-append u (pairs_of (full_turn m f).effects) (history_of (full_turns (after_turn m (full_turn m f)) inputs)))

pub outputs_hand : (u : ℕ) (inputs : List InputValue) → handed_over u inputs (full_outcomes inputs) ≡ handed_to u (events_made inputs) (answers_made inputs)
outputs_hand u inputs = all_handed u opening inputs
