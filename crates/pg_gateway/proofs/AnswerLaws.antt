-- An answer that tells no loss is the full one, and what is handed out is the private gateway's.
use Rattle.std.proofs.Common.{◌≡◌, ℕ, ◌≤◌, ◌⊎◌, ◌&&◌, Bool, true, false, if◌then◌else◌, nat_eq, is_some, List, [], ◌∷◌, ◌++◌, length, Option, Some, None, MatchOption, refl, sym, ap, subst, ◌∙◌, arith, inl, inr, append_assoc}
use Rattle.std.proofs.lemmas.List.{append-nil}
use Rattle.std.proofs.lemmas.Bool.{eqb-true}
use Rattle.pg_wire.specs.declared.refusal.Refusal.{Refusal}
use Rattle.pg_wire.specs.declared.refusal.Refusal.TheVariants.{NoMemory}
use Rattle.pg_wire.specs.declared.ids.PmuKey.{PmuKey}
use Rattle.pg_config.specs.Parts.{Part}
use Rattle.pg_registry.specs.Registered.{has_key}
use Rattle.pg_session.specs.Events as event
use Rattle.pg_session.specs.Events.{SubscriberEvent}
use Rattle.pg_session.specs.Private as private
use Rattle.pg_session.specs.Private.{done, refused, frames_of}
use Rattle.pg_session.specs.Shown.{Model}
use Rattle.pg_session.specs.ByAll.{by_arrivals, by_numbers}
use Rattle.pg_gateway.specs.GatewayEvents.{GatewayEvent, add_pmu, drop_pmu, add_sub, drop_sub, grant, asks, announce, measure, tick, Answer, tells, inquires, stats, pmu_stats, audit, standing, who_waits}
use Rattle.pg_gateway.specs.Judging.{registered_of}
use Rattle.pg_gateway.specs.Sharing.{SubscriberSlot, SubscriberSlots, Broadcast, revokes, announces, measures, ticks, share, total}
use Rattle.pg_gateway.specs.State.{SharedMachine, slot_of, own_of, granting, taken_in, refusal, takes_memory, Target, to_all, to_one, adds, drops, to_none, unless, target, frames_reached, made, own_frames, own_answer, reached_answer, answer, May}
use Rattle.pg_gateway.specs.Views.{ViewEvent, begins, ends, takes, unless_refused, full_told, private_step, private_run, handed_by, handed_at, handed_in, full_by, full_answer, shared_step, full_answers, as_seen, part_of, part, view, handed_one, handed_to, Lossless}
use Rattle.pg_gateway.proofs.SlotLaws.{owned, Alone}
use Rattle.pg_gateway.proofs.ShareLaws.{share_quiet}
use Rattle.pg_gateway.proofs.ViewLaws.{full_own, own_full, Alone-next, own-step}

-- as many are kept as are made, where no fewer and no more are
all_kept : (made k : ℕ) → k ≤ made → made ≤ k → k ≡ made
all_kept made k le ge = omega arith

told_kept : (p : Model) (x : SubscriberEvent) (k : ℕ) → k ≤ length (frames_of by_arrivals by_numbers p x) → Lossless (tells (private.answer by_arrivals by_numbers p x k))
    → private.answer by_arrivals by_numbers p x k ≡ private.answer by_arrivals by_numbers p x (length (frames_of by_arrivals by_numbers p x))
told_kept p (event.grant key config) k le full = ap (λ n. private.answer by_arrivals by_numbers p (event.grant key config) n) (all_kept _ k le full)
told_kept p (event.revoke key) k le full = ap (λ n. private.answer by_arrivals by_numbers p (event.revoke key) n) (all_kept _ k le full)
told_kept p (event.announce list) k le full = ap (λ n. private.answer by_arrivals by_numbers p (event.announce list) n) (all_kept _ k le full)
told_kept p (event.measure soc quality frac samples) k le full =
    ap (λ n. private.answer by_arrivals by_numbers p (event.measure soc quality frac samples) n) (all_kept _ k le full)
told_kept p (event.tick soc) k le full = ap (λ n. private.answer by_arrivals by_numbers p (event.tick soc) n) (all_kept _ k le full)
told_kept p (event.define definition) k le full = ap (λ n. done 0 n) (all_kept 0 k le full)
told_kept p (event.remove number) k le full = ap (λ n. done 0 n) (all_kept 0 k le full)
told_kept p event.connect k le full = ap (λ n. done 0 n) (all_kept 0 k le full)
told_kept p event.hangup k le full = ap (λ n. done 0 n) (all_kept 0 k le full)
told_kept p (event.command number word) k le full = ap (λ n. done 0 n) (all_kept 0 k le full)
told_kept p (event.drain n) k le full = refl

own_kept : (o : Option SubscriberSlot) (x : SubscriberEvent) (k : ℕ) → k ≤ own_frames o x → Lossless (tells (own_answer o x k)) → own_answer o x k ≡ own_answer o x (own_frames o x)
own_kept None x k le full = refl
own_kept (Some s) x k le full = told_kept s.own x k le full

reached_kept : (to : Target) (ss : SubscriberSlots) (k : ℕ) → k ≤ frames_reached to ss → Lossless (tells (reached_answer to ss k))
    → reached_answer to ss k ≡ reached_answer to ss (frames_reached to ss)
reached_kept (to_all o) ss k le full = ap (λ n. done (total o ss) n) (all_kept (total o ss) k le full)
reached_kept (to_one w x) ss k le full = own_kept (slot_of w ss) x k le full
reached_kept (adds w size bytes last) ss k le full = ap (λ n. done 0 n) (all_kept 0 k le full)
reached_kept (drops w) ss k le full = ap (λ n. done 0 n) (all_kept 0 k le full)
reached_kept to_none ss k le full = ap (λ n. done 0 n) (all_kept 0 k le full)

kept : (S : SharedMachine) (e : GatewayEvent) (k : ℕ) → k ≤ made S e → Lossless (answer S e k) → answer S e k ≡ answer S e (made S e)
kept S (add_pmu key) k le full = ap tells (reached_kept (target S (add_pmu key)) S.subs k le full)
kept S (drop_pmu key) k le full = ap tells (reached_kept (target S (drop_pmu key)) S.subs k le full)
kept S (add_sub w size bytes) k le full = ap tells (reached_kept (target S (add_sub w size bytes)) S.subs k le full)
kept S (drop_sub w) k le full = ap tells (reached_kept (target S (drop_sub w)) S.subs k le full)
kept S (grant w key) k le full = ap tells (reached_kept (target S (grant w key)) S.subs k le full)
kept S (asks w x) k le full = ap tells (reached_kept (target S (asks w x)) S.subs k le full)
kept S (announce config) k le full = ap tells (reached_kept (target S (announce config)) S.subs k le full)
kept S (measure m) k le full = ap tells (reached_kept (target S (measure m)) S.subs k le full)
kept S (tick soc) k le full = ap tells (reached_kept (target S (tick soc)) S.subs k le full)
kept S (inquires (stats w)) k le full = refl
kept S (inquires (pmu_stats key)) k le full = refl
kept S (inquires (who_waits us)) k le full = refl
kept S (inquires (audit w index)) k le full = refl
kept S (inquires (standing w place)) k le full = refl

-- an answer that may come and tells no loss is the full one
pub lossless_full : (S : SharedMachine) (e : GatewayEvent) (a : Answer) → May S e a → Lossless a → a ≡ full_answer S e
lossless_full S e a may full = by (refusal S e) may
  where
    by : (o : Option Refusal)
        → MatchOption o (((k : ℕ) × (k ≤ made S e) × (a ≡ answer S e k)) ⊎ ((a ≡ tells (refused NoMemory)) × (takes_memory e ≡ true))) (λ first. a ≡ tells (refused first))
        → a ≡ full_by o (answer S e (made S e))
    by None (inl m) = m.2 ∙ kept S e m.0 m.1 (subst Lossless m.2 full)
    by None (inr m) = absurd ((subst Lossless m.0 full) refl)
    by (Some r) m = m

-- what is handed out, event by event
handed_in-append : (o : Option Model) (xs ys : List ViewEvent) → handed_in o (xs ++ ys) ≡ handed_in o xs ++ handed_in (private_run o xs) ys
handed_in-append o [] ys = refl
handed_in-append o (x ∷ xs) ys = ap (λ fs. handed_at o x ++ fs) (handed_in-append (private_step o x) xs ys) ∙ sym (append_assoc (handed_at o x) _ _)

-- a private event that hands nothing out
abbrev Silent : SubscriberEvent → Type 0
Silent x = (p : Model) → handed_by (full_told p x) ≡ []

silent_share : (o : Broadcast) (p : Model) (x : SubscriberEvent) → share o p.grants ≡ Some x → handed_by (full_told p x) ≡ []
silent_share o p x is =
    let q = share_quiet o p x is in
    rw (q.allowed, q.frames (length (frames_of by_arrivals by_numbers p x))) refl

silent_grant : (key : PmuKey) (config : Option Part) → Silent (event.grant key config)
silent_grant key config p = by (private.refusal by_arrivals by_numbers p (event.grant key config))
  where
    n : ℕ
    n = length (frames_of by_arrivals by_numbers p (event.grant key config))

    by : (r : Option Refusal) → handed_by (unless_refused r (done n n)) ≡ []
    by None = refl
    by (Some r) = refl

abbrev SilentTarget : Target → Type 0
SilentTarget (to_all o) = Unit {0}
SilentTarget (to_one w x) = Silent x
SilentTarget (adds w size bytes last) = Unit {0}
SilentTarget (drops w) = Unit {0}
SilentTarget to_none = Unit {0}

silent_part : (u : ℕ) (own : Option Model) (to : Target) → SilentTarget to → handed_in own (part_of u own to) ≡ []
silent_part u None (to_all o) silent = refl
silent_part u (Some p) (to_all o) silent = by (share o p.grants) refl
  where
    by : (x : Option SubscriberEvent) → share o p.grants ≡ x → handed_in (Some p) (as_seen x) ≡ []
    by None is = refl
    by (Some x) is = ap (λ fs. fs ++ []) (silent_share o p x is)
silent_part u own (to_one w x) silent = by (nat_eq u w) own
  where
    by : (b : Bool) (o : Option Model) → handed_in o (if b && is_some o then takes x ∷ [] else []) ≡ []
    by true None = refl
    by true (Some p) = ap (λ fs. fs ++ []) (silent p)
    by false o = refl
silent_part u own (adds w size bytes last) silent = by (nat_eq u w)
  where
    by : (b : Bool) → handed_in own (if b then begins size bytes last ∷ [] else []) ≡ []
    by true = refl
    by false = refl
silent_part u own (drops w) silent = by (nat_eq u w)
  where
    by : (b : Bool) → handed_in own (if b then ends ∷ [] else []) ≡ []
    by true = refl
    by false = refl
silent_part u own to_none silent = refl

silent_unless : (r : Option Refusal) (to : Target) → SilentTarget to → SilentTarget (unless r to)
silent_unless None to silent = silent
silent_unless (Some r) to silent = tt

silent_grants : (w : ℕ) (key : PmuKey) (S : SharedMachine) → SilentTarget (target S (grant w key))
silent_grants w key S = by (has_key S.pmus key)
  where
    by : (b : Bool) → SilentTarget (if b then to_one w (granting S key) else to_none)
    by true = silent_grant key _
    by false = tt

handed-asks : (u w : ℕ) (S : SharedMachine) (x : SubscriberEvent) → handed_one u (asks w x) (full_answer S (asks w x)) ≡ handed_in (own_of u S) (part u S (asks w x))
handed-asks u w S x = ap (λ a. handed_one u (asks w x) a) (own_full (slot_of w S.subs) x) ∙ by (nat_eq u w) refl
  where
    own : (o : Option SubscriberSlot) → handed_by (full_own o x) ≡ handed_in (owned o) (if true && is_some (owned o) then takes x ∷ [] else [])
    own None = refl
    own (Some s) = sym (append-nil (handed_by (full_told s.own x)))

    by : (b : Bool) → nat_eq u w ≡ b → (if b then handed_by (full_own (slot_of w S.subs) x) else [])
        ≡ handed_in (own_of u S) (if b && is_some (own_of u S) then takes x ∷ [] else [])
    by true is = ap (λ v. handed_by (full_own (slot_of v S.subs) x)) (sym (eqb-true u w is)) ∙ own (slot_of u S.subs)
    by false is = refl

pub handed-step : (u : ℕ) (S : SharedMachine) (e : GatewayEvent) → handed_one u e (full_answer S e) ≡ handed_in (own_of u S) (part u S e)
handed-step u S (add_pmu key) = refl
handed-step u S (drop_pmu key) = sym (silent_part u (own_of u S) (target S (drop_pmu key)) (silent_unless (refusal S (drop_pmu key)) (to_all (revokes key)) tt))
handed-step u S (add_sub w size bytes) =
    sym (silent_part u (own_of u S) (target S (add_sub w size bytes)) (silent_unless (refusal S (add_sub w size bytes)) (adds w size bytes S.last_tick) tt))
handed-step u S (drop_sub w) = sym (silent_part u (own_of u S) (target S (drop_sub w)) (silent_unless (refusal S (drop_sub w)) (drops w) tt))
handed-step u S (grant w key) = sym (silent_part u (own_of u S) (target S (grant w key)) (silent_grants w key S))
handed-step u S (asks w x) = handed-asks u w S x
handed-step u S (announce config) =
    sym (silent_part u (own_of u S) (target S (announce config)) (silent_unless (refusal S (announce config)) (to_all (announces (registered_of S.pmus config))) tt))
handed-step u S (measure m) =
    sym (silent_part u (own_of u S) (target S (measure m)) (silent_unless (refusal S (measure m)) (to_all (measures m.soc m.quality m.frac (taken_in S m))) tt))
handed-step u S (tick soc) = sym (silent_part u (own_of u S) (to_all (ticks soc)) tt)
handed-step u S (inquires q) = refl

pub handed-run : (u : ℕ) (S : SharedMachine) (es : List GatewayEvent) → Alone S.subs → handed_to u es (full_answers S es) ≡ handed_in (own_of u S) (view u S es)
handed-run u S [] alone = refl
handed-run u S (e ∷ es) alone =
    let rest = handed-run u (shared_step S e) es (Alone-next S e (full_answer S e) alone) in
    ap (λ fs. fs ++ handed_to u es (full_answers (shared_step S e) es)) (handed-step u S e)
    ∙ ap (λ fs. handed_in (own_of u S) (part u S e) ++ fs) (rest ∙ ap (λ o. handed_in o (view u (shared_step S e) es)) (own-step u S e alone))
    ∙ sym (handed_in-append (own_of u S) (part u S e) (view u (shared_step S e) es))
