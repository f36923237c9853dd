-- Events that take no memory are not refused for want of it.
use Rattle.std.proofs.Common.{◌≡◌, ◌≤◌, ◌⊎◌, ℕ, true, false, Option, Some, None, MatchOption, inl, inr, refl, sym, subst, ◌∙◌}
use Rattle.pg_wire.specs.declared.refusal.Refusal.TheVariants.{NoMemory}
use Rattle.pg_registry.specs.Registered.{Pmu, pmu_of}
use Rattle.pg_session.specs.Events as own
use Rattle.pg_session.specs.Events.{SubscriberEvent}
use Rattle.pg_session.specs.Private as private
use Rattle.pg_session.specs.Private.{ReplyValue, refused}
use Rattle.pg_session.specs.Shown.{Model}
use Rattle.pg_session.specs.ByAll.{by_arrivals, by_numbers}
use Rattle.pg_session.specs.declared.standing.MemberPlace.{MemberPlace}
use Rattle.pg_gateway.specs.GatewayEvents.{GatewayEvent, add_pmu, drop_pmu, add_sub, drop_sub, grant, asks, announce, measure, tick, stats, pmu_stats, audit, standing, who_waits, Answer, tells, inquires}
use Rattle.pg_gateway.specs.Sharing.{SubscriberSlot, SubscriberSlots}
use Rattle.pg_gateway.specs.State.{SharedMachine, Target, to_all, to_one, adds, drops, to_none, target, takes_memory, own_answer, reached_answer, stats_answer, pmu_answer, audit_answer, standing_answer, slot_of, made, answer}
use Rattle.pg_gateway.specs.Shown.{GatewayValue, Goes}
use Rattle.pg_gateway.specs.Frugal.{Frugal}
use Rattle.pg_gateway.specs.Taking.{MayCopy}

own_answered : (p : Model) (x : SubscriberEvent) (k : ℕ) → private.answer by_arrivals by_numbers p x k ≡ refused NoMemory → ⊥
own_answered p (own.grant key config) k e = cc
own_answered p (own.revoke key) k e = cc
own_answered p (own.announce list) k e = cc
own_answered p (own.measure soc quality frac samples) k e = cc
own_answered p (own.define definition) k e = cc
own_answered p (own.remove number) k e = cc
own_answered p (own.tick soc) k e = cc
own_answered p own.connect k e = cc
own_answered p own.hangup k e = cc
own_answered p (own.command number word) k e = cc
own_answered p (own.drain n) k e = cc

slot_answered : (o : Option SubscriberSlot) (x : SubscriberEvent) (k : ℕ) → own_answer o x k ≡ refused NoMemory → ⊥
slot_answered None x k e = cc
slot_answered (Some s) x k e = own_answered s.own x k e

target_answered : (r : Target) (slots : SubscriberSlots) (k : ℕ) → reached_answer r slots k ≡ refused NoMemory → ⊥
target_answered (to_all o) slots k e = cc
target_answered (to_one u x) slots k e = slot_answered (slot_of u slots) x k e
target_answered (adds u size bytes last) slots k e = cc
target_answered (drops u) slots k e = cc
target_answered to_none slots k e = cc

told_in : (t r : ReplyValue) → tells t ≡ tells r → t ≡ r
told_in t r e = cc

stats_answered : (o : Option SubscriberSlot) → stats_answer o ≡ tells (refused NoMemory) → ⊥
stats_answered None e = cc
stats_answered (Some s) e = cc

pmu_answered : (o : Option Pmu) → pmu_answer o ≡ tells (refused NoMemory) → ⊥
pmu_answered None e = cc
pmu_answered (Some p) e = cc

audit_answered : (o : Option SubscriberSlot) (index : ℕ) → audit_answer o index ≡ tells (refused NoMemory) → ⊥
audit_answered None index e = cc
audit_answered (Some s) index e = cc

standing_answered : (o : Option SubscriberSlot) (place : MemberPlace) → standing_answer o place ≡ tells (refused NoMemory) → ⊥
standing_answered None place e = cc
standing_answered (Some s) place e = cc

answered : (S : SharedMachine) (e : GatewayEvent) (k : ℕ) → answer S e k ≡ tells (refused NoMemory) → ⊥
answered S (add_pmu key) k is = target_answered (target S (add_pmu key)) S.subs k (told_in _ _ is)
answered S (drop_pmu key) k is = target_answered (target S (drop_pmu key)) S.subs k (told_in _ _ is)
answered S (add_sub u size bytes) k is = target_answered (target S (add_sub u size bytes)) S.subs k (told_in _ _ is)
answered S (drop_sub u) k is = target_answered (target S (drop_sub u)) S.subs k (told_in _ _ is)
answered S (grant u key) k is = target_answered (target S (grant u key)) S.subs k (told_in _ _ is)
answered S (asks u x) k is = target_answered (target S (asks u x)) S.subs k (told_in _ _ is)
answered S (announce config) k is = target_answered (target S (announce config)) S.subs k (told_in _ _ is)
answered S (measure m) k is = target_answered (target S (measure m)) S.subs k (told_in _ _ is)
answered S (tick soc) k is = target_answered (target S (tick soc)) S.subs k (told_in _ _ is)
answered S (inquires (stats u)) k is = stats_answered (slot_of u S.subs) is
answered S (inquires (pmu_stats key)) k is = pmu_answered (pmu_of S.pmus key) is
answered S (inquires (who_waits us)) k is = cc
answered S (inquires (audit u index)) k is = audit_answered (slot_of u S.subs) index is
answered S (inquires (standing u place)) k is = standing_answered (slot_of u S.subs) place is

freely : (old new : GatewayValue) (e : GatewayEvent) (a : Answer) → Goes old e a new → takes_memory e ≡ false → Frugal old e a
freely old new e a goes free = λ S h none needs is.
    either S is (subst (λ o. MatchOption o (((k : ℕ) × (k ≤ made S e) × (a ≡ answer S e k)) ⊎ ((a ≡ tells (refused NoMemory)) × (takes_memory e ≡ true))) (λ first. a ≡ tells (refused first))) none (goes S h).may)
  where
    either : (S : SharedMachine) → a ≡ tells (refused NoMemory) → ((k : ℕ) × (k ≤ made S e) × (a ≡ answer S e k)) ⊎ ((a ≡ tells (refused NoMemory)) × (takes_memory e ≡ true)) → ⊥
    either S is (inl m) = answered S e m.0 (sym m.2 ∙ is)
    either S is (inr m) = cc

pub frugally : (old new : GatewayValue) (e : GatewayEvent) (a : Answer) → Goes old e a new → (MayCopy e → Frugal old e a) → Frugal old e a
frugally old new (grant u key) a goes copies = copies tt
frugally old new (measure m) a goes copies = copies tt
frugally old new (asks u x) a goes copies = λ S h none needs is. freely old new (asks u x) a goes needs S h none needs is
frugally old new (add_pmu key) a goes copies = λ S h none needs is. needs
frugally old new (add_sub u size bytes) a goes copies = λ S h none needs is. needs
frugally old new (announce config) a goes copies = λ S h none needs is. needs
frugally old new (drop_pmu key) a goes copies = freely old new (drop_pmu key) a goes refl
frugally old new (drop_sub u) a goes copies = freely old new (drop_sub u) a goes refl
frugally old new (tick soc) a goes copies = freely old new (tick soc) a goes refl
frugally old new (inquires q) a goes copies = freely old new (inquires q) a goes refl
