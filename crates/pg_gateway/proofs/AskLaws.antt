-- Events that ask for counters, notes, how a subscriber stands, and for whom something waits.
use Rattle.std.proofs.Common.{◌≡◌, ℕ, nat_eq, if◌then◌else◌, List, [], ◌∷◌, filter, Option, Some, None, refl, sym, ap, ◌∙◌, arith, inl}
use Rattle.std.specs.Prelude.{nat_lt}
use Rattle.std.specs.Map.{lookup}
use Rattle.pg_wire.specs.declared.refusal.Refusal.TheVariants.{NoSuchPmu, NoSuchSub}
use Rattle.pg_wire.specs.declared.ids.PmuKey.{PmuKey}
use Rattle.pg_registry.specs.Registered.{Pmu, pmu_of}
use Rattle.pg_audit.specs.declared.counters.Stats.{Stats}
use Rattle.pg_audit.specs.declared.counters.PmuStats.{PmuStats}
use Rattle.pg_audit.specs.declared.audit.Entry.{Entry}
use Rattle.pg_audit.specs.Noting.{newest_at}
use Rattle.pg_session.specs.Private.{refused}
use Rattle.pg_session.specs.declared.standing.MemberPlace.{MemberPlace}
use Rattle.pg_session.specs.declared.standing.Standing.{Standing}
use Rattle.pg_session.specs.Standing.{standing_of}
use Rattle.pg_ring.specs.Shown.{frames_to_leave}
use Rattle.pg_gateway.specs.Related.{Related}
use Rattle.pg_gateway.specs.Sharing.{SubscriberSlot, SubscriberSlots}
use Rattle.pg_gateway.specs.GatewayEvents.{stats, pmu_stats, audit, standing, who_waits, tells, sub_counts, pmu_counts, entry, stands, those_waiting, inquires}
use Rattle.pg_gateway.specs.State.{SharedMachine, slot_of, has_waiting, waiting_among}
use Rattle.pg_gateway.specs.Shown.{SlotValue, SlotShows, GatewayValue, GatewayShows, Steps, slot_waits}
use Rattle.pg_gateway.proofs.RelatedLaws.{lookup-none, lookup-some}

pub stats_none : (u : ℕ) (S : SharedMachine) (v : GatewayValue) → GatewayShows v S → slot_of u S.subs ≡ None → Steps S (inquires (stats u)) (tells (refused NoSuchSub)) v
stats_none u S v shown none = record { may = rw none refl; shows = record { pmus = shown.pmus; subs = shown.subs; last_tick = shown.last_tick } }

pub stats_some : (u : ℕ) (S : SharedMachine) (v : GatewayValue) (s : SubscriberSlot) (st : Stats) → GatewayShows v S → slot_of u S.subs ≡ Some s → st ≡ s.own.output.stats → Steps S (inquires (stats u)) (sub_counts st) v
stats_some u S v s st shown there is =
    record {
      may = rw there (inl (0, omega arith, ap sub_counts is));
      shows = record { pmus = shown.pmus; subs = shown.subs; last_tick = shown.last_tick };
    }

pub audit_none : (u index : ℕ) (S : SharedMachine) (v : GatewayValue) → GatewayShows v S → slot_of u S.subs ≡ None → Steps S (inquires (audit u index)) (tells (refused NoSuchSub)) v
audit_none u index S v shown none = record { may = rw none refl; shows = record { pmus = shown.pmus; subs = shown.subs; last_tick = shown.last_tick } }

pub audit_some : (u index : ℕ) (S : SharedMachine) (v : GatewayValue) (s : SubscriberSlot) (e : Option Entry) → GatewayShows v S → slot_of u S.subs ≡ Some s → e ≡ newest_at s.noted index → Steps S (inquires (audit u index)) (entry e) v
audit_some u index S v s e shown there is =
    record {
      may = rw there (inl (0, omega arith, ap entry is));
      shows = record { pmus = shown.pmus; subs = shown.subs; last_tick = shown.last_tick };
    }

pub standing_none : (u : ℕ) (place : MemberPlace) (S : SharedMachine) (v : GatewayValue) → GatewayShows v S → slot_of u S.subs ≡ None → Steps S (inquires (standing u place)) (tells (refused NoSuchSub)) v
standing_none u place S v shown none = record { may = rw none refl; shows = record { pmus = shown.pmus; subs = shown.subs; last_tick = shown.last_tick } }

pub standing_some : (u : ℕ) (place : MemberPlace) (S : SharedMachine) (v : GatewayValue) (s : SubscriberSlot) (st : Standing) → GatewayShows v S → slot_of u S.subs ≡ Some s → st ≡ standing_of s.own place → Steps S (inquires (standing u place)) (stands st) v
standing_some u place S v s st shown there is =
    record {
      may = rw there (inl (0, omega arith, ap stands is));
      shows = record { pmus = shown.pmus; subs = shown.subs; last_tick = shown.last_tick };
    }

pub pmu_stats_none : (key : PmuKey) (S : SharedMachine) (v : GatewayValue) → GatewayShows v S → pmu_of S.pmus key ≡ None → Steps S (inquires (pmu_stats key)) (tells (refused NoSuchPmu)) v
pmu_stats_none key S v shown none = record { may = rw none refl; shows = record { pmus = shown.pmus; subs = shown.subs; last_tick = shown.last_tick } }

pub pmu_stats_some : (key : PmuKey) (S : SharedMachine) (v : GatewayValue) (pmu : Pmu) (st : PmuStats) → GatewayShows v S → pmu_of S.pmus key ≡ Some pmu → st ≡ pmu.stats → Steps S (inquires (pmu_stats key)) (pmu_counts st) v
pmu_stats_some key S v pmu st shown there is =
    record {
      may = rw there (inl (0, omega arith, ap pmu_counts is));
      shows = record { pmus = shown.pmus; subs = shown.subs; last_tick = shown.last_tick };
    }

-- Those for whom something waits are the same of what is kept and of the state that it shows.
waits_alike : (u : ℕ) (xs : List (ℕ × SlotValue)) (slots : SubscriberSlots) → Related SlotShows xs slots
    → slot_waits (lookup (nat_eq u) xs) ≡ has_waiting (slot_of u slots)
waits_alike u xs slots h = by (lookup (nat_eq u) xs) refl
  where
    by : (o : Option SlotValue) → lookup (nat_eq u) xs ≡ o → slot_waits o ≡ has_waiting (slot_of u slots)
    by None is = ap has_waiting (sym (lookup-none SlotShows (nat_eq u) xs slots h is))
    by (Some v) is =
        let found = lookup-some SlotShows (nat_eq u) v xs slots h is in
        ap (λ queue. nat_lt 0 (frames_to_leave queue)) found.2.subscriber.queue.same ∙ ap has_waiting (sym found.1)

waiting_alike : (us : List ℕ) (xs : List (ℕ × SlotValue)) (slots : SubscriberSlots) → Related SlotShows xs slots
    → filter (λ u. slot_waits (lookup (nat_eq u) xs)) us ≡ waiting_among slots us
waiting_alike [] xs slots h = refl
waiting_alike (u ∷ us) xs slots h =
    ap (λ b. if b then u ∷ filter (λ u. slot_waits (lookup (nat_eq u) xs)) us else filter (λ u. slot_waits (lookup (nat_eq u) xs)) us) (waits_alike u xs slots h)
    ∙ ap (λ l. if has_waiting (slot_of u slots) then u ∷ l else l) (waiting_alike us xs slots h)

pub waiting_told : (us found : List ℕ) (S : SharedMachine) (v : GatewayValue) → GatewayShows v S
    → found ≡ filter (λ u. slot_waits (lookup (nat_eq u) v.subs)) us → Steps S (inquires (who_waits us)) (those_waiting found) v
waiting_told us found S v shown is =
    record {
      may = inl (0, omega arith, ap those_waiting (is ∙ waiting_alike us v.subs S.subs shown.subs));
      shows = record { pmus = shown.pmus; subs = shown.subs; last_tick = shown.last_tick };
    }
