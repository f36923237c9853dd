-- Whatever happens, the registry and the CFG-1 lists go on to agree.
use Rattle.std.proofs.Common.{◌≡◌, ℕ, ◌<◌, Bool, true, false, not, cond, if◌then◌else◌, List, [], ◌∷◌, ◌++◌, length, map, Option, Some, None, MatchOption, refl, sym, ap, subst, ◌∙◌, arith}
use Rattle.std.specs.Prelude.{option_and_then, nat_eq, nat_le}
use Rattle.std.specs.Map.{remove_entry}
use Rattle.std.proofs.lemmas.Bool.Decides.{nat_tests}
use Rattle.pg_wire.specs.declared.refusal.Refusal.{Refusal}
use Rattle.pg_wire.specs.declared.refusal.Refusal.TheVariants.{NoSuchPmu, PmuExists, PmusFull, GrantsFull}
use Rattle.pg_wire.specs.declared.ids.PmuKey.{PmuKey}
use Rattle.pg_wire.specs.Keys.{key_eq}
use Rattle.pg_entitle.specs.Grants.{has_room}
use Rattle.pg_entitle.proofs.Orders.{same_of_eq}
use Rattle.pg_registry.specs.Registered.{Pmu, Pmus, pmu_of, has_key, config_in, unannounced}
use Rattle.pg_registry.proofs.Lists.{none_of}
use Rattle.pg_registry.proofs.Staying.{apart-added, apart-dropped, found-added}
use Rattle.pg_audit.specs.declared.audit.What.{What}
use Rattle.pg_data.specs.Measurements.{Measurement}
use Rattle.pg_session.specs.Events as event
use Rattle.pg_session.specs.Events.{SubscriberEvent, Announcing}
use Rattle.pg_session.specs.Private as private
use Rattle.pg_session.specs.Private.{ReplyValue, done, refused, handed, refuse}
use Rattle.pg_session.specs.Shown.{Model, begin}
use Rattle.pg_session.specs.ByAll.{by_arrivals, by_numbers}
use Rattle.pg_gateway.specs.GatewayEvents.{GatewayEvent, add_pmu, drop_pmu, add_sub, drop_sub, grant, asks, announce, measure, tick, Answer, tells, sub_counts, pmu_counts, entry, stands, those_waiting, inquires}
use Rattle.pg_gateway.specs.Judging.{registered_of, memory_counted, blocks_counted, all_announced}
use Rattle.pg_gateway.specs.Sharing.{SubscriberSlot, SubscriberSlots, revokes, announces, measures, ticks, broadcast}
use Rattle.pg_gateway.specs.State.{SharedMachine, May, next, refusal, granting, grant_refusal, announce_refusal, slot_of, moved, added, with_note, code_of, is_refusal, wants_memory, kept_of, slots_noted, slots_after, unless, to_all, to_one, to_none, adds, drops, names, taken_in, judged_in}
use Rattle.pg_gateway.specs.Consistent.{AgreesWith, AllAgree, AreKeyed, IsConsistent, IsOwn, IsPosted}
use Rattle.pg_gateway.proofs.AgreeLaws.{Likewise, all_likewise, likewise_counted, likewise_memory, at_agrees, removed_agree, pushed_agree, fanned_agree, revoke_agrees, grant_agrees, ticked_agrees, measured_agrees, dropped_agrees}
use Rattle.pg_gateway.proofs.SaidLaws.{AllSaid, announced_keyed, announced_registry, announced_agrees, registered_said}

told_same : (t s : ReplyValue) → tells t ≡ tells s → t ≡ s
told_same t s e = cc

-- one subscriber
own_agrees : (pmus : Pmus) (p : Model) (x : SubscriberEvent) (t : ReplyValue) → IsOwn x → AgreesWith pmus p → AgreesWith pmus (private.next by_arrivals by_numbers p x t)
own_agrees pmus p (event.grant key config) t own is = absurd own
own_agrees pmus p (event.announce list) t own is = absurd own
own_agrees pmus p (event.measure soc quality frac samples) t own is = absurd own
own_agrees pmus p (event.tick soc) t own is = absurd own
own_agrees pmus p (event.revoke key) (done made kept) own is = revoke_agrees pmus p key kept is
own_agrees pmus p (event.revoke key) (refused r) own is = is
own_agrees pmus p (event.revoke key) (handed bytes begun gap) own is = revoke_agrees pmus p key 0 is
own_agrees pmus p (event.define definition) (done made kept) own is = record { grants = is.grants; listed = is.listed }
own_agrees pmus p (event.define definition) (refused r) own is = is
own_agrees pmus p (event.define definition) (handed bytes begun gap) own is = record { grants = is.grants; listed = is.listed }
own_agrees pmus p (event.remove number) (done made kept) own is = record { grants = is.grants; listed = is.listed }
own_agrees pmus p (event.remove number) (refused r) own is = is
own_agrees pmus p (event.remove number) (handed bytes begun gap) own is = record { grants = is.grants; listed = is.listed }
own_agrees pmus p event.connect (done made kept) own is = record { grants = is.grants; listed = is.listed }
own_agrees pmus p event.connect (refused r) own is = is
own_agrees pmus p event.connect (handed bytes begun gap) own is = record { grants = is.grants; listed = is.listed }
own_agrees pmus p event.hangup (done made kept) own is = record { grants = is.grants; listed = is.listed }
own_agrees pmus p event.hangup (refused r) own is = is
own_agrees pmus p event.hangup (handed bytes begun gap) own is = record { grants = is.grants; listed = is.listed }
own_agrees pmus p (event.command number word) (done made kept) own is = record { grants = is.grants; listed = is.listed }
own_agrees pmus p (event.command number word) (refused r) own is = by p.connected
  where
    by : (b : Bool) → AgreesWith pmus (if b then record p { output = private.with_refusal p.output r } else p)
    by true = record { grants = is.grants; listed = is.listed }
    by false = is
own_agrees pmus p (event.command number word) (handed bytes begun gap) own is = record { grants = is.grants; listed = is.listed }
own_agrees pmus p (event.drain n) (done made kept) own is = record { grants = is.grants; listed = is.listed }
own_agrees pmus p (event.drain n) (refused r) own is = is
own_agrees pmus p (event.drain n) (handed bytes begun gap) own is = record { grants = is.grants; listed = is.listed }

noted_agree : (pmus : Pmus) (named : Option (ℕ × What)) (t : ReplyValue) (ss : SubscriberSlots) → AllAgree pmus ss → AllAgree pmus (slots_noted named t ss)
noted_agree pmus None t ss all = all
noted_agree pmus (Some named) t ss all = at_agrees pmus named.0 (with_note (named.1, code_of t)) ss (λ s at is. is) all

new_agrees : (pmus : Pmus) (size bytes : ℕ) (last : Option ℕ) → AgreesWith pmus (begin size bytes last)
new_agrees pmus size bytes last = record { grants = record { rising = λ i j d less inside. absurd (omega arith); few = omega arith }; listed = λ key. refl }

-- a PMU more, or less
added_config : (pmus : Pmus) (key k : PmuKey) → has_key pmus key ≡ false → config_in (pmus ++ (key, unannounced) ∷ []) k ≡ config_in pmus k
added_config pmus key k none = ap (option_and_then (λ (pmu : Pmu). pmu.config)) (found-added pmus key k none) ∙ by (key_eq k key) refl
  where
    by : (b : Bool) → key_eq k key ≡ b → option_and_then (λ (pmu : Pmu). pmu.config) (if b then Some unannounced else pmu_of pmus k) ≡ config_in pmus k
    by true same = sym (ap (option_and_then (λ (pmu : Pmu). pmu.config)) (ap (pmu_of pmus) (same_of_eq k key same) ∙ none_of (pmu_of pmus key) none))
    by false other = refl

added_keyed : (pmus : Pmus) (key : PmuKey) → AreKeyed pmus → AreKeyed (pmus ++ (key, unannounced) ∷ [])
added_keyed [] key keyed = (tt, tt)
added_keyed (p ∷ pmus) key keyed = (keyed.0, added_keyed pmus key keyed.1)

removed_keyed : (pmus : Pmus) (key : PmuKey) → AreKeyed pmus → AreKeyed (remove_entry (key_eq key) pmus)
removed_keyed [] key keyed = tt
removed_keyed (p ∷ pmus) key keyed = by (key_eq key p.0) (removed_keyed pmus key keyed.1)
  where
    by : (b : Bool) → AreKeyed (remove_entry (key_eq key) pmus) → AreKeyed (cond b pmus (p ∷ remove_entry (key_eq key) pmus))
    by true rest = keyed.1
    by false rest = (keyed.0, rest)

module _ (S : SharedMachine) (c : IsConsistent S) (t : ReplyValue) where
  add_pmu_stays : (key : PmuKey) → May S (add_pmu key) (tells t) → IsConsistent (next S (add_pmu key) (tells t))
  add_pmu_stays key may = by _ (has_key S.pmus key) refl (nat_le 256 (length S.pmus)) refl may
    where
      one : has_key S.pmus key ≡ false → length S.pmus < 256 → (r : Bool)
          → IsConsistent (record { pmus = if r then S.pmus else S.pmus ++ (key, unannounced) ∷ []; subs = S.subs; last_tick = S.last_tick })
      one none few true = c
      one none few false = record {
        registered = apart-added S.pmus key c.registered none few;
        keyed = added_keyed S.pmus key c.keyed;
        agree = all_likewise S.pmus (S.pmus ++ (key, unannounced) ∷ []) (λ k. added_config S.pmus key k none) S.subs c.agree;
      }

      same : (r : Refusal) → t ≡ refused r → IsConsistent (record { pmus = if is_refusal t then S.pmus else S.pmus ++ (key, unannounced) ∷ []; subs = S.subs; last_tick = S.last_tick })
      same r is = rw is c

      by : (A : Type 0) (b : Bool) → has_key S.pmus key ≡ b → (f : Bool) → nat_le 256 (length S.pmus) ≡ f
          → MatchOption (refuse b PmuExists (refuse f PmusFull None)) A (λ first. tells t ≡ tells (refused first))
          → IsConsistent (record { pmus = if is_refusal t then S.pmus else S.pmus ++ (key, unannounced) ∷ []; subs = S.subs; last_tick = S.last_tick })
      by A true is f full m = same PmuExists (told_same t (refused PmuExists) m)
      by A false is true full m = same PmusFull (told_same t (refused PmusFull) m)
      by A false is false full m = let few : length S.pmus < 256 = grind (arith, nat_tests) in one is few (is_refusal t)

  drop_pmu_stays : (key : PmuKey) → May S (drop_pmu key) (tells t) → IsConsistent (next S (drop_pmu key) (tells t))
  drop_pmu_stays key may = by _ (has_key S.pmus key) may
    where
      one : (r : Bool) → IsConsistent (record { pmus = if r then S.pmus else remove_entry (key_eq key) S.pmus; subs = if r then S.subs else broadcast (revokes key) S.subs (kept_of t); last_tick = S.last_tick })
      one true = c
      one false = record {
        registered = apart-dropped S.pmus key c.registered;
        keyed = removed_keyed S.pmus key c.keyed;
        agree = fanned_agree S.pmus (remove_entry (key_eq key) S.pmus) (revokes key) (dropped_agrees S.pmus key c.registered) S.subs (kept_of t) c.agree;
      }

      same : t ≡ refused NoSuchPmu → IsConsistent (record { pmus = if is_refusal t then S.pmus else remove_entry (key_eq key) S.pmus; subs = S.subs; last_tick = S.last_tick })
      same is = rw is c

      by : (A : Type 0) (b : Bool) → MatchOption (refuse (not b) NoSuchPmu None) A (λ first. tells t ≡ tells (refused first))
          → IsConsistent (record { pmus = if is_refusal t then S.pmus else remove_entry (key_eq key) S.pmus; subs = slots_after (unless (refuse (not b) NoSuchPmu None) (to_all (revokes key))) t S.subs; last_tick = S.last_tick })
      by A true m = one (is_refusal t)
      by A false m = same (told_same t (refused NoSuchPmu) m)

  add_sub_agree : (u size bytes : ℕ) (r : Option Refusal) → AllAgree S.pmus (slots_after (unless r (adds u size bytes S.last_tick)) t S.subs)
  add_sub_agree u size bytes (Some r) = c.agree
  add_sub_agree u size bytes None = by (is_refusal t)
    where
      by : (r : Bool) → AllAgree S.pmus (if r then S.subs else S.subs ++ (u, added size bytes S.last_tick) ∷ [])
      by true = c.agree
      by false = pushed_agree S.pmus u (added size bytes S.last_tick) S.subs (new_agrees S.pmus size bytes S.last_tick) c.agree

  drop_sub_agree : (u : ℕ) (r : Option Refusal) → AllAgree S.pmus (slots_after (unless r (drops u)) t S.subs)
  drop_sub_agree u (Some r) = c.agree
  drop_sub_agree u None = by (is_refusal t)
    where
      by : (r : Bool) → AllAgree S.pmus (if r then S.subs else remove_entry (nat_eq u) S.subs)
      by true = c.agree
      by false = removed_agree S.pmus (nat_eq u) S.subs c.agree

  grant_agree : (u : ℕ) (key : PmuKey) (A : Type 0) (b : Bool) → MatchOption (grant_refusal (slot_of u S.subs) b (granting S key)) A (λ first. tells t ≡ tells (refused first))
      → AllAgree S.pmus (slots_after (if b then to_one u (granting S key) else to_none) t S.subs)
  grant_agree u key A false m = c.agree
  grant_agree u key A true m = at_agrees S.pmus u (moved (granting S key) t) S.subs (λ s at is. grant_agrees S.pmus s.own key t (full s at) is) c.agree
    where
      full : (s : SubscriberSlot) → slot_of u S.subs ≡ Some s → has_room s.own.grants key ≡ false → t ≡ refused GrantsFull
      full s at none = told_same t (refused GrantsFull)
          (subst (λ r. MatchOption r A (λ first. tells t ≡ tells (refused first))) (ap (λ o. grant_refusal o true (granting S key)) at ∙ ap (λ b. refuse (not b) GrantsFull None) none) m)

  announce_stays : (list : List Announcing) → AllSaid (has_key S.pmus) list
      → IsConsistent (record {
        pmus = if is_refusal t then memory_counted S.pmus (map (λ a. a.key) list) else all_announced S.pmus list;
        subs = slots_after (unless (announce_refusal list) (to_all (announces list))) t S.subs;
        last_tick = S.last_tick;
      })
  announce_stays [] all = one (is_refusal t)
    where
      one : (r : Bool) → IsConsistent (record { pmus = if r then S.pmus else S.pmus; subs = S.subs; last_tick = S.last_tick })
      one true = c
      one false = c
  announce_stays (a ∷ list) all = one (is_refusal t)
    where
      like : Likewise S.pmus (memory_counted S.pmus (map (λ a. a.key) (a ∷ list)))
      like = likewise_memory S.pmus (map (λ a. a.key) (a ∷ list))

      one : (r : Bool) → IsConsistent (record {
        pmus = if r then memory_counted S.pmus (map (λ a. a.key) (a ∷ list)) else all_announced S.pmus (a ∷ list);
        subs = if r then S.subs else broadcast (announces (a ∷ list)) S.subs (kept_of t);
        last_tick = S.last_tick;
      })
      one true = record { registered = like.registered c.registered; keyed = like.keyed c.keyed; agree = all_likewise S.pmus _ like.config S.subs c.agree }
      one false = record {
        registered = announced_registry (a ∷ list) S.pmus c.registered;
        keyed = announced_keyed (a ∷ list) (has_key S.pmus) S.pmus all c.keyed;
        agree = fanned_agree S.pmus (all_announced S.pmus (a ∷ list)) (announces (a ∷ list)) (announced_agrees S.pmus (a ∷ list) all) S.subs (kept_of t) c.agree;
      }

  measure_stays : (m : Measurement) → IsConsistent (next S (measure m) (tells t))
  measure_stays m = record { registered = like.registered c.registered; keyed = like.keyed c.keyed; agree = all_likewise S.pmus _ like.config _ (by (refusal S (measure m))) }
    where
      pmus_then : (r : Bool) → Likewise S.pmus (if r then memory_counted S.pmus (map (λ b. b.0) (judged_in S m)) else blocks_counted S.pmus (judged_in S m))
      pmus_then true = likewise_memory S.pmus (map (λ b. b.0) (judged_in S m))
      pmus_then false = likewise_counted S.pmus (judged_in S m)

      like : Likewise S.pmus (if wants_memory t then memory_counted S.pmus (map (λ b. b.0) (judged_in S m)) else blocks_counted S.pmus (judged_in S m))
      like = pmus_then (wants_memory t)

      one : (r : Bool) → AllAgree S.pmus (if r then S.subs else broadcast (measures m.soc m.quality m.frac (taken_in S m)) S.subs (kept_of t))
      one true = c.agree
      one false = fanned_agree S.pmus S.pmus (measures m.soc m.quality m.frac (taken_in S m)) (measured_agrees S.pmus m.soc m.quality m.frac (taken_in S m)) S.subs (kept_of t) c.agree

      by : (r : Option Refusal) → AllAgree S.pmus (slots_after (unless r (to_all (measures m.soc m.quality m.frac (taken_in S m)))) t S.subs)
      by (Some r) = c.agree
      by None = one (is_refusal t)

  tick_agree : (soc : ℕ) (r : Bool) → AllAgree S.pmus (if r then S.subs else broadcast (ticks soc) S.subs (kept_of t))
  tick_agree soc true = c.agree
  tick_agree soc false = fanned_agree S.pmus S.pmus (ticks soc) (ticked_agrees S.pmus soc) S.subs (kept_of t) c.agree

  told_stays : (e : GatewayEvent) → IsPosted e → May S e (tells t) → IsConsistent (next S e (tells t))
  told_stays (add_pmu key) posted may = add_pmu_stays key may
  told_stays (drop_pmu key) posted may = drop_pmu_stays key may
  told_stays (add_sub u size bytes) posted may = record { registered = c.registered; keyed = c.keyed; agree = noted_agree S.pmus (names (add_sub u size bytes)) t _ (add_sub_agree u size bytes (refusal S (add_sub u size bytes))) }
  told_stays (drop_sub u) posted may = record { registered = c.registered; keyed = c.keyed; agree = drop_sub_agree u (refusal S (drop_sub u)) }
  told_stays (grant u key) posted may = record { registered = c.registered; keyed = c.keyed; agree = noted_agree S.pmus (names (grant u key)) t _ (grant_agree u key _ (has_key S.pmus key) may) }
  told_stays (asks u x) posted may = record {
    registered = c.registered;
    keyed = c.keyed;
    agree = noted_agree S.pmus (names (asks u x)) t _ (at_agrees S.pmus u (moved x t) S.subs (λ s at is. own_agrees S.pmus s.own x t posted is) c.agree);
  }
  told_stays (announce config) posted may = announce_stays (registered_of S.pmus config) (registered_said S.pmus config posted.distinct)
  told_stays (measure m) posted may = measure_stays m
  told_stays (tick soc) posted may = record { registered = c.registered; keyed = c.keyed; agree = tick_agree soc (is_refusal t) }
  told_stays (inquires q) posted may = record { registered = c.registered; keyed = c.keyed; agree = c.agree }

pub next_stays : (S : SharedMachine) (e : GatewayEvent) (a : Answer) → IsConsistent S → IsPosted e → May S e a → IsConsistent (next S e a)
next_stays S e (tells t) c posted may = told_stays S c t e posted may
next_stays S e (sub_counts s) c posted may = c
next_stays S e (pmu_counts s) c posted may = c
next_stays S e (those_waiting us) c posted may = c
next_stays S e (entry found) c posted may = c
next_stays S e (stands s) c posted may = c
