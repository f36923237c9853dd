-- A subscriber is added, or is there already.
use Rattle.std.proofs.Common.{◌≡◌, ℕ, nat_eq, Bool, true, false, true≢false, cond, if◌then◌else◌, is_some, List, [], ◌∷◌, ◌++◌, length, Option, Some, None, refl, sym, ap, subst, arith, inl, inr}
use Rattle.std.specs.Prelude.{nat_le}
use Rattle.std.proofs.lemmas.Bool.Decides.{nat_tests}
use Rattle.pg_wire.specs.declared.refusal.Refusal.TheVariants.{NoMemory, SubExists, SubsFull}
use Rattle.pg_audit.specs.declared.audit.What.TheVariants.{AddSub}
use Rattle.pg_session.specs.Private.{refused, done}
use Rattle.pg_gateway.specs.Related.{Related}
use Rattle.pg_gateway.specs.Sharing.{SubscriberSlot, SubscriberSlots}
use Rattle.pg_gateway.specs.GatewayEvents.{add_sub, tells}
use Rattle.pg_gateway.specs.State.{SharedMachine, slot_of, at_slot, with_note, added}
use Rattle.pg_gateway.specs.Shown.{SlotValue, SlotShows, GatewayValue, GatewayShows, Steps}
use Rattle.pg_gateway.proofs.OneLaws.{at_slot-none}

none_of : (o : Option SubscriberSlot) → is_some o ≡ false → o ≡ None
none_of None none = refl
none_of (Some s) none = absurd (true≢false none)

at_slot-push : (u : ℕ) (f : SubscriberSlot → SubscriberSlot) (s : SubscriberSlot) (ss : SubscriberSlots) → is_some (slot_of u ss) ≡ false → at_slot u f (ss ++ (u, s) ∷ []) ≡ ss ++ (u, f s) ∷ []
at_slot-push u f s [] none = let same : nat_eq u u ≡ true = grind (arith, nat_tests) in rw same refl
at_slot-push u f s (x ∷ ss) none = by (nat_eq u x.0) none (at_slot-push u f s ss)
  where
    by : (b : Bool) → is_some (cond b (Some x.1) (slot_of u ss)) ≡ false → (is_some (slot_of u ss) ≡ false → at_slot u f (ss ++ (u, s) ∷ []) ≡ ss ++ (u, f s) ∷ [])
        → (if b then (x.0, f x.1) ∷ (ss ++ (u, s) ∷ []) else x ∷ at_slot u f (ss ++ (u, s) ∷ [])) ≡ x ∷ (ss ++ (u, f s) ∷ [])
    by true none rest = absurd (true≢false none)
    by false none rest = ap (λ l. x ∷ l) (rest none)

pub added_exists : (u size bytes : ℕ) (S : SharedMachine) (old : GatewayValue) (entries : List (ℕ × SlotValue)) → GatewayShows old S → is_some (slot_of u S.subs) ≡ true
    → Related SlotShows entries (at_slot u (with_note (AddSub, Some SubExists)) S.subs)
    → Steps S (add_sub u size bytes) (tells (refused SubExists)) (record { pmus = old.pmus; subs = entries; last_tick = old.last_tick })
added_exists u size bytes S old entries shown there related =
    record { may = rw there refl; shows = rw there (record { pmus = shown.pmus; subs = related; last_tick = shown.last_tick }) }

-- nobody is there to have it noted
unnoted : (u : ℕ) (S : SharedMachine) (f : SubscriberSlot → SubscriberSlot) (v : GatewayValue) → GatewayShows v S → is_some (slot_of u S.subs) ≡ false → Related SlotShows v.subs (at_slot u f S.subs)
unnoted u S f v shown none = subst (λ l. Related SlotShows v.subs l) (sym (at_slot-none u f S.subs (none_of (slot_of u S.subs) none))) shown.subs

pub added_full : (u size bytes : ℕ) (S : SharedMachine) (v : GatewayValue) → GatewayShows v S → is_some (slot_of u S.subs) ≡ false → nat_le 64 (length S.subs) ≡ true
    → Steps S (add_sub u size bytes) (tells (refused SubsFull)) v
added_full u size bytes S v shown none full =
    record { may = rw (none, full) refl; shows = rw (none, full) (record { pmus = shown.pmus; subs = unnoted u S (with_note (AddSub, Some SubsFull)) v shown none; last_tick = shown.last_tick }) }

pub added_none : (u size bytes : ℕ) (S : SharedMachine) (v : GatewayValue) → GatewayShows v S → is_some (slot_of u S.subs) ≡ false → nat_le 64 (length S.subs) ≡ false
    → Steps S (add_sub u size bytes) (tells (refused NoMemory)) v
added_none u size bytes S v shown none room =
    record { may = rw (none, room) (inr (refl, refl)); shows = rw (none, room) (record { pmus = shown.pmus; subs = unnoted u S (with_note (AddSub, Some NoMemory)) v shown none; last_tick = shown.last_tick }) }

pub added_goes : (u size bytes : ℕ) (S : SharedMachine) (old : GatewayValue) (entries : List (ℕ × SlotValue)) → GatewayShows old S → is_some (slot_of u S.subs) ≡ false → nat_le 64 (length S.subs) ≡ false
    → Related SlotShows entries (S.subs ++ (u, with_note (AddSub, None) (added size bytes old.last_tick)) ∷ [])
    → Steps S (add_sub u size bytes) (tells (done 0 0)) (record { pmus = old.pmus; subs = entries; last_tick = old.last_tick })
added_goes u size bytes S old entries shown none room related =
    let noted : Related SlotShows entries (at_slot u (with_note (AddSub, None)) (S.subs ++ (u, added size bytes S.last_tick) ∷ [])) =
    rw (at_slot-push u (with_note (AddSub, None)) (added size bytes S.last_tick) S.subs none)
    (subst (λ last. Related SlotShows entries (S.subs ++ (u, with_note (AddSub, None) (added size bytes last)) ∷ [])) shown.last_tick related) in
    record {
      may = rw (none, room) (inl (0, omega arith, refl));
      shows = rw (none, room) (record { pmus = shown.pmus; subs = noted; last_tick = shown.last_tick });
    }
