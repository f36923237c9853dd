-- One subscriber takes its share of an event for all.
use Rattle.std.proofs.Common.{◌≡◌, ℕ, ◌<◌, ◌≤◌, ◌⊎◌, Bool, true, true≢false, List, [], ◌∷◌, ◌++◌, length, filter, Option, Some, None, refl, sym, ap, subst, ◌∙◌, arith, inl, inr}
use Rattle.std.specs.Prelude.{slice_get, false, Result, Ok, Err, IfOk, IfErr, IsOk}
use Rattle.pg_wire.specs.declared.refusal.Refusal.{Refusal}
use Rattle.pg_wire.specs.declared.refusal.Refusal.TheVariants.{NoMemory}
use Rattle.pg_wire.specs.declared.ids.PmuKey.{PmuKey}
use Rattle.pg_entitle.specs.Grants.{has_key}
use Rattle.pg_config.specs.Parts.{Source}
use Rattle.pg_data.specs.Measurements.{Measurement}
use Rattle.pg_audit.specs.Noting as audit
use Rattle.pg_session.specs.Events as event
use Rattle.pg_session.specs.Events.{SubscriberEvent, Announcing, Sample, announced_at, samples_at}
use Rattle.pg_session.specs.Private.{ReplyValue, done, refused, takes_memory, answer, frames_of, effect, next}
use Rattle.pg_session.specs.Shown.{Own, SubscriberValue, Takes, Follows, ShowsPrivate, OwnShows}
use Rattle.pg_session.specs.ByAll.{by_arrivals, by_numbers}
use Rattle.pg_session.specs.Ready.{AreRising, IsFor, IsReady, NeedsNone}
use Rattle.pg_session.specs.Filling.{IsPreparedFor}
use Rattle.pg_session.specs.Steps.{HasNoCopies}
use Rattle.pg_gateway.specs.Sharing.{SubscriberSlot, Broadcast, announces, some_announced, some_measured, share, notes_of, frames_in_share, after_share}
use Rattle.pg_gateway.specs.Shown.{SlotValue, SlotShows}
use Rattle.pg_gateway.specs.Taking.{measured, part_passes, IsFit, IsPrepared, Awaits, Fits, HasNone, PreparesShare, TakesShare, TakesBroadcast, counts_of}
use Rattle.pg_gateway.specs.Frugal.{NeedsNoCopy}
use Rattle.pg_gateway.proofs.Places.{announced-filter, samples-filter, announced-some, samples-some}
use Rattle.pg_gateway.proofs.ShareLaws.{Quiet, share_quiet}

-- of some places those that are granted make a subscriber's share
pub announced_none : (config : Source) (ps held : List ℕ) (grants : List PmuKey) → held ≡ filter (λ i. part_passes (has_key grants) config (slice_get config.parts i)) ps
    → length held ≡ 0 → share (announces (announced_at config ps)) grants ≡ None
announced_none config ps held grants is none = by held is none
  where
    by : (held : List ℕ) → held ≡ filter (λ i. part_passes (has_key grants) config (slice_get config.parts i)) ps → length held ≡ 0 → share (announces (announced_at config ps)) grants ≡ None
    by [] is none = ap some_announced (sym (announced-filter (has_key grants) config ps)) ∙ ap (λ l. some_announced (announced_at config l)) (sym is)
    by (p ∷ ps) is none = absurd (omega arith)

pub announced_share : (config : Source) (ps held : List ℕ) (grants : List PmuKey) → held ≡ filter (λ i. part_passes (has_key grants) config (slice_get config.parts i)) ps
    → AreRising 0 (length config.parts) held → 0 < length held → share (announces (announced_at config ps)) grants ≡ Some (event.announce (announced_at config held))
announced_share config ps held grants is rising some =
    ap some_announced (sym (announced-filter (has_key grants) config ps)) ∙ ap (λ l. some_announced (announced_at config l)) (sym is)
    ∙ (let there = announced-some config 0 held rising some in rw there.2 refl)

pub measured_none : (m : Measurement) (ps held : List ℕ) (grants : List PmuKey) → held ≡ filter (λ i. part_passes (has_key grants) m.config (slice_get m.config.parts i)) ps
    → length held ≡ 0 → share (measured m ps) grants ≡ None
measured_none m ps held grants is none = by held is none
  where
    by : (held : List ℕ) → held ≡ filter (λ i. part_passes (has_key grants) m.config (slice_get m.config.parts i)) ps → length held ≡ 0 → share (measured m ps) grants ≡ None
    by [] is none = ap (some_measured m.soc m.quality m.frac) (sym (samples-filter (has_key grants) m ps)) ∙ ap (λ l. some_measured m.soc m.quality m.frac (samples_at m l)) (sym is)
    by (p ∷ ps) is none = absurd (omega arith)

pub measured_share : (m : Measurement) (ps held : List ℕ) (grants : List PmuKey) → held ≡ filter (λ i. part_passes (has_key grants) m.config (slice_get m.config.parts i)) ps
    → AreRising 0 (length m.config.parts) held → 0 < length held
    → share (measured m ps) grants ≡ Some (event.measure m.soc m.quality m.frac (samples_at m held))
measured_share m ps held grants is rising some =
    ap (some_measured m.soc m.quality m.frac) (sym (samples-filter (has_key grants) m ps)) ∙ ap (λ l. some_measured m.soc m.quality m.frac (samples_at m l)) (sym is)
    ∙ (let there = samples-some m 0 held rising some in rw there.2 refl)

pub none_is_some : {A : Type 0} {x : SubscriberEvent} → None ≡ Some x → A
none_is_some e = cc

-- what is never so
pub not_true : (b : Bool) → (b ≡ true → ⊥) → b ≡ false
not_true true never = absurd (never refl)
not_true false never = refl

-- a subscriber that has no share
pub none_taken : (o : Broadcast) (lost : Bool) (v : SlotValue) (s : SubscriberSlot) → SlotShows v s → share o v.subscriber.own.grants ≡ None → TakesShare o lost 0 0 s v
none_taken o lost v s shown none =
    let same : share o s.own.grants ≡ None = ap (share o) (sym shown.subscriber.grants) ∙ none in
    record {
      count = ap (λ x. frames_in_share x s.own) (sym same);
      none_kept = λ _. refl;
      shows = subst (λ x. SlotShows v (after_share x (notes_of o) s 0)) (sym same) shown;
    }

-- and one that has taken it
pub some_taken : (o : Broadcast) (lost : Bool) (old new : SlotValue) (x : SubscriberEvent) (r : ReplyValue) (s : SubscriberSlot) → SlotShows old s → share o old.subscriber.own.grants ≡ Some x
    → Takes old.subscriber x lost r new.subscriber → audit.ShowsAudit new.audit (s.noted ++ notes_of o) → TakesShare o lost (counts_of r).0 (counts_of r).1 s new
some_taken o lost old new x r s shown some takes noted = by r (rw q.allowed at follows.may) follows.shows
  where
    same : share o s.own.grants ≡ Some x
    same = ap (share o) (sym shown.subscriber.grants) ∙ some

    q : Quiet s.own x
    q = share_quiet o s.own x same

    follows : Follows s.own x lost r new.subscriber
    follows = takes s.own shown.subscriber

    n : ℕ
    n = length (frames_of by_arrivals by_numbers s.own x)

    at_done : (k : ℕ) → (lost ≡ true → k ≡ 0) → OwnShows new.subscriber.own (effect by_arrivals by_numbers s.own x k)
        → TakesShare o lost (length (frames_of by_arrivals by_numbers s.own x)) k s new
    at_done k none shows =
        record {
          count = ap (λ y. frames_in_share y s.own) (sym same);
          none_kept = none;
          shows = subst (λ y. SlotShows new (after_share y (notes_of o) s k)) (sym same) (record { subscriber = shows; audit = noted });
        }

    by : (t : ReplyValue) → (((k : ℕ) × (k ≤ length (frames_of by_arrivals by_numbers s.own x)) × (lost ≡ true → k ≡ 0) × (t ≡ answer by_arrivals by_numbers s.own x k)) ⊎ ((t ≡ refused NoMemory) × (takes_memory x ≡ true)))
        → ShowsPrivate new.subscriber (next by_arrivals by_numbers s.own x t) → TakesShare o lost (counts_of t).0 (counts_of t).1 s new
    by t (inl a) shows =
        let is : t ≡ done (length (frames_of by_arrivals by_numbers s.own x)) a.0 = a.3 ∙ q.frames a.0 in
        subst (λ t. TakesShare o lost (counts_of t).0 (counts_of t).1 s new) (sym is) (at_done a.0 a.2 (subst (λ t. ShowsPrivate new.subscriber (next by_arrivals by_numbers s.own x t)) is shows))
    by t (inr b) shows = absurd (true≢false (sym b.1 ∙ q.no_memory))

-- what a subscriber's share asks of it, at the share that it is
pub fit_at : (v : SubscriberValue) (o : Option SubscriberEvent) (x : SubscriberEvent) → o ≡ Some x → IsFit v o → IsFor v.own x
fit_at v o x is fit = subst (λ o. IsFit v o) is fit

pub prepared_at : (v : SubscriberValue) (o : Option SubscriberEvent) (x : SubscriberEvent) → o ≡ Some x → IsPrepared v o → IsPreparedFor v x
prepared_at v o x is prepared = subst (λ o. IsPrepared v o) is prepared

-- Of all events but a frame just the copies lie ready.
pub announced_ready : (v : SubscriberValue) (list : List Announcing) → IsPreparedFor v (event.announce list) → IsReady v (event.announce list)
announced_ready v list (inl ready) = ready
announced_ready v list (inr none) = absurd none.1

pub revoked_ready : (v : SubscriberValue) (key : PmuKey) → IsPreparedFor v (event.revoke key) → IsReady v (event.revoke key)
revoked_ready v key (inl ready) = ready
revoked_ready v key (inr none) = absurd none.1

pub ticked_ready : (v : SubscriberValue) (soc : ℕ) → IsPreparedFor v (event.tick soc) → IsReady v (event.tick soc)
ticked_ready v soc (inl ready) = ready
ticked_ready v soc (inr none) = absurd none.1

pub prepared_none : (v : SubscriberValue) (o : Option SubscriberEvent) → o ≡ None → IsPrepared v o → HasNoCopies v
prepared_none v o is prepared = subst (λ o. IsPrepared v o) is prepared

pub prepares : (v : SubscriberValue) (o : Option SubscriberEvent) (x : SubscriberEvent) → o ≡ Some x → IsPreparedFor v x → IsPrepared v o
prepares v o x is prepared = subst (λ o. IsPrepared v o) (sym is) prepared

pub prepares_none : (v : SubscriberValue) (o : Option SubscriberEvent) → o ≡ None → HasNoCopies v → IsPrepared v o
prepares_none v o is none = subst (λ o. IsPrepared v o) (sym is) none

pub needless_at : (v : SubscriberValue) (o : Option SubscriberEvent) (x : SubscriberEvent) → o ≡ Some x → NeedsNoCopy v o → NeedsNone v x
needless_at v o x is needs = subst (λ o. NeedsNoCopy v o) is needs

-- Copies are laid by one that has no share, and that is spared; by one that has; or memory is refused. `inner` is what the
-- subscriber held before.
pub prepares_nothing : (o : Broadcast) (old inner : SlotValue) → inner ≡ old → HasNone old → share o old.subscriber.own.grants ≡ None
    → PreparesShare o old (Ok tt) (record inner { spared = true })
prepares_nothing o old inner is none nothing = record {
  prepared = prepares_none inner.subscriber _ nothing (subst (λ (v : SlotValue). HasNoCopies v.subscriber) (sym is) none.0);
  memory = tt;
  needless = λ _. refl;
  spared = λ _. nothing;
  own = ap (λ (v : SlotValue). v.subscriber.own) is;
  audit = ap (λ (v : SlotValue). v.audit) is;
}

pub prepares_no_share : (o : Broadcast) (old inner : SlotValue) → inner ≡ old → HasNone old → share o old.subscriber.own.grants ≡ None → PreparesShare o old (Ok tt) inner
prepares_no_share o old inner is none nothing = record {
  prepared = prepares_none inner.subscriber _ nothing (subst (λ (v : SlotValue). HasNoCopies v.subscriber) (sym is) none.0);
  memory = tt;
  needless = λ _. refl;
  spared = λ _. nothing;
  own = ap (λ (v : SlotValue). v.subscriber.own) is;
  audit = ap (λ (v : SlotValue). v.audit) is;
}

pub prepares_some : (o : Broadcast) (old inner : SlotValue) (x : SubscriberEvent) (after : SubscriberValue) → inner ≡ old → HasNone old → share o old.subscriber.own.grants ≡ Some x
    → IsPreparedFor after x → after.own ≡ inner.subscriber.own → PreparesShare o old (Ok tt) (record inner { subscriber = after })
prepares_some o old inner x after is none some prepared own = record {
  prepared = prepares after _ x some prepared;
  memory = tt;
  needless = λ _. refl;
  spared = λ spared. absurd (true≢false (sym spared ∙ ap (λ (v : SlotValue). v.spared) is ∙ none.1));
  own = own ∙ ap (λ (v : SlotValue). v.subscriber.own) is;
  audit = ap (λ (v : SlotValue). v.audit) is;
}

pub prepares_refused : (o : Broadcast) (old inner : SlotValue) (x : SubscriberEvent) (r : Refusal) (after : SubscriberValue) → inner ≡ old → share o old.subscriber.own.grants ≡ Some x
    → r ≡ NoMemory → (NeedsNone inner.subscriber x → false ≡ true) → after.own ≡ inner.subscriber.own → PreparesShare o old (Err r) (record inner { subscriber = after })
prepares_refused o old inner x r after is some memory needless own = record {
  prepared = tt;
  memory = memory;
  needless = λ needs. needless (subst (λ (v : SlotValue). NeedsNone v.subscriber x) (sym is) (needless_at old.subscriber _ x some needs));
  spared = tt;
  own = own ∙ ap (λ (v : SlotValue). v.subscriber.own) is;
  audit = ap (λ (v : SlotValue). v.audit) is;
}

pub prepares_share : (o : Broadcast) (old inner : SlotValue) (x : SubscriberEvent) (result : Result Unit Refusal) (after : SubscriberValue) → inner ≡ old → HasNone old
    → share o old.subscriber.own.grants ≡ Some x → IfOk result (λ u. IsPreparedFor after x) → IfErr result (λ r. r ≡ NoMemory) → (NeedsNone inner.subscriber x → IsOk result)
    → after.own ≡ inner.subscriber.own → PreparesShare o old result (record inner { subscriber = after })
prepares_share o old inner x (Ok tt) after is none some prepared memory needless own = prepares_some o old inner x after is none some prepared own
prepares_share o old inner x (Err r) after is none some prepared memory needless own = prepares_refused o old inner x r after is some memory needless own

-- An event for all is taken by one that has no share, and by one that has.
pub offer_none : (o : Broadcast) (lost : Bool) (v : SlotValue) → share o v.subscriber.own.grants ≡ None → Awaits o v → TakesBroadcast o lost v (0, 0) v
offer_none o lost v none awaits = record {
  shares = λ s h. none_taken o lost v s h none;
  few = omega arith;
  kept = omega arith;
  none = prepared_none v.subscriber _ none awaits.prepared;
}

pub offer_some : (o : Broadcast) (lost : Bool) (old new : SlotValue) (x : SubscriberEvent) (t : ReplyValue) (counts : ℕ × ℕ) → share o old.subscriber.own.grants ≡ Some x
    → Takes old.subscriber x lost t new.subscriber → ((s : SubscriberSlot) → SlotShows old s → audit.ShowsAudit new.audit (s.noted ++ notes_of o))
    → counts ≡ counts_of t → (counts.0 ≤ 640) × (counts.1 ≤ counts.0) → HasNoCopies new.subscriber → TakesBroadcast o lost old counts new
offer_some o lost old new x t counts some takes noted is few none = record {
  shares = λ s h. subst (λ (c : ℕ × ℕ). TakesShare o lost c.0 c.1 s new) (sym is) (some_taken o lost old new x t s h some takes (noted s h));
  few = few.0;
  kept = few.1;
  none = none;
}

-- what is no part of a subscriber's own state says nothing of it
fit_same : (v w : SubscriberValue) (o : Option SubscriberEvent) → w.own ≡ v.own → IsFit v o → IsFit w o
fit_same v w None same fit = tt
fit_same v w (Some x) same fit = subst (λ own. IsFor own x) (sym same) fit

pub awaits_prepared : (o : Broadcast) (v w : SlotValue) → w.subscriber.own ≡ v.subscriber.own → Fits o v → IsPrepared w.subscriber (share o v.subscriber.own.grants)
    → (w.spared ≡ true → share o v.subscriber.own.grants ≡ None) → Awaits o w
awaits_prepared o v w same fit prepared spared =
    let grants : v.subscriber.own.grants ≡ w.subscriber.own.grants = ap (λ (own : Own). own.grants) (sym same) in
    record {
      fit = subst (λ g. IsFit w.subscriber (share o g)) grants (fit_same v.subscriber w.subscriber (share o v.subscriber.own.grants) same fit);
      prepared = subst (λ g. IsPrepared w.subscriber (share o g)) grants prepared;
      spared = λ is. subst (λ g. share o g ≡ None) grants (spared is);
    }

pub shows_kept : (v w : SlotValue) (s : SubscriberSlot) → w.subscriber.own ≡ v.subscriber.own → w.audit ≡ v.audit → SlotShows v s → SlotShows w s
shows_kept v w s own noted shown =
    record {
      subscriber = subst (λ p. OwnShows p s.own) (sym own) shown.subscriber;
      audit = subst (λ a. audit.ShowsAudit a s.noted) (sym noted) shown.audit;
    }

-- one that has no share is spared no more
pub offer_cleared : (o : Broadcast) (lost : Bool) (old inner : SlotValue) → inner ≡ old → share o old.subscriber.own.grants ≡ None → Awaits o old
    → TakesBroadcast o lost old (0, 0) (record inner { spared = false })
offer_cleared o lost old inner is none awaits = record {
  shares = λ s h.
      let taken = none_taken o lost old s h none in
      record {
        count = taken.count;
        none_kept = taken.none_kept;
        shows = shows_kept old (record inner { spared = false }) _ (ap (λ (v : SlotValue). v.subscriber.own) is) (ap (λ (v : SlotValue). v.audit) is) taken.shows;
      };
  few = omega arith;
  kept = omega arith;
  none = subst (λ (v : SlotValue). HasNoCopies v.subscriber) (sym is) (prepared_none old.subscriber _ none awaits.prepared);
}
