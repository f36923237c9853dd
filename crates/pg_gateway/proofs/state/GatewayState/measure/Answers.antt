use Rattle.std.proofs.Common.{◌≡◌, length, true, false, sym, ap, subst, ◌∙◌, arith}
use Rattle.std.specs.Arc.{arc_value}
use Rattle.std.specs.Map.{keys_of}
use Rattle.pg_session.specs.Events.{samples_at}
use Rattle.pg_gateway.specs.Sharing.{measures}
use Rattle.pg_gateway.specs.Judging.{samples_in, taken_of}
use Rattle.pg_gateway.specs.Placing.{placed_counted, placed_refusal, placed_memory}
use Rattle.pg_gateway.specs.Taking.{Awaits, Fits, IsBroadcast, measured}
use Rattle.pg_gateway.specs.Routes.{WhereBit, IsPassed, masks_taken, SharesTold}
use Rattle.pg_gateway.proofs.RouteKept.{masks_length, keys_within, marks_within, measured_passes}
use Rattle.pg_gateway.proofs.MaskLaws.{measured_told, shares_told}
use Rattle.pg_gateway.specs.Frugal.{AllSlots, Spares}
use Rattle.pg_gateway.specs.Shown.{GatewayValue}
use Rattle.pg_gateway.proofs.Places.{samples-some}
use Rattle.pg_gateway.proofs.Counted.{placed_within, counted_placed, memory_placed, refusal_placed}
use Rattle.pg_gateway.proofs.Fitting.{all_fit_measured}
use Rattle.pg_gateway.proofs.MeasureLaws.{measured_refused, measured_memory, measured_goes, judged_shown, taken_shown, no_samples}
use Rattle.pg_gateway.proofs.state.GatewayState.measure.Goals as goal

pub count_blocks-requires : goal.count_blocks-requires
count_blocks-requires c = record { within = rw c.deref.ensures.value (placed_within _ _ _ c.judge_shared-some.ensures.blocks) }

pub count_memory-requires : goal.count_memory-requires
count_memory-requires c = record { within = rw c.deref-in-Err.ensures.value (placed_within _ _ _ c.judge_shared-some.ensures.blocks) }

pub count_blocks-requires-2 : goal.count_blocks-requires-2
count_blocks-requires-2 c = record { within = rw c.deref-4.ensures.value (placed_within _ _ _ c.judge_shared-some.ensures.blocks) }

pub shares_of-granted_some-requires-clause-within : goal.shares_of-granted_some-requires-clause-within
shares_of-granted_some-requires-clause-within c =
    rw c.deref-2.ensures.value (rw (masks_length c.self.inside.subs.entries (keys_of c.self.inside.registry) c.refresh.new.self.masks c.refresh.ensures.masks) (keys_within c.self.inside.registry _ (placed_within _ _ _ c.judge_shared-some.ensures.blocks)))

pub shares_of-granted_some-requires-clause-few : goal.shares_of-granted_some-requires-clause-few
shares_of-granted_some-requires-clause-few c = rw c.deref-2.ensures.value (omega (arith, c.judge_shared-some.ensures.few, c.judge_shared-some.new.blocks.ok))

pub prepare_frame-requires-clause-some : goal.prepare_frame-requires-clause-some
prepare_frame-requires-clause-some c = rw c.deref-3.ensures.value (c.judge_shared-some.ensures.some c.if-not-some.false)

pub prepare_frame-requires-clause-tell : goal.prepare_frame-requires-clause-tell
prepare_frame-requires-clause-tell c =
    let m = arc_value c.args.frame.now in
    let xs = c.self.inside.subs.entries in
    let taken = c.judge_shared-some.new.taken.items in
    let blocks = c.judge_shared-some.new.blocks.items in
    let masks = c.refresh.new.self.masks in
    let tell = measured_told m c.self.inside.registry c.self.inside.last_tick xs masks taken blocks
    c.refresh.ensures.masks c.judge_shared-some.ensures.rising c.judge_shared-some.ensures.taken c.judge_shared-some.ensures.blocks in
    let granted_all = rw c.deref-2.ensures.value at c.shares_of-granted_some.ensures.granted_all in
    let granted_blocks = rw c.deref-2.ensures.value at c.shares_of-granted_some.ensures.granted_blocks in
    subst (λ places. SharesTold c.shares_of-granted_some.result.1 c.shares_of-granted_some.new.granted_blocks m.config places c.shares_of-granted_some.result.0 xs) (sym c.deref-3.ensures.value)
    (shares_told m xs (masks_taken masks blocks) taken c.shares_of-granted_some.result.0 c.shares_of-granted_some.result.1 c.shares_of-granted_some.new.granted_blocks tell.0 tell.1 granted_all granted_blocks)

pub prepare_frame-requires-clause-alone : goal.prepare_frame-requires-clause-alone
prepare_frame-requires-clause-alone c = λ one.
    let tell = measured_told (arc_value c.args.frame.now) c.self.inside.registry c.self.inside.last_tick c.self.inside.subs.entries c.refresh.new.self.masks c.judge_shared-some.new.taken.items c.judge_shared-some.new.blocks.items
    c.refresh.ensures.masks c.judge_shared-some.ensures.rising c.judge_shared-some.ensures.taken c.judge_shared-some.ensures.blocks in
    (rw c.deref-2.ensures.value at c.shares_of-granted_some.ensures.alone) (tell.0 ∙ sym (ap length c.deref-3.ensures.value) ∙ one)

pub deliver_frame-made-requires-clause-alone : goal.deliver_frame-made-requires-clause-alone
deliver_frame-made-requires-clause-alone c = λ one.
    let tell = measured_told (arc_value c.args.frame.now) c.self.inside.registry c.self.inside.last_tick c.self.inside.subs.entries c.refresh.new.self.masks c.judge_shared-some.new.taken.items c.judge_shared-some.new.blocks.items
    c.refresh.ensures.masks c.judge_shared-some.ensures.rising c.judge_shared-some.ensures.taken c.judge_shared-some.ensures.blocks in
    (rw c.deref-2.ensures.value at c.shares_of-granted_some.ensures.alone) (tell.0 ∙ sym (ap length c.deref-5.ensures.value) ∙ one)

pub prepare_frame-requires-clause-bits : goal.prepare_frame-requires-clause-bits
prepare_frame-requires-clause-bits c =
    marks_within c.self.inside.subs.entries (keys_of c.self.inside.registry) c.refresh.new.self.masks c.deref-2.result.now c.shares_of-granted_some.result.0 c.refresh.ensures.masks c.shares_of-granted_some.ensures.none

pub prepare_frame-requires-clause-passed : goal.prepare_frame-requires-clause-passed
prepare_frame-requires-clause-passed c =
    let m = arc_value c.args.frame.now in
    let xs = c.self.inside.subs.entries in
    let pmus = c.self.inside.registry in
    let last = c.self.inside.last_tick in
    subst (λ places. WhereBit 0 c.shares_of-granted_some.result.0 (IsPassed (measured m places)) xs) (sym c.deref-3.ensures.value)
    (measured_passes m pmus last xs c.refresh.new.self.masks c.judge_shared-some.new.taken.items c.judge_shared-some.new.blocks.items c.shares_of-granted_some.result.0
    c.refresh.ensures.masks c.judge_shared-some.ensures.taken c.judge_shared-some.ensures.blocks
    (rw (← c.deref-2.ensures.value) c.shares_of-granted_some.ensures.covers))

pub deliver_frame-made-requires-clause-some : goal.deliver_frame-made-requires-clause-some
deliver_frame-made-requires-clause-some c = rw c.deref-5.ensures.value (c.judge_shared-some.ensures.some c.if-not-some.false)

pub deliver_frame-made-requires-clause-tell : goal.deliver_frame-made-requires-clause-tell
deliver_frame-made-requires-clause-tell c =
    subst (λ places. SharesTold c.shares_of-granted_some.result.1 c.shares_of-granted_some.new.granted_blocks (arc_value c.args.frame.now).config places c.shares_of-granted_some.result.0 c.prepare_frame.new.subs.entries)
    (c.deref-3.ensures.value ∙ sym c.deref-5.ensures.value) c.in-Ok.ensures.tell

pub deliver_frame-made-requires-clause-bits : goal.deliver_frame-made-requires-clause-bits
deliver_frame-made-requires-clause-bits c =
    rw c.prepare_frame.ensures.len
    (marks_within c.self.inside.subs.entries (keys_of c.self.inside.registry) c.refresh.new.self.masks c.deref-2.result.now c.shares_of-granted_some.result.0 c.refresh.ensures.masks c.shares_of-granted_some.ensures.none)

pub deliver_frame-made-requires-clause-awaits : goal.deliver_frame-made-requires-clause-awaits
deliver_frame-made-requires-clause-awaits c =
    subst (λ places. WhereBit 1 c.shares_of-granted_some.result.0 (Awaits (measured (arc_value c.args.frame.now) places)) c.prepare_frame.new.subs.entries)
    (c.deref-3.ensures.value ∙ sym c.deref-5.ensures.value) c.in-Ok.ensures.prepared

pub prepare_frame-requires-clause-fits : goal.prepare_frame-requires-clause-fits
prepare_frame-requires-clause-fits c =
    let m = arc_value c.args.frame.now in
    let reached = c.requires.reached in
    let S = reached.state in
    let shown = rw (← c.self.view_is) at reached.shows in
    let taken = taken_shown m S _ c.judge_shared-some.new.taken.items shown c.judge_shared-some.ensures.taken in
    subst (λ o. AllSlots (Fits o) c.self.inside.subs.entries)
    (sym (ap (λ l. measures m.soc m.quality m.frac l) (ap (samples_at m) c.deref-3.ensures.value ∙ taken)))
    (all_fit_measured S.pmus S.last_tick m.soc m.quality m.frac (samples_in m) c.self.inside.subs.entries S.subs shown.subs reached.consistent.agree)

pub returns-then-not-some-clause-goes : goal.returns-then-not-some-clause-goes
returns-then-not-some-clause-goes c = λ S h.
    let m = arc_value c.args.frame.now in
    let items = c.judge_shared-some.new.blocks.items in
    let shown = rw (← c.self.view_is) at h in
    let placed = judged_shown m S _ items shown c.judge_shared-some.ensures.blocks in
    let none = sym (taken_shown m S _ c.judge_shared-some.new.taken.items shown c.judge_shared-some.ensures.taken) ∙ no_samples m _ (c.judge_shared-some.ensures.none c.if-not-some.true) in
    let counted = c.count_blocks.ensures ∙ ap (placed_counted c.self.inside.registry) c.deref.ensures.value ∙ ap (λ pmus. placed_counted pmus items) shown.pmus ∙ counted_placed S.pmus items _ placed in
    let first = c.first_refusal.ensures ∙ ap placed_refusal c.deref-then-not-some.ensures.value ∙ refusal_placed S.pmus items _ placed in
    rw first (measured_refused m S _ c.count_blocks.new.registry shown none counted)

pub returns-in-Err-clause-goes : goal.returns-in-Err-clause-goes
returns-in-Err-clause-goes c = λ S h.
    let m = arc_value c.args.frame.now in
    let items = c.judge_shared-some.new.blocks.items in
    let shown = rw (← c.self.view_is) at h in
    let placed = judged_shown m S _ items shown c.judge_shared-some.ensures.blocks in
    let there = samples-some m 0 c.judge_shared-some.new.taken.items c.judge_shared-some.ensures.rising (c.judge_shared-some.ensures.some c.if-not-some.false) in
    let some = sym (taken_shown m S _ c.judge_shared-some.new.taken.items shown c.judge_shared-some.ensures.taken) ∙ there.2 in
    let counted = c.count_memory.ensures ∙ ap (placed_memory c.self.inside.registry) c.deref-in-Err.ensures.value ∙ ap (λ pmus. placed_memory pmus items) shown.pmus ∙ memory_placed S.pmus items _ placed in
    rw c.in-Err.ensures.memory (measured_memory m S _ c.count_memory.new.registry c.prepare_frame.new.subs.entries there.0 there.1 shown some (c.prepare_frame.ensures.shows S.subs shown.subs) counted)

pub returns-in-Err-clause-frugal : goal.returns-in-Err-clause-frugal
returns-in-Err-clause-frugal c = λ S h none spares e.
    let m = arc_value c.args.frame.now in
    let xs = c.self.inside.subs.entries in
    let offer : measured m c.deref-3.result.now ≡ measures m.soc m.quality m.frac (taken_of c.self.inside.registry c.self.inside.last_tick m) =
    ap (λ l. measures m.soc m.quality m.frac l) (ap (samples_at m) c.deref-3.ensures.value ∙ c.judge_shared-some.ensures.taken) in
    let inside : AllSlots (Spares (measures m.soc m.quality m.frac (taken_of c.self.inside.registry c.self.inside.last_tick m))) xs =
    subst (λ (v : GatewayValue). AllSlots (Spares (measures m.soc m.quality m.frac (taken_of v.pmus v.last_tick m))) v.subs) (sym c.self.view_is) spares in
    let never : false ≡ true = c.in-Err.ensures.needless (subst (λ o. AllSlots (Spares o) xs) (sym offer) inside) in
    cc never

pub returns-clause-goes : goal.returns-clause-goes
returns-clause-goes c = λ S h.
    let m = arc_value c.args.frame.now in
    let items = c.judge_shared-some.new.blocks.items in
    let shown = rw (← c.self.view_is) at h in
    let placed = judged_shown m S _ items shown c.judge_shared-some.ensures.blocks in
    let taken = taken_shown m S _ c.judge_shared-some.new.taken.items shown c.judge_shared-some.ensures.taken in
    let there = samples-some m 0 c.judge_shared-some.new.taken.items c.judge_shared-some.ensures.rising (c.judge_shared-some.ensures.some c.if-not-some.false) in
    let some = sym taken ∙ there.2 in
    let counted = c.count_blocks-2.ensures ∙ ap (placed_counted c.self.inside.registry) c.deref-4.ensures.value ∙ ap (λ pmus. placed_counted pmus items) shown.pmus ∙ counted_placed S.pmus items _ placed in
    let offer = ap (λ l. measures m.soc m.quality m.frac l) (ap (samples_at m) c.deref-5.ensures.value ∙ taken) in
    let fans = subst (λ o. IsBroadcast o c.deliver_frame-made.result.0 c.deliver_frame-made.result.1 S.subs c.deliver_frame-made.new.subs.entries) offer (c.deliver_frame-made.ensures.broadcast S.subs (c.prepare_frame.ensures.shows S.subs shown.subs)) in
    measured_goes m S _ c.count_blocks-2.new.registry c.deliver_frame-made.new.subs.entries c.deliver_frame-made.result.0 c.deliver_frame-made.result.1 there.0 there.1 shown some fans c.deliver_frame-made.ensures.kept counted
