use Rattle.std.proofs.Common.{◌≡◌, ◌<◌, List, [], ◌∷◌, length, replicate, slice_index_or, Some, None, Ok, Err, true, false, refl, ap, sym, ◌∙◌, subst, arith}
use Rattle.pg_wire.specs.declared.ids.PmuKey.{PmuKey}
use Rattle.pg_data.specs.Measurements.{Measurement, IsMeasurement}
use Rattle.pg_data.specs.Pieces.{Piece}
use Rattle.pg_stream.specs.Slots.{slot_at}
use Rattle.pg_align.specs.Histories.{is_above}
use Rattle.pg_align.specs.Slots.{Aligned}
use Rattle.pg_outcfg.specs.Ordered.{pieces_in}
use Rattle.pg_session.specs.Events.{samples_at}
use Rattle.pg_session.specs.Streams.{StreamOf, Turn, placed, still, measure_turn}
use Rattle.pg_session.specs.Sending.{Sending, Sends}
use Rattle.pg_session.specs.Kept.{by_slots}
use Rattle.pg_session.specs.Fields.{with_stats, turn_stats}
use Rattle.pg_session.specs.Filling.{filled, may_keep}
use Rattle.pg_session.proofs.Sending.{sends-none}
use Rattle.pg_session.proofs.Simulating.{placed-within, stream_of}
use Rattle.pg_session.proofs.Measuring.{nothing-turns, measure_is, placed_few}
use Rattle.pg_session.proofs.Filled.{fills_turn, blocks_came}
use Rattle.pg_session.proofs.OneBlock.{alone_where, late_turn, left_turn, only_member, within_one}
use Rattle.pg_session.specs.declared.filling.Brought.{Brought}
use Rattle.pg_session.specs.declared.filling.Brought.TheVariants as brought
use Rattle.pg_session.proofs.stream.Stream.pass_one.Goals as goal

-- the block is not the only member's
no_block : (c : goal.In_default)
    → placed (c.index-members-0.result ∷ []) c.args.frame.now.quality (samples_at c.args.frame.now (c.args.place ∷ [])) ≡ []
no_block c = by c.place_one.result refl
  where
    by : (r : Brought) → c.place_one.result ≡ r
        → placed (c.index-members-0.result ∷ []) c.args.frame.now.quality (samples_at c.args.frame.now (c.args.place ∷ [])) ≡ []
    by brought.Nothing e = c.place_one.ensures.nothing e
    by brought.All e = absurd (c.in_default.not-All e)
    by brought.Some e = absurd (c.place_one.ensures.never e)

pub returns-in_default : goal.returns-in_default
returns-in_default c =
    let m = c.args.frame.now in
    let place = c.args.place in
    let def = c.self.inside.definition in
    let a = c.self.inside.align in
    let s : StreamOf (Aligned Piece) = stream_of def a c.self.inside.changes c.self.inside.layouts in
    let samples = samples_at m (place ∷ []) in
    let listed = c.args.listed.now in
    let out = c.args.output.now in
    let x = c.index-members-0.result in
    let on : a.is_on ≡ true = subst (λ (v : StreamOf (Aligned Piece)). v.slots.is_on ≡ true) (sym c.self.view_is) c.requires.on in
    let alone = alone_where s on (subst (λ (v : StreamOf (Aligned Piece)). may_keep v ≡ false) (sym c.self.view_is) c.requires.keeps) in
    let only = only_member def.members x alone.0 (omega (arith, c.self.invariant.limits.members.some))
    (c.index-members-0.is ∙ ap (λ ms. slice_index_or ms 0 x) c.as_slice-members.ensures.value) in
    let blocks = placed def.members m.quality samples in
    let none = ap (λ ms. placed ms m.quality samples) only ∙ no_block c in
    let turn = nothing-turns listed m (place ∷ []) s (ap length none) in
    let here : Sends (still s).frames (with_stats out (turn_stats (still s) out.output.stats)) out = sends-none out in
    record {
      stream = subst (λ (v : StreamOf (Aligned Piece)). v ≡ (measure_turn by_slots listed m.soc m.quality m.frac samples v).stream) c.self.view_is
          (sym (ap (λ (u : Turn (Aligned Piece)). u.stream) turn));
      sends = subst (λ (v : StreamOf (Aligned Piece)). Sends (measure_turn by_slots listed m.soc m.quality m.frac samples v).frames
          (with_stats out (turn_stats (measure_turn by_slots listed m.soc m.quality m.frac samples v) out.output.stats)) out) c.self.view_is
          (subst (λ (u : Turn (Aligned Piece)). Sends u.frames (with_stats out (turn_stats u out.output.stats)) out) (sym turn) here);
      bounded = omega arith;
    }

pub returns-in-Ok-clause-stream : goal.returns-in-Ok-clause-stream
returns-in-Ok-clause-stream c =
    let m = c.args.frame.now in
    let place = c.args.place in
    let def = c.self.inside.definition in
    let a = c.self.inside.align in
    let s : StreamOf (Aligned Piece) = stream_of def a c.self.inside.changes c.self.inside.layouts in
    let samples = samples_at m (place ∷ []) in
    let listed = c.args.listed.now in
    let out = c.args.output.now in
    let x = c.index-members-0.result in
    let on : a.is_on ≡ true = subst (λ (v : StreamOf (Aligned Piece)). v.slots.is_on ≡ true) (sym c.self.view_is) c.requires.on in
    let alone = alone_where s on (subst (λ (v : StreamOf (Aligned Piece)). may_keep v ≡ false) (sym c.self.view_is) c.requires.keeps) in
    let only = only_member def.members x alone.0 (omega (arith, c.self.invariant.limits.members.some))
    (c.index-members-0.is ∙ ap (λ ms. slice_index_or ms 0 x) c.as_slice-members.ensures.value) in
    let blocks = placed def.members m.quality samples in
    let order = c.place_one.new.order in
    let came = subst (λ (ms : List PmuKey). (0 < length (placed ms m.quality samples))
    × (filled (replicate (length ms) None) (placed ms m.quality samples) ≡ Some (pieces_in m order))) (sym only) (c.place_one.ensures.all c.in-All.is) in
    let is : IsMeasurement m = c.count-count.ensures.keeps in
    let exact : c.slot_of.result ≡ slot_at def.rate c.base.result m.soc m.frac =
    subst (λ (x : Measurement). c.slot_of.result ≡ slot_at def.rate c.base.result x.soc x.frac) c.frame.view_is c.slot_of.ensures.exact in
    let turn = measure_is listed m (place ∷ []) s (length blocks) c.base.result (Ok c.in-Ok.slot) is (within_one _ place c.requires.place) on
    refl came.0 c.base.ensures.value (sym c.in-Ok.is ∙ exact) in
    let slot = c.in-Ok.slot in
    let above : is_above a.last slot ≡ true = sym c.is_after_last.ensures.shown ∙ c.if-is_after_last.true in
    let here = turn ∙ fills_turn listed s slot blocks (pieces_in m order) above alone.1 c.self.invariant.places came.0 came.1
    (blocks_came m _ order (c.place_one.ensures.blocks c.in-All.is)) in
    let whole = subst (λ (v : StreamOf (Aligned Piece)). measure_turn by_slots listed m.soc m.quality m.frac samples v ≡ left_turn listed v slot (pieces_in m order)) c.self.view_is here in
    c.leave_filled.ensures.stream ∙ sym (ap (λ (u : Turn (Aligned Piece)). u.stream) whole)

pub returns-in-Ok-clause-sends : goal.returns-in-Ok-clause-sends
returns-in-Ok-clause-sends c =
    let m = c.args.frame.now in
    let place = c.args.place in
    let def = c.self.inside.definition in
    let a = c.self.inside.align in
    let s : StreamOf (Aligned Piece) = stream_of def a c.self.inside.changes c.self.inside.layouts in
    let samples = samples_at m (place ∷ []) in
    let listed = c.args.listed.now in
    let out = c.args.output.now in
    let x = c.index-members-0.result in
    let on : a.is_on ≡ true = subst (λ (v : StreamOf (Aligned Piece)). v.slots.is_on ≡ true) (sym c.self.view_is) c.requires.on in
    let alone = alone_where s on (subst (λ (v : StreamOf (Aligned Piece)). may_keep v ≡ false) (sym c.self.view_is) c.requires.keeps) in
    let only = only_member def.members x alone.0 (omega (arith, c.self.invariant.limits.members.some))
    (c.index-members-0.is ∙ ap (λ ms. slice_index_or ms 0 x) c.as_slice-members.ensures.value) in
    let blocks = placed def.members m.quality samples in
    let order = c.place_one.new.order in
    let came = subst (λ (ms : List PmuKey). (0 < length (placed ms m.quality samples))
    × (filled (replicate (length ms) None) (placed ms m.quality samples) ≡ Some (pieces_in m order))) (sym only) (c.place_one.ensures.all c.in-All.is) in
    let is : IsMeasurement m = c.count-count.ensures.keeps in
    let exact : c.slot_of.result ≡ slot_at def.rate c.base.result m.soc m.frac =
    subst (λ (x : Measurement). c.slot_of.result ≡ slot_at def.rate c.base.result x.soc x.frac) c.frame.view_is c.slot_of.ensures.exact in
    let turn = measure_is listed m (place ∷ []) s (length blocks) c.base.result (Ok c.in-Ok.slot) is (within_one _ place c.requires.place) on
    refl came.0 c.base.ensures.value (sym c.in-Ok.is ∙ exact) in
    let slot = c.in-Ok.slot in
    let above : is_above a.last slot ≡ true = sym c.is_after_last.ensures.shown ∙ c.if-is_after_last.true in
    let here = turn ∙ fills_turn listed s slot blocks (pieces_in m order) above alone.1 c.self.invariant.places came.0 came.1
    (blocks_came m _ order (c.place_one.ensures.blocks c.in-All.is)) in
    let whole = subst (λ (v : StreamOf (Aligned Piece)). measure_turn by_slots listed m.soc m.quality m.frac samples v ≡ left_turn listed v slot (pieces_in m order)) c.self.view_is here in
    subst (λ (u : Turn (Aligned Piece)). Sends u.frames (with_stats out (turn_stats u out.output.stats)) c.leave_filled.new.output) (sym whole) c.leave_filled.ensures.sends

pub returns-in-Ok-2-clause-stream : goal.returns-in-Ok-2-clause-stream
returns-in-Ok-2-clause-stream c =
    let m = c.args.frame.now in
    let place = c.args.place in
    let def = c.self.inside.definition in
    let a = c.self.inside.align in
    let s : StreamOf (Aligned Piece) = stream_of def a c.self.inside.changes c.self.inside.layouts in
    let samples = samples_at m (place ∷ []) in
    let listed = c.args.listed.now in
    let out = c.args.output.now in
    let x = c.index-members-0.result in
    let on : a.is_on ≡ true = subst (λ (v : StreamOf (Aligned Piece)). v.slots.is_on ≡ true) (sym c.self.view_is) c.requires.on in
    let alone = alone_where s on (subst (λ (v : StreamOf (Aligned Piece)). may_keep v ≡ false) (sym c.self.view_is) c.requires.keeps) in
    let only = only_member def.members x alone.0 (omega (arith, c.self.invariant.limits.members.some))
    (c.index-members-0.is ∙ ap (λ ms. slice_index_or ms 0 x) c.as_slice-members.ensures.value) in
    let blocks = placed def.members m.quality samples in
    let order = c.place_one.new.order in
    let came = subst (λ (ms : List PmuKey). (0 < length (placed ms m.quality samples))
    × (filled (replicate (length ms) None) (placed ms m.quality samples) ≡ Some (pieces_in m order))) (sym only) (c.place_one.ensures.all c.in-All.is) in
    let is : IsMeasurement m = c.count-count.ensures.keeps in
    let exact : c.slot_of.result ≡ slot_at def.rate c.base.result m.soc m.frac =
    subst (λ (x : Measurement). c.slot_of.result ≡ slot_at def.rate c.base.result x.soc x.frac) c.frame.view_is c.slot_of.ensures.exact in
    let turn = measure_is listed m (place ∷ []) s (length blocks) c.base.result (Ok c.in-Ok.slot) is (within_one _ place c.requires.place) on
    refl came.0 c.base.ensures.value (sym c.in-Ok.is ∙ exact) in
    let late : is_above a.last c.in-Ok.slot ≡ false = sym c.is_after_last.ensures.shown ∙ c.if-is_after_last.false in
    let one : length blocks ≡ 1 = let few = placed_few def.members m (place ∷ []) in omega (arith, came.0, few) in
    let here = turn ∙ late_turn listed s c.in-Ok.slot blocks one (placed-within def.members m.quality samples) alone.0 late alone.1 in
    let made = ap (λ (x : Aligned Piece). stream_of def x c.self.inside.changes c.self.inside.layouts) c.note_late.ensures.shown in
    subst (λ (v : StreamOf (Aligned Piece)). stream_of def c.note_late.new.self c.self.inside.changes c.self.inside.layouts ≡ (measure_turn by_slots listed m.soc m.quality m.frac samples v).stream) c.self.view_is
    (made ∙ sym (ap (λ (u : Turn (Aligned Piece)). u.stream) here))

pub returns-in-Ok-2-clause-sends : goal.returns-in-Ok-2-clause-sends
returns-in-Ok-2-clause-sends c =
    let m = c.args.frame.now in
    let place = c.args.place in
    let def = c.self.inside.definition in
    let a = c.self.inside.align in
    let s : StreamOf (Aligned Piece) = stream_of def a c.self.inside.changes c.self.inside.layouts in
    let samples = samples_at m (place ∷ []) in
    let listed = c.args.listed.now in
    let out = c.args.output.now in
    let x = c.index-members-0.result in
    let on : a.is_on ≡ true = subst (λ (v : StreamOf (Aligned Piece)). v.slots.is_on ≡ true) (sym c.self.view_is) c.requires.on in
    let alone = alone_where s on (subst (λ (v : StreamOf (Aligned Piece)). may_keep v ≡ false) (sym c.self.view_is) c.requires.keeps) in
    let only = only_member def.members x alone.0 (omega (arith, c.self.invariant.limits.members.some))
    (c.index-members-0.is ∙ ap (λ ms. slice_index_or ms 0 x) c.as_slice-members.ensures.value) in
    let blocks = placed def.members m.quality samples in
    let order = c.place_one.new.order in
    let came = subst (λ (ms : List PmuKey). (0 < length (placed ms m.quality samples))
    × (filled (replicate (length ms) None) (placed ms m.quality samples) ≡ Some (pieces_in m order))) (sym only) (c.place_one.ensures.all c.in-All.is) in
    let is : IsMeasurement m = c.count-count.ensures.keeps in
    let exact : c.slot_of.result ≡ slot_at def.rate c.base.result m.soc m.frac =
    subst (λ (x : Measurement). c.slot_of.result ≡ slot_at def.rate c.base.result x.soc x.frac) c.frame.view_is c.slot_of.ensures.exact in
    let turn = measure_is listed m (place ∷ []) s (length blocks) c.base.result (Ok c.in-Ok.slot) is (within_one _ place c.requires.place) on
    refl came.0 c.base.ensures.value (sym c.in-Ok.is ∙ exact) in
    let late : is_above a.last c.in-Ok.slot ≡ false = sym c.is_after_last.ensures.shown ∙ c.if-is_after_last.false in
    let one : length blocks ≡ 1 = let few = placed_few def.members m (place ∷ []) in omega (arith, came.0, few) in
    let here = turn ∙ late_turn listed s c.in-Ok.slot blocks one (placed-within def.members m.quality samples) alone.0 late alone.1 in
    let new = c.count_late.new.self in
    let sent : Sends [] (with_stats out (turn_stats (record (still s) { late = 1 }) out.output.stats)) new = subst (λ (o : Sending). Sends [] o new) c.count_late.ensures (sends-none new) in
    subst (λ (v : StreamOf (Aligned Piece)). Sends (measure_turn by_slots listed m.soc m.quality m.frac samples v).frames
    (with_stats out (turn_stats (measure_turn by_slots listed m.soc m.quality m.frac samples v) out.output.stats)) new) c.self.view_is
    (subst (λ (u : Turn (Aligned Piece)). Sends u.frames (with_stats out (turn_stats u out.output.stats)) new) (sym here) sent)

pub returns-in-Err-clause-stream : goal.returns-in-Err-clause-stream
returns-in-Err-clause-stream c =
    let m = c.args.frame.now in
    let place = c.args.place in
    let def = c.self.inside.definition in
    let a = c.self.inside.align in
    let s : StreamOf (Aligned Piece) = stream_of def a c.self.inside.changes c.self.inside.layouts in
    let samples = samples_at m (place ∷ []) in
    let listed = c.args.listed.now in
    let out = c.args.output.now in
    let x = c.index-members-0.result in
    let on : a.is_on ≡ true = subst (λ (v : StreamOf (Aligned Piece)). v.slots.is_on ≡ true) (sym c.self.view_is) c.requires.on in
    let alone = alone_where s on (subst (λ (v : StreamOf (Aligned Piece)). may_keep v ≡ false) (sym c.self.view_is) c.requires.keeps) in
    let only = only_member def.members x alone.0 (omega (arith, c.self.invariant.limits.members.some))
    (c.index-members-0.is ∙ ap (λ ms. slice_index_or ms 0 x) c.as_slice-members.ensures.value) in
    let blocks = placed def.members m.quality samples in
    let order = c.place_one.new.order in
    let came = subst (λ (ms : List PmuKey). (0 < length (placed ms m.quality samples))
    × (filled (replicate (length ms) None) (placed ms m.quality samples) ≡ Some (pieces_in m order))) (sym only) (c.place_one.ensures.all c.in-All.is) in
    let is : IsMeasurement m = c.count-count.ensures.keeps in
    let exact : c.slot_of.result ≡ slot_at def.rate c.base.result m.soc m.frac =
    subst (λ (x : Measurement). c.slot_of.result ≡ slot_at def.rate c.base.result x.soc x.frac) c.frame.view_is c.slot_of.ensures.exact in
    let turn = measure_is listed m (place ∷ []) s (length blocks) c.base.result (Err c.in-Err.field-0) is (within_one _ place c.requires.place) on
    refl came.0 c.base.ensures.value (sym c.in-Err.is ∙ exact) in
    let one : length blocks ≡ 1 = let few = placed_few def.members m (place ∷ []) in omega (arith, came.0, few) in
    let here = turn ∙ ap (λ n. record (still s) { past = n }) one in
    subst (λ (v : StreamOf (Aligned Piece)). v ≡ (measure_turn by_slots listed m.soc m.quality m.frac samples v).stream) c.self.view_is
    (sym (ap (λ (u : Turn (Aligned Piece)). u.stream) here))

pub returns-in-Err-clause-sends : goal.returns-in-Err-clause-sends
returns-in-Err-clause-sends c =
    let m = c.args.frame.now in
    let place = c.args.place in
    let def = c.self.inside.definition in
    let a = c.self.inside.align in
    let s : StreamOf (Aligned Piece) = stream_of def a c.self.inside.changes c.self.inside.layouts in
    let samples = samples_at m (place ∷ []) in
    let listed = c.args.listed.now in
    let out = c.args.output.now in
    let x = c.index-members-0.result in
    let on : a.is_on ≡ true = subst (λ (v : StreamOf (Aligned Piece)). v.slots.is_on ≡ true) (sym c.self.view_is) c.requires.on in
    let alone = alone_where s on (subst (λ (v : StreamOf (Aligned Piece)). may_keep v ≡ false) (sym c.self.view_is) c.requires.keeps) in
    let only = only_member def.members x alone.0 (omega (arith, c.self.invariant.limits.members.some))
    (c.index-members-0.is ∙ ap (λ ms. slice_index_or ms 0 x) c.as_slice-members.ensures.value) in
    let blocks = placed def.members m.quality samples in
    let order = c.place_one.new.order in
    let came = subst (λ (ms : List PmuKey). (0 < length (placed ms m.quality samples))
    × (filled (replicate (length ms) None) (placed ms m.quality samples) ≡ Some (pieces_in m order))) (sym only) (c.place_one.ensures.all c.in-All.is) in
    let is : IsMeasurement m = c.count-count.ensures.keeps in
    let exact : c.slot_of.result ≡ slot_at def.rate c.base.result m.soc m.frac =
    subst (λ (x : Measurement). c.slot_of.result ≡ slot_at def.rate c.base.result x.soc x.frac) c.frame.view_is c.slot_of.ensures.exact in
    let turn = measure_is listed m (place ∷ []) s (length blocks) c.base.result (Err c.in-Err.field-0) is (within_one _ place c.requires.place) on
    refl came.0 c.base.ensures.value (sym c.in-Err.is ∙ exact) in
    let one : length blocks ≡ 1 = let few = placed_few def.members m (place ∷ []) in omega (arith, came.0, few) in
    let here = turn ∙ ap (λ n. record (still s) { past = n }) one in
    let new = c.count_past.new.self in
    let sent : Sends [] (with_stats out (turn_stats (record (still s) { past = 1 }) out.output.stats)) new = subst (λ (o : Sending). Sends [] o new) c.count_past.ensures (sends-none new) in
    subst (λ (v : StreamOf (Aligned Piece)). Sends (measure_turn by_slots listed m.soc m.quality m.frac samples v).frames
    (with_stats out (turn_stats (measure_turn by_slots listed m.soc m.quality m.frac samples v) out.output.stats)) new) c.self.view_is
    (subst (λ (u : Turn (Aligned Piece)). Sends u.frames (with_stats out (turn_stats u out.output.stats)) new) (sym here) sent)
