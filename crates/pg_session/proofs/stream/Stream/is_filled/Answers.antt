use Rattle.std.proofs.Common.{◌≡◌, is_some, length, replicate, None, true, ap, sym, ◌∙◌, subst, arith}
use Rattle.std.proofs.lemmas.List.{take-replicate}
use Rattle.pg_data.specs.Measurements.{resolution}
use Rattle.pg_data.specs.Pieces.{Piece}
use Rattle.pg_stream.specs.Slots.{slot_at}
use Rattle.pg_align.specs.Slots.{Aligned}
use Rattle.pg_session.specs.Events.{samples_at}
use Rattle.pg_session.specs.Streams.{StreamOf}
use Rattle.pg_session.specs.Filling.{can_leave, fills, is_full}
use Rattle.pg_session.proofs.Simulating.{stream_of}
use Rattle.pg_session.proofs.Measuring.{base_shared}
use Rattle.pg_session.proofs.Filled.{blocks_came, fills_where}
use Rattle.pg_session.proofs.stream.Stream.is_filled.Goals as goal

pub place_all-requires-clause-none : goal.place_all-requires-clause-none
place_all-requires-clause-none c =
    let len = ap length c.as_slice.ensures.value in
    take-replicate (length c.as_slice.result.now) 32 None (omega (arith, len, c.self.invariant.limits.members.few))
    ∙ ap (λ n. replicate n None) len

pub returns-in-All : goal.returns-in-All
returns-in-All c =
    let m = c.args.frame.now in
    let def = c.self.inside.definition in
    let s : StreamOf (Aligned Piece) = stream_of def c.self.inside.align c.self.inside.changes c.self.inside.layouts in
    let samples = samples_at m c.args.places.now in
    let on : c.self.inside.align.is_on ≡ true = sym c.is_on.ensures.shown ∙ c.if-not-is_on.false in
    let came = c.place_all.ensures.all c.in-All.is in
    let order = c.place_all.new.order in
    let all = ap is_full came.1 ∙ blocks_came m _ order (c.place_all.ensures.blocks c.in-All.is) in
    let base = base_shared m def.members c.args.places.now c.count-count.ensures.keeps c.requires.places came.0 in
    let none : length c.self.inside.align.slots ≡ 0 = omega (arith, c.open_slots.ensures.shown, c.if-open_slots-gt0.false) in
    let value = subst (λ (v : StreamOf (Aligned Piece)). is_some c.slot_for.result ≡ can_leave v.slots.last (slot_at v.definition.rate (resolution m.config) m.soc m.frac))
    (sym c.self.view_is) c.slot_for.ensures.value in
    subst (λ (v : StreamOf (Aligned Piece)). c.is_some.result ≡ fills v m.soc m.quality m.frac samples) c.self.view_is
    (c.is_some.ensures ∙ value ∙ ap (λ b. can_leave c.self.inside.align.last (slot_at def.rate b m.soc m.frac)) (sym base)
    ∙ sym (fills_where s m.soc m.quality m.frac samples on none came.0 all))
