use Rattle.std.proofs.Common.{◌≡◌, List, [], length, map, Ok, Err, true, refl, ap, sym, ◌∙◌, subst, arith}
use Rattle.pg_data.specs.Measurements.{Measurement, IsMeasurement}
use Rattle.pg_data.specs.Pieces.{Piece}
use Rattle.pg_stream.specs.Slots.{slot_at}
use Rattle.pg_align.specs.Slots.{Aligned, all_leaving}
use Rattle.pg_align.proofs.Arriving.{others_at_most}
use Rattle.pg_align.proofs.Leaving.{all_leaving-few}
use Rattle.pg_session.specs.Events.{samples_at}
use Rattle.pg_session.specs.Streams.{StreamOf, Turn, PlacedBlock, placed, still, effective_in, slot_frame, arrival_turn, arrive_all, measure_turn}
use Rattle.pg_session.specs.Output.{all_ignored}
use Rattle.pg_session.specs.Sending.{Sending, Sends}
use Rattle.pg_session.specs.Kept.{by_slots}
use Rattle.pg_session.specs.Fields.{with_stats, turn_stats}
use Rattle.pg_session.proofs.Sending.{sends-none}
use Rattle.pg_session.proofs.Simulating.{stream_of, leaving-effective}
use Rattle.pg_session.proofs.Members.{timed-left, window-left}
use Rattle.pg_session.proofs.Measuring.{effective-placed, arrivals-keep, nothing-turns, placed_few, measure_is}
use Rattle.pg_session.proofs.stream.Stream.measure.Goals as goal

pub arrive_all_in-some-requires-clause-effective : goal.arrive_all_in-some-requires-clause-effective
arrive_all_in-some-requires-clause-effective c =
    let s : StreamOf (Aligned Piece) = stream_of c.self.inside.definition c.self.inside.align c.self.inside.changes c.self.inside.layouts in
    let same : s.slots.effective ≡ effective_in c.args.listed.now s.definition.members = rw (← c.self.view_is) at c.requires.effective in
    rw same (effective-placed c.args.listed.now c.self.inside.definition.members c.args.frame.now.quality (samples_at c.args.frame.now c.args.places.now) c.requires.listed)

pub arrive_all_in-some-requires-clause-room : goal.arrive_all_in-some-requires-clause-room
arrive_all_in-some-requires-clause-room c = omega (arith, others_at_most c.self.inside.align.slots c.in-Ok.slot, c.self.invariant.few)

pub leave_all-requires-clause-places : goal.leave_all-requires-clause-places
leave_all-requires-clause-places c =
    let a = c.self.inside.align in
    let blocks = placed c.self.inside.definition.members c.args.frame.now.quality (samples_at c.args.frame.now c.args.places.now) in
    let keep = arrivals-keep c.self.inside.definition.rate a c.in-Ok.slot blocks (c.in-Ok.ensures.time) c.self.invariant.timed in
    rw c.arrive_all_in-some.ensures.slots (ap length keep.effective ∙ c.self.invariant.places)

pub leave_all-requires-clause-timed : goal.leave_all-requires-clause-timed
leave_all-requires-clause-timed c =
    let a = c.self.inside.align in
    let blocks = placed c.self.inside.definition.members c.args.frame.now.quality (samples_at c.args.frame.now c.args.places.now) in
    let keep = arrivals-keep c.self.inside.definition.rate a c.in-Ok.slot blocks (c.in-Ok.ensures.time) c.self.invariant.timed in
    rw c.arrive_all_in-some.ensures.slots keep.timed

pub leave_all-requires-clause-bounded : goal.leave_all-requires-clause-bounded
leave_all-requires-clause-bounded c =
    let m = c.args.frame.now in
    let places = c.args.places.now in
    let def = c.self.inside.definition in
    let s : StreamOf (Aligned Piece) = stream_of def c.self.inside.align c.self.inside.changes c.self.inside.layouts in
    let blocks = placed def.members m.quality (samples_at m places) in
    let keep = arrivals-keep def.rate c.self.inside.align c.in-Ok.slot blocks c.in-Ok.ensures.time c.self.invariant.timed in
    let longer = ap (λ (a : Aligned Piece). length a.slots) c.arrive_all_in-some.ensures.slots in
    let same_made = ap (λ (o : Sending). o.made) c.arrive_all_in-some.ensures.output in
    omega (
      arith,
      keep.longer,
      longer,
      same_made,
      c.self.invariant.few,
      c.self.invariant.window,
      c.self.invariant.limits.numbers.window.1,
      placed_few def.members m places,
      c.requires.few,
      c.requires.bounded,
    )

pub invariant_of-self-in-Ok : goal.invariant_of-self-in-Ok
invariant_of-self-in-Ok c =
    let m = c.args.frame.now in
    let places = c.args.places.now in
    let def = c.self.inside.definition in
    let s : StreamOf (Aligned Piece) = stream_of def c.self.inside.align c.self.inside.changes c.self.inside.layouts in
    let blocks = placed def.members m.quality (samples_at m places) in
    let keep = arrivals-keep def.rate c.self.inside.align c.in-Ok.slot blocks c.in-Ok.ensures.time c.self.invariant.timed in
    let arrived = (arrive_all by_slots c.self.inside.align c.in-Ok.slot blocks).slots in
    rw (c.leave_all.ensures.slots, c.arrive_all_in-some.ensures.slots) record {
      limits = c.self.invariant.limits;
      places = ap length (leaving-effective arrived arrived.slots ∙ keep.effective) ∙ c.self.invariant.places;
      window = window-left arrived ∙ keep.window ∙ c.self.invariant.window;
      few = rw (window-left arrived) (all_leaving-few arrived);
      timed = timed-left def.rate arrived keep.timed;
    }

pub returns-else-not-some-clause-stream : goal.returns-else-not-some-clause-stream
returns-else-not-some-clause-stream c =
    let m = c.args.frame.now in
    let places = c.args.places.now in
    let def = c.self.inside.definition in
    let s : StreamOf (Aligned Piece) = stream_of def c.self.inside.align c.self.inside.changes c.self.inside.layouts in
    let blocks = placed def.members m.quality (samples_at m places) in
    let is : IsMeasurement m = subst IsMeasurement c.frame.view_is c.frame.invariant.0 in
    let on : c.self.inside.align.is_on ≡ true = sym c.is_on.ensures.shown ∙ c.if-not-is_on.false in
    let exact : c.slot_of.result ≡ slot_at def.rate c.base.result m.soc m.frac =
    subst (λ (x : Measurement). c.slot_of.result ≡ slot_at def.rate c.base.result x.soc x.frac) c.frame.view_is c.slot_of.ensures.exact in
    let turn = measure_is c.args.listed.now m places s (length blocks) c.base.result (Ok c.in-Ok.slot) is c.requires.places on
    refl (c.arrive_all_in-some.ensures.some c.if-not-some.false) c.base.ensures.value (sym c.in-Ok.is ∙ exact) in
    let after = c.leave_all.ensures.slots ∙ ap (λ (a : Aligned Piece). (all_leaving a).after) c.arrive_all_in-some.ensures.slots in
    let made : stream_of def c.leave_all.new.align c.self.inside.changes c.self.inside.layouts ≡ (arrival_turn by_slots c.args.listed.now s blocks (Ok c.in-Ok.slot)).stream =
    ap (λ (a : Aligned Piece). stream_of def a c.self.inside.changes c.self.inside.layouts) after in
    subst (λ (v : StreamOf (Aligned Piece)). stream_of def c.leave_all.new.align c.self.inside.changes c.self.inside.layouts
    ≡ (measure_turn by_slots c.args.listed.now m.soc m.quality m.frac (samples_at m places) v).stream) c.self.view_is
    (made ∙ sym (ap (λ (t : Turn (Aligned Piece)). t.stream) turn))

pub returns-else-not-some-clause-sends : goal.returns-else-not-some-clause-sends
returns-else-not-some-clause-sends c =
    let m = c.args.frame.now in
    let places = c.args.places.now in
    let def = c.self.inside.definition in
    let s : StreamOf (Aligned Piece) = stream_of def c.self.inside.align c.self.inside.changes c.self.inside.layouts in
    let blocks = placed def.members m.quality (samples_at m places) in
    let is : IsMeasurement m = subst IsMeasurement c.frame.view_is c.frame.invariant.0 in
    let on : c.self.inside.align.is_on ≡ true = sym c.is_on.ensures.shown ∙ c.if-not-is_on.false in
    let exact : c.slot_of.result ≡ slot_at def.rate c.base.result m.soc m.frac =
    subst (λ (x : Measurement). c.slot_of.result ≡ slot_at def.rate c.base.result x.soc x.frac) c.frame.view_is c.slot_of.ensures.exact in
    let turn = measure_is c.args.listed.now m places s (length blocks) c.base.result (Ok c.in-Ok.slot) is c.requires.places on
    refl (c.arrive_all_in-some.ensures.some c.if-not-some.false) c.base.ensures.value (sym c.in-Ok.is ∙ exact) in
    let listed = c.args.listed.now in
    let out = c.args.output.now in
    let new = c.leave_all.new.output in
    let sent = subst (λ (a : Aligned Piece). Sends (map (slot_frame def listed) (all_leaving a).frames) c.arrive_all_in-some.new.output new)
    c.arrive_all_in-some.ensures.slots c.leave_all.ensures.sends in
    let here : Sends (arrival_turn by_slots listed s blocks (Ok c.in-Ok.slot)).frames
    (with_stats out (turn_stats (arrival_turn by_slots listed s blocks (Ok c.in-Ok.slot)) out.output.stats)) new =
    subst (λ (o : Sending). Sends (arrival_turn by_slots listed s blocks (Ok c.in-Ok.slot)).frames o new) c.arrive_all_in-some.ensures.output sent in
    subst (λ (v : StreamOf (Aligned Piece)). Sends (measure_turn by_slots listed m.soc m.quality m.frac (samples_at m places) v).frames
    (with_stats out (turn_stats (measure_turn by_slots listed m.soc m.quality m.frac (samples_at m places) v) out.output.stats)) new) c.self.view_is
    (subst (λ (t : Turn (Aligned Piece)). Sends t.frames (with_stats out (turn_stats t out.output.stats)) new) (sym turn) here)

pub returns-else-not-some-clause-bounded : goal.returns-else-not-some-clause-bounded
returns-else-not-some-clause-bounded c =
    let m = c.args.frame.now in
    let places = c.args.places.now in
    let def = c.self.inside.definition in
    let s : StreamOf (Aligned Piece) = stream_of def c.self.inside.align c.self.inside.changes c.self.inside.layouts in
    let blocks = placed def.members m.quality (samples_at m places) in
    let keep = arrivals-keep def.rate c.self.inside.align c.in-Ok.slot blocks c.in-Ok.ensures.time c.self.invariant.timed in
    let longer = ap (λ (a : Aligned Piece). length a.slots) c.arrive_all_in-some.ensures.slots in
    let same_made = ap (λ (o : Sending). o.made) c.arrive_all_in-some.ensures.output in
    omega (
      arith,
      keep.longer,
      longer,
      same_made,
      c.self.invariant.few,
      c.self.invariant.window,
      c.self.invariant.limits.numbers.window.1,
      placed_few def.members m places,
      c.requires.few,
      c.leave_all.ensures.few,
    )

pub returns-else-not-has_placed-clause-stream : goal.returns-else-not-has_placed-clause-stream
returns-else-not-has_placed-clause-stream c =
    let m = c.args.frame.now in
    let places = c.args.places.now in
    let def = c.self.inside.definition in
    let s : StreamOf (Aligned Piece) = stream_of def c.self.inside.align c.self.inside.changes c.self.inside.layouts in
    let blocks = placed def.members m.quality (samples_at m places) in
    let is : IsMeasurement m = subst IsMeasurement c.frame.view_is c.frame.invariant.0 in
    let on : c.self.inside.align.is_on ≡ true = sym c.is_on.ensures.shown ∙ c.if-not-is_on.false in
    let exact : c.slot_of.result ≡ slot_at def.rate c.base.result m.soc m.frac =
    subst (λ (x : Measurement). c.slot_of.result ≡ slot_at def.rate c.base.result x.soc x.frac) c.frame.view_is c.slot_of.ensures.exact in
    let turn = measure_is c.args.listed.now m places s (length blocks) c.base.result (Err c.in-Err.field-0) is c.requires.places on
    refl (c.has_placed.ensures.some c.if-not-has_placed.false) c.base.ensures.value (sym c.in-Err.is ∙ exact) in
    subst (λ (v : StreamOf (Aligned Piece)). v ≡ (measure_turn by_slots c.args.listed.now m.soc m.quality m.frac (samples_at m places) v).stream) c.self.view_is
    (sym (ap (λ (t : Turn (Aligned Piece)). t.stream) turn))

pub returns-else-not-has_placed-clause-sends : goal.returns-else-not-has_placed-clause-sends
returns-else-not-has_placed-clause-sends c =
    let m = c.args.frame.now in
    let places = c.args.places.now in
    let def = c.self.inside.definition in
    let s : StreamOf (Aligned Piece) = stream_of def c.self.inside.align c.self.inside.changes c.self.inside.layouts in
    let blocks = placed def.members m.quality (samples_at m places) in
    let is : IsMeasurement m = subst IsMeasurement c.frame.view_is c.frame.invariant.0 in
    let on : c.self.inside.align.is_on ≡ true = sym c.is_on.ensures.shown ∙ c.if-not-is_on.false in
    let exact : c.slot_of.result ≡ slot_at def.rate c.base.result m.soc m.frac =
    subst (λ (x : Measurement). c.slot_of.result ≡ slot_at def.rate c.base.result x.soc x.frac) c.frame.view_is c.slot_of.ensures.exact in
    let turn = measure_is c.args.listed.now m places s (length blocks) c.base.result (Err c.in-Err.field-0) is c.requires.places on
    refl (c.has_placed.ensures.some c.if-not-has_placed.false) c.base.ensures.value (sym c.in-Err.is ∙ exact) in
    let listed = c.args.listed.now in
    let out = c.args.output.now in
    let new = c.pass_all.new.output in
    let passed : new ≡ with_stats out (turn_stats (arrival_turn by_slots listed s blocks (Err c.in-Err.field-0)) out.output.stats) =
    c.pass_all.ensures.output ∙ ap (λ n. with_stats out (all_ignored 0 0 n out.output.stats)) c.count_placed-count.ensures.count in
    let here : Sends (arrival_turn by_slots listed s blocks (Err c.in-Err.field-0)).frames
    (with_stats out (turn_stats (arrival_turn by_slots listed s blocks (Err c.in-Err.field-0)) out.output.stats)) new =
    subst (λ (o : Sending). Sends [] o new) passed (sends-none new) in
    subst (λ (v : StreamOf (Aligned Piece)). Sends (measure_turn by_slots listed m.soc m.quality m.frac (samples_at m places) v).frames
    (with_stats out (turn_stats (measure_turn by_slots listed m.soc m.quality m.frac (samples_at m places) v) out.output.stats)) new) c.self.view_is
    (subst (λ (t : Turn (Aligned Piece)). Sends t.frames (with_stats out (turn_stats t out.output.stats)) new) (sym turn) here)

pub invariant_of-self : goal.invariant_of-self
invariant_of-self c =
    let none = c.arrive_all_in-some.ensures.none c.if-not-some.true in
    let same : c.arrive_all_in-some.new.align ≡ c.self.inside.align =
    c.arrive_all_in-some.ensures.slots ∙ ap (λ (ps : List PlacedBlock). (arrive_all by_slots c.self.inside.align c.in-Ok.slot ps).slots) none in
    rw same c.self.invariant

pub returns-then-not-some-clause-sends : goal.returns-then-not-some-clause-sends
returns-then-not-some-clause-sends c =
    let m = c.args.frame.now in
    let places = c.args.places.now in
    let a = c.self.inside.align in
    let s : StreamOf (Aligned Piece) = stream_of c.self.inside.definition a c.self.inside.changes c.self.inside.layouts in
    let listed = c.args.listed.now in
    let out = c.args.output.now in
    let new = c.arrive_all_in-some.new.output in
    let none = c.arrive_all_in-some.ensures.none c.if-not-some.true in
    let turn = nothing-turns listed m places s (ap (λ (ps : List PlacedBlock). length ps) none) in
    let kept : new ≡ with_stats out (turn_stats (still s) out.output.stats) =
    c.arrive_all_in-some.ensures.output ∙ ap (λ (ps : List PlacedBlock). with_stats out (all_ignored (arrive_all by_slots a c.in-Ok.slot ps).late
    (arrive_all by_slots a c.in-Ok.slot ps).twice 0 out.output.stats)) none in
    let here : Sends (still s).frames (with_stats out (turn_stats (still s) out.output.stats)) new =
    subst (λ (o : Sending). Sends [] o new) kept (sends-none new) in
    subst (λ (v : StreamOf (Aligned Piece)). Sends (measure_turn by_slots listed m.soc m.quality m.frac (samples_at m places) v).frames
    (with_stats out (turn_stats (measure_turn by_slots listed m.soc m.quality m.frac (samples_at m places) v) out.output.stats)) new) c.self.view_is
    (subst (λ (t : Turn (Aligned Piece)). Sends t.frames (with_stats out (turn_stats t out.output.stats)) new) (sym turn) here)

pub returns-then-not-has_placed-clause-sends : goal.returns-then-not-has_placed-clause-sends
returns-then-not-has_placed-clause-sends c =
    let m = c.args.frame.now in
    let places = c.args.places.now in
    let s : StreamOf (Aligned Piece) = stream_of c.self.inside.definition c.self.inside.align c.self.inside.changes c.self.inside.layouts in
    let listed = c.args.listed.now in
    let out = c.args.output.now in
    let turn = nothing-turns listed m places s (c.has_placed.ensures.none c.if-not-has_placed.true) in
    let here : Sends (still s).frames (with_stats out (turn_stats (still s) out.output.stats)) out = sends-none out in
    subst (λ (v : StreamOf (Aligned Piece)). Sends (measure_turn by_slots listed m.soc m.quality m.frac (samples_at m places) v).frames
    (with_stats out (turn_stats (measure_turn by_slots listed m.soc m.quality m.frac (samples_at m places) v) out.output.stats)) out) c.self.view_is
    (subst (λ (t : Turn (Aligned Piece)). Sends t.frames (with_stats out (turn_stats t out.output.stats)) out) (sym turn) here)
