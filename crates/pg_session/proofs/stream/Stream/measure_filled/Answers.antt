use Rattle.std.proofs.Common.{◌≡◌, List, [], ◌∷◌, length, replicate, Ok, None, is_some, true, false, refl, ap, sym, ◌∙◌, subst, arith}
use Rattle.std.proofs.lemmas.List.{take-replicate}
use Rattle.pg_data.specs.Measurements.{resolution}
use Rattle.pg_data.specs.Pieces.{Piece}
use Rattle.pg_stream.specs.Slots.{slot_at}
use Rattle.pg_align.specs.Histories.{is_above}
use Rattle.pg_align.specs.Slots.{Aligned, with_last, head_with}
use Rattle.pg_outcfg.specs.Ordered.{pieces_in}
use Rattle.pg_session.specs.Events.{samples_at}
use Rattle.pg_session.specs.Streams.{StreamOf, Turn, PlacedBlock, placed, still, slot_frame, measure_turn}
use Rattle.pg_session.specs.Sending.{Sends}
use Rattle.pg_session.specs.Kept.{by_slots}
use Rattle.pg_session.specs.Fields.{NeedsNoCopy, with_stats, turn_stats}
use Rattle.pg_session.specs.Filling.{can_leave}
use Rattle.pg_session.proofs.Sending.{sends-none}
use Rattle.pg_session.proofs.Simulating.{stream_of}
use Rattle.pg_session.proofs.Measuring.{effective-placed, nothing-turns, measure_is, base_shared}
use Rattle.pg_session.proofs.Filled.{clears_of, fills_turn, filled_members, blocks_came}
use Rattle.pg_session.proofs.OneBlock.{left_turn}
use Rattle.pg_session.specs.declared.filling.Brought.{Brought}
use Rattle.pg_session.specs.declared.filling.Brought.TheVariants as brought
use Rattle.pg_session.proofs.stream.Stream.measure_filled.Goals as goal

pub place_all-requires-clause-none : goal.place_all-requires-clause-none
place_all-requires-clause-none c =
    let members = c.self.inside.definition.members in
    let len = ap length c.as_slice.ensures.value in
    take-replicate (length c.as_slice.result.now) 32 None (omega (arith, len, c.self.invariant.limits.members.few))
    ∙ ap (λ n. replicate n None) len

-- no block of the frame is a member's
no_block : (c : goal.After-order-in_default-1)
    → placed c.self.inside.definition.members c.args.frame.now.quality (samples_at c.args.frame.now c.args.places.now) ≡ []
no_block c = by c.place_all.result refl
  where
    by : (r : Brought) → c.place_all.result ≡ r
        → placed c.self.inside.definition.members c.args.frame.now.quality (samples_at c.args.frame.now c.args.places.now) ≡ []
    by brought.Nothing e = c.place_all.ensures.nothing e
    by brought.All e = absurd (c.in_default.not-All e)
    by brought.Some e =
        let m = c.args.frame.now in
        let s : StreamOf (Aligned Piece) = stream_of c.self.inside.definition c.self.inside.align c.self.inside.changes c.self.inside.layouts in
        let samples = samples_at m c.args.places.now in
        let on : c.self.inside.align.is_on ≡ true = sym c.is_on.ensures.shown ∙ c.if-not-is_on.false in
        let needs = subst (λ (v : StreamOf (Aligned Piece)). NeedsNoCopy v m.soc m.quality m.frac samples) (sym c.self.view_is) c.requires.filled in
        let two = c.place_all.ensures.some e in
        absurd (let no : false ≡ true = sym two.1 ∙ (clears_of s m.soc m.quality m.frac samples on two.0 needs).all in cc no)

pub returns-in_default : goal.returns-in_default
returns-in_default c =
    let m = c.args.frame.now in
    let places = c.args.places.now in
    let s : StreamOf (Aligned Piece) = stream_of c.self.inside.definition c.self.inside.align c.self.inside.changes c.self.inside.layouts in
    let listed = c.args.listed.now in
    let out = c.args.output.now in
    let turn = nothing-turns listed m places s (ap (λ (ps : List PlacedBlock). length ps) (no_block c)) in
    let here : Sends (still s).frames (with_stats out (turn_stats (still s) out.output.stats)) out = sends-none out in
    record {
      stream = subst (λ (v : StreamOf (Aligned Piece)). s ≡ (measure_turn by_slots listed m.soc m.quality m.frac (samples_at m places) v).stream) c.self.view_is
          (sym (ap (λ (t : Turn (Aligned Piece)). t.stream) turn));
      sends = subst (λ (v : StreamOf (Aligned Piece)). Sends (measure_turn by_slots listed m.soc m.quality m.frac (samples_at m places) v).frames
          (with_stats out (turn_stats (measure_turn by_slots listed m.soc m.quality m.frac (samples_at m places) v) out.output.stats)) out) c.self.view_is
          (subst (λ (t : Turn (Aligned Piece)). Sends t.frames (with_stats out (turn_stats t out.output.stats)) out) (sym turn) here);
      bounded = omega arith;
    }

pub unreachable-requires : goal.unreachable-requires
unreachable-requires c =
    let m = c.args.frame.now in
    let def = c.self.inside.definition in
    let s : StreamOf (Aligned Piece) = stream_of def c.self.inside.align c.self.inside.changes c.self.inside.layouts in
    let samples = samples_at m c.args.places.now in
    let on : c.self.inside.align.is_on ≡ true = sym c.is_on.ensures.shown ∙ c.if-not-is_on.false in
    let needs = subst (λ (v : StreamOf (Aligned Piece)). NeedsNoCopy v m.soc m.quality m.frac samples) (sym c.self.view_is) c.requires.filled in
    let came = c.place_all.ensures.all c.in-All.is in
    let clears = clears_of s m.soc m.quality m.frac samples on came.0 needs in
    let base = base_shared m def.members c.args.places.now c.count-count.ensures.keeps c.requires.places came.0 in
    let leaves : can_leave c.self.inside.align.last (slot_at def.rate (resolution m.config) m.soc m.frac) ≡ true =
    sym (ap (λ b. can_leave c.self.inside.align.last (slot_at def.rate b m.soc m.frac)) base) ∙ clears.leaves in
    let no : false ≡ true = sym (ap is_some c.in_default-slot_for.is) ∙ c.slot_for.ensures.value ∙ leaves in
    cc no

pub leave_filled-requires-clause-listed : goal.leave_filled-requires-clause-listed
leave_filled-requires-clause-listed c =
    let m = c.args.frame.now in
    let members = c.self.inside.definition.members in
    let samples = samples_at m c.args.places.now in
    let came = c.place_all.ensures.all c.in-All.is in
    let order = c.place_all.new.order in
    filled_members c.args.listed.now members (pieces_in m order) (placed members m.quality samples) came.1
    (blocks_came m _ order (c.place_all.ensures.blocks c.in-All.is)) (effective-placed c.args.listed.now members m.quality samples c.requires.listed)

-- the turn of a stream whose slot the frame fills
filled_turn : (c : goal.After-order-3-1)
    → measure_turn by_slots c.args.listed.now c.args.frame.now.soc c.args.frame.now.quality c.args.frame.now.frac (samples_at c.args.frame.now c.args.places.now)
    c.args.self.now
    ≡ left_turn c.args.listed.now c.args.self.now c.in-Some.slot (pieces_in c.args.frame.now c.place_all.new.order)
filled_turn c =
    let m = c.args.frame.now in
    let places = c.args.places.now in
    let def = c.self.inside.definition in
    let listed = c.args.listed.now in
    let s : StreamOf (Aligned Piece) = stream_of def c.self.inside.align c.self.inside.changes c.self.inside.layouts in
    let samples = samples_at m places in
    let blocks = placed def.members m.quality samples in
    let on : c.self.inside.align.is_on ≡ true = sym c.is_on.ensures.shown ∙ c.if-not-is_on.false in
    let needs = subst (λ (v : StreamOf (Aligned Piece)). NeedsNoCopy v m.soc m.quality m.frac samples) (sym c.self.view_is) c.requires.filled in
    let came = c.place_all.ensures.all c.in-All.is in
    let order = c.place_all.new.order in
    let clears = clears_of s m.soc m.quality m.frac samples on came.0 needs in
    let at : slot_at def.rate (resolution m.config) m.soc m.frac ≡ Ok c.in-Some.slot = c.in-Some.ensures.some in
    let above : is_above c.self.inside.align.last c.in-Some.slot ≡ true =
    sym (ap (can_leave c.self.inside.align.last) at) ∙ sym c.slot_for.ensures.value ∙ ap is_some c.in-Some.is in
    let turn = measure_is listed m places s (length blocks) (resolution m.config) (Ok c.in-Some.slot) c.count-count.ensures.keeps c.requires.places on
    refl came.0 refl (sym at) in
    let here = turn ∙ fills_turn listed s c.in-Some.slot blocks (pieces_in m order) above clears.none_open c.self.invariant.places came.0 came.1
    (blocks_came m _ order (c.place_all.ensures.blocks c.in-All.is)) in
    subst (λ (v : StreamOf (Aligned Piece)). measure_turn by_slots listed m.soc m.quality m.frac samples v ≡ left_turn listed v c.in-Some.slot (pieces_in m order)) c.self.view_is here

pub returns-clause-stream : goal.returns-clause-stream
returns-clause-stream c =
    let made = subst (λ (v : StreamOf (Aligned Piece)). c.leave_filled.new.self ≡ record v { slots = with_last v.slots c.in-Some.slot }) c.self.view_is c.leave_filled.ensures.stream in
    made ∙ sym (ap (λ (t : Turn (Aligned Piece)). t.stream) (filled_turn c))

pub returns-clause-sends : goal.returns-clause-sends
returns-clause-sends c =
    let listed = c.args.listed.now in
    let out = c.args.output.now in
    let new = c.leave_filled.new.output in
    let frames = subst (λ (v : StreamOf (Aligned Piece)). Sends (slot_frame v.definition listed (head_with c.in-Some.slot (pieces_in c.args.frame.now c.place_all.new.order)) ∷ []) out new)
    c.self.view_is c.leave_filled.ensures.sends in
    subst (λ (t : Turn (Aligned Piece)). Sends t.frames (with_stats out (turn_stats t out.output.stats)) new) (sym (filled_turn c)) frames
