use Rattle.std.proofs.Common.{◌≡◌, ◌<◌, ◌≤◌, ◌-◌, ◌+◌, List, [], ◌∷◌, IsTrue, slice_index_or, false, length, map, replicate, Some, None, Ok, Err, true, refl, ap, sym, ◌∙◌, subst, arith}
use Rattle.circular_buffer.specs.Buffer.{Buffer}
use Rattle.pg_data.specs.Measurements.{Measurement, IsMeasurement}
use Rattle.pg_data.specs.Pieces.{Piece, piece_of}
use Rattle.pg_stream.specs.Slots.{slot_at}
use Rattle.pg_align.specs.Slots.{Aligned, answer_at, with_arrival, all_leaving}
use Rattle.pg_align.proofs.Arriving.{others_at_most}
use Rattle.pg_align.proofs.Leaving.{all_leaving-few}
use Rattle.pg_session.specs.Events.{samples_at}
use Rattle.pg_session.specs.Streams.{StreamOf, Turn, PlacedBlock, place_of, placed, still, effective_in, slot_frame, arrival_turn, measure_turn}
use Rattle.pg_session.specs.Sending.{Sending, Sends}
use Rattle.pg_session.specs.Kept.{by_slots}
use Rattle.pg_session.specs.Fields.{AreEffective, with_stats, turn_stats}
use Rattle.pg_session.proofs.Sending.{sends-none}
use Rattle.pg_session.proofs.Simulating.{stream_of, leaving-effective}
use Rattle.pg_session.proofs.Members.{timed-left, window-left}
use Rattle.pg_session.proofs.Measuring.{effective-placed, arrivals-keep, nothing-turns, measure_is}
use Rattle.pg_session.proofs.OneBlock.{one_block, one_counted, last_copy, copies_left, popped, within_one}
use Rattle.pg_session.proofs.stream.Stream.keep_one.Goals as goal

pub arrive_one-requires-clause-effective : goal.arrive_one-requires-clause-effective
arrive_one-requires-clause-effective c =
    let m = c.args.frame.now in
    let place = c.args.place in
    let def = c.self.inside.definition in
    let a = c.self.inside.align in
    let s : StreamOf (Aligned Piece) = stream_of def a c.self.inside.changes c.self.inside.layouts in
    let samples = samples_at m (place ∷ []) in
    let listed = c.args.listed.now in
    let out = c.args.output.now in
    let piece = piece_of m place in
    let member = c.in-Some.member in
    let at : place_of def.members c.key.result ≡ Some member = sym c.place_near_guess.ensures ∙ c.in-Some.is in
    let one = one_block m def.members c.key.result place (Some member) c.count-count.ensures.keeps c.requires.place c.key.ensures.source c.key.ensures.pmu at in
    let blocks : List PlacedBlock = record { place = member; piece = piece } ∷ [] in
    let have : length (placed def.members m.quality samples) ≤ length c.args.blocks.now.items =
    subst (λ (v : StreamOf (Aligned Piece)). length (placed v.definition.members m.quality samples) ≤ length c.args.blocks.now.items) (sym c.self.view_is) c.requires.enough in
    let long : length (placed def.members m.quality samples) ≡ 1 = ap length one in
    let exist : 0 < length c.args.blocks.now.items = omega (arith, have, long) in
    let same : s.slots.effective ≡ effective_in listed def.members = rw (← c.self.view_is) at c.requires.effective in
    let here : AreEffective (effective_in listed def.members) blocks =
    subst (AreEffective (effective_in listed def.members)) one (effective-placed listed def.members m.quality samples c.requires.listed) in
    subst (λ effective. IsTrue (slice_index_or effective member false)) (sym same) here.0

pub arrive_one-requires-clause-room : goal.arrive_one-requires-clause-room
arrive_one-requires-clause-room c =
    omega (arith, others_at_most c.self.inside.align.slots c.in-Ok.slot, c.self.invariant.few)

pub unreachable-requires : goal.unreachable-requires
unreachable-requires c =
    let m = c.args.frame.now in
    let place = c.args.place in
    let def = c.self.inside.definition in
    let a = c.self.inside.align in
    let s : StreamOf (Aligned Piece) = stream_of def a c.self.inside.changes c.self.inside.layouts in
    let samples = samples_at m (place ∷ []) in
    let listed = c.args.listed.now in
    let out = c.args.output.now in
    let piece = piece_of m place in
    let member = c.in-Some.member in
    let at : place_of def.members c.key.result ≡ Some member = sym c.place_near_guess.ensures ∙ c.in-Some.is in
    let one = one_block m def.members c.key.result place (Some member) c.count-count.ensures.keeps c.requires.place c.key.ensures.source c.key.ensures.pmu at in
    let blocks : List PlacedBlock = record { place = member; piece = piece } ∷ [] in
    let have : length (placed def.members m.quality samples) ≤ length c.args.blocks.now.items =
    subst (λ (v : StreamOf (Aligned Piece)). length (placed v.definition.members m.quality samples) ≤ length c.args.blocks.now.items) (sym c.self.view_is) c.requires.enough in
    let long : length (placed def.members m.quality samples) ≡ 1 = ap length one in
    let exist : 0 < length c.args.blocks.now.items = omega (arith, have, long) in
    c.in_default-pop_back.not-Some piece (c.pop_back.ensures.value ∙ last_copy c.args.blocks.now.items piece c.requires.copies exist)

pub leave_all-requires-clause-places : goal.leave_all-requires-clause-places
leave_all-requires-clause-places c =
    let m = c.args.frame.now in
    let place = c.args.place in
    let def = c.self.inside.definition in
    let a = c.self.inside.align in
    let s : StreamOf (Aligned Piece) = stream_of def a c.self.inside.changes c.self.inside.layouts in
    let samples = samples_at m (place ∷ []) in
    let listed = c.args.listed.now in
    let out = c.args.output.now in
    let piece = piece_of m place in
    let member = c.in-Some.member in
    let at : place_of def.members c.key.result ≡ Some member = sym c.place_near_guess.ensures ∙ c.in-Some.is in
    let one = one_block m def.members c.key.result place (Some member) c.count-count.ensures.keeps c.requires.place c.key.ensures.source c.key.ensures.pmu at in
    let blocks : List PlacedBlock = record { place = member; piece = piece } ∷ [] in
    let have : length (placed def.members m.quality samples) ≤ length c.args.blocks.now.items =
    subst (λ (v : StreamOf (Aligned Piece)). length (placed v.definition.members m.quality samples) ≤ length c.args.blocks.now.items) (sym c.self.view_is) c.requires.enough in
    let long : length (placed def.members m.quality samples) ≡ 1 = ap length one in
    let exist : 0 < length c.args.blocks.now.items = omega (arith, have, long) in
    let same : c.in-Some-pop_back.block ≡ piece =
    popped c.pop_back.result c.args.blocks.now.items c.in-Some-pop_back.block piece c.pop_back.ensures.value c.in-Some-pop_back.is c.requires.copies exist in
    let after : c.arrive_one.new.align ≡ with_arrival a c.in-Ok.slot member piece =
    c.arrive_one.ensures.slots ∙ ap (with_arrival a c.in-Ok.slot member) same in
    let keep = arrivals-keep def.rate a c.in-Ok.slot blocks c.in-Ok.ensures.time c.self.invariant.timed in
    let longer = ap (λ (x : Aligned Piece). length x.slots) after in
    let made = ap (λ (o : Sending). o.made) c.arrive_one.ensures.output in
    rw after (ap length keep.effective ∙ c.self.invariant.places)

pub leave_all-requires-clause-timed : goal.leave_all-requires-clause-timed
leave_all-requires-clause-timed c =
    let m = c.args.frame.now in
    let place = c.args.place in
    let def = c.self.inside.definition in
    let a = c.self.inside.align in
    let s : StreamOf (Aligned Piece) = stream_of def a c.self.inside.changes c.self.inside.layouts in
    let samples = samples_at m (place ∷ []) in
    let listed = c.args.listed.now in
    let out = c.args.output.now in
    let piece = piece_of m place in
    let member = c.in-Some.member in
    let at : place_of def.members c.key.result ≡ Some member = sym c.place_near_guess.ensures ∙ c.in-Some.is in
    let one = one_block m def.members c.key.result place (Some member) c.count-count.ensures.keeps c.requires.place c.key.ensures.source c.key.ensures.pmu at in
    let blocks : List PlacedBlock = record { place = member; piece = piece } ∷ [] in
    let have : length (placed def.members m.quality samples) ≤ length c.args.blocks.now.items =
    subst (λ (v : StreamOf (Aligned Piece)). length (placed v.definition.members m.quality samples) ≤ length c.args.blocks.now.items) (sym c.self.view_is) c.requires.enough in
    let long : length (placed def.members m.quality samples) ≡ 1 = ap length one in
    let exist : 0 < length c.args.blocks.now.items = omega (arith, have, long) in
    let same : c.in-Some-pop_back.block ≡ piece =
    popped c.pop_back.result c.args.blocks.now.items c.in-Some-pop_back.block piece c.pop_back.ensures.value c.in-Some-pop_back.is c.requires.copies exist in
    let after : c.arrive_one.new.align ≡ with_arrival a c.in-Ok.slot member piece =
    c.arrive_one.ensures.slots ∙ ap (with_arrival a c.in-Ok.slot member) same in
    let keep = arrivals-keep def.rate a c.in-Ok.slot blocks c.in-Ok.ensures.time c.self.invariant.timed in
    let longer = ap (λ (x : Aligned Piece). length x.slots) after in
    let made = ap (λ (o : Sending). o.made) c.arrive_one.ensures.output in
    rw after keep.timed

pub leave_all-requires-clause-bounded : goal.leave_all-requires-clause-bounded
leave_all-requires-clause-bounded c =
    let m = c.args.frame.now in
    let place = c.args.place in
    let def = c.self.inside.definition in
    let a = c.self.inside.align in
    let s : StreamOf (Aligned Piece) = stream_of def a c.self.inside.changes c.self.inside.layouts in
    let samples = samples_at m (place ∷ []) in
    let listed = c.args.listed.now in
    let out = c.args.output.now in
    let piece = piece_of m place in
    let member = c.in-Some.member in
    let at : place_of def.members c.key.result ≡ Some member = sym c.place_near_guess.ensures ∙ c.in-Some.is in
    let one = one_block m def.members c.key.result place (Some member) c.count-count.ensures.keeps c.requires.place c.key.ensures.source c.key.ensures.pmu at in
    let blocks : List PlacedBlock = record { place = member; piece = piece } ∷ [] in
    let have : length (placed def.members m.quality samples) ≤ length c.args.blocks.now.items =
    subst (λ (v : StreamOf (Aligned Piece)). length (placed v.definition.members m.quality samples) ≤ length c.args.blocks.now.items) (sym c.self.view_is) c.requires.enough in
    let long : length (placed def.members m.quality samples) ≡ 1 = ap length one in
    let exist : 0 < length c.args.blocks.now.items = omega (arith, have, long) in
    let same : c.in-Some-pop_back.block ≡ piece =
    popped c.pop_back.result c.args.blocks.now.items c.in-Some-pop_back.block piece c.pop_back.ensures.value c.in-Some-pop_back.is c.requires.copies exist in
    let after : c.arrive_one.new.align ≡ with_arrival a c.in-Ok.slot member piece =
    c.arrive_one.ensures.slots ∙ ap (with_arrival a c.in-Ok.slot member) same in
    let keep = arrivals-keep def.rate a c.in-Ok.slot blocks c.in-Ok.ensures.time c.self.invariant.timed in
    let longer = ap (λ (x : Aligned Piece). length x.slots) after in
    let made = ap (λ (o : Sending). o.made) c.arrive_one.ensures.output in
    omega (arith, keep.longer, longer, made, c.self.invariant.few, c.self.invariant.window, c.self.invariant.limits.numbers.window.1, c.requires.bounded)

pub invariant_of-self-in-Ok : goal.invariant_of-self-in-Ok
invariant_of-self-in-Ok c =
    let m = c.args.frame.now in
    let place = c.args.place in
    let def = c.self.inside.definition in
    let a = c.self.inside.align in
    let s : StreamOf (Aligned Piece) = stream_of def a c.self.inside.changes c.self.inside.layouts in
    let samples = samples_at m (place ∷ []) in
    let listed = c.args.listed.now in
    let out = c.args.output.now in
    let piece = piece_of m place in
    let member = c.in-Some.member in
    let at : place_of def.members c.key.result ≡ Some member = sym c.place_near_guess.ensures ∙ c.in-Some.is in
    let one = one_block m def.members c.key.result place (Some member) c.count-count.ensures.keeps c.requires.place c.key.ensures.source c.key.ensures.pmu at in
    let blocks : List PlacedBlock = record { place = member; piece = piece } ∷ [] in
    let have : length (placed def.members m.quality samples) ≤ length c.args.blocks.now.items =
    subst (λ (v : StreamOf (Aligned Piece)). length (placed v.definition.members m.quality samples) ≤ length c.args.blocks.now.items) (sym c.self.view_is) c.requires.enough in
    let long : length (placed def.members m.quality samples) ≡ 1 = ap length one in
    let exist : 0 < length c.args.blocks.now.items = omega (arith, have, long) in
    let same : c.in-Some-pop_back.block ≡ piece =
    popped c.pop_back.result c.args.blocks.now.items c.in-Some-pop_back.block piece c.pop_back.ensures.value c.in-Some-pop_back.is c.requires.copies exist in
    let after : c.arrive_one.new.align ≡ with_arrival a c.in-Ok.slot member piece =
    c.arrive_one.ensures.slots ∙ ap (with_arrival a c.in-Ok.slot member) same in
    let keep = arrivals-keep def.rate a c.in-Ok.slot blocks c.in-Ok.ensures.time c.self.invariant.timed in
    let longer = ap (λ (x : Aligned Piece). length x.slots) after in
    let made = ap (λ (o : Sending). o.made) c.arrive_one.ensures.output in
    rw (c.leave_all.ensures.slots, after) record {
      limits = c.self.invariant.limits;
      places = ap length (leaving-effective (with_arrival a c.in-Ok.slot member piece) (with_arrival a c.in-Ok.slot member piece).slots ∙ keep.effective) ∙ c.self.invariant.places;
      window = window-left (with_arrival a c.in-Ok.slot member piece) ∙ keep.window ∙ c.self.invariant.window;
      few = rw (window-left (with_arrival a c.in-Ok.slot member piece)) (all_leaving-few (with_arrival a c.in-Ok.slot member piece));
      timed = timed-left def.rate (with_arrival a c.in-Ok.slot member piece) keep.timed;
    }

pub returns-in-Some-pop_back-clause-stream : goal.returns-in-Some-pop_back-clause-stream
returns-in-Some-pop_back-clause-stream c =
    let m = c.args.frame.now in
    let place = c.args.place in
    let def = c.self.inside.definition in
    let a = c.self.inside.align in
    let s : StreamOf (Aligned Piece) = stream_of def a c.self.inside.changes c.self.inside.layouts in
    let samples = samples_at m (place ∷ []) in
    let listed = c.args.listed.now in
    let out = c.args.output.now in
    let piece = piece_of m place in
    let member = c.in-Some.member in
    let at : place_of def.members c.key.result ≡ Some member = sym c.place_near_guess.ensures ∙ c.in-Some.is in
    let one = one_block m def.members c.key.result place (Some member) c.count-count.ensures.keeps c.requires.place c.key.ensures.source c.key.ensures.pmu at in
    let blocks : List PlacedBlock = record { place = member; piece = piece } ∷ [] in
    let have : length (placed def.members m.quality samples) ≤ length c.args.blocks.now.items =
    subst (λ (v : StreamOf (Aligned Piece)). length (placed v.definition.members m.quality samples) ≤ length c.args.blocks.now.items) (sym c.self.view_is) c.requires.enough in
    let long : length (placed def.members m.quality samples) ≡ 1 = ap length one in
    let exist : 0 < length c.args.blocks.now.items = omega (arith, have, long) in
    let same : c.in-Some-pop_back.block ≡ piece =
    popped c.pop_back.result c.args.blocks.now.items c.in-Some-pop_back.block piece c.pop_back.ensures.value c.in-Some-pop_back.is c.requires.copies exist in
    let after : c.arrive_one.new.align ≡ with_arrival a c.in-Ok.slot member piece =
    c.arrive_one.ensures.slots ∙ ap (with_arrival a c.in-Ok.slot member) same in
    let keep = arrivals-keep def.rate a c.in-Ok.slot blocks c.in-Ok.ensures.time c.self.invariant.timed in
    let longer = ap (λ (x : Aligned Piece). length x.slots) after in
    let made = ap (λ (o : Sending). o.made) c.arrive_one.ensures.output in
    let on : a.is_on ≡ true = subst (λ (v : StreamOf (Aligned Piece)). v.slots.is_on ≡ true) (sym c.self.view_is) c.requires.on in
    let is : IsMeasurement m = c.count-count.ensures.keeps in
    let exact : c.slot_of.result ≡ slot_at def.rate c.base.result m.soc m.frac =
    subst (λ (x : Measurement). c.slot_of.result ≡ slot_at def.rate c.base.result x.soc x.frac) c.frame.view_is c.slot_of.ensures.exact in
    let turn = measure_is listed m (place ∷ []) s (length (placed def.members m.quality samples)) c.base.result (Ok c.in-Ok.slot) is (within_one _ place c.requires.place) on
    refl (omega (arith, long)) c.base.ensures.value (sym c.in-Ok.is ∙ exact) ∙ ap (λ bs. arrival_turn by_slots listed s bs (Ok c.in-Ok.slot)) one in
    let t : Turn (Aligned Piece) = arrival_turn by_slots listed s blocks (Ok c.in-Ok.slot) in
    subst (λ (v : StreamOf (Aligned Piece)). stream_of def c.leave_all.new.align c.self.inside.changes c.self.inside.layouts ≡ (measure_turn by_slots listed m.soc m.quality m.frac samples v).stream) c.self.view_is
    (ap (λ (x : Aligned Piece). stream_of def x c.self.inside.changes c.self.inside.layouts) (c.leave_all.ensures.slots ∙ ap (λ (x : Aligned Piece). (all_leaving x).after) after) ∙ sym (ap (λ (u : Turn (Aligned Piece)). u.stream) turn))

pub returns-in-Some-pop_back-clause-sends : goal.returns-in-Some-pop_back-clause-sends
returns-in-Some-pop_back-clause-sends c =
    let m = c.args.frame.now in
    let place = c.args.place in
    let def = c.self.inside.definition in
    let a = c.self.inside.align in
    let s : StreamOf (Aligned Piece) = stream_of def a c.self.inside.changes c.self.inside.layouts in
    let samples = samples_at m (place ∷ []) in
    let listed = c.args.listed.now in
    let out = c.args.output.now in
    let piece = piece_of m place in
    let member = c.in-Some.member in
    let at : place_of def.members c.key.result ≡ Some member = sym c.place_near_guess.ensures ∙ c.in-Some.is in
    let one = one_block m def.members c.key.result place (Some member) c.count-count.ensures.keeps c.requires.place c.key.ensures.source c.key.ensures.pmu at in
    let blocks : List PlacedBlock = record { place = member; piece = piece } ∷ [] in
    let have : length (placed def.members m.quality samples) ≤ length c.args.blocks.now.items =
    subst (λ (v : StreamOf (Aligned Piece)). length (placed v.definition.members m.quality samples) ≤ length c.args.blocks.now.items) (sym c.self.view_is) c.requires.enough in
    let long : length (placed def.members m.quality samples) ≡ 1 = ap length one in
    let exist : 0 < length c.args.blocks.now.items = omega (arith, have, long) in
    let same : c.in-Some-pop_back.block ≡ piece =
    popped c.pop_back.result c.args.blocks.now.items c.in-Some-pop_back.block piece c.pop_back.ensures.value c.in-Some-pop_back.is c.requires.copies exist in
    let after : c.arrive_one.new.align ≡ with_arrival a c.in-Ok.slot member piece =
    c.arrive_one.ensures.slots ∙ ap (with_arrival a c.in-Ok.slot member) same in
    let keep = arrivals-keep def.rate a c.in-Ok.slot blocks c.in-Ok.ensures.time c.self.invariant.timed in
    let longer = ap (λ (x : Aligned Piece). length x.slots) after in
    let made = ap (λ (o : Sending). o.made) c.arrive_one.ensures.output in
    let on : a.is_on ≡ true = subst (λ (v : StreamOf (Aligned Piece)). v.slots.is_on ≡ true) (sym c.self.view_is) c.requires.on in
    let is : IsMeasurement m = c.count-count.ensures.keeps in
    let exact : c.slot_of.result ≡ slot_at def.rate c.base.result m.soc m.frac =
    subst (λ (x : Measurement). c.slot_of.result ≡ slot_at def.rate c.base.result x.soc x.frac) c.frame.view_is c.slot_of.ensures.exact in
    let turn = measure_is listed m (place ∷ []) s (length (placed def.members m.quality samples)) c.base.result (Ok c.in-Ok.slot) is (within_one _ place c.requires.place) on
    refl (omega (arith, long)) c.base.ensures.value (sym c.in-Ok.is ∙ exact) ∙ ap (λ bs. arrival_turn by_slots listed s bs (Ok c.in-Ok.slot)) one in
    let t : Turn (Aligned Piece) = arrival_turn by_slots listed s blocks (Ok c.in-Ok.slot) in
    let new = c.leave_all.new.output in
    let sent = subst (λ (x : Aligned Piece). Sends (map (slot_frame def listed) (all_leaving x).frames) c.arrive_one.new.output new) after c.leave_all.ensures.sends in
    let counted : c.arrive_one.new.output ≡ with_stats out (turn_stats t out.output.stats) =
    c.arrive_one.ensures.output ∙ ap (with_stats out) (one_counted (answer_at a c.in-Ok.slot member) out.output.stats) in
    let here : Sends t.frames (with_stats out (turn_stats t out.output.stats)) new = subst (λ (o : Sending). Sends t.frames o new) counted sent in
    subst (λ (v : StreamOf (Aligned Piece)). Sends (measure_turn by_slots listed m.soc m.quality m.frac samples v).frames
    (with_stats out (turn_stats (measure_turn by_slots listed m.soc m.quality m.frac samples v) out.output.stats)) new) c.self.view_is
    (subst (λ (u : Turn (Aligned Piece)). Sends u.frames (with_stats out (turn_stats u out.output.stats)) new) (sym turn) here)

pub returns-in-Some-pop_back-clause-copies : goal.returns-in-Some-pop_back-clause-copies
returns-in-Some-pop_back-clause-copies c =
    let m = c.args.frame.now in
    let place = c.args.place in
    let def = c.self.inside.definition in
    let a = c.self.inside.align in
    let s : StreamOf (Aligned Piece) = stream_of def a c.self.inside.changes c.self.inside.layouts in
    let samples = samples_at m (place ∷ []) in
    let listed = c.args.listed.now in
    let out = c.args.output.now in
    let piece = piece_of m place in
    let member = c.in-Some.member in
    let at : place_of def.members c.key.result ≡ Some member = sym c.place_near_guess.ensures ∙ c.in-Some.is in
    let one = one_block m def.members c.key.result place (Some member) c.count-count.ensures.keeps c.requires.place c.key.ensures.source c.key.ensures.pmu at in
    let blocks : List PlacedBlock = record { place = member; piece = piece } ∷ [] in
    let have : length (placed def.members m.quality samples) ≤ length c.args.blocks.now.items =
    subst (λ (v : StreamOf (Aligned Piece)). length (placed v.definition.members m.quality samples) ≤ length c.args.blocks.now.items) (sym c.self.view_is) c.requires.enough in
    let long : length (placed def.members m.quality samples) ≡ 1 = ap length one in
    let exist : 0 < length c.args.blocks.now.items = omega (arith, have, long) in
    let left = copies_left c.args.blocks.now.items (length c.args.blocks.now.items - 1) piece c.requires.copies (omega arith) in
    let items = ap (λ (b : Buffer Piece). b.items) c.pop_back.ensures.items in
    subst (λ (xs : List Piece). xs ≡ replicate (length xs) piece) (sym items) left.0

pub returns-in-Some-pop_back-clause-left : goal.returns-in-Some-pop_back-clause-left
returns-in-Some-pop_back-clause-left c =
    let m = c.args.frame.now in
    let place = c.args.place in
    let def = c.self.inside.definition in
    let a = c.self.inside.align in
    let s : StreamOf (Aligned Piece) = stream_of def a c.self.inside.changes c.self.inside.layouts in
    let samples = samples_at m (place ∷ []) in
    let listed = c.args.listed.now in
    let out = c.args.output.now in
    let piece = piece_of m place in
    let member = c.in-Some.member in
    let at : place_of def.members c.key.result ≡ Some member = sym c.place_near_guess.ensures ∙ c.in-Some.is in
    let one = one_block m def.members c.key.result place (Some member) c.count-count.ensures.keeps c.requires.place c.key.ensures.source c.key.ensures.pmu at in
    let blocks : List PlacedBlock = record { place = member; piece = piece } ∷ [] in
    let have : length (placed def.members m.quality samples) ≤ length c.args.blocks.now.items =
    subst (λ (v : StreamOf (Aligned Piece)). length (placed v.definition.members m.quality samples) ≤ length c.args.blocks.now.items) (sym c.self.view_is) c.requires.enough in
    let long : length (placed def.members m.quality samples) ≡ 1 = ap length one in
    let exist : 0 < length c.args.blocks.now.items = omega (arith, have, long) in
    let left = copies_left c.args.blocks.now.items (length c.args.blocks.now.items - 1) piece c.requires.copies (omega arith) in
    let items = ap (λ (b : Buffer Piece). length b.items) c.pop_back.ensures.items in
    subst (λ (v : StreamOf (Aligned Piece)). length c.args.blocks.now.items ≤ length c.pop_back.new.self.items + length (placed v.definition.members m.quality samples)) c.self.view_is
    (omega (arith, left.1, items, long, exist))

pub returns-in-Some-pop_back-clause-capacity : goal.returns-in-Some-pop_back-clause-capacity
returns-in-Some-pop_back-clause-capacity c =
    ap (λ (b : Buffer Piece). b.capacity) c.pop_back.ensures.items

pub returns-in-Some-pop_back-clause-bounded : goal.returns-in-Some-pop_back-clause-bounded
returns-in-Some-pop_back-clause-bounded c =
    let m = c.args.frame.now in
    let place = c.args.place in
    let def = c.self.inside.definition in
    let a = c.self.inside.align in
    let s : StreamOf (Aligned Piece) = stream_of def a c.self.inside.changes c.self.inside.layouts in
    let samples = samples_at m (place ∷ []) in
    let listed = c.args.listed.now in
    let out = c.args.output.now in
    let piece = piece_of m place in
    let member = c.in-Some.member in
    let at : place_of def.members c.key.result ≡ Some member = sym c.place_near_guess.ensures ∙ c.in-Some.is in
    let one = one_block m def.members c.key.result place (Some member) c.count-count.ensures.keeps c.requires.place c.key.ensures.source c.key.ensures.pmu at in
    let blocks : List PlacedBlock = record { place = member; piece = piece } ∷ [] in
    let have : length (placed def.members m.quality samples) ≤ length c.args.blocks.now.items =
    subst (λ (v : StreamOf (Aligned Piece)). length (placed v.definition.members m.quality samples) ≤ length c.args.blocks.now.items) (sym c.self.view_is) c.requires.enough in
    let long : length (placed def.members m.quality samples) ≡ 1 = ap length one in
    let exist : 0 < length c.args.blocks.now.items = omega (arith, have, long) in
    let same : c.in-Some-pop_back.block ≡ piece =
    popped c.pop_back.result c.args.blocks.now.items c.in-Some-pop_back.block piece c.pop_back.ensures.value c.in-Some-pop_back.is c.requires.copies exist in
    let after : c.arrive_one.new.align ≡ with_arrival a c.in-Ok.slot member piece =
    c.arrive_one.ensures.slots ∙ ap (with_arrival a c.in-Ok.slot member) same in
    let keep = arrivals-keep def.rate a c.in-Ok.slot blocks c.in-Ok.ensures.time c.self.invariant.timed in
    let longer = ap (λ (x : Aligned Piece). length x.slots) after in
    let made = ap (λ (o : Sending). o.made) c.arrive_one.ensures.output in
    omega (arith, keep.longer, longer, made, c.self.invariant.few, c.self.invariant.window, c.self.invariant.limits.numbers.window.1, c.leave_all.ensures.few)

pub returns-in-Err-clause-stream : goal.returns-in-Err-clause-stream
returns-in-Err-clause-stream c =
    let m = c.args.frame.now in
    let place = c.args.place in
    let def = c.self.inside.definition in
    let a = c.self.inside.align in
    let s : StreamOf (Aligned Piece) = stream_of def a c.self.inside.changes c.self.inside.layouts in
    let samples = samples_at m (place ∷ []) in
    let listed = c.args.listed.now in
    let out = c.args.output.now in
    let piece = piece_of m place in
    let member = c.in-Some.member in
    let at : place_of def.members c.key.result ≡ Some member = sym c.place_near_guess.ensures ∙ c.in-Some.is in
    let one = one_block m def.members c.key.result place (Some member) c.count-count.ensures.keeps c.requires.place c.key.ensures.source c.key.ensures.pmu at in
    let blocks : List PlacedBlock = record { place = member; piece = piece } ∷ [] in
    let have : length (placed def.members m.quality samples) ≤ length c.args.blocks.now.items =
    subst (λ (v : StreamOf (Aligned Piece)). length (placed v.definition.members m.quality samples) ≤ length c.args.blocks.now.items) (sym c.self.view_is) c.requires.enough in
    let long : length (placed def.members m.quality samples) ≡ 1 = ap length one in
    let exist : 0 < length c.args.blocks.now.items = omega (arith, have, long) in
    let on : a.is_on ≡ true = subst (λ (v : StreamOf (Aligned Piece)). v.slots.is_on ≡ true) (sym c.self.view_is) c.requires.on in
    let is : IsMeasurement m = c.count-count.ensures.keeps in
    let exact : c.slot_of.result ≡ slot_at def.rate c.base.result m.soc m.frac =
    subst (λ (x : Measurement). c.slot_of.result ≡ slot_at def.rate c.base.result x.soc x.frac) c.frame.view_is c.slot_of.ensures.exact in
    let turn = measure_is listed m (place ∷ []) s (length (placed def.members m.quality samples)) c.base.result (Err c.in-Err.field-0) is (within_one _ place c.requires.place) on
    refl (omega (arith, long)) c.base.ensures.value (sym c.in-Err.is ∙ exact) ∙ ap (λ bs. arrival_turn by_slots listed s bs (Err c.in-Err.field-0)) one in
    let t : Turn (Aligned Piece) = arrival_turn by_slots listed s blocks (Err c.in-Err.field-0) in
    subst (λ (v : StreamOf (Aligned Piece)). s ≡ (measure_turn by_slots listed m.soc m.quality m.frac samples v).stream) c.self.view_is
    (sym (ap (λ (u : Turn (Aligned Piece)). u.stream) turn))

pub returns-in-Err-clause-sends : goal.returns-in-Err-clause-sends
returns-in-Err-clause-sends c =
    let m = c.args.frame.now in
    let place = c.args.place in
    let def = c.self.inside.definition in
    let a = c.self.inside.align in
    let s : StreamOf (Aligned Piece) = stream_of def a c.self.inside.changes c.self.inside.layouts in
    let samples = samples_at m (place ∷ []) in
    let listed = c.args.listed.now in
    let out = c.args.output.now in
    let piece = piece_of m place in
    let member = c.in-Some.member in
    let at : place_of def.members c.key.result ≡ Some member = sym c.place_near_guess.ensures ∙ c.in-Some.is in
    let one = one_block m def.members c.key.result place (Some member) c.count-count.ensures.keeps c.requires.place c.key.ensures.source c.key.ensures.pmu at in
    let blocks : List PlacedBlock = record { place = member; piece = piece } ∷ [] in
    let have : length (placed def.members m.quality samples) ≤ length c.args.blocks.now.items =
    subst (λ (v : StreamOf (Aligned Piece)). length (placed v.definition.members m.quality samples) ≤ length c.args.blocks.now.items) (sym c.self.view_is) c.requires.enough in
    let long : length (placed def.members m.quality samples) ≡ 1 = ap length one in
    let exist : 0 < length c.args.blocks.now.items = omega (arith, have, long) in
    let on : a.is_on ≡ true = subst (λ (v : StreamOf (Aligned Piece)). v.slots.is_on ≡ true) (sym c.self.view_is) c.requires.on in
    let is : IsMeasurement m = c.count-count.ensures.keeps in
    let exact : c.slot_of.result ≡ slot_at def.rate c.base.result m.soc m.frac =
    subst (λ (x : Measurement). c.slot_of.result ≡ slot_at def.rate c.base.result x.soc x.frac) c.frame.view_is c.slot_of.ensures.exact in
    let turn = measure_is listed m (place ∷ []) s (length (placed def.members m.quality samples)) c.base.result (Err c.in-Err.field-0) is (within_one _ place c.requires.place) on
    refl (omega (arith, long)) c.base.ensures.value (sym c.in-Err.is ∙ exact) ∙ ap (λ bs. arrival_turn by_slots listed s bs (Err c.in-Err.field-0)) one in
    let t : Turn (Aligned Piece) = arrival_turn by_slots listed s blocks (Err c.in-Err.field-0) in
    let new = c.count_past.new.self in
    let here : Sends t.frames (with_stats out (turn_stats t out.output.stats)) new = subst (λ (o : Sending). Sends [] o new) c.count_past.ensures (sends-none new) in
    subst (λ (v : StreamOf (Aligned Piece)). Sends (measure_turn by_slots listed m.soc m.quality m.frac samples v).frames
    (with_stats out (turn_stats (measure_turn by_slots listed m.soc m.quality m.frac samples v) out.output.stats)) new) c.self.view_is
    (subst (λ (u : Turn (Aligned Piece)). Sends u.frames (with_stats out (turn_stats u out.output.stats)) new) (sym turn) here)

pub returns-in_default : goal.returns-in_default
returns-in_default c =
    let m = c.args.frame.now in
    let place = c.args.place in
    let def = c.self.inside.definition in
    let a = c.self.inside.align in
    let s : StreamOf (Aligned Piece) = stream_of def a c.self.inside.changes c.self.inside.layouts in
    let samples = samples_at m (place ∷ []) in
    let listed = c.args.listed.now in
    let out = c.args.output.now in
    let none : place_of def.members c.key.result ≡ None = sym c.place_near_guess.ensures ∙ c.in_default.is in
    let no = one_block m def.members c.key.result place None c.count-count.ensures.keeps c.requires.place c.key.ensures.source c.key.ensures.pmu none in
    let turn = nothing-turns listed m (place ∷ []) s (ap length no) in
    let new = out in
    let here : Sends (still s).frames (with_stats out (turn_stats (still s) out.output.stats)) out = sends-none out in
    record {
      stream = subst (λ (v : StreamOf (Aligned Piece)). s ≡ (measure_turn by_slots listed m.soc m.quality m.frac samples v).stream) c.self.view_is
          (sym (ap (λ (u : Turn (Aligned Piece)). u.stream) turn));
      sends = subst (λ (v : StreamOf (Aligned Piece)). Sends (measure_turn by_slots listed m.soc m.quality m.frac samples v).frames
          (with_stats out (turn_stats (measure_turn by_slots listed m.soc m.quality m.frac samples v) out.output.stats)) new) c.self.view_is
          (subst (λ (u : Turn (Aligned Piece)). Sends u.frames (with_stats out (turn_stats u out.output.stats)) new) (sym turn) here);
      copies = c.requires.copies;
      left = omega arith;
      capacity = refl;
      bounded = omega arith;
    }
