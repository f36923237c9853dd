use Rattle.std.proofs.Common.{◌≡◌, ◌-◌, ◌≤◌, ◌∙◌, ◌∷◌, ◌++◌, [], length, ap, sym, arith}
use Rattle.std.proofs.lemmas.Grind.{common_steps}
use Rattle.circular_buffer.specs.Buffer.{keep_last}
use Rattle.pg_ring.specs.Shown.{bytes_in}
use Rattle.pg_ring.specs.Steps.{pass_on, pushed}
use Rattle.pg_ring.specs.Items.{shown, framed_of}
use Rattle.pg_ring.proofs.Room.{full_pushed, gives_up}
use Rattle.pg_ring.proofs.ring.push_frame.Goals as goal

pub returns-clause-frames : goal.returns-clause-frames
returns-clause-frames c =
    let left = c.make_room-passed.new.frames in
    let size = c.args.frames.now.capacity in
    let given = gives_up (length left.items) left.capacity c.in-Some.oldest _ c.in-Some.ensures.value in
    let same_len : length left.items ≡ length c.args.frames.now.items
    = omega (arith, given.0, c.make_room-passed.ensures.capacity, c.make_room-passed.ensures.no_more, c.len-before.ensures.len, c.len-before.ensures.within.0) in
    let full : length left.items ≡ size
    = omega (arith, given.0, c.make_room-passed.ensures.capacity, c.make_room-passed.ensures.no_more, c.len-before.ensures.len, c.len-before.ensures.within.0) in
    let light : bytes_in (shown left.items) ≤ c.args.limit - length c.args.frame.bytes.items = grind (arith, common_steps) in
    let kept : c.push_back.new.self.items ≡ keep_last size (left.items ++ c.args.frame ∷ [])
    = ap (λ b. b.items) c.push_back.ensures.items ∙ ap (λ n. keep_last n (left.items ++ c.args.frame ∷ [])) c.make_room-passed.ensures.capacity in
    c.pass_gap-2.ensures.frames ∙ ap (λ l. pass_on c.saturating_add.result (shown l)) kept
    ∙ ap (λ gap. pass_on gap (shown (keep_last size (left.items ++ c.args.frame ∷ [])))) c.saturating_add.ensures
    ∙ sym (full_pushed size c.args.limit left.items c.in-Some.oldest c.args.frame full c.requires.some_size light given.1)
    ∙ ap (λ l. pushed size c.args.limit (shown l) (framed_of c.args.frame)) (c.make_room-passed.ensures.whole same_len)
