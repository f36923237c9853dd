use Rattle.std.proofs.Common.{◌≡◌, ◌+◌, ◌≤◌, [], ◌∷◌, ◌++◌, length, vec_len, ap, sym, ◌∙◌, arith}
use Rattle.std.proofs.lemmas.Grind.{common_steps}
use Rattle.pg_ring.specs.Shown.{bytes_in}
use Rattle.pg_ring.specs.Items.{shown, framed_of}
use Rattle.pg_ring.proofs.Room.{roomy_pushed, bytes_in-append, HaveBytes-push}
use Rattle.std.proofs.lemmas.List.{map-append}
use Rattle.pg_ring.proofs.ring.push_last.Goals as goal

bytes_long : (c : goal.In-Ok) → length c.args.frame.bytes.items ≡ vec_len c.args.frame.bytes
bytes_long c = grind (arith, common_steps)

kept : (c : goal.In-Ok) → c.try_push_back.new.self.items ≡ c.args.frames.now.items ++ c.args.frame ∷ []
kept c = ap (λ b. b.items) c.in-Ok.ensures.ok

shown_then : (c : goal.In-Ok) → shown c.try_push_back.new.self.items ≡ shown c.args.frames.now.items ++ framed_of c.args.frame ∷ []
shown_then c = ap shown (kept c) ∙ map-append framed_of c.args.frames.now.items (c.args.frame ∷ [])

pub returns-clause-frames : goal.returns-clause-frames
returns-clause-frames c = λ limit light.
    let items = c.args.frames.now.items in
    let fits : bytes_in (shown items) + length c.args.frame.bytes.items ≤ limit = rw (← c.requires.counted) (rw (bytes_long c) light) in
    ap shown (kept c) ∙ sym (roomy_pushed c.args.frames.now.capacity limit items c.args.frame c.requires.room fits c.first_is_number.ensures c.is_number.ensures)

pub returns-clause-counted : goal.returns-clause-counted
returns-clause-counted c =
    let sum = bytes_in-append (shown c.args.frames.now.items) (framed_of c.args.frame ∷ []) in
    rw (shown_then c) (omega (arith, sum, c.requires.counted, c.len.ensures, bytes_long c))

pub returns-clause-have_bytes : goal.returns-clause-have_bytes
returns-clause-have_bytes c =
    rw (shown_then c) (HaveBytes-push (shown c.args.frames.now.items) (framed_of c.args.frame) c.requires.have_bytes (rw (bytes_long c) c.requires.has_byte))
