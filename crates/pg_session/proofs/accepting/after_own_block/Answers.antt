use Rattle.std.proofs.Common.{◌+◌, Some, None, sym, ◌∙◌, subst, arith}
use Rattle.std.proofs.lemmas.Option.{slice_get_within}
use Rattle.pg_data.specs.Pieces.{piece_of}
use Rattle.pg_session.specs.Streams.{place_of}
use Rattle.pg_session.specs.Ready.{GoesOn}
use Rattle.pg_session.proofs.Going.{one_next, one_not, member_pieces}
use Rattle.pg_session.proofs.accepting.after_own_block.Goals as goal

pub returns-then-not-is_block : goal.returns-then-not-is_block
returns-then-not-is_block c =
    let p = piece_of c.args.frame.now c.args.place in
    let items = c.args.blocks.now.items in
    let pieces = member_pieces (place_of c.args.definition.now.members c.args.key.now) p c.in-Some._member (sym c.place_in.ensures ∙ c.in-Some.is) in
    subst (λ ps. GoesOn items c.args.next ps None) (sym pieces)
    (one_not items c.args.next p (λ e. absurd (cc (c.is_block.ensures.1 e, c.if-not-is_block.true))))

pub overflow_add-result : goal.overflow_add-result
overflow_add-result c =
    let there = c.is_block.ensures.0 c.if-not-is_block.false in
    let within = slice_get_within c.args.blocks.now.items c.args.next (piece_of c.args.frame.now c.args.place) there in
    omega (arith, within, c.len-len.ensures.within.0, c.len-len.ensures.within.1, c.len-len.ensures.len)

pub returns : goal.returns
returns c =
    let p = piece_of c.args.frame.now c.args.place in
    let items = c.args.blocks.now.items in
    let pieces = member_pieces (place_of c.args.definition.now.members c.args.key.now) p c.in-Some._member (sym c.place_in.ensures ∙ c.in-Some.is) in
    subst (λ ps. GoesOn items c.args.next ps (Some (c.args.next + 1))) (sym pieces)
    (one_next items c.args.next p (c.is_block.ensures.0 c.if-not-is_block.false))
