use Rattle.std.proofs.Common.{◌≡◌, List, ◌∷◌, [], map, Some, refl, sym, ap, subst, arith}
use Rattle.pg_data.specs.Pieces.{Piece, piece_of}
use Rattle.pg_session.specs.Events.{samples_at}
use Rattle.pg_session.specs.Streams.{place_of, with_place, placed}
use Rattle.pg_session.specs.Wanted.{piece_of_placed}
use Rattle.pg_session.specs.Ready.{GoesOn}
use Rattle.pg_session.proofs.Arrivals.{placed_next}
use Rattle.pg_session.proofs.Going.{no_block}
use Rattle.pg_session.proofs.accepting.after_block.Goals as goal

pub returns-then-place-count : goal.returns-then-place-count
returns-then-place-count c =
    let m = c.args.frame.now in
    let items = c.args.blocks.now.items in
    subst (λ (ps : List Piece). GoesOn items c.args.next ps (Some c.args.next))
    (sym (no_block m c.args.definition.now.members c.args.place (omega (arith, c.if-place-count.true, c.count-count.ensures.value)))) (refl, c.requires.within)

pub returns : goal.returns
returns c =
    let m = c.args.frame.now in
    let members = c.args.definition.now.members in
    let items = c.args.blocks.now.items in
    let place = c.args.place in
    let pieces : map piece_of_placed (placed members m.quality (samples_at m (place ∷ [])))
    ≡ map piece_of_placed (with_place (place_of members c.key-key.result) (piece_of m place) []) =
    ap (map piece_of_placed) (placed_next m members (place ∷ []) 0 c.key-key.result c.count-count.ensures.keeps (omega arith)
    (omega (arith, c.if-place-count.false, c.count-count.ensures.value)) c.key-key.ensures.source c.key-key.ensures.pmu) in
    subst (λ (ps : List Piece). GoesOn items c.args.next ps c.after_own_block.result) (sym pieces) c.after_own_block.ensures
