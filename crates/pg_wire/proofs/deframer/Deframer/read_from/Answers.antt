use Rattle.std.proofs.Common.{[], rules, sym, ◌∙◌, arith}
use Rattle.std.proofs.lemmas.List.{places}
use Rattle.pg_wire.proofs.Placing.{fed_behind, same_behind, fed_broken, fed_none, failed_gave, on_err, shows_more}
use Rattle.pg_wire.proofs.deframer.Deframer.read_from.Goals as goal

pub returns-in_err-read-clause-read : goal.returns-in_err-read-clause-read
returns-in_err-read-clause-read g c =
    let is =
    same_behind c.args.self.now c.self.inside.bytes c.self.inside.start c.self.inside.end c.make_room-self-inside.result
    _ c.make_room-self-inside.new.bytes _ c.read_at.new.bytes c.self.inside.broken c.self.view_is
    c.deref_mut.ensures.value c.make_room-self-inside.ensures.held (search (rules, places)) c.deref_mut-2.ensures.value c.in_err-read.ensures.front (search (rules, places))
    ∙ sym (fed_none c.args.self.now) in
    ([], failed_gave _ _ _ c.from_residual.result _ c.from_residual.ensures.0 c.in_err-read.ensures.read.1, is, shows_more _ _ [] is)

pub returns-in_err-read-clause-err : goal.returns-in_err-read-clause-err
returns-in_err-read-clause-err g c =
    on_err c.from_residual.result _
    (same_behind c.args.self.now c.self.inside.bytes c.self.inside.start c.self.inside.end c.make_room-self-inside.result
    _ c.make_room-self-inside.new.bytes _ c.read_at.new.bytes c.self.inside.broken c.self.view_is
    c.deref_mut.ensures.value c.make_room-self-inside.ensures.held (search (rules, places)) c.deref_mut-2.ensures.value c.in_err-read.ensures.front (search (rules, places)))

pub returns-then-is_some-clause-read : goal.returns-then-is_some-clause-read
returns-then-is_some-clause-read g c =
    let piece = c.in_ok-read.ensures.read.0 in
    let is =
    same_behind c.args.self.now c.self.inside.bytes c.self.inside.start c.self.inside.end c.make_room-self-inside.result
    _ c.make_room-self-inside.new.bytes _ c.read_at.new.bytes c.self.inside.broken c.self.view_is
    c.deref_mut.ensures.value c.make_room-self-inside.ensures.held (search (rules, places)) c.deref_mut-2.ensures.value c.in_ok-read.ensures.front (search (rules, places))
    ∙ sym (fed_broken c.args.self.now _ piece c.self.inside.broken c.self.view_is (sym c.is_some.ensures ∙ c.if-is_some.true)) in
    (piece, c.in_ok-read.ensures.read.1, is, shows_more _ _ piece is)

pub returns-clause-read : goal.returns-clause-read
returns-clause-read g c =
    let piece = c.in_ok-read.ensures.read.0 in
    let is =
    fed_behind c.args.self.now c.self.inside.bytes c.self.inside.start c.self.inside.end c.make_room-self-inside.result c.in_ok-read.read
    _ c.make_room-self-inside.new.bytes _ c.read_at.new.bytes piece c.self.inside.broken c.self.view_is (sym c.is_some.ensures ∙ c.if-is_some.false)
    c.deref_mut.ensures.value c.make_room-self-inside.ensures.held (omega (arith, c.make_room-self-inside.ensures.fits, c.make_room-self-inside.auto.bytes))
    (search (rules, places)) c.deref_mut-2.ensures.value c.in_ok-read.ensures.read.2 (search (rules, places)) in
    (piece, c.in_ok-read.ensures.read.1, is, shows_more _ _ piece is)
