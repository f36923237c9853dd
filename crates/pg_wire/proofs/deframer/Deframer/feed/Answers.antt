use Rattle.std.proofs.Common.{rules, sym, ◌∙◌, length, arith}
use Rattle.std.proofs.lemmas.List.{places}
use Rattle.pg_wire.proofs.Placing.{fed_behind, fed_broken, shows_more}
use Rattle.pg_wire.proofs.deframer.Deframer.feed.Goals as goal

pub returns-then-is_some-clause-shows : goal.returns-then-is_some-clause-shows
returns-then-is_some-clause-shows c =
    shows_more _ _ _ (sym (fed_broken _ _ c.args.piece.now c.self.inside.broken c.self.view_is (sym c.is_some.ensures ∙ c.if-is_some.true)))

pub returns-clause-state : goal.returns-clause-state
returns-clause-state c =
    fed_behind c.args.self.now c.self.inside.bytes c.self.inside.start c.self.inside.end c.make_room-self-inside.result (length c.args.piece.now)
    _ c.make_room-self-inside.new.bytes _ c.put_at.new.bytes c.args.piece.now c.self.inside.broken c.self.view_is (sym c.is_some.ensures ∙ c.if-is_some.false)
    c.deref_mut.ensures.value c.make_room-self-inside.ensures.held (omega (arith, c.make_room-self-inside.ensures.fits, c.make_room-self-inside.auto.bytes))
    (search (rules, places)) c.deref_mut-2.ensures.value c.put_at.ensures (search (rules, places))

pub returns-clause-shows : goal.returns-clause-shows
returns-clause-shows c = shows_more _ _ _ (returns-clause-state c)
