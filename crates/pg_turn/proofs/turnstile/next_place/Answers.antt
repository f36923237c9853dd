use Rattle.std.proofs.Common.{rules, ◌∷◌, ap, sym, ◌∙◌, Some}
use Rattle.atomic_table.specs.Table.{rest}
use Rattle.pg_turn.specs.declared.counted.Counted.{Counted}
use Rattle.pg_turn.proofs.Histories.{slot_is}
use Rattle.pg_turn.proofs.turnstile.next_place.Goals as goal

pub slot_mut-slot-requires : goal.slot_mut-slot-requires
slot_mut-slot-requires g c = let t = c.requires.taken in (search rules, (Some t.0, t.1 ∙ ap (λ cs. (0, Some t.0) ∷ rest cs) (sym t.1)))

pub returns-clause-same : goal.returns-clause-same
returns-clause-same g c = let me = c.args.place.now.me in let is = c.slot_mut-slot.ensures.value ∙ ap (λ s. (0, s) ∷ rest me.1) c.in-Some.is in λ i. (me.0, sym is i)

pub returns-clause-value : goal.returns-clause-value
returns-clause-value g c = let t = c.requires.taken in ap (λ (k : Counted g.row.M.Denot). k.calls) (slot_is t.0 _ _ _ _ t.1 c.slot_mut-slot.ensures.value c.in-Some.is) ∙ t.2.count
