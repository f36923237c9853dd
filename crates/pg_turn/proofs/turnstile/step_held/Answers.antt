use Rattle.std.proofs.Common.{rules, arith, ◌≡◌, ◌+◌, ◌∷◌, ◌++◌, [], ap, sym, ◌∙◌, subst, Some, length, length-append}
use Rattle.atomic_table.specs.Table.{rest}
use Rattle.pg_turn.specs.declared.counted.Counted.{Counted}
use Rattle.pg_turn.specs.Counting.{capped}
use Rattle.pg_turn.proofs.Histories.{slot_is}
use Rattle.pg_turn.proofs.turnstile.step_held.Goals as goal

pub slot_mut-slot-requires : goal.slot_mut-slot-requires
slot_mut-slot-requires g c = let t = c.requires.taken in (search rules, (Some t.0, t.1 ∙ ap (λ cs. (0, Some t.0) ∷ rest cs) (sym t.1)))

pub returns-clause-stepped : goal.returns-clause-stepped
returns-clause-stepped g c = let t = c.requires.taken in
    let seen = c.args.place.now.me.0.seen in
    let call : g.row.M-Event.Denot × g.row.M-Reply.Denot = (c.args.event, c.step.result) in
    let same = slot_is t.0 _ _ _ _ t.1 c.slot_mut-slot.ensures.value c.in-Some.is in
    let was : c.in-Some.counted.calls ≡ capped (length seen) = ap (λ (k : Counted g.row.M.Denot). k.calls) same ∙ t.2.count in
    let long : length (seen ++ call ∷ []) ≡ length seen + 1 = length-append seen (call ∷ []) in
    let more : c.saturating_add-counted.result ≡ capped (c.in-Some.counted.calls + 1) = search rules in (
      record { machine = c.step.new.self; calls = c.saturating_add-counted.result },
      ap (λ l. (0, Some (record { machine = c.step.new.self; calls = c.saturating_add-counted.result })) ∷ rest l) t.1,
      record {
        machine = (c.step.ensures.law seen (subst (λ (k : Counted g.row.M.Denot). g.M.Machine.shows k.machine seen) (sym same) t.2.machine)).1;
        count = omega (arith, was, long, more);
      },
    )
