use Rattle.std.proofs.Common.{◌+◌, ◌<◌, List, length, map, Some, None, sym, ap, subst, arith}
use Rattle.std.specs.Arc.{arc_value}
use Rattle.pg_config.specs.Parts.{Part, Source}
use Rattle.pg_session.specs.Ready.{GoesOn}
use Rattle.pg_session.proofs.Changing.{part_there}
use Rattle.pg_session.proofs.Going.{one_next, one_not, one_config}
use Rattle.pg_session.proofs.accepting.after_config.Goals as goal

pub returns-then-not-is_copy : goal.returns-then-not-is_copy
returns-then-not-is_copy c =
    let config = c.args.config.now in
    let items = map arc_value c.args.configs.now.items in
    let within : c.args.place < length config.parts = omega (arith, c.if-place-count.false, c.count.ensures.value) in
    let there = part_there arc_value c.config.inside.parts.items c.args.place c.index.result.now config.parts c.deref.result.now
    (ap (λ (s : Source). s.parts) c.config.view_is) within c.index.ensures c.deref.ensures in
    subst (λ (ps : List Part). GoesOn items c.args.next ps None) (sym (one_config config c.args.place c.deref.result.now there))
    (one_not items c.args.next c.deref.result.now (λ e. absurd (cc (c.is_copy.ensures.1 e, c.if-not-is_copy.true))))

pub returns : goal.returns
returns c =
    let config = c.args.config.now in
    let items = map arc_value c.args.configs.now.items in
    let within : c.args.place < length config.parts = omega (arith, c.if-place-count.false, c.count.ensures.value) in
    let there = part_there arc_value c.config.inside.parts.items c.args.place c.index.result.now config.parts c.deref.result.now
    (ap (λ (s : Source). s.parts) c.config.view_is) within c.index.ensures c.deref.ensures in
    subst (λ (ps : List Part). GoesOn items c.args.next ps (Some (c.args.next + 1))) (sym (one_config config c.args.place c.deref.result.now there))
    (one_next items c.args.next c.deref.result.now (c.is_copy.ensures.0 c.if-not-is_copy.false))
