use Rattle.std.proofs.Common.{◌<◌, ◌∙◌, length, arith}
use Rattle.pg_align.proofs.Counting.{put_counted, counted-end, counted-insert}
use Rattle.pg_align.proofs.slot.open_slot.Goals as goal

pub returns-clause-counted : goal.returns-clause-counted
returns-clause-counted c effective h m t e =
    let within : c.args.place < length c.args.fresh.parts.items = omega (arith, c.requires.place, c.args.fresh.parts.ok.0) in
    let put = put_counted effective c.args.fresh.parts.items c.args.place c.args.part c.args.fresh.missing m t within e in
    rw (c.in-Ok.ensures.items) (counted-insert effective c.args.slots.now.items c.args.at _ h (c.saturating_sub.ensures ∙ put))

pub returns-then-at-len-clause-counted : goal.returns-then-at-len-clause-counted
returns-then-at-len-clause-counted c effective h m t e =
    let within : c.args.place < length c.args.fresh.parts.items = omega (arith, c.requires.place, c.args.fresh.parts.ok.0) in
    let put = put_counted effective c.args.fresh.parts.items c.args.place c.args.part c.args.fresh.missing m t within e in
    rw c.push_reserved.ensures.items (counted-end effective c.args.slots.now.items _ h (c.saturating_sub.ensures ∙ put))
