use Rattle.std.proofs.Common.{not, ap, sym, ◌∙◌}
use Rattle.pg_session.specs.Events.{announced_at}
use Rattle.pg_session.proofs.Shapes.{put_counts, removed_counts, all_counts}
use Rattle.pg_session.proofs.change.Change.counts.Goals as goal

pub returns-in-Put : goal.returns-in-Put
returns-in-Put c =
    rw c.in-Put.is (rw c.in-Put.is at c.concerns.ensures ∙ sym (ap not (put_counts c.args.listed.now c.in-Put.key c.in-Put.field-1.now)))

pub returns-in-PutAll : goal.returns-in-PutAll
returns-in-PutAll c =
    rw c.in-PutAll.is (rw c.in-PutAll.is at c.concerns_one.ensures ∙ sym (ap not (all_counts c.args.listed.now (announced_at c.in-PutAll.config.now c.in-PutAll.places.now))))

pub returns-in-Remove : goal.returns-in-Remove
returns-in-Remove c =
    rw c.in-Remove.is (rw c.in-Remove.is at c.concerns-in-Remove.ensures ∙ sym (ap not (removed_counts c.args.listed.now c.in-Remove.key)))
