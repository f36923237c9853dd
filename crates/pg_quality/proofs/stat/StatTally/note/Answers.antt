use Rattle.std.proofs.Common.{◌≡◌}
use Rattle.pg_quality.proofs.Repeating.{repeated_more}
use Rattle.pg_quality.proofs.stat.StatTally.note.Goals as goal

pub returns-then-stat-self : goal.returns-then-stat-self
returns-then-stat-self c =
    let same : c.args.stat ≡ c.self.inside.counts.last = c.if-stat-self.true in
    rw (← c.self.view_is, c.saturating_add-self-inside.ensures, same) (repeated_more c.self.inside.counts c.self.inside.repeated)
