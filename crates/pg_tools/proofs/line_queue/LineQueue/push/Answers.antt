use Rattle.std.proofs.Common.{rules, ◌≡◌, ◌∙◌, sym}
use Rattle.pg_tools.specs.Queueing.{fitting}
use Rattle.pg_tools.proofs.Fitting.{alone, fits}
use Rattle.pg_tools.proofs.line_queue.LineQueue.push.Goals as goal

pub returns-after-room-clause-entries : goal.returns-after-room-clause-entries
returns-after-room-clause-entries c =
    let kept : fitting c.room.self.most c.room.self.lines c.room.self.entries ≡ c.room.self.entries = alone c.room.self.most c.room.self.lines c.room.self.entries (search rules) in
    sym kept ∙ search rules

pub returns-then-self-clause-entries : goal.returns-then-self-clause-entries
returns-then-self-clause-entries c =
    let kept : fitting c.room.self.most c.room.self.lines c.room.self.entries ≡ c.room.self.entries = fits c.room.self.most c.room.self.lines c.room.self.entries (search rules) in
    sym kept ∙ search rules
