use Rattle.std.proofs.Common.{rules, ◌≡◌, ◌∙◌, sym, true}
use Rattle.pg_record.specs.Rows.{is_row}
use Rattle.pg_record.proofs.Rows.{row_is_between}
use Rattle.pg_record.proofs.recording.Recording.is_whole.Goals as goal

pub returns-clause-law : goal.returns-clause-law
returns-clause-law g c = λ (row : c.is_row.result ≡ true). let is : c.is_row.result ≡ is_row c.args.from c.args.self.now.notes.items = search rules in
    row_is_between g.J.Records.says c.args.self.now.seat.seen c.args.from c.args.self.now.notes.items c.args.self.now.stands (sym is ∙ row)
