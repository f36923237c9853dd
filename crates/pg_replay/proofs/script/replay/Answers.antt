use Rattle.std.proofs.Common.{ap, ◌∙◌}
use Rattle.std.specs.Io.Buffered.{reader_capacity, reader_buffer}
use Rattle.pg_replay.proofs.ReplayLaws.{prints_script, prints-flushed, left_in}
use Rattle.pg_replay.proofs.script.replay.Goals as goal

pub returns : goal.returns
returns g c = record {
  prints = λ script is.
      let reader = c.in-Ok.reader in
      let left = left_in (reader_capacity reader) (reader_buffer reader) script (g.R.Read.remaining reader.inner) c.in-Ok.ensures.capacity c.in-Ok.ensures.empty
      (ap g.R.Read.remaining c.in-Ok.ensures.inner ∙ is) in
      let answers = c.in_ok-answer_all.ensures.answers script left in
      prints-flushed script (g.W.Write.contents c.args.out.now) (g.W.Write.contents c.answer_all.new.out) (g.W.Write.contents c.flush.new.out)
      (prints_script c.in-Ok-new.world script (g.W.Write.contents c.args.out.now) (g.W.Write.contents c.answer_all.new.out) c.in-Ok-new.ensures.shows answers)
      c.in_ok-flush.ensures.keeps;
}
