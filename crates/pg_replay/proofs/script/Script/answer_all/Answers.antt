use Rattle.std.proofs.Common.{◌≡◌, ◌++◌, ap, subst, ◌∙◌, arith}
use Rattle.std.specs.Prelude.{OnOk, IfOk, IfSome}
use Rattle.std.specs.Vec.{vec_len}
use Rattle.std.specs.Io.BufRead.{take_through}
use Rattle.std.specs.Prelude.{◌+◌}
use Rattle.pg_replay.specs.Answering.{AnswersLine}
use Rattle.pg_lines.specs.Edits.{without_end}
use Rattle.pg_replay.proofs.ReplayLaws.{so-more, so-all}
use Rattle.pg_replay.proofs.script.Script.answer_all.Goals as goal

pub loop-turn-preserved : goal.loop-turn-preserved
loop-turn-preserved g c = λ script is.
    let line = c.read_line_bytes.new.buf.items in
    let whole = c.without_end.ensures.value ∙ ap without_end c.as_slice.ensures.value in
    let answers = subst (λ l. AnswersLine c.loop-turn.self.world l (g.W.Write.contents c.loop-turn.out) (g.W.Write.contents c.answer.new.out) c.answer.new.self.world) whole c.in_ok-answer-in-Ok.ensures.answers in
    so-more c.args.self.now.world c.loop-turn.self.world c.answer.new.self.world script (g.B.Read.remaining c.loop-turn.reader) (g.B.Read.remaining c.read_line_bytes.new.reader)
    (g.W.Write.contents c.args.out.now) (g.W.Write.contents c.loop-turn.out) (g.W.Write.contents c.answer.new.out) c.clear.new.self.items line
    (c.loop-turn.invariant script is) c.clear.ensures.items c.in-Ok.ensures.bytes c.in-Ok.ensures.rest
    (omega (arith, c.in-Ok.ensures.ok, c.clear.ensures.len, c.read_line_bytes.new.buf.ok.0, c.in-Ok.field-0-test)) answers

pub returns-in-Ok-eq0 : goal.returns-in-Ok-eq0
returns-in-Ok-eq0 g c = record {
  answers = λ script is.
      let read = subst (λ r. OnOk r (IfSome (g.B.Read.remaining c.loop-turn.reader) (λ xs. c.read_line_bytes.new.buf.items ≡ c.clear.new.self.items ++ take_through 10 xs))) c.in-Ok-eq0.is c.read_line_bytes.ensures.bytes in
      let len = subst (λ r. IfOk r (λ n. vec_len c.read_line_bytes.new.buf ≡ vec_len c.clear.new.self + n)) c.in-Ok-eq0.is c.read_line_bytes.ensures.ok in
      so-all c.args.self.now.world c.loop-turn.self.world script (g.B.Read.remaining c.loop-turn.reader) (g.W.Write.contents c.args.out.now) (g.W.Write.contents c.loop-turn.out)
      c.clear.new.self.items c.read_line_bytes.new.buf.items (c.loop-turn.invariant script is) c.clear.ensures.items read
      (omega (arith, len, c.clear.ensures.len, c.read_line_bytes.new.buf.ok.0, c.in-Ok-eq0.field-0-test));
}
