use Rattle.std.proofs.Common.{refl, sym, ◌∙◌, ◌<◌, subst, inr, length, None, Some, false}
use Rattle.pg_session.specs.Commands.{Hearing}
use Rattle.pg_shared.proofs.Sessions.{turned_more, turned_wrote, turned_read, turned_failed, turned_pushed, turned_any, turned_end, given_same, breaks_same, cut_not_quiet, cut_waits, drain_is_due, ends_read, ends_so, unwaited, failed_gives_nothing, heard_nothing, closed_at_end, read_end}
use Rattle.pg_shared.specs.Serving.{due_read}
use Rattle.pg_shared.specs.Turned.{HasGivenAll, is_quiet}
use Rattle.pg_shared.proofs.serve.turn.Goals as goal

pub returns-in-Some-clause-ran : goal.returns-in-Some-clause-ran
returns-in-Some-clause-ran g c = (
  false,
  false,
  unwaited c.in-Some.end,
  turned_end c.in-Some.end _ _ _ _ _ _ _ _ _ _ _ (cut_not_quiet c.in-Some.end c.in-Some.ensures.cut)
      (turned_wrote _ _ _ _ _ _ _ c.push_left.ensures.writes c.push_left.ensures.same),
)

pub returns-in-Some-clause-given : goal.returns-in-Some-clause-given
returns-in-Some-clause-given g c = given_same _ _ c.push_left.ensures.same c.requires.given

pub returns-then-has_failed-clause-ran : goal.returns-then-has_failed-clause-ran
returns-then-has_failed-clause-ran g c =
    let read = c.read_from-read.ensures.read in
    let none = failed_gives_nothing c.end_of_read-end.result read.0 (g.R.Read.remaining c.read_from-read.new.reader) (c.end_of_read-end.ensures.gave _ _ read.0 read.1) (sym c.has_failed.ensures ∙ c.if-has_failed.true) in (
      false,
      false,
      inr refl,
      turned_end _ _ _ _ _ _ _ _ _ _ _ _ tt
          (turned_more _ _ _ _ _ _ _ _ _ _ _ _ _ _ _ _ _ _ (turned_wrote _ _ _ _ _ _ _ c.push_left.ensures.writes c.push_left.ensures.same)
          (turned_failed _ _ _ _ _ _ _ read.0 none read.1.consumed read.2)),
    )

pub returns-then-has_failed-clause-room : goal.returns-then-has_failed-clause-room
returns-then-has_failed-clause-room g c =
    let read = c.read_from-read.ensures.read in
    let none = failed_gives_nothing c.end_of_read-end.result read.0 (g.R.Read.remaining c.read_from-read.new.reader) (c.end_of_read-end.ensures.gave _ _ read.0 read.1) (sym c.has_failed.ensures ∙ c.if-has_failed.true) in
    subst (λ (v : Hearing). length v.bytes.held < 65535) (sym (heard_nothing _ _ read.0 read.2 none ∙ c.push_left.ensures.same)) c.requires.room

pub returns-then-has_failed-clause-given : goal.returns-then-has_failed-clause-given
returns-then-has_failed-clause-given g c =
    let read = c.read_from-read.ensures.read in
    let none = failed_gives_nothing c.end_of_read-end.result read.0 (g.R.Read.remaining c.read_from-read.new.reader) (c.end_of_read-end.ensures.gave _ _ read.0 read.1) (sym c.has_failed.ensures ∙ c.if-has_failed.true) in
    subst HasGivenAll (sym (heard_nothing _ _ read.0 read.2 none)) (given_same _ _ c.push_left.ensures.same c.requires.given)

pub returns-in-Some-post_commands-clause-ran : goal.returns-in-Some-post_commands-clause-ran
returns-in-Some-post_commands-clause-ran g c =
    let read = c.read_from-read.ensures.read in (
      due_read false read.0,
      false,
      inr refl,
      turned_end _ _ _ _ _ _ _ _ _ _ _ _ tt
          (turned_more _ _ _ _ _ _ _ _ _ _ _ _ _ _ _ _ _ _ (turned_wrote _ _ _ _ _ _ _ c.push_left.ensures.writes c.push_left.ensures.same)
          (turned_more _ _ _ _ _ _ _ _ _ _ _ _ _ _ _ _ _ _ (turned_read _ _ _ _ _ _ _ read.0 read.1.consumed read.2 read.3)
          (c.post_commands.ensures.ran _ _ _))),
    )

pub returns-then-is_closed-clause-ran : goal.returns-then-is_closed-clause-ran
returns-then-is_closed-clause-ran g c =
    let read = c.read_from-read.ensures.read in (
      due_read false read.0,
      false,
      refl,
      turned_end _ _ _ _ _ _ _ _ _ _ _ _ tt
          (turned_more _ _ _ _ _ _ _ _ _ _ _ _ _ _ _ _ _ _ (turned_wrote _ _ _ _ _ _ _ c.push_left.ensures.writes c.push_left.ensures.same)
          (turned_more _ _ _ _ _ _ _ _ _ _ _ _ _ _ _ _ _ _ (turned_read _ _ _ _ _ _ _ read.0 read.1.consumed read.2 read.3)
          (c.post_commands.ensures.ran _ _ _))),
    )

pub returns-then-is_closed-clause-closed : goal.returns-then-is_closed-clause-closed
returns-then-is_closed-clause-closed g c = λ _.
    closed_at_end c.end_of_read-end.result c.read_from-read.ensures.read.0 (g.R.Read.remaining c.read_from-read.new.reader) (c.end_of_read-end.ensures.gave _ _ c.read_from-read.ensures.read.0 c.read_from-read.ensures.read.1)
    (c.is_closed.ensures.closed c.if-is_closed.true)

pub returns-in-Some-push_left-clause-ran : goal.returns-in-Some-push_left-clause-ran
returns-in-Some-push_left-clause-ran g c =
    let read = c.read_from-read.ensures.read in
    let end = c.end_of_read-end.ensures.gave _ _ read.0 read.1 in
    let due = drain_is_due c.end_of_read-end.result read.0 (g.R.Read.remaining c.read_from-read.new.reader) end (read_end c.end_of_read-end.result read.0 (g.R.Read.remaining c.read_from-read.new.reader) end (sym c.has_failed.ensures ∙ c.if-has_failed.false)) (sym c.is_closed.ensures.value ∙ c.if-is_closed.false) in (
      false,
      is_quiet c.end_of_read-end.result,
      cut_waits c.in-Some-push_left.cut _ c.in-Some-push_left.ensures.cut,
      turned_pushed _ _ _ _ _ _ _ _ _ _ _ _ _ _
          (turned_any (Some c.in-Some-push_left.cut) _ _ _ _ _ _ _ _ _ _ _
          (turned_more _ _ _ _ _ _ _ _ _ _ _ _ _ _ _ _ _ _ (turned_wrote _ _ _ _ _ _ _ c.push_left.ensures.writes c.push_left.ensures.same)
          (turned_more _ _ _ _ _ _ _ _ _ _ _ _ _ _ _ _ _ _ (turned_read _ _ _ _ _ _ _ read.0 read.1.consumed read.2 read.3)
          (turned_more _ _ _ _ _ _ _ _ _ _ _ _ _ _ _ _ _ _ (c.post_commands.ensures.ran _ _ _) (c.post_drain.ensures.ran _ _ _ _ due)))))
          c.push_left-2.ensures.writes c.push_left-2.ensures.same,
    )

pub returns-in-Some-push_left-clause-given : goal.returns-in-Some-push_left-clause-given
returns-in-Some-push_left-clause-given g c = given_same _ _ c.push_left-2.ensures.same (given_same _ _ c.post_drain.ensures.same c.post_commands.ensures.given)

pub returns-in-None-clause-ran : goal.returns-in-None-clause-ran
returns-in-None-clause-ran g c =
    let read = c.read_from-read.ensures.read in
    let end = c.end_of_read-end.ensures.gave _ _ read.0 read.1 in
    let due = drain_is_due c.end_of_read-end.result read.0 (g.R.Read.remaining c.read_from-read.new.reader) end (read_end c.end_of_read-end.result read.0 (g.R.Read.remaining c.read_from-read.new.reader) end (sym c.has_failed.ensures ∙ c.if-has_failed.false)) (sym c.is_closed.ensures.value ∙ c.if-is_closed.false) in (
      false,
      is_quiet c.end_of_read-end.result,
      ends_so c.end_of_read-end.result,
      turned_pushed _ _ _ _ _ _ _ _ _ _ _ _ _ _
          (turned_any c.end_of_read-end.result _ _ _ _ _ _ _ _ _ _ _
          (turned_more _ _ _ _ _ _ _ _ _ _ _ _ _ _ _ _ _ _ (turned_wrote _ _ _ _ _ _ _ c.push_left.ensures.writes c.push_left.ensures.same)
          (turned_more _ _ _ _ _ _ _ _ _ _ _ _ _ _ _ _ _ _ (turned_read _ _ _ _ _ _ _ read.0 read.1.consumed read.2 read.3)
          (turned_more _ _ _ _ _ _ _ _ _ _ _ _ _ _ _ _ _ _ (c.post_commands.ensures.ran _ _ _) (c.post_drain.ensures.ran _ _ _ _ due)))))
          c.push_left-2.ensures.writes c.push_left-2.ensures.same,
    )

pub returns-in-None-clause-given : goal.returns-in-None-clause-given
returns-in-None-clause-given g c = given_same _ _ c.push_left-2.ensures.same (given_same _ _ c.post_drain.ensures.same c.post_commands.ensures.given)

pub returns-in-None-clause-ends : goal.returns-in-None-clause-ends
returns-in-None-clause-ends g c =
    ends_read c.end_of_read-end.result _ (read_end c.end_of_read-end.result c.read_from-read.ensures.read.0 (g.R.Read.remaining c.read_from-read.new.reader) (c.end_of_read-end.ensures.gave _ _ c.read_from-read.ensures.read.0 c.read_from-read.ensures.read.1) (sym c.has_failed.ensures ∙ c.if-has_failed.false))
    (breaks_same None _ _ c.push_left-2.ensures.same (breaks_same None _ _ c.post_drain.ensures.same c.in_default-post_commands.ensures.breaks))
    (c.push_left-2.ensures.whole c.in-None.is)

pub returns-in-Some-clause-onward : goal.returns-in-Some-clause-onward
returns-in-Some-clause-onward g c = g.met.G.Gate.stays _

pub returns-then-has_failed-clause-onward : goal.returns-then-has_failed-clause-onward
returns-then-has_failed-clause-onward g c = g.met.G.Gate.stays _

pub returns-in-Some-push_left-clause-onward : goal.returns-in-Some-push_left-clause-onward
returns-in-Some-push_left-clause-onward g c = g.met.G.Gate.joins _ _ _ c.post_commands.ensures.onward c.post_drain.ensures.onward

pub returns-in-None-clause-onward : goal.returns-in-None-clause-onward
returns-in-None-clause-onward g c = g.met.G.Gate.joins _ _ _ c.post_commands.ensures.onward c.post_drain.ensures.onward
