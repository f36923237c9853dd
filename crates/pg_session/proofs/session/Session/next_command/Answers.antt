use Rattle.std.proofs.Common.{refl, ap, Err, None, Some}
use Rattle.pg_wire.specs.Stream.{Deframing}
use Rattle.pg_wire.proofs.Holding.{broken_breaks, stopped_held, rest_held, fewer_held, partial_held}
use Rattle.pg_wire.specs.Taking as taking
use Rattle.pg_session.specs.Commands.{Hearing, item_read}
use Rattle.pg_session.specs.Pendings.{kept_of, left_of}
use Rattle.pg_session.proofs.Hearing.{frame_given, skipped_given, more_given, broken_given, item_holds}
use Rattle.pg_session.proofs.session.Session.next_command.Goals as goal

pub returns-in-Frame-clause-gives : goal.returns-in-Frame-clause-gives
returns-in-Frame-clause-gives c stream given h =
    let gives : taking.GivesFrame c.self.inside.deframer c.next.result c.next.follows.lender-at-none = c.next.follows.holds-at-none.1 in
    let shows = rw (← c.self.view_is) at h in
    rw c.count.ensures.answer
    (frame_given _ c.count.new.self c.in-Frame.frame c.read_command-read.result
    (rw (ap (λ (v : Hearing). v.bytes) c.count.ensures.counted) (rw c.in-Frame.is at gives))
    c.read_command-read.ensures.exact
    (ap (λ (v : Hearing). v.stats) c.count.ensures.counted)
    stream given shows)

pub returns-in-Skipped-clause-gives : goal.returns-in-Skipped-clause-gives
returns-in-Skipped-clause-gives c stream given h =
    let gives : taking.GivesFrame c.self.inside.deframer c.next.result c.next.follows.lender-at-none = c.next.follows.holds-at-none.1 in
    let shows = rw (← c.self.view_is) at h in
    rw c.count-in-Skipped.ensures.answer
    (skipped_given _ c.count-in-Skipped.new.self c.in-Skipped.refusal
    (rw (ap (λ (v : Hearing). v.bytes) c.count-in-Skipped.ensures.counted) (rw c.in-Skipped.is at gives))
    (ap (λ (v : Hearing). v.stats) c.count-in-Skipped.ensures.counted)
    stream given shows)

pub returns-in-More-clause-gives : goal.returns-in-More-clause-gives
returns-in-More-clause-gives c stream given h =
    let gives : taking.GivesFrame c.self.inside.deframer c.next.result c.next.follows.lender-at-none = c.next.follows.holds-at-none.1 in
    let shows = rw (← c.self.view_is) at h in
    more_given _ _ (rw c.in-More.is at gives) refl stream given shows

pub returns-in-Broken-clause-gives : goal.returns-in-Broken-clause-gives
returns-in-Broken-clause-gives c stream given h =
    let gives : taking.GivesFrame c.self.inside.deframer c.next.result c.next.follows.lender-at-none = c.next.follows.holds-at-none.1 in
    let shows = rw (← c.self.view_is) at h in
    broken_given _ _ c.in-Broken.refusal (rw c.in-Broken.is at gives) refl stream given shows

pub invariant_of-self : goal.invariant_of-self
invariant_of-self c =
    let takes : taking.Takes c.self.inside.deframer c.next.result c.next.follows.lender-at-none = c.next.follows.holds-at-none.0 in
    rest_held c.self.inside.deframer c.next.follows.lender-at-none c.in-Frame.frame.now None c.self.invariant (rw c.in-Frame.is at takes)

pub invariant_of-self-in-Skipped : goal.invariant_of-self-in-Skipped
invariant_of-self-in-Skipped c =
    let takes : taking.Takes c.self.inside.deframer c.next.result c.next.follows.lender-at-none = c.next.follows.holds-at-none.0 in
    let frame = rw c.in-Skipped.is at takes in
    rest_held c.self.inside.deframer c.next.follows.lender-at-none frame.0 (Some c.in-Skipped.refusal) c.self.invariant frame.1

pub invariant_of-self-in-Broken : goal.invariant_of-self-in-Broken
invariant_of-self-in-Broken c =
    let takes : taking.Takes c.self.inside.deframer c.next.result c.next.follows.lender-at-none = c.next.follows.holds-at-none.0 in
    let broken = rw c.in-Broken.is at takes in
    stopped_held c.next.follows.lender-at-none c.in-Broken.refusal broken.0 (broken_breaks c.self.inside.deframer c.in-Broken.refusal c.self.invariant broken.1)

pub returns-in-Frame-clause-holds : goal.returns-in-Frame-clause-holds
returns-in-Frame-clause-holds c =
    let takes : taking.Takes c.self.inside.deframer c.next.result c.next.follows.lender-at-none = c.next.follows.holds-at-none.0 in
    let fewer = fewer_held c.self.inside.deframer c.next.follows.lender-at-none c.in-Frame.frame.now None (rw c.in-Frame.is at takes) in
    rw (← c.self.view_is)
    (item_holds _ c.count.new.self c.count.result (item_read c.read_command-read.result) c.count.ensures.answer
    (rw (ap (λ (v : Hearing). v.bytes) c.count.ensures.counted) fewer))

pub returns-in-Broken-clause-holds : goal.returns-in-Broken-clause-holds
returns-in-Broken-clause-holds c =
    let takes : taking.Takes c.self.inside.deframer c.next.result c.next.follows.lender-at-none = c.next.follows.holds-at-none.0 in
    let broken = rw c.in-Broken.is at takes in (
      broken_breaks c.self.inside.deframer c.in-Broken.refusal c.self.invariant broken.1,
      rw (← c.self.view_is) (ap (λ (d : Deframing). hearing d) broken.0),
    )
  where
    hearing : Deframing → Hearing
    hearing d = record { sub = c.self.inside.sub; bytes = d; stats = c.self.inside.stats; buffer = kept_of c.self.inside.pending; left = left_of c.self.inside.pending }

pub returns-in-More-clause-holds : goal.returns-in-More-clause-holds
returns-in-More-clause-holds c =
    let takes : taking.Takes c.self.inside.deframer c.next.result c.next.follows.lender-at-none = c.next.follows.holds-at-none.0 in
    let same = rw c.in-More.is at takes in
    rw same.2
    (c.self.view_is, partial_held c.self.inside.deframer c.self.invariant same.1)

pub returns-in-Skipped-clause-holds : goal.returns-in-Skipped-clause-holds
returns-in-Skipped-clause-holds c =
    let takes : taking.Takes c.self.inside.deframer c.next.result c.next.follows.lender-at-none = c.next.follows.holds-at-none.0 in
    let frame = rw c.in-Skipped.is at takes in
    let fewer = fewer_held c.self.inside.deframer c.next.follows.lender-at-none frame.0 (Some c.in-Skipped.refusal) frame.1 in
    rw (← c.self.view_is)
    (item_holds _ c.count-in-Skipped.new.self c.count-in-Skipped.result (item_read (Err c.in-Skipped.refusal)) c.count-in-Skipped.ensures.answer
    (rw (ap (λ (v : Hearing). v.bytes) c.count-in-Skipped.ensures.counted) fewer))
