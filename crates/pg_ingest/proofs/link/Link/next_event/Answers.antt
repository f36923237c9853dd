use Rattle.std.proofs.Common.{refl, ap, Some, None}
use Rattle.pg_wire.specs.Taking as taking
use Rattle.pg_ingest.specs.Items.{skips}
use Rattle.pg_ingest.specs.Linking.{Linking}
use Rattle.pg_ingest.specs.Reading.{item_read}
use Rattle.pg_wire.proofs.Holding.{broken_breaks, stopped_held, rest_held, fewer_held, partial_held}
use Rattle.pg_ingest.proofs.Holding.{holds_fewer}
use Rattle.pg_ingest.proofs.Telling.{item_shown, event_given, event_counted, skip_told, ended}
use Rattle.pg_ingest.proofs.link.Link.next_event.Goals as goal

pub invariant_of-self : goal.invariant_of-self
invariant_of-self c =
    let takes : taking.Takes c.self.inside.deframer c.next.result c.next.follows.lender-at-none = c.next.follows.holds-at-none.0 in
    rest_held c.self.inside.deframer c.next.follows.lender-at-none c.in-Frame.frame.now None c.self.invariant (rw c.in-Frame.is at takes)

pub invariant_of-self-in-Skipped : goal.invariant_of-self-in-Skipped
invariant_of-self-in-Skipped c =
    let takes : taking.Takes c.self.inside.deframer c.next.result c.next.follows.lender-at-none = c.next.follows.holds-at-none.0 in
    let frame = rw c.in-Skipped.is at takes in
    rest_held c.self.inside.deframer c.next.follows.lender-at-none frame.0 (Some c.in-Skipped.refusal) c.self.invariant frame.1

pub invariant_of-self-in-Broken : goal.invariant_of-self-in-Broken
invariant_of-self-in-Broken c =
    let takes : taking.Takes c.self.inside.deframer c.next.result c.next.follows.lender-at-none = c.next.follows.holds-at-none.0 in
    let broken = rw c.in-Broken.is at takes in
    stopped_held c.next.follows.lender-at-none c.in-Broken.refusal broken.0 (broken_breaks c.self.inside.deframer c.in-Broken.refusal c.self.invariant broken.1)

pub returns-in-Frame-clause-gives : goal.returns-in-Frame-clause-gives
returns-in-Frame-clause-gives c past shown =
    let gives : taking.GivesFrame c.self.inside.deframer c.next.result c.next.follows.lender-at-none = c.next.follows.holds-at-none.1 in
    let shows = rw (← c.self.view_is) at shown in
    let given = rw c.in-Frame.is at gives in
    event_given c.take.new.self past c.take.result (item_read c.read_source_frame-read.result) c.take.ensures.event
    (item_shown _ c.take.new.self c.next.follows.lender-at-none past c.in-Frame.frame.now (item_read c.read_source_frame-read.result) shows
    c.read_source_frame-read.ensures.item (given past.stream shows.frames shows.bytes).1 c.take.ensures.state)

pub returns-in-Skipped-clause-gives : goal.returns-in-Skipped-clause-gives
returns-in-Skipped-clause-gives c past shown =
    let gives : taking.GivesFrame c.self.inside.deframer c.next.result c.next.follows.lender-at-none = c.next.follows.holds-at-none.1 in
    let shows = rw (← c.self.view_is) at shown in
    let given = rw c.in-Skipped.is at gives in
    let skipped = given past.stream shows.frames shows.bytes in
    event_given c.take-in-Skipped.new.self past c.take-in-Skipped.result (skips c.in-Skipped.refusal) c.take-in-Skipped.ensures.event
    (item_shown _ c.take-in-Skipped.new.self c.next.follows.lender-at-none past skipped.0 (skips c.in-Skipped.refusal) shows
    (skip_told _ _ skipped.0 c.in-Skipped.refusal skipped.1) skipped.2 c.take-in-Skipped.ensures.state)

pub returns-in-More-clause-gives : goal.returns-in-More-clause-gives
returns-in-More-clause-gives c past shown =
    let gives : taking.GivesFrame c.self.inside.deframer c.next.result c.next.follows.lender-at-none = c.next.follows.holds-at-none.1 in
    let shows = rw (← c.self.view_is) at shown in
    let given = rw c.in-More.is at gives in
    let last = given past.stream shows.frames shows.bytes in
    ended _ _ past c.next.follows.lender-at-none.held None shows last.0 last.1 last.2 refl

pub returns-in-Broken-clause-gives : goal.returns-in-Broken-clause-gives
returns-in-Broken-clause-gives c past shown =
    let gives : taking.GivesFrame c.self.inside.deframer c.next.result c.next.follows.lender-at-none = c.next.follows.holds-at-none.1 in
    let shows = rw (← c.self.view_is) at shown in
    let given = rw c.in-Broken.is at gives in
    let last = given past.stream shows.frames shows.bytes in
    ended _ _ past last.0.0 (Some c.in-Broken.refusal) shows last.0.1 last.0.2 last.1 refl

pub returns-in-Frame-clause-holds : goal.returns-in-Frame-clause-holds
returns-in-Frame-clause-holds c =
    let takes : taking.Takes c.self.inside.deframer c.next.result c.next.follows.lender-at-none = c.next.follows.holds-at-none.0 in
    let fewer = fewer_held c.self.inside.deframer c.next.follows.lender-at-none c.in-Frame.frame.now None (rw c.in-Frame.is at takes) in
    rw (← c.self.view_is)
    (holds_fewer _ c.take.new.self c.take.result (item_read c.read_source_frame-read.result) c.take.ensures.event
    (rw (ap (λ (v : Linking). v.bytes) c.take.ensures.state) fewer))

pub returns-in-Skipped-clause-holds : goal.returns-in-Skipped-clause-holds
returns-in-Skipped-clause-holds c =
    let takes : taking.Takes c.self.inside.deframer c.next.result c.next.follows.lender-at-none = c.next.follows.holds-at-none.0 in
    let frame = rw c.in-Skipped.is at takes in
    let fewer = fewer_held c.self.inside.deframer c.next.follows.lender-at-none frame.0 (Some c.in-Skipped.refusal) frame.1 in
    rw (← c.self.view_is)
    (holds_fewer _ c.take-in-Skipped.new.self c.take-in-Skipped.result (skips c.in-Skipped.refusal) c.take-in-Skipped.ensures.event
    (rw (ap (λ (v : Linking). v.bytes) c.take-in-Skipped.ensures.state) fewer))

pub returns-in-More-clause-holds : goal.returns-in-More-clause-holds
returns-in-More-clause-holds c =
    let takes : taking.Takes c.self.inside.deframer c.next.result c.next.follows.lender-at-none = c.next.follows.holds-at-none.0 in
    let same = rw c.in-More.is at takes in
    rw same.2
    (c.self.view_is, partial_held c.self.inside.deframer c.self.invariant same.1)

pub returns-in-Broken-clause-holds : goal.returns-in-Broken-clause-holds
returns-in-Broken-clause-holds c =
    let takes : taking.Takes c.self.inside.deframer c.next.result c.next.follows.lender-at-none = c.next.follows.holds-at-none.0 in
    let broken = rw c.in-Broken.is at takes in (
      broken_breaks c.self.inside.deframer c.in-Broken.refusal c.self.invariant broken.1,
      rw (← c.self.view_is, broken.0) refl,
    )

pub returns-in-Frame-clause-counts : goal.returns-in-Frame-clause-counts
returns-in-Frame-clause-counts c =
    rw (← c.self.view_is, ap (λ (v : Linking). v.stats) c.take.ensures.state)
    (event_counted c.self.inside.stats c.take.result (item_read c.read_source_frame-read.result) c.take.ensures.event)

pub returns-in-Skipped-clause-counts : goal.returns-in-Skipped-clause-counts
returns-in-Skipped-clause-counts c =
    rw (← c.self.view_is, ap (λ (v : Linking). v.stats) c.take-in-Skipped.ensures.state)
    (event_counted c.self.inside.stats c.take-in-Skipped.result (skips c.in-Skipped.refusal) c.take-in-Skipped.ensures.event)
