use Rattle.std.proofs.Common.{ap, Some, None}
use Rattle.pg_ingest.specs.Linking.{Linking}
use Rattle.pg_ingest.proofs.Stepping.{small_piece}
use Rattle.pg_ingest.proofs.Turns.{turn_done, turn_cut, turn_as, ends_or_goes, ends_break}
use Rattle.pg_ingest.proofs.run.turn.Goals as goal

pub returns-in-Some-clause-ran : goal.returns-in-Some-clause-ran
returns-in-Some-clause-ran g c = turn_cut _ _ _ _ _ _ c.in-Some.end c.in-Some.ensures.stuck (c.write_owed.ensures.ran _ _ _)

pub returns-in-Some-post_events-clause-ran : goal.returns-in-Some-post_events-clause-ran
returns-in-Some-post_events-clause-ran g c =
    let read = c.read_from-read.ensures.read in
    let left = g.R.Read.remaining c.read_from-read.new.reader in
    turn_as _ _ (ends_break c.post_events.new.link.left read.0 left c.number.result c.in-Some-post_events.refusal c.number.ensures c.in-Some-post_events.ensures.breaks) _ _ _ _ _ _ _ _
    (turn_done _ _ _ _ _ left _ _ _ _ read.0 (Some c.in-Some-post_events.refusal) (c.write_owed.ensures.ran _ _ _) (c.write_owed.ensures.none c.in_default.is)
    (small_piece _ _ _ read.0 4096 read.1 c.read_from-read.ensures.small) read.1.consumed read.3 (ap (λ (v : Linking). v.left) read.2) (c.in-Some-post_events.ensures.ran _ _))

pub returns-in-None-clause-ran : goal.returns-in-None-clause-ran
returns-in-None-clause-ran g c =
    let read = c.read_from-read.ensures.read in
    let left = g.R.Read.remaining c.read_from-read.new.reader in
    turn_as _ _ (ends_or_goes c.end_of_read-end.result c.post_events.new.link.left read.0 left (c.end_of_read-end.ensures.gave _ _ read.0 read.1)) _ _ _ _ _ _ _ _
    (turn_done _ _ _ _ _ left _ _ _ _ read.0 None (c.write_owed.ensures.ran _ _ _) (c.write_owed.ensures.none c.in_default.is)
    (small_piece _ _ _ read.0 4096 read.1 c.read_from-read.ensures.small) read.1.consumed read.3 (ap (λ (v : Linking). v.left) read.2) (c.in-None.ensures.ran _ _))

pub returns-in-Some-clause-onward : goal.returns-in-Some-clause-onward
returns-in-Some-clause-onward g c = g.met.G.Gate.stays _
