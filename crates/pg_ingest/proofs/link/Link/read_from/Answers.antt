use Rattle.std.proofs.Common.{refl, sym, subst}
use Rattle.pg_wire.specs.Held.{IsHeld}
use Rattle.pg_wire.proofs.Holding.{fed_held}
use Rattle.pg_ingest.proofs.Telling.{heard_shows}
use Rattle.pg_ingest.proofs.link.Link.read_from.Goals as goal

pub invariant_of-self : goal.invariant_of-self
invariant_of-self g c =
    let read = c.read_from.ensures.read in
    subst IsHeld (sym read.2) (fed_held c.self.inside.deframer read.0 c.self.invariant read.1.octets)

pub returns-clause-read : goal.returns-clause-read
returns-clause-read g c =
    let read = c.read_from.ensures.read in
    (read.0, read.1, rw (← c.self.view_is, read.2) refl, heard_shows _ _ read.0 (rw (← c.self.view_is, read.2) refl))
