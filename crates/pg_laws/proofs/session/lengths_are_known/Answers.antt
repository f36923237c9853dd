use Rattle.pg_laws.proofs.Runs.{head-told, frames-told, lengths-known}
use Rattle.pg_laws.proofs.Taken.{taken-read}
use Rattle.pg_laws.proofs.session.lengths_are_known.Goals as goal

pub returns : goal.returns
returns c = record { head = head-told; frames = frames-told; known = lengths-known; taken = taken-read }
