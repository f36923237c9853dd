use Rattle.pg_serve.proofs.Apart as law
use Rattle.pg_serve.proofs.laws.frames_are_events.Goals as goal

pub returns : goal.returns
returns c = law.frames_are_events
