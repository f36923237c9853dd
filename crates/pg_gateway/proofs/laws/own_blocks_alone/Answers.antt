use Rattle.pg_gateway.proofs.RunLaws.{equal_parts, equal_frames}
use Rattle.pg_gateway.proofs.laws.own_blocks_alone.Goals as goal

pub returns : goal.returns
returns c = record { parts = equal_parts; frames = equal_frames }
