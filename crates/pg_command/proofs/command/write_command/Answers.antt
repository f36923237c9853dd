use Rattle.std.proofs.Common.{refl}
use Rattle.pg_command.proofs.command.write_command.Goals as goal

pub returns : goal.returns
returns c = rw (c.to_be_bytes-4.ensures, c.check.ensures.value, c.to_be_bytes.ensures, c.get.ensures.value, c.to_be_bytes-2.ensures, c.to_be_bytes-3.ensures) refl
