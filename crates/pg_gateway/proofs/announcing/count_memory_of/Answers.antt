use Rattle.std.proofs.Common.{sym}
use Rattle.pg_wire.specs.declared.refusal.Refusal.TheVariants.{NoMemory}
use Rattle.pg_registry.specs.Registered.{refusing}
use Rattle.pg_registry.proofs.Lists.{none_of, changed-absent}
use Rattle.pg_gateway.proofs.announcing.count_memory_of.Goals as goal

pub returns-in_default : goal.returns-in_default
returns-in_default c = sym (changed-absent (refusing NoMemory) c.args.key.now c.args.registry.now (none_of _ (sym c.in_default.ensures.found)))
