-- What ends a replay, and how it is told.
use Rattle.pg_wire.specs.declared.refusal.Refusal.{Refusal}
use Rattle.pg_wire.specs.declared.refusal.Refusal.TheVariants as refusal
use Rattle.pg_lines.specs.declared.answers.NotPrinted.{NotPrinted}
use Rattle.pg_lines.specs.declared.answers.NotPrinted.TheVariants as printed
use Rattle.pg_replay.specs.declared.script.Fault.{Fault}
use Rattle.pg_replay.specs.declared.script.Fault.TheVariants as fault

-- the refusal by whose number and name a fault is told
abbrev pub told_as : Fault → Refusal
told_as fault.NoMemory = refusal.NoMemory
told_as fault.Read = refusal.ReadFault
told_as fault.Write = refusal.WriteFault

-- the fault that it is where an answer is not printed
abbrev pub fault_of : NotPrinted → Fault
fault_of printed.NoMemory = fault.NoMemory
fault_of printed.Write = fault.Write
