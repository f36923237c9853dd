-- What is said of each refusal.
use Rattle.std.specs.Prelude.{ℕ, List, codes}
use Rattle.pg_wire.specs.declared.refusal.Refusal.{Refusal}
use Rattle.pg_wire.specs.declared.refusal.Refusal.TheVariants.{NoMemory, BadFirst, BadSecond, ShortSize, BadCheck, BadVersion, WrongType, BadLength, NoSuchStream, UnknownCommand, Unsupported, ReplyFull, FloatFormat, BadCounts, ConfigTooLarge, DuplicatePmu, WrongId, NoConfig, BadFraction, TimeEnd, FarClock, StaleConfig, NoSuchPmu, PmuExists, PmusFull, NoSuchSub, SubExists, SubsFull, GrantsFull, StreamExists, StreamsFull, BadDefinition, NotConnected, Busy, NotGranted, BadLine, BadSetup, BadTimeBase, ReadFault, WriteFault}

-- of those by which the program does not end
abbrev pub anything : List ℕ
anything = codes "the gateway refuses this; `pdcgw help` lists what it does"

-- what is said of a refusal by which the program ends
abbrev pub said_of : Refusal → List ℕ
said_of NoMemory = codes "out of memory; give this machine more, or let the setup need less"
said_of BadFirst = anything
said_of BadSecond = anything
said_of ShortSize = anything
said_of BadCheck = anything
said_of BadVersion = anything
said_of WrongType = anything
said_of BadLength = anything
said_of NoSuchStream = anything
said_of UnknownCommand = anything
said_of Unsupported = anything
said_of ReplyFull = anything
said_of FloatFormat = anything
said_of BadCounts = anything
said_of ConfigTooLarge = anything
said_of DuplicatePmu = anything
said_of WrongId = anything
said_of NoConfig = anything
said_of BadFraction = anything
said_of TimeEnd = anything
said_of FarClock = anything
said_of StaleConfig = anything
said_of NoSuchPmu = codes "a grant names a PMU that no table [[pmu]] has; add the table, or remove the grant"
said_of PmuExists = codes "two tables [[pmu]] have the same source and id; each PMU has one table"
said_of PmusFull = codes "more than 256 PMUs; at most 256 are allowed"
said_of NoSuchSub = codes "a table belongs to a subscriber that was refused; correct the table of that subscriber"
said_of SubExists = codes "two tables [[subscriber]] have the same id; each subscriber has its own"
said_of SubsFull = codes "more than 64 subscribers; at most 64 are allowed"
said_of GrantsFull = codes "a subscriber has more than 32 grants; at most 32 are allowed"
said_of StreamExists = codes "two streams of a subscriber have the same id; each stream has its own"
said_of StreamsFull = codes "a subscriber has more than 8 streams; at most 8 are allowed"
said_of BadDefinition = codes "a value of a stream is outside its range: rate 1 to 120, base from its rate to 16777215, wait 0 to 60000, window 1 to 64, a header of ASCII up to 1024 bytes, and no member twice"
said_of NotConnected = anything
said_of Busy = codes "8 clients are connected to the control socket, the most possible; try again when one has left"
said_of NotGranted = anything
said_of BadLine = anything
said_of BadSetup = codes "the setup file has mistakes; `pdcgw check --setup FILE` lists them"
said_of BadTimeBase = anything
said_of ReadFault = codes "input can't be read; it has to be a file, a pipe or a terminal that is open"
said_of WriteFault = codes "output can't be written; it has to be a file, a pipe or a terminal that takes it"
