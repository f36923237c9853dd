-- The number and the name of each refusal.
use Rattle.std.specs.Prelude.{ℕ, List, codes}
use Rattle.pg_wire.specs.declared.refusal.Refusal.{Refusal}
use Rattle.pg_wire.specs.declared.refusal.Refusal.TheVariants.{NoMemory, BadFirst, BadSecond, ShortSize, BadCheck, BadVersion, WrongType, BadLength, NoSuchStream, UnknownCommand, Unsupported, ReplyFull, FloatFormat, BadCounts, ConfigTooLarge, DuplicatePmu, WrongId, NoConfig, BadFraction, TimeEnd, FarClock, StaleConfig, NoSuchPmu, PmuExists, PmusFull, NoSuchSub, SubExists, SubsFull, GrantsFull, StreamExists, StreamsFull, BadDefinition, NotConnected, Busy, NotGranted, BadLine, BadSetup, BadTimeBase, ReadFault, WriteFault}

abbrev pub number_of : Refusal → ℕ
number_of NoMemory = 1
number_of BadFirst = 2
number_of BadSecond = 3
number_of ShortSize = 4
number_of BadCheck = 5
number_of BadVersion = 6
number_of WrongType = 7
number_of BadLength = 8
number_of NoSuchStream = 9
number_of UnknownCommand = 10
number_of Unsupported = 11
number_of ReplyFull = 12
number_of FloatFormat = 13
number_of BadCounts = 14
number_of ConfigTooLarge = 15
number_of DuplicatePmu = 16
number_of WrongId = 17
number_of NoConfig = 18
number_of BadFraction = 19
number_of TimeEnd = 20
number_of FarClock = 21
number_of StaleConfig = 22
number_of NoSuchPmu = 23
number_of PmuExists = 24
number_of PmusFull = 25
number_of NoSuchSub = 26
number_of SubExists = 27
number_of SubsFull = 28
number_of GrantsFull = 29
number_of StreamExists = 30
number_of StreamsFull = 31
number_of BadDefinition = 32
number_of NotConnected = 33
number_of Busy = 34
number_of NotGranted = 35
number_of BadLine = 36
number_of BadSetup = 37
number_of BadTimeBase = 38
number_of ReadFault = 39
number_of WriteFault = 40

-- the bytes of its name
abbrev pub name_of : Refusal → List ℕ
name_of NoMemory = codes "NoMemory"
name_of BadFirst = codes "BadFirst"
name_of BadSecond = codes "BadSecond"
name_of ShortSize = codes "ShortSize"
name_of BadCheck = codes "BadCheck"
name_of BadVersion = codes "BadVersion"
name_of WrongType = codes "WrongType"
name_of BadLength = codes "BadLength"
name_of NoSuchStream = codes "NoSuchStream"
name_of UnknownCommand = codes "UnknownCommand"
name_of Unsupported = codes "Unsupported"
name_of ReplyFull = codes "ReplyFull"
name_of FloatFormat = codes "FloatFormat"
name_of BadCounts = codes "BadCounts"
name_of ConfigTooLarge = codes "ConfigTooLarge"
name_of DuplicatePmu = codes "DuplicatePmu"
name_of WrongId = codes "WrongId"
name_of NoConfig = codes "NoConfig"
name_of BadFraction = codes "BadFraction"
name_of TimeEnd = codes "TimeEnd"
name_of FarClock = codes "FarClock"
name_of StaleConfig = codes "StaleConfig"
name_of NoSuchPmu = codes "NoSuchPmu"
name_of PmuExists = codes "PmuExists"
name_of PmusFull = codes "PmusFull"
name_of NoSuchSub = codes "NoSuchSub"
name_of SubExists = codes "SubExists"
name_of SubsFull = codes "SubsFull"
name_of GrantsFull = codes "GrantsFull"
name_of StreamExists = codes "StreamExists"
name_of StreamsFull = codes "StreamsFull"
name_of BadDefinition = codes "BadDefinition"
name_of NotConnected = codes "NotConnected"
name_of Busy = codes "Busy"
name_of NotGranted = codes "NotGranted"
name_of BadLine = codes "BadLine"
name_of BadSetup = codes "BadSetup"
name_of BadTimeBase = codes "BadTimeBase"
name_of ReadFault = codes "ReadFault"
name_of WriteFault = codes "WriteFault"
