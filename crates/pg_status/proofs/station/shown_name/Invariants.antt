use Rattle.std.proofs.Common.{◌≡◌, ◌++◌, map, take, drop}
use Rattle.pg_status.specs.Stations.{shown}
use Rattle.pg_status.proofs.station.shown_name.Given as goal

-- so many bytes are done, and the others are as they were
abbrev pub invariant-loop-byte : goal.invariant-loop-byte
invariant-loop-byte l = l.byte-items ≡ map shown (take l.byte-index l.initial.byte-items) ++ drop l.byte-index l.initial.byte-items
