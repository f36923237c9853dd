use Rattle.std.proofs.Common.{◌≡◌, drop, map}
use Rattle.std.specs.Prelude.{min}
use Rattle.std.specs.List.{fold}
use Rattle.pg_limits.specs.Credits.{room_of}
use Rattle.pg_limits.proofs.room.least_room.Given as goal

-- the least of those so far, and of those behind
abbrev pub invariant-loop-ring : goal.invariant-loop-ring
invariant-loop-ring l = fold min l.least (map room_of (drop l.ring-index l.rings)) ≡ fold min 1024 (map room_of l.rings)
