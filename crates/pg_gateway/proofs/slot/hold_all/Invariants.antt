use Rattle.std.proofs.Common.{◌≡◌, ◌≤◌, ◌++◌, length, vec_capacity}
use Rattle.pg_gateway.specs.Routes.{HasBits, places_at}
use Rattle.pg_gateway.proofs.slot.hold_all.Given as goal

abbrev pub invariant-held : goal.invariant-held
invariant-held l = record {
  bits : HasBits (length l.places) l.left;
  held : l.held.items ++ places_at l.left 0 l.places ≡ places_at l.number 0 l.places;
  room : 16 ≤ vec_capacity l.held;
}

abbrev pub decreases-held : goal.decreases-held
decreases-held l = l.left
