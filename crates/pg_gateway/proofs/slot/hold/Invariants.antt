use Rattle.std.proofs.Common.{◌≡◌, ◌≤◌, take, filter, vec_len, vec_capacity}
use Rattle.std.specs.Prelude.{slice_get}
use Rattle.pg_entitle.specs.Grants.{has_key}
use Rattle.pg_gateway.specs.Taking.{part_passes}
use Rattle.pg_gateway.proofs.slot.hold.Given as goal

abbrev pub invariant-loop-place : goal.invariant-loop-place
invariant-loop-place l = record {
  held : l.held.items ≡ filter (λ i. part_passes (has_key l.subscriber.own.grants) l.config (slice_get l.config.parts i)) (take l.place-index l.places);
  few : vec_len l.held ≤ l.place-index;
  room : 16 ≤ vec_capacity l.held;
}
