use Rattle.std.proofs.Common.{◌≡◌, ◌≤◌, filter, vec_len, vec_capacity}
use Rattle.std.specs.List.{range_with_len}
use Rattle.pg_registry.specs.Registered.{has_key}
use Rattle.pg_session.specs.Events.{announced_at}
use Rattle.pg_session.specs.Ready.{AreRising}
use Rattle.pg_gateway.proofs.blocks.registered.Given as goal

abbrev pub invariant-loop-place : goal.invariant-loop-place
invariant-loop-place l = record {
  registered : announced_at l.config l.places.items ≡ filter (λ a. has_key l.registry a.key) (announced_at l.config (range_with_len 0 l.place));
  rising : AreRising 0 l.place l.places.items;
  few : vec_len l.places ≤ l.place;
  room : 16 ≤ vec_capacity l.places;
}
