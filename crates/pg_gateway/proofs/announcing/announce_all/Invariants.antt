use Rattle.std.proofs.Common.{◌≡◌, map, drop}
use Rattle.std.specs.Arc.{arc_value}
use Rattle.pg_session.specs.Events.{announced_at, config_of}
use Rattle.pg_gateway.specs.Judging.{all_announced}
use Rattle.pg_gateway.proofs.announcing.announce_all.Given as goal

abbrev pub invariant-loop-place : goal.invariant-loop-place
invariant-loop-place l = record {
  ready : map arc_value l.copies.items ≡ map config_of (announced_at l.config (drop l.place-index l.places));
  announced : all_announced l.registry (announced_at l.config (drop l.place-index l.places)) ≡ all_announced l.fn.registry (announced_at l.config l.places);
  capacity : l.copies.capacity ≡ l.fn.copies.capacity;
}
