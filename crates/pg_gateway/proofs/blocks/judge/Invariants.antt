use Rattle.std.proofs.Common.{◌≡◌, ◌≤◌, map, filter, vec_len, vec_capacity}
use Rattle.std.specs.List.{range_with_len}
use Rattle.pg_registry.specs.Registered.{has_key}
use Rattle.pg_session.specs.Events.{samples_at}
use Rattle.pg_session.specs.Ready.{AreRising}
use Rattle.pg_gateway.specs.Judging.{sample_refusal, is_taken}
use Rattle.pg_gateway.specs.Placing.{ArePlaced}
use Rattle.pg_gateway.proofs.blocks.judge.Given as goal

abbrev pub invariant-loop-place : goal.invariant-loop-place
invariant-loop-place l = record {
  blocks : ArePlaced l.registry l.blocks.items (map (λ s. (s.key, sample_refusal l.registry l.last l.frame.soc s)) (filter (λ s. has_key l.registry s.key) (samples_at l.frame (range_with_len 0 l.place))));
  taken : samples_at l.frame l.taken.items ≡ filter (is_taken l.registry l.last l.frame.soc) (samples_at l.frame (range_with_len 0 l.place));
  rising : AreRising 0 l.place l.taken.items;
  few_blocks : vec_len l.blocks ≤ l.place;
  few_taken : vec_len l.taken ≤ l.place;
  room_blocks : 16 ≤ vec_capacity l.blocks;
  room_taken : 16 ≤ vec_capacity l.taken;
}
