use Rattle.std.proofs.Common.{◌≤◌, take, vec_len, vec_capacity}
use Rattle.pg_gateway.specs.Routes.{AreMasks}
use Rattle.pg_gateway.proofs.routes.Routes.recompute.Given as goal

abbrev pub invariant-loop-key : goal.invariant-loop-key
invariant-loop-key l = record {
  masks : AreMasks l.subs.entries (take l.key-index l.key-items) l.self-inside.masks.items;
  few : vec_len l.self-inside.masks ≤ l.key-index;
  room : 256 ≤ vec_capacity l.self-inside.masks;
}
