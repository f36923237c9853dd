use Rattle.std.proofs.Common.{◌≡◌, ◌≤◌, ◌<◌, ℕ}
use Rattle.std.specs.Int.{bit_at}
use Rattle.std.specs.Map.{values_of}
use Rattle.std.specs.Prelude.{slice_get}
use Rattle.pg_gateway.specs.Routes.{bit_of}
use Rattle.pg_gateway.proofs.routes.mask_of.Given as goal

abbrev pub invariant-loop-i : goal.invariant-loop-i
invariant-loop-i l = record {
  low : (j : ℕ) → j < l.i → bit_at l.mask j ≡ bit_of l.key (slice_get (values_of l.subs.entries) j);
  high : (j : ℕ) → l.i ≤ j → bit_at l.mask j ≡ 0;
}
