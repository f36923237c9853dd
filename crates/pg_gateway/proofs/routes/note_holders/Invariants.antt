use Rattle.std.proofs.Common.{◌≡◌, ◌≢◌, ℕ, length, get_or}
use Rattle.std.specs.Int.{bit_at}
use Rattle.pg_gateway.proofs.routes.note_holders.Given as goal

abbrev pub invariant-holders : goal.invariant-holders
invariant-holders l = record {
  len : length l.granted_blocks ≡ 64;
  within : (j : ℕ) → bit_at l.left j ≡ 1 → bit_at l.holders j ≡ 1;
  set : (j : ℕ) → bit_at l.holders j ≡ 1 → bit_at l.left j ≡ 0 → bit_at (get_or l.granted_blocks j 0) l.block ≡ 1;
  unset : (j : ℕ) → bit_at l.holders j ≡ 0 → get_or l.granted_blocks j 0 ≡ get_or l.fn.granted_blocks j 0;
  others : (j i : ℕ) → i ≢ l.block → bit_at (get_or l.granted_blocks j 0) i ≡ bit_at (get_or l.fn.granted_blocks j 0) i;
}

abbrev pub decreases-holders : goal.decreases-holders
decreases-holders l = l.left
