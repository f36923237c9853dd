use Rattle.std.proofs.Common.{◌≡◌, drop}
use Rattle.std.specs.List.{fold}
use Rattle.pg_quality.specs.Tallies.{filed_since, with_row}
use Rattle.pg_quality.proofs.completeness.filed_since.Given as goal

-- the sum so far, with the rows that are left
abbrev pub invariant-loop-row : goal.invariant-loop-row
invariant-loop-row l = fold (with_row l.last) l.total (drop l.row-index l.rows) ≡ filed_since l.rows l.last
