use Rattle.std.proofs.Common.{◌≡◌, drop}
use Rattle.std.specs.List.{fold}
use Rattle.pg_quality.specs.Delaying.{with_one}
use Rattle.pg_quality.proofs.delay.Delays.last_minute.Given as goal

-- the sum so far, with the histograms that are left
abbrev pub invariant-loop-histogram : goal.invariant-loop-histogram
invariant-loop-histogram l = fold (with_one l.number) l.total (drop l.histogram-index l.self.filed) ≡ fold (with_one l.number) l.initial.total l.self.filed
