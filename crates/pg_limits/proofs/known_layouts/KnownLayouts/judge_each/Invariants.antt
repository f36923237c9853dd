use Rattle.std.proofs.Common.{◌≡◌, false, take, None}
use Rattle.std.specs.List.{fold}
use Rattle.pg_limits.specs.Connections.{judged_one}
use Rattle.pg_limits.proofs.known_layouts.KnownLayouts.judge_each.Given as goal

-- so many of the streams are judged
abbrev pub invariant-loop-one : goal.invariant-loop-one
invariant-loop-one l = (l.self, l.judged) ≡ fold (judged_one l.served l.rule) (l.initial.self, record { misread = None; asks_again = false }) (take l.one-index l.found)
