use Rattle.std.proofs.Common.{◌≡◌, take}
use Rattle.std.specs.List.{fold}
use Rattle.pg_limits.specs.Connections.{noted_gone}
use Rattle.pg_limits.proofs.known_layouts.KnownLayouts.note_gone.Given as goal

-- so many of the commands are kept
abbrev pub invariant-loop-command : goal.invariant-loop-command
invariant-loop-command l = l.self ≡ fold (λ ks it. noted_gone l.found l.served ks it.0) l.initial.self (take l.command-index l.command-items)
