use Rattle.std.proofs.Common.{◌≡◌, map, drop, fold}
use Rattle.clap.specs.Words.{app_of}
use Rattle.pg_lines.specs.Clap.{with_verb}
use Rattle.pg_lines.proofs.line.with_verbs.Given as goal

abbrev pub invariant-verbs : goal.invariant-verbs
invariant-verbs l =
    fold with_verb (app_of l.command) (map (λ v. v.now) (drop l.verb-index l.verbs)) ≡ fold with_verb (app_of l.initial.command) (map (λ v. v.now) l.verbs)
