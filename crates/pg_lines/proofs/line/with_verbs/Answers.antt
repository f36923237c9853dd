use Rattle.std.proofs.Common.{rules, ap, sym, ◌∙◌, ◌+◌, map, drop, fold}
use Rattle.std.proofs.lemmas.List.{drop_more}
use Rattle.clap.specs.Words.{App, app_of, with_subcommand}
use Rattle.pg_lines.specs.Clap.{with_verb}
use Rattle.pg_lines.proofs.line.with_verbs.Goals as goal

pub verbs-preserved : goal.verbs-preserved
verbs-preserved c =
    ap (λ a. fold with_verb a (map (λ v. v.now) (drop (c.verbs.verb-index + 1) c.args.verbs.now)))
    (c.in_ok-command.ensures.shape c.in_ok-verb_command.ensures.local ∙ ap (λ (a : App). with_subcommand (app_of c.verbs.command) a.top) c.in_ok-verb_command.ensures.shape)
    ∙ sym (ap (λ xs. fold with_verb (app_of c.verbs.command) (map (λ v. v.now) xs)) (drop_more c.args.verbs.now c.verbs.verb-index _ (search rules)))
    ∙ c.verbs.invariant
