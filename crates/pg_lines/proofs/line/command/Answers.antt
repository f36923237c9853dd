use Rattle.std.proofs.Common.{ap, true, ◌≡◌, ◌∙◌, fold}
use Rattle.std.proofs.lemmas.Result.{IfOk-weaker}
use Rattle.clap.specs.Words.{app_of}
use Rattle.clap.specs.Simple.{app_of_fields, on_top}
use Rattle.pg_lines.specs.Verbs.{verbs}
use Rattle.pg_lines.specs.Clap.{start_app, with_verb}
use Rattle.pg_lines.proofs.line.command.Goals as goal

pub returns : goal.returns
returns c =
    let unnamed = ap app_of_fields c.no_binary_name.ensures ∙ ap (on_top (λ s. record s { no_binary_name = true })) c.new.ensures.app in
    let no_flag = ap app_of_fields c.disable_help_flag.ensures ∙ ap (on_top (λ s. record s { disable_help_flag = true })) unnamed in
    let no_help = ap app_of_fields c.disable_help_subcommand.ensures ∙ ap (on_top (λ s. record s { disable_help_subcommand = true })) no_flag in
    let start : app_of c.subcommand_required-start.result ≡ start_app = ap app_of_fields c.subcommand_required-start.ensures ∙ ap (on_top (λ s. record s { subcommand_required = true })) no_help in
    IfOk-weaker c.with_verbs.result _ _ (λ r h. h ∙ ap (λ a. fold with_verb a verbs) start) c.with_verbs.ensures
