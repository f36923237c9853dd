use Rattle.std.proofs.Common.{refl, sym, map, ◌∙◌, inl, inr}
use Rattle.std.proofs.lemmas.Result.{IfOk-weaker, IfErr-weaker}
use Rattle.clap.specs.Words.{subcommand_rows_of}
use Rattle.pg_lines.proofs.ClapReads.{line_ok, line_bad}
use Rattle.pg_lines.proofs.Asked.{asked_none, asked_edit}
use Rattle.pg_lines.proofs.line.edit_of_words.Goals as goal

pub returns-in-Err-clause-err : goal.returns-in-Err-clause-err
returns-in-Err-clause-err c =
    let ws = map (λ w. w.now) c.args.words.now in
    elim c.in-Err.ensures.err [
      | inl memory ↦ inl memory
      | inr bad ↦ inr (bad.0, asked_none ws (line_bad ws c.requires bad.1))
    ]

pub returns-in-Some-clause-ok : goal.returns-in-Some-clause-ok
returns-in-Some-clause-ok c =
    let ws = map (λ w. w.now) c.args.words.now in
    let found = line_ok ws (subcommand_rows_of c.in-Ok.matches) c.requires c.in-Ok.ensures.ok.0 c.in-Ok.ensures.ok.1 ∙ sym c.in-Some.ensures in
    let same = asked_edit ws c.in-Some.verb.now (map (λ w. w.now) c.in-Some.args.now) found in
    IfOk-weaker c.edit_asked.result _ _ (λ e h. same ∙ h) c.edit_asked.ensures.ok

pub returns-in-Some-clause-err : goal.returns-in-Some-clause-err
returns-in-Some-clause-err c =
    let ws = map (λ w. w.now) c.args.words.now in
    let found = line_ok ws (subcommand_rows_of c.in-Ok.matches) c.requires c.in-Ok.ensures.ok.0 c.in-Ok.ensures.ok.1 ∙ sym c.in-Some.ensures in
    let same = asked_edit ws c.in-Some.verb.now (map (λ w. w.now) c.in-Some.args.now) found in
    IfErr-weaker c.edit_asked.result _ _ (λ r h. elim h [
      | inl memory ↦ inl memory
      | inr bad ↦ inr (bad.0, same ∙ bad.1)
    ]) c.edit_asked.ensures.err

pub returns-clause-err : goal.returns-clause-err
returns-clause-err c =
    let ws = map (λ w. w.now) c.args.words.now in
    inr (refl, asked_none ws (line_ok ws (subcommand_rows_of c.in-Ok.matches) c.requires c.in-Ok.ensures.ok.0 c.in-Ok.ensures.ok.1 ∙ sym c.in-None.ensures))
