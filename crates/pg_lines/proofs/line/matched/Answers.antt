use Rattle.std.proofs.Common.{ap, sym, refl, inl, inr, map, ◌∙◌, ◌<◌, length, subst}
use Rattle.clap.specs.Words.{fault_of, subcommand_of}
use Rattle.clap.specs.Faults.{is_simple_and_free}
use Rattle.clap.specs.Simple.{is_simple}
use Rattle.pg_lines.proofs.ClapReads.{among_some, is_simple_line, is_free_line}
use Rattle.pg_lines.proofs.line.matched.Goals as goal

pub returns-in-Ok-clause-ok : goal.returns-in-Ok-clause-ok
returns-in-Ok-clause-ok c =
    let same = c.in_ok-command.ensures in
    let ws = map (λ w. w.now) c.args.words.now in (
      ap (λ a. fault_of a ws) (sym same) ∙ c.in-Ok.ensures.kinds (ap is_simple_and_free same ∙ is_free_line),
      (c.in-Ok.ensures.matches (ap is_simple same ∙ is_simple_line)).1 ∙ ap (λ a. subcommand_of a ws) same,
    )

pub returns : goal.returns
returns c =
    let same = c.in_ok-command.ensures in
    let ws = map (λ w. w.now) c.args.words.now in
    record {
      ok = tt;
      err = inr (
        refl,
        elim (c.in-Err.ensures.kinds (ap is_simple_and_free same ∙ is_free_line)) [
          | inl memory ↦ absurd (c.in_default.not-OutOfMemory (c.kind.ensures ∙ memory))
          | inr among ↦ subst (λ a. 0 < length (fault_of a ws)) same (among_some _ _ among)
        ],
      );
    }
