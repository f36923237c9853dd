use Rattle.std.proofs.Common.{◌-◌, ◌^◌, ◌++◌, ap, sym, ◌∙◌, if◌then◌else◌, subst, arith}
use Rattle.std.proofs.lemmas.Grind.{common_steps}
use Rattle.pg_wire.specs.Check.{IsRemainder, dividend}
use Rattle.pg_outcfg.proofs.data.add_block.Goals as goal

pub returns-clause-check : goal.returns-clause-check
returns-clause-check c =
    let before = c.args.out.now.items in
    let fits = c.extend_from_slice.ensures.succeeds (grind (arith, common_steps)) in
    let items = c.extend_from_slice.ensures.items ∙ ap (λ ok. if ok then before ++ c.block-bytes.result.now else before) fits in
    let block = ap (λ bytes. before ++ bytes) c.block-bytes.ensures.value in
    subst (λ bytes. IsRemainder (dividend bytes) c.check_past-after.result) (sym (items ∙ block)) (c.check_past-after.ensures (2 ^ 16 - 1) before c.requires.check)
