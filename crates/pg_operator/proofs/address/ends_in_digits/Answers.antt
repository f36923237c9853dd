use Rattle.std.proofs.Common.{sym, ◌∙◌}
use Rattle.std.proofs.lemmas.List.{at_drop_all}
use Rattle.pg_operator.proofs.Labels.{digits_end, digits_end_so}
use Rattle.pg_operator.proofs.address.ends_in_digits.Goals as goal

pub returns : goal.returns
returns c =
    sym (at_drop_all (digits_end c.bytes.digits) c.args.bytes.now c.bytes.byte-index c.bytes-test.false) ∙ c.bytes.invariant ∙ digits_end_so c.args.bytes.now
