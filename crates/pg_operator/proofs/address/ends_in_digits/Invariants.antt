use Rattle.std.proofs.Common.{◌≡◌, drop, true}
use Rattle.pg_operator.proofs.Labels.{digits_end}
use Rattle.pg_operator.proofs.address.ends_in_digits.Given as goal

abbrev pub invariant-bytes : goal.invariant-bytes
invariant-bytes l = digits_end l.digits (drop l.byte-index l.bytes) ≡ digits_end true l.bytes
