use Rattle.std.proofs.Common.{rules, ◌≡◌, sym, length, true, false}
use Rattle.std.specs.Prelude.{◌&&◌, nat_le}
use Rattle.pg_operator.proofs.Lists.{bad_read, few_read, many_read}
use Rattle.pg_operator.proofs.address.called_list.Goals as goal

pub returns-then-count-eq0 : goal.returns-then-count-eq0
returns-then-count-eq0 c = let many : (nat_le 1 (length c.args.values.now) && nat_le (length c.args.values.now) 4) ≡ false = search rules in sym (many_read c.args.values.now many)

pub returns-then-not-all_called : goal.returns-then-not-all_called
returns-then-not-all_called c = sym (bad_read c.args.values.now (search rules))

pub returns : goal.returns
returns c =
    let few : (nat_le 1 (length c.args.values.now) && nat_le (length c.args.values.now) 4) ≡ true = search rules in
    sym (few_read c.args.values.now (search rules) few)
