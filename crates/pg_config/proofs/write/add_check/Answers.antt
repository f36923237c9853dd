use Rattle.std.proofs.Common.{arith, ◌<◌, length, sym, subst, inl, inr, lit<}
use Rattle.std.proofs.lemmas.List.{get_or_past}
use Rattle.std.proofs.lemmas.Bool.{cases_lt}
use Rattle.pg_config.proofs.write.add_check.Goals as goal

pub returns-clause-octets : goal.returns-clause-octets
returns-clause-octets c = let bytes = c.args.frame.now.items in λ i. elim (cases_lt i (length bytes)) [
  | inl there ↦ omega (arith, there, c.type_inv.frame i)
  | inr past ↦ subst (λ n. n < 256) (sym (get_or_past bytes i 0 past)) (lit< tt)
]
