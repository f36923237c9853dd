use Rattle.std.proofs.Common.{◌≡◌, drop, map}
use Rattle.std.specs.Prelude.{◌++◌}
use Rattle.pg_gateway.specs.declared.edit.Edit.TheVariants.{AddPmu}
use Rattle.pg_operator.specs.Setups.{edits_by, edits_of, subscriber_value}
use Rattle.pg_operator.proofs.setup.edits_by.Given as goal

abbrev pub invariant-pmus : goal.invariant-pmus
invariant-pmus l = l.edits.items ++ map AddPmu (drop l.key-index l.pmus) ≡ map AddPmu l.pmus

abbrev pub invariant-subscribers : goal.invariant-subscribers
invariant-subscribers l =
    l.edits.items ++ edits_of (map subscriber_value (drop l.subscriber-index l.subscribers)) ≡ edits_by l.pmus (map subscriber_value l.subscribers)
