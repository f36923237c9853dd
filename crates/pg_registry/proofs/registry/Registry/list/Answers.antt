use Rattle.std.proofs.Common.{subst}
use Rattle.std.specs.Map.{keys_of}
use Rattle.std.proofs.lemmas.Map.Made.{AllPairs-from_IsDistinct}
use Rattle.pg_registry.specs.Registered.{IsRegistry}
use Rattle.pg_registry.proofs.Lists.{decides_same}
use Rattle.pg_registry.proofs.registry.Registry.list.Goals as goal

pub returns-clause-keeps : goal.returns-clause-keeps
returns-clause-keeps c = subst IsRegistry c.self.view_is (record {
  distinct = AllPairs-from_IsDistinct decides_same (keys_of c.self.inside.pmus.entries) c.keys.ensures.unique;
  few = c.self.invariant;
})
