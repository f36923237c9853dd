use Rattle.std.proofs.Common.{◌∙◌, ap}
use Rattle.pg_entitle.specs.Grants.{has_key}
use Rattle.pg_entitle.proofs.Searches.{found_is_held}
use Rattle.pg_entitle.proofs.grants.Grants.holds.Goals as goal

pub returns : goal.returns
returns c = record {
  value = c.is_ok.ensures.value ∙ found_is_held c.deref.result.now c.args.key c.place_of.result c.place_of.ensures.found c.place_of.ensures.absent
      ∙ ap (λ keys. has_key keys c.args.key) (c.deref.ensures.value ∙ c.self.view_is);
}
