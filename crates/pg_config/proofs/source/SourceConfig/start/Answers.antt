use Rattle.std.proofs.Common.{length, map, arith, ap, ◌∙◌, zero-add, get_or}
use Rattle.std.specs.Arc.{arc_value}
use Rattle.pg_config.proofs.Places.{ends_from-length, place-at}
use Rattle.pg_config.proofs.source.SourceConfig.start.Goals as goal

pub index-requires : goal.index-requires
index-requires c =
    let whole = ap length c.self.invariant.1 in
    let last = ends_from-length 0 (map arc_value c.self.inside.parts.items) in
    let within = rw (← c.self.view_is) at c.requires in
    omega (arith, whole, last, within)

pub returns : goal.returns
returns c =
    let within = rw (← c.self.view_is) at c.requires in
    rw (← c.self.view_is) (c.index.ensures ∙ ap (λ xs. get_or xs c.args.i c.index.result.now) c.self.invariant.1
    ∙ place-at 0 (map arc_value c.self.inside.parts.items) c.args.i c.index.result.now within ∙ zero-add _)
