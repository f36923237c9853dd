use Rattle.std.proofs.Common.{List, map, sym, subst, ◌∙◌, ap, arith, ◌<◌, ◌^◌}
use Rattle.std.proofs.lemmas.Bool.{or_parts}
use Rattle.std.specs.Arc.{arc_value}
use Rattle.pg_config.specs.Parts.{Part, IsSource, part_with}
use Rattle.pg_config.specs.Reading.{blocks_at, base_at, rate_at}
use Rattle.pg_config.proofs.Wholes.{blocks_are, kept_all, source_with, announces}
use Rattle.pg_config.proofs.read.config_in.Goals as goal

pub parts_of-requires-clause-there : goal.parts_of-requires-clause-there
parts_of-requires-clause-there c =
    let read = c.in_ok-source.ensures.exact in
    let low : base_at c.args.frame.now < 2 ^ 24 = omega arith in
    record {
      list = read.list;
      rest = read.rest;
      read = ap (blocks_at c.in_ok-source.count) c.split_at.ensures.back ∙ read.there;
      each = kept_all (base_at c.args.frame.now) (rate_at c.args.frame.now) read.list c.in_ok-source.ensures.room.1 low
          (blocks_are c.in_ok-source.count _ (read.list, read.rest) read.there).each (or_parts _ _ read.named).1;
    }

pub new-requires : goal.new-requires
new-requires c =
    let read = c.in_ok-source.ensures.exact in
    let low : base_at c.args.frame.now < 2 ^ 24 = omega arith in
    let there = blocks_are c.in_ok-source.count _ (read.list, read.rest) read.there in
    let is = c.in_ok-parts.ensures.read read.list read.rest (ap (blocks_at c.in_ok-source.count) c.split_at.ensures.back ∙ read.there) in
    subst (λ (ps : List Part). IsSource (record { source = c.in_ok-source.source; parts = ps })) (sym is)
    (subst (λ n. IsSource (record { source = n; parts = map (part_with (base_at c.args.frame.now) (rate_at c.args.frame.now)) read.list })) (sym read.source_is)
    (source_with _ (base_at c.args.frame.now) (rate_at c.args.frame.now) read.list (omega (arith, there.count, c.in_ok-source.ensures.room.2)) (omega (arith, there.count, c.in_ok-source.ensures.room.3)) c.in_ok-source.ensures.room.1 low there.each read.once read.named))

pub returns-clause-exact : goal.returns-clause-exact
returns-clause-exact c =
    let read = c.in_ok-source.ensures.exact in
    let is = c.in_ok-parts.ensures.read read.list read.rest (ap (blocks_at c.in_ok-source.count) c.split_at.ensures.back ∙ read.there) in
    announces c.args.frame.now read.list c.kind_of.result c.in_ok-source.source (map arc_value c.in_ok-parts.parts.items) c.in_ok-config.config read.is c.kind_of.ensures read.source_is is c.in_ok-config.ensures
