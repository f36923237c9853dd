use Rattle.std.proofs.Common.{◌∙◌, ap, sym, length}
use Rattle.pg_data.proofs.Fillers.{filler-length}
use Rattle.pg_outcfg.specs.Frames.{block_or_filler}
use Rattle.pg_outcfg.proofs.data.part_len.Goals as goal

pub returns-in-None-clause-value : goal.returns-in-None-clause-value
returns-in-None-clause-value c =
    c.block_len.ensures.value ∙ sym (filler-length c.args.config.now) ∙ ap (λ part. length (block_or_filler c.args.config.now part)) (sym c.in-None.is)
