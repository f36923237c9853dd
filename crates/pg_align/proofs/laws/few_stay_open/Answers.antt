use Rattle.pg_align.proofs.Arriving.{others_at_most}
use Rattle.pg_align.proofs.Leaving.{all_leaving-few, all_flushed-none_open, Shows-count}
use Rattle.pg_align.proofs.laws.few_stay_open.Goals as goal

pub returns-clause-others : goal.returns-clause-others
returns-clause-others c slots slot = others_at_most slots slot

pub returns-clause-left : goal.returns-clause-left
returns-clause-left c align = all_leaving-few align

pub returns-clause-flushed : goal.returns-clause-flushed
returns-clause-flushed c align = all_flushed-none_open align

pub returns-clause-count : goal.returns-clause-count
returns-clause-count c align h s = Shows-count align h s
