use Rattle.pg_lines.proofs.Counts.{no_port}
use Rattle.pg_lines.proofs.steer.listen.Goals as goal

pub returns-in_default : goal.returns-in_default
returns-in_default c = no_port (λ w. w.now) c.args.args.now c.in_default.len_below
