use Rattle.std.proofs.Common.{◌≡◌, ◌+◌, ◌*◌, ◌≤◌, drop}
use Rattle.pg_config.specs.Parts.{data_lens}
use Rattle.pg_outcfg.specs.Frames.{effective_of}
use Rattle.pg_session.proofs.layouts.frame_len.Given as goal

abbrev pub invariant-loop-key : goal.invariant-loop-key
invariant-loop-key l =
    (l.len ≤ 16 + 398 * l.key-index)
    × (l.len + data_lens (effective_of l.listed (drop l.key-index l.members)) ≡ 16 + data_lens (effective_of l.listed l.members))
