-- A frame that was started, filled and ended.
use Rattle.std.proofs.Common.{◌≡◌, ℕ, ◌+◌, List, ◌++◌, length, ap, ◌∙◌}
use Rattle.pg_wire.specs.Head.{Heading, frame_of}
use Rattle.pg_wire.specs.Heads.{start_of, ended}
use Rattle.pg_wire.proofs.Spelled.{ended-start}

pub framed : (h : Heading) (body start before after : List ℕ) → start ≡ start_of h (16 + length body) → before ≡ start ++ body → after ≡ ended before → after ≡ frame_of h body
framed h body start before after started filled done = done ∙ ap ended (filled ∙ ap (λ l. l ++ body) started) ∙ ended-start h body
