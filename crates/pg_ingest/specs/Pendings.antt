-- A command of which a part may be written.
use Rattle.std.specs.Prelude.{ℕ, List, drop}
use Rattle.pg_ingest.specs.declared.pending.Pending.{Pending}

-- what is left to write of it
abbrev pub left_of : Pending → List ℕ
left_of p = drop p.sent p.frame
