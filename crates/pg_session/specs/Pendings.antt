-- The buffer for drains, of whose bytes some are left to write.
use Rattle.std.specs.Prelude.{ℕ, List, drop, take, vec_len}
use Rattle.pg_session.specs.declared.pending.Pending.{Pending}

-- the length of the buffer
abbrev pub kept_of : Pending → ℕ
kept_of p = vec_len p.buffer

-- what is left to write of it
abbrev pub left_of : Pending → List ℕ
left_of p = drop p.sent (take p.size p.buffer.items)
