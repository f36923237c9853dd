-- What a session was fed.
use Rattle.std.specs.Prelude.{ℕ, List}
use Rattle.pg_session.specs.Commands.{Hearing, Item, ShowsHearing}

-- The session was fed some bytes and gave the commands that they spell, as every session was.
abbrev pub IsFed : Hearing → Type 0
IsFed v = (stream : List ℕ) × (given : List Item) × ShowsHearing v stream given
