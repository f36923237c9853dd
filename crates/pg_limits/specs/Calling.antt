-- How long a source is left alone before it is called again.
use Rattle.std.specs.Prelude.{ℕ, ◌*◌, min, max}

-- the pause after one more failure, in seconds: 1 at first, doubled each time, 30 at most
abbrev pub longer : ℕ → ℕ
longer seconds = min 30 (max 1 (2 * seconds))
