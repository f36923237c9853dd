-- How a stream is cut into frames, as a function of its bytes.
use Rattle.std.specs.Prelude.{ℕ, zero, suc, Bool, ◌&&◌, nat_le, is_none, if◌then◌else◌, List, [], ◌∷◌, length, take, drop}
use Rattle.pg_wire.specs.Frame.{break_of, size_of}

-- a whole frame stands at the front
abbrev pub begins_whole : List ℕ → Bool
begins_whole bytes = is_none (break_of bytes) && nat_le 4 (length bytes) && nat_le (size_of bytes) (length bytes)

-- the whole frames at the front, n at most
unfoldable pub frames_by : ℕ → List ℕ → List (List ℕ)
frames_by zero bytes = []
frames_by (suc n) bytes = if begins_whole bytes then take (size_of bytes) bytes ∷ frames_by n (drop (size_of bytes) bytes) else []

-- what is left behind them
unfoldable pub rest_by : ℕ → List ℕ → List ℕ
rest_by zero bytes = bytes
rest_by (suc n) bytes = if begins_whole bytes then rest_by n (drop (size_of bytes) bytes) else bytes

-- All of a stream's frames, kept and skipped ones: it has no more frames than bytes.
unfoldable pub frames_in : List ℕ → List (List ℕ)
frames_in stream = frames_by (length stream) stream

unfoldable pub rest_in : List ℕ → List ℕ
rest_in stream = rest_by (length stream) stream
