-- What a line of a script asks for.
use Rattle.std.specs.Prelude.{ℕ, ◌==◌, Bool, false, List, [], ◌∷◌, Option, Some, None, option_map, if◌then◌else◌, codes, find}
use Rattle.std.specs.Str.{bytes_eq, is_utf8}
use Rattle.pg_session.specs.Events.{connect, hangup, drain}
use Rattle.pg_gateway.specs.GatewayEvents.{asks, tick}
use Rattle.pg_shared.specs.Edits.{edited}
use Rattle.pg_serve.specs.Inputs.{InputValue, input_value, link_up, pmu_bytes, sub_bytes, names}
use Rattle.pg_lines.specs.Words.{Text, number_in, pmu_id_in, subscriber_in, frame_in}
use Rattle.pg_lines.specs.Lines.{words_of, one, two, edit_of}
use Rattle.pg_lines.specs.Edits.{is_comment}
use Rattle.pg_replay.specs.declared.lines.Kind.{Kind}
use Rattle.pg_replay.specs.declared.lines.Kind.TheVariants as kind
use Rattle.pg_replay.specs.declared.lines.Line.{Line}
use Rattle.pg_replay.specs.declared.lines.Line.TheVariants as line

-- nothing, what a world is handed, or something of it that is to be printed
pub data Asked : Type 0 where
  nothing : Asked
  hands : InputValue → Asked
  queue : ℕ → Asked
  link_stats : ℕ → Asked
  session_stats : ℕ → Asked

-- wherever it lies in memory
abbrev pub asked : Line → Asked
asked line.Nothing = nothing
asked (line.Handed input) = hands (input_value input)
asked (line.Queue u) = queue u
asked (line.LinkStats s) = link_stats s
asked (line.SessionStats u) = session_stats u

-- the verbs that are no operator's, as they are written
abbrev pub table : List (Text × Kind)
table =
    (codes "pmu", kind.Pmu) ∷ (codes "sub", kind.Sub) ∷ (codes "drain", kind.Drain) ∷ (codes "tick", kind.Tick) ∷ (codes "linkup", kind.LinkUp)
    ∷ (codes "connect", kind.Connect) ∷ (codes "hangup", kind.Hangup) ∷ (codes "queue", kind.Queue) ∷ (codes "linkstats", kind.LinkStats)
    ∷ (codes "sessionstats", kind.SessionStats) ∷ []

abbrev pub kind_of : Text → Option Kind
kind_of w = option_map (λ row. row.1) (find (λ row. bytes_eq row.0 w) table)

-- what such a verb makes of the words after it
abbrev pub line_by : Kind → List Text → Option Asked
line_by kind.Pmu ws = option_map (λ p. hands (pmu_bytes p.0 p.1)) (two pmu_id_in frame_in ws)
line_by kind.Sub ws = option_map (λ p. hands (sub_bytes p.0 p.1)) (two subscriber_in frame_in ws)
line_by kind.Drain ws = option_map (λ p. hands (names (asks p.0 (drain p.1)))) (two subscriber_in (number_in 0 65535) ws)
line_by kind.Tick ws = option_map (λ soc. hands (names (tick soc))) (one (number_in 0 4294967295) ws)
line_by kind.LinkUp ws = option_map (λ s. hands (link_up s)) (one pmu_id_in ws)
line_by kind.Connect ws = option_map (λ u. hands (names (asks u connect))) (one subscriber_in ws)
line_by kind.Hangup ws = option_map (λ u. hands (names (asks u hangup))) (one subscriber_in ws)
line_by kind.Queue ws = option_map queue (one subscriber_in ws)
line_by kind.LinkStats ws = option_map link_stats (one pmu_id_in ws)
line_by kind.SessionStats ws = option_map session_stats (one subscriber_in ws)

-- a line of another verb is an operator's
abbrev pub line_of : Option Kind → List Text → Text → Option Asked
line_of (Some k) ws line = line_by k ws
line_of None ws line = option_map (λ edit. hands (names (edited edit))) (edit_of line)

-- what words ask for, which are those of the line
abbrev pub words_ask : List Text → Text → Option Asked
words_ask [] line = Some nothing
words_ask (verb ∷ ws) line = line_of (kind_of verb) ws line

-- what a text asks for, or nothing that a line may
abbrev pub text_asks : Text → Option Asked
text_asks line = words_ask (words_of line) line

-- what a line asks for: a comment nothing, whatever its bytes are, and else only a text anything
abbrev pub asked_in : List ℕ → Option Asked
asked_in line = if is_comment line then Some nothing else (if is_utf8 line then text_asks line else None)
