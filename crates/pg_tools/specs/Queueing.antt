-- The lines that wait for standard output. An entry is the lines of one data frame, of one configuration or of the state. Where too many lines wait the oldest
-- entries are dropped; the slots that they stand for join the gap before the next frame, so that each slot has a data line or is in a gap.
use Rattle.std.specs.Prelude.{nat_eq, ◌&&◌, not, is_some, length, ℕ, ◌+◌, ◌-◌, ◌^◌, ◌∷◌, [], List, drop, min, nat_le, nat_lt, Bool, Option, Some, None, if◌then◌else◌}
use Rattle.pg_tools.specs.declared.line_queue.Entry.{Entry}
use Rattle.pg_tools.specs.declared.line_queue.Gap.{Gap}
use Rattle.pg_tools.specs.declared.line_queue.Why.TheVariants.{Output}
use Rattle.pg_tools.specs.declared.line_queue.Content.{Content}
use Rattle.pg_tools.specs.declared.line_queue.Content.TheVariants.{Frame, Config, State}

-- the entries in order, how many lines may wait and how many do, the slots that were dropped since the last frame that was handed out and since the start, and
-- the last configuration that was dropped
pub record Waiting : Type 0 where
  pub entries : List Entry
  pub most : ℕ
  pub lines : ℕ
  pub lost : ℕ
  pub dropped : ℕ
  pub config : Option Entry

abbrev pub nothing_waits : ℕ → Waiting
nothing_waits most = record { entries = []; most = most; lines = 0; lost = 0; dropped = 0; config = None }

abbrev pub is_nothing : Waiting → Bool
is_nothing w = nat_eq (length w.entries) 0 && not (is_some w.config)

-- a count of 64 bits
abbrev pub saturated : ℕ → ℕ
saturated n = min n (2 ^ 64 - 1)

-- the slots of the gap before a frame
abbrev pub gap_slots : Option Gap → ℕ
gap_slots None = 0
gap_slots (Some gap) = gap.slots

-- the slots that an entry stands for: that of its frame, and those of the gap before it
abbrev pub slots_of : Content → ℕ
slots_of (Frame time gap) = saturated (gap_slots gap + 1)
slots_of Config = 0
slots_of State = 0

-- the gap before a frame where so many slots directly before it were dropped
abbrev pub gap_with : ℕ → Option Gap → Option Gap
gap_with lost gap = if nat_lt 0 lost then Some (record { slots = saturated (lost + gap_slots gap); why = Output }) else gap

-- what an entry is handed out as then
abbrev pub joined : ℕ → Content → Content
joined lost (Frame time gap) = Frame time (gap_with lost gap)
joined lost Config = Config
joined lost State = State

-- the slots that were dropped since the last frame that was handed out, with those of one more entry
abbrev pub lost_with : ℕ → Content → ℕ
lost_with lost content = saturated (lost + slots_of content)

-- all slots of a queue: those that were dropped, and those of its entries
abbrev pub standing : ℕ → List Entry → ℕ
standing lost [] = lost
standing lost (entry ∷ entries) = standing (lost_with lost entry.content) entries

-- those that were dropped, once an entry is handed out: a frame's gap has them
abbrev pub lost_behind : ℕ → Content → ℕ
lost_behind lost (Frame time gap) = 0
lost_behind lost Config = lost
lost_behind lost State = lost

-- what is handed out next: a configuration that was dropped, or else the oldest entry
abbrev pub handed : Option Entry → ℕ → List Entry → Option Entry
handed (Some config) lost entries = Some config
handed None lost [] = None
handed None lost (entry ∷ entries) = Some (record entry { content = joined lost entry.content })

-- and what then waits, and is lost
abbrev pub waiting_behind : Option Entry → List Entry → List Entry
waiting_behind (Some config) entries = entries
waiting_behind None entries = drop 1 entries

abbrev pub lost_then : Option Entry → ℕ → List Entry → ℕ
lost_then (Some config) lost entries = lost
lost_then None lost [] = lost
lost_then None lost (entry ∷ entries) = lost_behind lost entry.content

-- the last configuration that was dropped, with one more entry
abbrev pub kept_by : Option Entry → Entry → Content → Option Entry
kept_by config entry (Frame time gap) = config
kept_by config entry Config = Some entry
kept_by config entry State = config

-- the lines that wait behind the oldest entry
abbrev pub lines_behind : ℕ → List Entry → ℕ
lines_behind lines [] = lines
lines_behind lines (entry ∷ entries) = lines - entry.lines

abbrev pub lines_then : Option Entry → ℕ → List Entry → ℕ
lines_then (Some config) lines entries = lines
lines_then None lines entries = lines_behind lines entries

-- what waits once no more lines wait than may, or one entry: the oldest entries are dropped, and no more than have to be
abbrev pub fitting : ℕ → ℕ → List Entry → List Entry
fitting most lines [] = []
fitting most lines (entry ∷ []) = entry ∷ []
fitting most lines (entry ∷ next ∷ entries) = if nat_le lines most then entry ∷ next ∷ entries else fitting most (lines - entry.lines) (next ∷ entries)

-- whether what is done each so many milliseconds is due
abbrev pub is_over : ℕ → ℕ → ℕ → Bool
is_over since period now = nat_le period (now - since)
