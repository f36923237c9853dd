-- What a replay prints of a script.
use Rattle.std.specs.Prelude.{◌≡◌, ℕ, zero, suc, List, [], ◌∷◌, ◌++◌, length, map, codes, Option, Some, None, is_some, if◌then◌else◌, Bool, true}
use Rattle.std.specs.List.{flat_map}
use Rattle.std.specs.Io.BufRead.{first_line, drop_through}
use Rattle.std.specs.Io.KnownBytes.{Appends}
use Rattle.pg_wire.specs.declared.refusal.Refusal.{Refusal}
use Rattle.pg_wire.specs.declared.refusal.Refusal.TheVariants.{BadLine, NoSuchPmu, NoSuchSub}
use Rattle.pg_audit.specs.declared.counters.PmuStats.{PmuStats}
use Rattle.pg_ring.specs.Shown.{Queue}
use Rattle.pg_gateway.specs.State.{SharedMachine, slot_of}
use Rattle.pg_gateway.specs.Views.{private_run}
use Rattle.pg_gateway.specs.Shown.{GatewayShows}
use Rattle.pg_serve.specs.Inputs.{InputValue, Outcome}
use Rattle.pg_serve.specs.WorldStates.{absence, outcome_of}
use Rattle.pg_serve.specs.Shown.{WorldValue, queue_shown, link_counted, session_counted}
use Rattle.pg_serve.specs.Full.{full_turn, world_state_of, queue_of, view_of, link_counts_of, session_counts_of}
use Rattle.pg_serve.specs.Headline.{OutcomesLossless, HasAnswered}
use Rattle.pg_replay.specs.Lines.{Asked, nothing, hands, queue, link_stats, session_stats, asked_in}
use Rattle.pg_lines.specs.Words.{Text}
use Rattle.pg_lines.specs.Printing.{refusal_line, counters_line}
use Rattle.pg_replay.specs.Printing.{queue_lines, output_lines}

-- at most so many lines of a script; LF ends a line, and the last may have none
abbrev pub lines_by : ℕ → Text → List Text
lines_by zero text = []
lines_by (suc n) [] = []
lines_by (suc n) (b ∷ bs) = first_line (b ∷ bs) ∷ lines_by n (drop_through 10 (b ∷ bs))

-- the lines of a script
abbrev pub lines_in : Text → List Text
lines_in text = lines_by (length text) text

-- what the lines of a script ask for
abbrev pub asked_of : Text → List (Option Asked)
asked_of script = map asked_in (lines_in script)

-- ---- the lines that are printed

abbrev pub refused_line : Refusal → Text
refused_line r = refusal_line (codes "refused") r

abbrev pub queue_text : Option Queue → Text
queue_text None = refused_line NoSuchSub
queue_text (Some q) = queue_lines q

abbrev pub link_text : Option PmuStats → Text
link_text None = refused_line NoSuchPmu
link_text (Some s) = counters_line (codes "linkstats") s

abbrev pub session_text : Bool → Option PmuStats → Text
session_text there None = refused_line (absence there)
session_text there (Some s) = counters_line (codes "sessionstats") s

abbrev pub outputs_lines : List Outcome → Text
outputs_lines told = flat_map output_lines told

-- ---- one line

-- A world took an input, and so answered: whatever it took and told before.
abbrev pub Took : WorldValue → InputValue → List Outcome → WorldValue → Type 0
Took w f told v = (inputs : List InputValue) (before : List Outcome) → HasAnswered w inputs before → HasAnswered v (inputs ++ f ∷ []) (before ++ told)

-- a session's counters, or why the subscriber has none
abbrev pub SessionText : WorldValue → ℕ → Text → Option PmuStats → Type 0
SessionText w u text None =
    (r : Refusal) × ((S : SharedMachine) → GatewayShows w.gateway S → r ≡ absence (is_some (slot_of u S.subs))) × (text ≡ refused_line r)
SessionText w u text (Some s) = text ≡ session_text true (Some s)

-- What a line asks for is done, and printed: of an input what the world answers, of a question what the world shows. Where it
-- asks for none of these, the world stays as it is.
abbrev pub Does : WorldValue → Option Asked → List Outcome → Text → WorldValue → Type 0
Does w None told text v = (told ≡ []) × (text ≡ refused_line BadLine) × (v ≡ w)
Does w (Some nothing) told text v = (told ≡ []) × (text ≡ []) × (v ≡ w)
Does w (Some (hands f)) told text v = (text ≡ outputs_lines told) × Took w f told v
Does w (Some (queue u)) told text v = (told ≡ []) × (text ≡ queue_text (queue_shown u w)) × (v ≡ w)
Does w (Some (link_stats s)) told text v = (told ≡ []) × (text ≡ link_text (link_counted s w)) × (v ≡ w)
Does w (Some (session_stats u)) told text v =
    (told ≡ []) × SessionText w u text (session_counted u w) × (v ≡ w)

-- What lines ask for is done, one after another: these are all outcomes and all that is printed, and the world becomes another.
abbrev pub Runs : WorldValue → List (Option Asked) → List Outcome → Text → WorldValue → Type 0
Runs w [] told text v = (told ≡ []) × (text ≡ []) × (v ≡ w)
Runs w (m ∷ ms) told text v =
    (u : WorldValue) × (os : List Outcome) × (more : List Outcome) × (here : Text) × (rest : Text) × (told ≡ os ++ more) × (text ≡ here ++ rest)
    × Does w m os here u × Runs u ms more rest v

-- ---- a script

-- what a line that asks for this prints, behind lines that handed over these inputs, where no memory is refused
abbrev pub text_at : List InputValue → Option Asked → Text
text_at before None = refused_line BadLine
text_at before (Some nothing) = []
text_at before (Some (hands f)) = output_lines (outcome_of (world_state_of before) (full_turn (world_state_of before) f))
text_at before (Some (queue u)) = queue_text (queue_of (private_run None (view_of u before)))
text_at before (Some (link_stats s)) = link_text (link_counts_of s before)
text_at before (Some (session_stats u)) = session_text (is_some (slot_of u (world_state_of before).shared.subs)) (session_counts_of u before)

abbrev pub handed_over : Option Asked → List InputValue
handed_over None = []
handed_over (Some nothing) = []
handed_over (Some (hands f)) = f ∷ []
handed_over (Some (queue u)) = []
handed_over (Some (link_stats s)) = []
handed_over (Some (session_stats u)) = []

-- the inputs that lines hand over, in their order
abbrev pub handed_in : List (Option Asked) → List InputValue
handed_in ms = flat_map handed_over ms

-- all that lines print
abbrev pub text_of : List InputValue → List (Option Asked) → Text
text_of before [] = []
text_of before (m ∷ ms) = text_at before m ++ text_of (before ++ handed_over m) ms

-- what a script prints, where no memory is refused
abbrev pub printed_of : Text → Text
printed_of script = text_of [] (asked_of script)

-- This may be printed of a script: line by line, what a new world answers that takes just the inputs which the lines hand over.
-- Where none of its answers tells want of memory or a loss, that is a function of the script.
pub record Replays (script printed : Text) : Type 0 where
  pub new : WorldValue
  pub begins : HasAnswered new [] []
  pub told : List Outcome
  pub later : WorldValue
  pub runs : Runs new (asked_of script) told printed later
  pub answered : HasAnswered later (handed_in (asked_of script)) told
  pub full : OutcomesLossless told → printed ≡ printed_of script

-- A reader had this left, and what may be printed of it was written.
pub record PrintsScript (script : Text) (old new : Option (List ℕ)) : Type 0 where
  pub printed : Text
  pub replays : Replays script printed
  pub appends : Appends old new printed

abbrev pub Prints : Option (List ℕ) → Option (List ℕ) → Option (List ℕ) → Type 0
Prints remaining old new = (script : Text) → remaining ≡ Some script → PrintsScript script old new
