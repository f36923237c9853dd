-- The headline: what holds of each subscriber of a world where no answer tells want of memory or a loss.
use Rattle.std.specs.Prelude.{◌≡◌, ◌≢◌, ℕ, is_some, List, [], ◌∷◌, None}
use Rattle.pg_wire.specs.declared.refusal.Refusal.TheVariants.{NoMemory}
use Rattle.pg_gateway.specs.Views.{private_run, handed_in, Lossless}
use Rattle.pg_gateway.specs.Laws.{after}
use Rattle.pg_serve.specs.Inputs.{InputValue, Noted, replied, ignored, closed, Outcome}
use Rattle.pg_serve.specs.WorldStates.{Turns, opening, all_outcomes, inputs_of, has_source}
use Rattle.pg_serve.specs.Shown.{WorldValue, queue_shown, link_counted, session_counted, ShowsTurns}
use Rattle.pg_serve.specs.Full.{events_made, full_outcomes, handed_over, view_of, queue_of, is_connected, link_counts_of, session_counts_of}

-- No note tells want of memory or a loss.
abbrev pub NotesLossless : List Noted → Type 0
NotesLossless [] = Unit {0}
NotesLossless (replied a ∷ notes) = Lossless a × NotesLossless notes
NotesLossless (ignored r ∷ notes) = (r ≢ NoMemory) × NotesLossless notes
NotesLossless (closed r ∷ notes) = NotesLossless notes

abbrev pub OutcomesLossless : List Outcome → Type 0
OutcomesLossless [] = Unit {0}
OutcomesLossless (o ∷ outcomes) = NotesLossless o.notes × OutcomesLossless outcomes

-- The world may have taken these inputs since it was new, in one call or several, and answered so.
pub record HasAnswered (w : WorldValue) (inputs : List InputValue) (told : List Outcome) : Type 0 where
  pub turns : Turns
  pub taken : inputs_of turns ≡ inputs
  pub outcomes : told ≡ all_outcomes opening turns
  pub shows : ShowsTurns w turns

-- The headline, of a world that was given these inputs since it was new, and answered so. Each subscriber's queue shows that of a private
-- gateway of its view of the inputs alone (frames and their gaps, replies, what is in hand, pending), and the outputs handed it what that
-- gateway hands out (bytes, frames begun, gaps). The outputs are the replies to the events that the inputs make, with the notes of what
-- was ignored or closed. Links and sessions count what they were fed; a source has a link just where a PMU of it is registered, and a
-- subscriber a session just where it is connected.
pub record Headline (w : WorldValue) (inputs : List InputValue) (told : List Outcome) : Type 0 where
  pub queued : (u : ℕ) → queue_shown u w ≡ queue_of (private_run None (view_of u inputs))
  pub handed : (u : ℕ) → handed_over u inputs told ≡ handed_in None (view_of u inputs)
  pub outcomes : told ≡ full_outcomes inputs
  pub links : (s : ℕ) → link_counted s w ≡ link_counts_of s inputs
  pub sessions : (u : ℕ) → session_counted u w ≡ session_counts_of u inputs
  pub registered : (s : ℕ) → is_some (link_counted s w) ≡ has_source (after (events_made inputs)) s
  pub connected : (u : ℕ) → is_some (session_counted u w) ≡ is_connected (private_run None (view_of u inputs))
