-- The subscriber that edits make, and which members of a stream are not in its frames.
use Rattle.std.specs.Prelude.{ℕ, ◌-◌, ◌==◌, ◌||◌, Bool, true, false, not, List, [], ◌∷◌, Option, Some, None, option_map, if◌then◌else◌}
use Rattle.std.specs.List.{list_any}
use Rattle.pg_wire.specs.declared.ids.PmuKey.{PmuKey}
use Rattle.pg_stream.specs.declared.definition.Definition.{Definition}
use Rattle.pg_gateway.specs.declared.edit.Edit.{Edit}
use Rattle.pg_gateway.specs.declared.edit.Edit.TheVariants.{AddSub, Grant, Define}
use Rattle.pg_wire.specs.Keys.{key_eq}
use Rattle.pg_operator.specs.declared.shown.Absence.{Absence}
use Rattle.pg_operator.specs.declared.shown.Absence.TheVariants as absence
use Rattle.pg_operator.specs.Setups.{Subscriber}

-- the first subscriber that is added, with the limits of its ring
abbrev pub added_in : List Edit → Option (ℕ × ℕ × ℕ)
added_in [] = None
added_in (AddSub u ring bytes ∷ edits) = Some (u, ring, bytes)
added_in (e ∷ edits) = added_in edits

abbrev pub granted_in : List Edit → List PmuKey
granted_in [] = []
granted_in (Grant u key ∷ edits) = key ∷ granted_in edits
granted_in (e ∷ edits) = granted_in edits

abbrev pub defined_in : List Edit → List Definition
defined_in [] = []
defined_in (Define u d ∷ edits) = d ∷ defined_in edits
defined_in (e ∷ edits) = defined_in edits

-- It has no port: no edit opens one.
abbrev pub subscriber_of : List Edit → Option Subscriber
subscriber_of edits = option_map (λ p. record {
  sub = p.0;
  ring = p.1;
  bytes = p.2;
  grants = granted_in edits;
  streams = defined_in edits;
  port = None;
}) (added_in edits)

-- ---- members

abbrev pub has_key : List PmuKey → PmuKey → Bool
has_key keys key = list_any (λ k. key_eq k key) keys

-- No more of the members are granted than so many.
abbrev pub are_carried : List PmuKey → ℕ → List PmuKey → Bool
are_carried grants effective [] = true
are_carried grants effective (k ∷ members) =
    if has_key grants k then (if effective == 0 then false else are_carried grants (effective - 1) members) else are_carried grants effective members

-- why a member is not in the frames; where each that is granted was announced, only what is not registered or not granted
abbrev pub absence_of : PmuKey → List PmuKey → List PmuKey → List PmuKey → Bool → Option Absence
absence_of key registered grants announced is_whole =
    if not (has_key registered key) then Some absence.NotRegistered
    else if not (has_key grants key) then Some absence.NotGranted
    else if is_whole || has_key announced key then None
    else Some absence.NotAnnounced
