-- The slots of a stream that left, as they are looked back on: by their cause, and by the members that were missing.
use Rattle.std.specs.Prelude.{ℕ, suc, ◌+◌, ◌==◌, true, false, ◌-◌, ◌^◌, min, Bool, ◌&&◌, not, is_some, if◌then◌else◌, List, [], ◌∷◌, replicate, slice_set, slice_index_or, Option, None, ◌≡◌, ◌<◌}
use Rattle.pg_align.specs.declared.answer.Arrived.{Arrived}
use Rattle.pg_align.specs.declared.answer.Arrived.TheVariants.{Kept, Late, Twice}
use Rattle.pg_align.specs.declared.counts.Cause.{Cause}
use Rattle.pg_align.specs.declared.counts.Cause.TheVariants.{Complete, Waited, Pushed, Changed}
use Rattle.pg_align.specs.declared.counts.SlotCounts.{SlotCounts}

-- What a stream's counts look back on: a slot left, with its cause, the effective members (a Bool for each) and what had come; or a part
-- came too late for the member at a place.
pub data Past (X : Type 0) : Type 0 where
  left_for : Cause → List Bool → List (Option X) → Past X
  came_late : ℕ → Past X

-- one more, at most the greatest 64-bit number
abbrev pub one_more : ℕ → ℕ
one_more n = min (n + 1) (2 ^ 64 - 1)

abbrev pub no_counts : SlotCounts
no_counts = record { complete = 0; waited = 0; pushed = 0; changed = 0; missing = replicate 32 0; late = replicate 32 0 }

-- one more slot for this cause
abbrev pub raised : Cause → SlotCounts → SlotCounts
raised Complete c = record c { complete = one_more c.complete }
raised Waited c = record c { waited = one_more c.waited }
raised Pushed c = record c { pushed = one_more c.pushed }
raised Changed c = record c { changed = one_more c.changed }

-- Each effective member without a part is missing once more. One past the end of the parts has none.
abbrev pub with_missing : {X : Type 0} → List Bool → List (Option X) → List ℕ → List ℕ
with_missing [] parts counts = counts
with_missing (wanted ∷ effective) parts [] = []
with_missing {X = X} (wanted ∷ effective) [] (n ∷ counts) = (if wanted then one_more n else n) ∷ with_missing {X = X} effective [] counts
with_missing (wanted ∷ effective) (part ∷ parts) (n ∷ counts) = (if wanted && not (is_some part) then one_more n else n) ∷ with_missing effective parts counts

-- a slot left for this cause, with these effective members and parts
abbrev pub counted_left : {X : Type 0} → Cause → List Bool → List (Option X) → SlotCounts → SlotCounts
counted_left cause effective parts c = record (raised cause c) { missing = with_missing effective parts c.missing }

-- a part came too late
abbrev pub counted_late : ℕ → SlotCounts → SlotCounts
counted_late place c = record c { late = slice_set c.late place (one_more (slice_index_or c.late place 0)) }

-- what became of a part for the member at a place: it is counted where it came too late
abbrev pub counted_if : Arrived → ℕ → SlotCounts → SlotCounts
counted_if Late place c = counted_late place c
counted_if Kept place c = c
counted_if Twice place c = c

-- the counts of all that is looked back on, the newest first
abbrev pub counts_of : {X : Type 0} → List (Past X) → SlotCounts
counts_of [] = no_counts
counts_of (left_for cause effective parts ∷ past) = counted_left cause effective parts (counts_of past)
counts_of (came_late place ∷ past) = counted_late place (counts_of past)

-- ---- looking back

-- how many of these are so
abbrev pub how_many : {X : Type 0} → (Past X → Bool) → List (Past X) → ℕ
how_many is [] = 0
how_many is (x ∷ past) = if is x then suc (how_many is past) else how_many is past

-- at most the greatest 64-bit number
abbrev pub saturated : ℕ → ℕ
saturated n = min n (2 ^ 64 - 1)

-- a slot left for this cause
abbrev pub is_for : {X : Type 0} → Cause → Past X → Bool
is_for Complete (left_for Complete effective parts) = true
is_for Waited (left_for Waited effective parts) = true
is_for Pushed (left_for Pushed effective parts) = true
is_for Changed (left_for Changed effective parts) = true
is_for cause _ = false

-- a slot left without a part for the member at this place, which was effective: its frame has a filler there
abbrev pub lacks : {X : Type 0} → ℕ → Past X → Bool
lacks place (left_for cause effective parts) = slice_index_or effective place false && not (is_some (slice_index_or parts place None))
lacks place (came_late at) = false

-- a part came too late for the member at this place
abbrev pub is_late_for : {X : Type 0} → ℕ → Past X → Bool
is_late_for place (left_for cause effective parts) = false
is_late_for place (came_late at) = at == place

-- the count of a cause
abbrev pub count_of : Cause → SlotCounts → ℕ
count_of Complete c = c.complete
count_of Waited c = c.waited
count_of Pushed c = c.pushed
count_of Changed c = c.changed

-- What a stream's counts are, looking back over all that happened since it was defined: for each cause the slots that left for it; for each
-- member the slots that left without its part while it was effective, and its parts that came too late.
pub record LookBack (X : Type 0) : Type 0 where
  pub causes : (cause : Cause) (past : List (Past X)) → count_of cause (counts_of past) ≡ saturated (how_many (is_for cause) past)
  pub missing : (place : ℕ) (past : List (Past X)) → place < 32 → slice_index_or (counts_of past).missing place 0 ≡ saturated (how_many (lacks place) past)
  pub late : (place : ℕ) (past : List (Past X)) → place < 32 → slice_index_or (counts_of past).late place 0 ≡ saturated (how_many (is_late_for place) past)
