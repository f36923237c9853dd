use Rattle.std.proofs.Common.{◌≡◌, ◌+◌, ◌-◌, ◌^◌, ℕ, List, [], ◌∷◌, Some, None, min, slice_get, slice_set, refl, arith}
use Rattle.std.proofs.lemmas.Grind.{common_steps}
use Rattle.pg_ring.specs.Steps.{pass_on}
use Rattle.pg_ring.specs.Items.{shown}
use Rattle.pg_ring.specs.declared.ring.QueuedFrame.{QueuedFrame}
use Rattle.pg_ring.proofs.ring.pass_gap.Goals as goal

-- the gap of the frame at the front is written in its place
passed_on : (passed gap : ℕ) (first : QueuedFrame) (items : List QueuedFrame) → Some first ≡ slice_get items 0 → gap ≡ min (first.gap + passed) (2 ^ 64 - 1)
    → shown (slice_set items 0 (record { bytes = first.bytes; gap = gap })) ≡ pass_on passed (shown items)
passed_on passed gap first [] there sum = grind (arith, common_steps)
passed_on passed gap first (x ∷ xs) there sum = grind (arith, common_steps)

none_there : (passed : ℕ) (items : List QueuedFrame) → None ≡ slice_get items 0 → shown items ≡ pass_on passed (shown items)
none_there passed [] none = refl
none_there passed (x ∷ xs) none = grind (arith, common_steps)

pub returns-in-Some-clause-frames : goal.returns-in-Some-clause-frames
returns-in-Some-clause-frames c = passed_on _ _ c.in-Some.first.now c.args.frames.now.items c.in-Some.ensures.value c.saturating_add-first.ensures

pub returns-in_default-clause-frames : goal.returns-in_default-clause-frames
returns-in_default-clause-frames c = none_there _ _ c.in_default.ensures.value
