-- One PMU's own block and configuration, among those of a frame.
use Rattle.std.specs.Prelude.{ℕ, List, [], ◌∷◌, Option, Some, None, nat_eq, if◌then◌else◌}
use Rattle.pg_config.specs.Parts.{Part, block_id}

-- the block with this IDCODE
abbrev pub own_block : ℕ → List (List ℕ) → Option (List ℕ)
own_block pmu [] = None
own_block pmu (b ∷ bs) = if nat_eq (block_id b) pmu then Some b else own_block pmu bs

-- the configuration of the PMU with this IDCODE
abbrev pub own_part : ℕ → List Part → Option Part
own_part pmu [] = None
own_part pmu (p ∷ ps) = if nat_eq (block_id p.block) pmu then Some p else own_part pmu ps
