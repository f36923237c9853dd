-- A slot for which one frame brought the blocks of all members.
use Rattle.std.proofs.Common.{◌≡◌, ℕ, zero, suc, ◌+◌, ◌<◌, IsTrue, is_some, false, true, List, [], ◌∷◌, length, drop, get_or, replicate, fold, max, Option, Some, None, option_map, refl, sym, ap, ap₂, ◌∙◌, arith}
use Rattle.std.specs.List.{cons_option}
use Rattle.std.specs.Int.Bits.{bit_or, or_zero_l}
use Rattle.pg_wire.specs.declared.ids.PmuKey.{PmuKey}
use Rattle.pg_config.specs.Parts.{Part}
use Rattle.pg_data.specs.Measurements.{Measurement, block_of}
use Rattle.pg_data.specs.Pieces.{Piece, piece_of}
use Rattle.pg_outcfg.specs.Listing.{Listing, config_at}
use Rattle.pg_outcfg.specs.Frames.{block_or_filler, data_blocks, qualities_of}
use Rattle.pg_outcfg.specs.Ordered.{AreBlocks, AreMembers, blocks_in, pieces_in}
use Rattle.pg_outcfg.specs.Quality.{leap_flags, quality_code, joined_quality}
use Rattle.pg_outcfg.proofs.Joining.{flags-again}

-- ---- the blocks that are left

next : (m : Measurement) (order : List (Option ℕ)) (i place : ℕ) (d : Option ℕ) → i < length order → get_or order i d ≡ Some place
    → blocks_in m (drop i order) ≡ block_of m place ∷ blocks_in m (drop (suc i) order)
next m [] i place d lt is = absurd (omega arith)
next m (o ∷ order) zero place d lt is = rw is refl
next m (o ∷ order) (suc i) place d lt is = next m order i place d (omega arith) is

-- the next one and those after it
pub next-ordered : (m : Measurement) (order : List (Option ℕ)) (i place : ℕ) (d : Option ℕ) → i < length order → get_or order i d ≡ Some place
    → blocks_in m (drop i order) ≡ block_of m place ∷ blocks_in m (drop (i + 1) order)
next-ordered m order i place d lt is =
    next m order i place d lt is ∙ ap (λ n. block_of m place ∷ blocks_in m (drop n order)) (let one : suc i ≡ i + 1 = omega arith in one)

-- each member has a block
pub never-none : (n : ℕ) (order : List (Option ℕ)) (i : ℕ) (d : Option ℕ) → AreBlocks n order → i < length order → get_or order i d ≡ None → ⊥
never-none n [] i d are lt is = omega arith
never-none n (None ∷ order) i d are lt is = are
never-none n (Some place ∷ order) zero d are lt is = absurd (let no : Some place ≡ None = is in cc)
never-none n (Some place ∷ order) (suc i) d are lt is = never-none n order i d are.1 (omega arith) is

-- which the frame has
pub place-below : (n : ℕ) (order : List (Option ℕ)) (i place : ℕ) (d : Option ℕ) → AreBlocks n order → i < length order → get_or order i d ≡ Some place → place < n
place-below n [] i place d are lt is = absurd (omega arith)
place-below n (None ∷ order) i place d are lt is = absurd are
place-below n (Some first ∷ order) zero place d are lt is = let same : first ≡ place = cc in omega (arith, same, are.0)
place-below n (Some first ∷ order) (suc i) place d are lt is = place-below n order i place d are.1 (omega arith) is

-- ---- what the list and the members say of it

own-block : (piece : Piece) (rest : List (List ℕ)) (listed : Option Part) → IsTrue (is_some listed)
    → cons_option (option_map (λ part. block_or_filler part (Some piece)) listed) rest ≡ piece.block ∷ rest
own-block piece rest None is = absurd (let no : false ≡ true = is in cc)
own-block piece rest (Some part) is = refl

-- where all members stand in the list, no filler comes, and no block is left out
pub blocks-ordered : (listed : Listing) (members : List PmuKey) (m : Measurement) (n : ℕ) (order : List (Option ℕ))
    → AreMembers listed members → AreBlocks n order → length order ≡ length members → data_blocks listed members (pieces_in m order) ≡ blocks_in m order
blocks-ordered listed [] m n [] are blocks len = refl
blocks-ordered listed [] m n (o ∷ order) are blocks len = absurd (omega arith)
blocks-ordered listed (key ∷ members) m n [] are blocks len = absurd (omega arith)
blocks-ordered listed (key ∷ members) m n (None ∷ order) are blocks len = absurd blocks
blocks-ordered listed (key ∷ members) m n (Some place ∷ order) are blocks len =
    own-block (piece_of m place) (data_blocks listed members (pieces_in m order)) (config_at listed key) are.0
    ∙ ap (λ bs. block_of m place ∷ bs) (blocks-ordered listed members m n order are.1 blocks.1 (omega arith))

-- ---- the time quality

qualities : (m : Measurement) (n : ℕ) (order : List (Option ℕ)) → AreBlocks n order → qualities_of (pieces_in m order) ≡ replicate (length order) m.quality
qualities m n [] are = refl
qualities m n (None ∷ order) are = absurd are
qualities m n (Some place ∷ order) are = ap (λ qs. m.quality ∷ qs) (qualities m n order are.1)

-- it is that frame's, once for each member
pub qualities-ordered : (m : Measurement) (n k : ℕ) (order : List (Option ℕ)) → AreBlocks n order → length order ≡ k + 1
    → qualities_of (pieces_in m order) ≡ replicate (k + 1) m.quality
qualities-ordered m n k order are len = qualities m n order are ∙ ap (λ l. replicate l m.quality) len

flags-same : (quality flags n : ℕ) → bit_or flags (leap_flags quality) ≡ flags → fold (λ f q. bit_or f (leap_flags q)) flags (replicate n quality) ≡ flags
flags-same quality flags zero has = refl
flags-same quality flags (suc n) has = ap (λ f. fold (λ f q. bit_or f (leap_flags q)) f (replicate n quality)) has ∙ flags-same quality flags n has

code-same : (quality code n : ℕ) → max code (quality_code quality) ≡ code → fold (λ c q. max c (quality_code q)) code (replicate n quality) ≡ code
code-same quality code zero has = refl
code-same quality code (suc n) has = ap (λ c. fold (λ c q. max c (quality_code q)) c (replicate n quality)) has ∙ code-same quality code n has

-- the first adds its flags and its code, and the others nothing
pub joined-same : (quality n : ℕ) → bit_or (leap_flags quality) (quality_code quality) ≡ joined_quality (replicate (n + 1) quality)
joined-same quality n =
    let flags = flags-same quality (bit_or 0 (leap_flags quality)) n (flags-again 0 (leap_flags quality)) in
    let none : max 0 (quality_code quality) ≡ quality_code quality = omega arith in
    let again : max (max 0 (quality_code quality)) (quality_code quality) ≡ max 0 (quality_code quality) = omega arith in
    let code = code-same quality (max 0 (quality_code quality)) n again in
    sym (ap (λ k. joined_quality (replicate k quality)) (let one : n + 1 ≡ suc n = omega arith in one)
    ∙ ap₂ bit_or (flags ∙ or_zero_l (leap_flags quality)) (code ∙ none))
