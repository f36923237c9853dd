-- The data blocks that are left to count or to add.
use Rattle.std.proofs.Common.{◌≡◌, ℕ, zero, suc, ◌+◌, ◌<◌, List, [], ◌∷◌, ◌++◌, length, drop, get_or, Option, Some, None, option_map, refl, sym, ap, ◌∙◌, append_assoc, length-append, arith}
use Rattle.std.specs.List.{cons_option}
use Rattle.pg_wire.specs.declared.ids.PmuKey.{PmuKey}
use Rattle.pg_wire.specs.Stream.{joined}
use Rattle.pg_config.specs.Parts.{Part}
use Rattle.pg_data.specs.Pieces.{Piece}
use Rattle.pg_outcfg.specs.Listing.{Listing, config_at}
use Rattle.pg_outcfg.specs.Frames.{block_or_filler, member_block, data_blocks}

-- what is left is the next one and those after it
next : {A : Type 0} (xs : List A) (i : ℕ) (x : A) → i < length xs → x ≡ get_or xs i x → drop i xs ≡ x ∷ drop (suc i) xs
next [] i x lt is = absurd (omega arith)
next (y ∷ ys) zero x lt is = ap (λ z. z ∷ ys) (sym is)
next (y ∷ ys) (suc i) x lt is = next ys i x (omega arith) is

next-pair : (listed : Listing) (members : List PmuKey) (pieces : List (Option Piece)) (i : ℕ) (key : PmuKey) (piece : Option Piece)
    → i < length members → key ≡ get_or members i key → i < length pieces → piece ≡ get_or pieces i piece
    → data_blocks listed (drop i members) (drop i pieces) ≡ cons_option (member_block listed (key, piece)) (data_blocks listed (drop (i + 1) members) (drop (i + 1) pieces))
next-pair listed members pieces i key piece lt is within at =
    ap (λ ms. data_blocks listed ms (drop i pieces)) (next members i key lt is)
    ∙ ap (λ ps. data_blocks listed (key ∷ drop (suc i) members) ps) (next pieces i piece within at)
    ∙ ap (λ n. cons_option (member_block listed (key, piece)) (data_blocks listed (drop n members) (drop n pieces))) (let one : suc i ≡ i + 1 = omega arith in one)

-- the next member is effective
pub next-block : (listed : Listing) (members : List PmuKey) (pieces : List (Option Piece)) (i : ℕ) (key : PmuKey) (piece : Option Piece) (part : Part)
    → i < length members → key ≡ get_or members i key → i < length pieces → piece ≡ get_or pieces i piece → Some part ≡ config_at listed key
    → data_blocks listed (drop i members) (drop i pieces) ≡ block_or_filler part piece ∷ data_blocks listed (drop (i + 1) members) (drop (i + 1) pieces)
next-block listed members pieces i key piece part lt is within at found =
    next-pair listed members pieces i key piece lt is within at
    ∙ ap (λ o. cons_option (option_map (λ p. block_or_filler p piece) o) (data_blocks listed (drop (i + 1) members) (drop (i + 1) pieces))) (sym found)

own : {A : Type 0} (xs : List A) (i : ℕ) (d : A) → i < length xs → get_or xs i d ≡ get_or xs i (get_or xs i d)
own [] i d lt = absurd (omega arith)
own (x ∷ xs) zero d lt = refl
own (x ∷ xs) (suc i) d lt = own xs i d (omega arith)

-- the next member is not
pub next-absent : (listed : Listing) (members : List PmuKey) (pieces : List (Option Piece)) (i : ℕ) (key : PmuKey)
    → i < length members → key ≡ get_or members i key → i < length pieces → None ≡ config_at listed key
    → data_blocks listed (drop i members) (drop i pieces) ≡ data_blocks listed (drop (i + 1) members) (drop (i + 1) pieces)
next-absent listed members pieces i key lt is within none =
    next-pair listed members pieces i key (get_or pieces i None) lt is within (own pieces i None within)
    ∙ ap (λ o. cons_option (option_map (λ part. block_or_filler part (get_or pieces i None)) o) (data_blocks listed (drop (i + 1) members) (drop (i + 1) pieces))) (sym none)

-- the first of the blocks that are left is counted
pub counted : (left rest : List (List ℕ)) (block : List ℕ) → left ≡ block ∷ rest → length (joined left) ≡ length block + length (joined rest)
counted left rest block is = ap (λ bs. length (joined bs)) is ∙ length-append block (joined rest)

-- and added
pub added : (left rest : List (List ℕ)) (block front whole : List ℕ) → left ≡ block ∷ rest → front ++ joined left ≡ whole → (front ++ block) ++ joined rest ≡ whole
added left rest block front whole is so_far = append_assoc front block (joined rest) ∙ sym (ap (λ bs. front ++ joined bs) is) ∙ so_far
