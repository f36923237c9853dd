-- Blocks that are copied one after the other, each with another CFGCNT.
use Rattle.std.proofs.Common.{◌≡◌, ℕ, zero, suc, ◌+◌, ◌-◌, ◌^◌, ◌<◌, ◌≤◌, All, inr, lit<, List, [], ◌∷◌, ◌++◌, length, take, drop, map, get_or, refl, sym, ap, ◌∙◌, append_assoc, arith, length-append, length-take-le}
use Rattle.std.proofs.lemmas.List.{drop_all, length-map}
use Rattle.std.specs.Int.{w16, w32, to_be_bytes}
use Rattle.pg_wire.specs.declared.kind.Kind.{Kind}
use Rattle.pg_wire.specs.declared.kind.Kind.TheVariants.{Header}
use Rattle.pg_wire.specs.Kinds.{kind_number}
use Rattle.pg_wire.specs.Check.{chk}
use Rattle.pg_wire.specs.Head.{Heading, HeadFits, front_of, frame_of}
use Rattle.pg_wire.specs.Heads.{start_of, ended}
use Rattle.pg_wire.proofs.Spelled.{ended-start}
use Rattle.pg_wire.specs.Stream.{joined}
use Rattle.pg_config.specs.Parts.{Part}
use Rattle.pg_config.specs.Writing.{reply_heading, block_with_count, config_body, config_start, config_frame}
use Rattle.pg_config.specs.Spelling.{SpellsHeader}

-- the next PMU
next : {A : Type 0} (f : A → Part) (xs : List A) (i : ℕ) (x : A) → i < length xs → x ≡ get_or xs i x → drop i (map f xs) ≡ f x ∷ drop (suc i) (map f xs)
next f [] i x lt is = absurd (omega arith)
next f (y ∷ ys) zero x lt is = ap (λ z. f z ∷ map f ys) (sym is)
next f (y ∷ ys) (suc i) x lt is = next f ys i x (omega arith) is

pub next-one : {A : Type 0} (f : A → Part) (xs : List A) (i : ℕ) (x : A) → i < length xs → x ≡ get_or xs i x → drop i (map f xs) ≡ f x ∷ drop (i + 1) (map f xs)
next-one f xs i x lt is = next f xs i x lt is ∙ ap (λ n. f x ∷ drop n (map f xs)) (let one : suc i ≡ i + 1 = omega arith in one)

-- no PMU is left
pub none_left : {A : Type 0} (f : A → Part) (xs : List A) (i count : ℕ) → length xs ≤ i → joined (map (block_with_count count) (drop i (map f xs))) ≡ []
none_left f xs i count past = ap (λ ps. joined (map (block_with_count count) ps)) (drop_all i (map f xs) (omega (arith, length-map xs f)))

-- a block keeps its length
pub length-block_with_count : (count : ℕ) (p : Part) → 2 ≤ length p.block → length (block_with_count count p) ≡ length p.block
length-block_with_count count p long =
    omega (arith, length-append (take (length p.block - 2) p.block) (to_be_bytes w16 count), length-take-le (length p.block - 2) p.block (let le : length p.block - 2 ≤ length p.block = omega arith in le))

-- one more block was added
pub added-more : {A : Type 0} (f : A → Part) (xs : List A) (i : ℕ) (x : A) (count : ℕ) (front whole : List ℕ) → i < length xs → x ≡ get_or xs i x
    → front ++ joined (map (block_with_count count) (drop i (map f xs))) ≡ whole
    → (front ++ block_with_count count (f x)) ++ joined (map (block_with_count count) (drop (i + 1) (map f xs))) ≡ whole
added-more f xs i x count front whole lt is so_far =
    append_assoc front (block_with_count count (f x)) (joined (map (block_with_count count) (drop (i + 1) (map f xs))))
    ∙ sym (ap (λ ps. front ++ joined (map (block_with_count count) ps)) (next-one f xs i x lt is)) ∙ so_far

-- the blocks that are left are the next one and those after it
pub left-more : {A : Type 0} (f : A → Part) (xs : List A) (i : ℕ) (x : A) (count : ℕ) → i < length xs → x ≡ get_or xs i x
    → length (joined (map (block_with_count count) (drop i (map f xs)))) ≡ length (block_with_count count (f x)) + length (joined (map (block_with_count count) (drop (i + 1) (map f xs))))
left-more f xs i x count lt is =
    ap (λ ps. length (joined (map (block_with_count count) ps))) (next-one f xs i x lt is)
    ∙ length-append (block_with_count count (f x)) (joined (map (block_with_count count) (drop (i + 1) (map f xs))))

-- one more block was counted
pub len-more : {A : Type 0} (f : A → Part) (xs : List A) (i : ℕ) (x : A) (count n whole : ℕ) → i < length xs → x ≡ get_or xs i x → 2 ≤ length (f x).block
    → n + length (joined (map (block_with_count count) (drop i (map f xs)))) ≡ whole
    → n + length (f x).block + length (joined (map (block_with_count count) (drop (i + 1) (map f xs)))) ≡ whole
len-more f xs i x count n whole lt is long so_far =
    let first : joined (map (block_with_count count) (drop i (map f xs))) ≡ block_with_count count (f x) ++ joined (map (block_with_count count) (drop (i + 1) (map f xs))) =
    ap (λ ps. joined (map (block_with_count count) ps)) (next-one f xs i x lt is) in
    omega (arith, ap length first, length-append (block_with_count count (f x)) (joined (map (block_with_count count) (drop (i + 1) (map f xs)))), length-block_with_count count (f x) long)

-- a frame that was started, filled and ended
pub framed : (h : Heading) (size : ℕ) (body start before after : List ℕ) → start ≡ start_of h size → size ≡ 16 + length body → before ≡ start ++ body → after ≡ ended before → after ≡ frame_of h body
framed h size body start before after started sized filled done =
    done ∙ ap ended (filled ∙ ap (λ l. l ++ body) (started ∙ ap (start_of h) sized)) ∙ ended-start h body

grouped : (start base count middle rate : List ℕ) → (((start ++ base) ++ count) ++ middle) ++ rate ≡ start ++ (((base ++ count) ++ middle) ++ rate)
grouped start base count middle rate = simp append_assoc

body-length : (base count middle rate : List ℕ) → length base ≡ 4 → length count ≡ 2 → length rate ≡ 2 → length (((base ++ count) ++ middle) ++ rate) ≡ 8 + length middle
body-length base count middle rate a b c = simp length-append (omega arith)

-- A configuration frame that was started for these PMUs, filled with their blocks and ended.
pub config-framed : (kind : Kind) (id soc base rate count blocks blocks_len : ℕ) (parts : List Part) → blocks ≡ length parts
    → blocks_len ≡ length (joined (map (block_with_count count) parts))
    → ended ((config_start kind id soc base blocks blocks_len ++ joined (map (block_with_count count) parts)) ++ to_be_bytes w16 rate) ≡ config_frame kind id soc base rate count parts
config-framed kind id soc base rate count blocks blocks_len parts number sized =
    let h = reply_heading kind id soc in
    let middle = joined (map (block_with_count count) parts) in
    let all = to_be_bytes w16 (length (map (block_with_count count) parts)) in
    let size : 24 + blocks_len ≡ 16 + (8 + length middle) = omega (arith, sized) in
    let len : 24 + blocks_len ≡ 16 + length (config_body base rate count parts) =
    size ∙ ap (λ m. 16 + m) (sym (body-length (to_be_bytes w32 base) all middle (to_be_bytes w16 rate) refl refl refl)) in
    let named : to_be_bytes w16 blocks ≡ all = ap (to_be_bytes w16) (number ∙ sym (length-map parts (block_with_count count))) in
    ap ended (ap (λ n. (((start_of h (24 + blocks_len) ++ to_be_bytes w32 base) ++ n) ++ middle) ++ to_be_bytes w16 rate) named
    ∙ grouped (start_of h (24 + blocks_len)) (to_be_bytes w32 base) all middle (to_be_bytes w16 rate)
    ∙ ap (λ n. start_of h n ++ config_body base rate count parts) len) ∙ ended-start h (config_body base rate count parts)

pub length-frame_of : (h : Heading) (body : List ℕ) → length (frame_of h body) ≡ 16 + length body
length-frame_of h body = omega (arith, length-append body (to_be_bytes w16 (chk (front_of h body))))

pub reply-fits : (kind : Kind) (id soc : ℕ) → kind_number kind < 6 → id < 2 ^ 16 → soc < 2 ^ 32 → HeadFits (reply_heading kind id soc)
reply-fits kind id soc kind_fits id_fits soc_fits = record { kind = kind_fits; version = inr refl; id = id_fits; soc = soc_fits; quality = lit< tt; frac = lit< tt }

-- an output header is spelled
pub header-spelled : (id soc : ℕ) (frame text : List ℕ) → id < 2 ^ 16 → soc < 2 ^ 32 → length text ≤ 1024 → All (λ b. b < 128) text → frame ≡ frame_of (reply_heading Header id soc) text → SpellsHeader frame text
header-spelled id soc frame text id_fits soc_fits short ascii whole =
    let len : length frame ≡ 16 + length text = ap length whole ∙ length-frame_of (reply_heading Header id soc) text in
    record {
      head = reply_heading Header id soc;
      fits = reply-fits Header id soc (lit< tt) id_fits soc_fits;
      kind = refl;
      ascii = ascii;
      sized = omega arith;
      whole = whole;
    }
