-- A source's own configuration, as it is written, is read as the same.
use Rattle.std.proofs.Common.{◌≡◌, ℕ, ℤ, ◌+◌, ◌*◌, ◌%◌, ◌^◌, ◌<◌, ◌≤◌, List, [], ◌∷◌, ◌++◌, length, map, drop, get_or, All, refl, sym, ap, ap₂, ◌∙◌, subst, append_assoc, length-append, arith, inr, lit<}
use Rattle.std.proofs.lemmas.List.{length-map}
use Rattle.std.proofs.lemmas.List.Elements.{All-head, All-tail, All-weaker, All-map}
use Rattle.std.specs.Prelude.{Ok, slice_get, Some}
use Rattle.std.proofs.lemmas.Option.{none-some, same_Some}
use Rattle.std.specs.Int.{w16, w32, to_be_bytes, cast_signed}
use Rattle.pg_wire.specs.declared.kind.Kind.TheVariants.{CfgTwo}
use Rattle.pg_wire.specs.Head.{Heading, IsFrame}
use Rattle.pg_wire.specs.Heads.{start_of, ended}
use Rattle.pg_wire.specs.Stream.{joined}
use Rattle.pg_wire.proofs.Spelled.{ended-start, spells-back}
use Rattle.pg_config.specs.Parts.{Part, Source, IsBlock, IsPart, IsSource, part_with, size_by_counts}
use Rattle.pg_config.specs.Reading.{config_of}
use Rattle.pg_config.specs.Writing.{reply_heading, announced_with, block_with_count}
use Rattle.pg_config.specs.Sourced.{source_body, source_frame, IsOfRate}
use Rattle.pg_config.proofs.Fields.{InBytes, bytes_behind}
use Rattle.pg_config.proofs.Wholes.{source_of}
use Rattle.pg_config.proofs.Written.{both-in_bytes, two-in_bytes, four-in_bytes, joined-in_bytes, joined-short}
use Rattle.pg_config.proofs.Copying.{reply-fits, next-one, length-block_with_count}
use Rattle.pg_config.proofs.Framed.{spelling-read}
use Rattle.pg_config.proofs.Spells.{keeps-of}

parts-again : (base : ℕ) (rate : ℤ) (parts : List Part) → All IsPart parts → All (λ p. (p.base ≡ base) × (p.rate ≡ rate)) parts
    → parts ≡ map (part_with base rate) (map (λ p. p.block) parts)
parts-again base rate [] is same = refl
parts-again base rate (p ∷ ps) is same =
    let P : Part → Type 0 = λ q. (q.base ≡ base) × (q.rate ≡ rate) in
    let first = All-head P p ps same in
    let one = All-head IsPart p ps is in
    ap₂ (λ q qs. q ∷ qs) (sym one.counts ∙ ap₂ (λ b r. part_with b r p.block) first.0 first.1) (parts-again base rate ps (All-tail IsPart p ps is) (All-tail P p ps same))

pub source-read : (base rate : ℕ) (s : Source) → IsSource s → s.source < 2 ^ 16 → IsOfRate base rate s → config_of (source_frame base rate s) ≡ Ok (announced_with CfgTwo s.source s.parts)
source-read base rate s is source_fits of =
    let blocks = map (λ (p : Part). p.block) s.parts in
    let base_fits : base < 2 ^ 24 = of.base_fits in
    let base_is : base ≡ base % 2 ^ 24 = omega arith in
    let each = All-weaker (λ p. IsPart p × (p.base ≡ is.base) × (p.rate ≡ is.rate)) IsPart (λ p known. known.0) s.parts is.each in
    let parts : s.parts ≡ map (part_with (base % 2 ^ 24) (cast_signed w16 rate)) blocks =
    parts-again base (cast_signed w16 rate) s.parts each of.each ∙ ap (λ b. map (part_with b (cast_signed w16 rate)) blocks) base_is in
    let same : s ≡ source_of s.source (map (part_with (base % 2 ^ 24) (cast_signed w16 rate)) blocks) = ap (source_of s.source) parts in
    spelling-read (reply_heading CfgTwo s.source 0) base rate blocks CfgTwo s (reply-fits CfgTwo s.source 0 (lit< tt) source_fits (lit< tt)) (inr (refl, refl)) (omega arith) of.rate_fits
    (keeps-of s.source (base % 2 ^ 24) (cast_signed w16 rate) blocks (subst IsSource same is)) same

-- one more block was pushed
pub pushed-more : {A : Type 0} (f : A → Part) (xs : List A) (i : ℕ) (x : A) (front whole : List ℕ) → i < length xs → x ≡ get_or xs i x
    → front ++ joined (map (λ p. p.block) (drop i (map f xs))) ≡ whole
    → (front ++ (f x).block) ++ joined (map (λ p. p.block) (drop (i + 1) (map f xs))) ≡ whole
pushed-more f xs i x front whole lt is so_far =
    append_assoc front (f x).block (joined (map (λ p. p.block) (drop (i + 1) (map f xs))))
    ∙ sym (ap (λ ps. front ++ joined (map (λ (p : Part). p.block) ps)) (next-one f xs i x lt is)) ∙ so_far

-- all blocks together are as long with another CFGCNT
pub own-length : (count : ℕ) (parts : List Part) → All IsPart parts → length (joined (map (block_with_count count) parts)) ≡ length (joined (map (λ p. p.block) parts))
own-length count [] is = refl
own-length count (p ∷ ps) is =
    let one = All-head IsPart p ps is in
    let size : length p.block ≡ size_by_counts p.block = one.block.size in
    let long : 2 ≤ length p.block = omega (arith, size) in
    length-append (block_with_count count p) (joined (map (block_with_count count) ps))
    ∙ ap₂ (λ a b. a + b) (length-block_with_count count p long) (own-length count ps (All-tail IsPart p ps is))
    ∙ sym (length-append p.block (joined (map (λ (q : Part). q.block) ps)))

-- all are of the first one's resolution and rate
pub of-first : (s : Source) (first : Part) (rest : List Part) → IsSource s → s.parts ≡ first ∷ rest → All (λ p. (p.base ≡ first.base) × (p.rate ≡ first.rate)) s.parts
of-first s first rest is begins =
    let P : Part → Type 0 = λ p. IsPart p × (p.base ≡ is.base) × (p.rate ≡ is.rate) in
    let head = All-head P first rest (subst (All P) begins is.each) in
    All-weaker P (λ p. (p.base ≡ first.base) × (p.rate ≡ first.rate)) (λ p known. (known.1 ∙ sym head.1, known.2 ∙ sym head.2)) s.parts is.each

pub parts-of : (s : Source) → IsSource s → All IsPart s.parts
parts-of s is = All-weaker (λ p. IsPart p × (p.base ≡ is.base) × (p.rate ≡ is.rate)) IsPart (λ p known. known.0) s.parts is.each

grouped : (start base count middle rate : List ℕ) → (((start ++ base) ++ count) ++ middle) ++ rate ≡ start ++ (((base ++ count) ++ middle) ++ rate)
grouped start base count middle rate = simp append_assoc

body-length : (base count middle rate : List ℕ) → length base ≡ 4 → length count ≡ 2 → length rate ≡ 2 → length (((base ++ count) ++ middle) ++ rate) ≡ 8 + length middle
body-length base count middle rate a b c = simp length-append (omega arith)

-- what was started and filled is the frame without its check
pub source-filled : (base rate : ℕ) (s : Source) (size : ℕ) → size ≡ 24 + length (joined (map (λ p. p.block) s.parts))
    → ((((start_of (reply_heading CfgTwo s.source 0) size ++ to_be_bytes w32 base) ++ to_be_bytes w16 (length s.parts)) ++ joined (map (λ p. p.block) s.parts))) ++ to_be_bytes w16 rate
    ≡ start_of (reply_heading CfgTwo s.source 0) (16 + length (source_body base rate s)) ++ source_body base rate s
source-filled base rate s size sized =
    let h = reply_heading CfgTwo s.source 0 in
    let middle = joined (map (λ (p : Part). p.block) s.parts) in
    let number : to_be_bytes w16 (length s.parts) ≡ to_be_bytes w16 (length (map (λ (p : Part). p.block) s.parts)) = ap (to_be_bytes w16) (sym (length-map s.parts (λ (p : Part). p.block))) in
    let all = to_be_bytes w16 (length (map (λ (p : Part). p.block) s.parts)) in
    let len : size ≡ 16 + length (source_body base rate s) =
    sized ∙ (let sum : 24 + length middle ≡ 16 + (8 + length middle) = omega arith in sum) ∙ ap (λ m. 16 + m) (sym (body-length (to_be_bytes w32 base) all middle (to_be_bytes w16 rate) refl refl refl)) in
    ap (λ n. (((start_of h size ++ to_be_bytes w32 base) ++ n) ++ middle) ++ to_be_bytes w16 rate) number
    ∙ grouped (start_of h size) (to_be_bytes w32 base) all middle (to_be_bytes w16 rate)
    ∙ ap (λ n. start_of h n ++ source_body base rate s) len

-- what was started, filled and ended is the frame
pub source-framed : (base rate : ℕ) (s : Source) (bytes : List ℕ) → bytes ≡ start_of (reply_heading CfgTwo s.source 0) (16 + length (source_body base rate s)) ++ source_body base rate s
    → ended bytes ≡ source_frame base rate s
source-framed base rate s bytes is = ap ended is ∙ ended-start (reply_heading CfgTwo s.source 0) (source_body base rate s)

pub begins-with : {A : Type 0} (f : A → Part) (xs : List A) (ps : List Part) (x : A) (p : Part) → slice_get xs 0 ≡ Some x → map f xs ≡ ps → p ≡ f x → (rest : List Part) × (ps ≡ p ∷ rest)
begins-with f [] ps x p at all is = absurd (none-some x at)
begins-with f (y ∷ ys) ps x p at all is = (map f ys, sym all ∙ ap (λ q. q ∷ map f ys) (ap f (same_Some y x at) ∙ sym is))

pub of-rate : (s : Source) (first : Part) (rest : List Part) (rate : ℕ) → IsSource s → s.parts ≡ first ∷ rest → first.rate ≡ cast_signed w16 rate
    → All (λ p. (p.base ≡ first.base) × (p.rate ≡ cast_signed w16 rate)) s.parts
of-rate s first rest rate is begins same = All-weaker (λ p. (p.base ≡ first.base) × (p.rate ≡ first.rate)) (λ p. (p.base ≡ first.base) × (p.rate ≡ cast_signed w16 rate))
    (λ p known. (known.0, known.1 ∙ same)) s.parts (of-first s first rest is begins)

-- ---- what is written is a frame

-- what stands behind the start of a frame
pub body-among : (h : Heading) (size : ℕ) (body : List ℕ) → InBytes (start_of h size ++ body) → InBytes body
body-among h size body range = bytes_behind (start_of h size) body range

pub source_body-in_bytes : (base rate : ℕ) (s : Source) → All (λ p. InBytes p.block) s.parts → InBytes (source_body base rate s)
source_body-in_bytes base rate s range =
    let blocks = map (λ (p : Part). p.block) s.parts in
    both-in_bytes (((to_be_bytes w32 base) ++ to_be_bytes w16 (length blocks)) ++ joined blocks) (to_be_bytes w16 rate)
    (both-in_bytes ((to_be_bytes w32 base) ++ to_be_bytes w16 (length blocks)) (joined blocks)
    (both-in_bytes (to_be_bytes w32 base) (to_be_bytes w16 (length blocks)) (four-in_bytes base) (two-in_bytes (length blocks)))
    (joined-in_bytes blocks (All-map InBytes (λ (p : Part). p.block) s.parts range)))
    (two-in_bytes rate)

pub source-is_frame : (base rate : ℕ) (s : Source) → IsSource s → s.source < 2 ^ 16 → InBytes (source_body base rate s) → IsFrame (source_frame base rate s)
source-is_frame base rate s is source_fits range =
    let blocks = map (λ (p : Part). p.block) s.parts in
    let middle = joined blocks in
    let each : All IsBlock blocks = All-map IsBlock (λ (p : Part). p.block) s.parts (All-weaker IsPart (λ p. IsBlock p.block) (λ p known. known.block) s.parts (parts-of s is)) in
    let short : length middle ≤ 2000 * length blocks = joined-short blocks each in
    let number : length blocks ≡ length s.parts = length-map s.parts (λ (p : Part). p.block) in
    let few : length s.parts ≤ 16 = is.few in
    let len : length (source_body base rate s) ≡ 8 + length middle = body-length (to_be_bytes w32 base) (to_be_bytes w16 (length blocks)) middle (to_be_bytes w16 rate) refl refl refl in
    (spells-back (reply_heading CfgTwo s.source 0) (source_body base rate s) (reply-fits CfgTwo s.source 0 (lit< tt) source_fits (lit< tt)) (omega arith) range).frame
