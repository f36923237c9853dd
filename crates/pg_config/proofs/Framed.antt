-- A configuration frame by its bytes, and by what its head and its body spell.
use Rattle.std.proofs.Common.{◌≡◌, ◌⊎◌, ℕ, ◌+◌, ◌-◌, ◌*◌, ◌/◌, ◌%◌, ◌^◌, ◌<◌, ◌≤◌, List, [], ◌∷◌, ◌++◌, length, take, drop, get_or, map, All, refl, sym, ap, ap₂, ◌∙◌, subst, append_assoc, arith, length-append, inl, inr, Ok, Err, false, ◌==◌, ◌||◌, nat_lt, not, if◌then◌else◌}
use Rattle.std.proofs.lemmas.List.{get_or-append-add}
use Rattle.std.proofs.lemmas.List.Elements.{All-head, All-tail}
use Rattle.std.proofs.Math.Seq.{take-append-add}
use Rattle.std.proofs.lemmas.Bool.Decides.{nat_tests}
use Rattle.std.specs.List.{list_any}
use Rattle.std.specs.Int.{w16, w32, to_be_bytes, cast_signed}
use Rattle.pg_wire.specs.declared.refusal.Refusal.TheVariants.{WrongType, BadLength, BadTimeBase, BadCounts}
use Rattle.pg_wire.specs.declared.kind.Kind.{Kind}
use Rattle.pg_wire.specs.declared.kind.Kind.TheVariants.{CfgOne, CfgTwo}
use Rattle.pg_wire.specs.Check.{chk}
use Rattle.pg_wire.specs.Head.{Heading, HeadFits, two_at, four_at, front_of, frame_of, body_of}
use Rattle.pg_wire.specs.Stream.{joined}
use Rattle.pg_wire.proofs.Spelled.{two_bytes, four_bytes}
use Rattle.pg_config.specs.Parts.{Source, IsBlock, part_with, block_id, is_reserved, repeats}
use Rattle.pg_config.specs.Reading.{count_at, block_at, blocks_at, frame_blocks, config_of, base_at}
use Rattle.pg_config.specs.Spelling.{body_with}
use Rattle.pg_config.proofs.Blocks.{block-read}
use Rattle.pg_config.proofs.Tail.{frame_blocks_are, tail_there}
use Rattle.pg_config.proofs.Wholes.{announces, announced, source_of}
use Rattle.pg_config.proofs.Fields.{InBytes, bytes_behind}

-- ---- from the bytes to the spelling

spelled_at : (h0 h1 h2 h3 h4 h5 h6 h7 h8 h9 ha hb hc hd c0 c1 c2 c3 c4 c5 r0 r1 k0 k1 : ℕ) (more middle : List ℕ) (blocks : List (List ℕ))
    → c0 < 256 → c1 < 256 → c2 < 256 → c3 < 256 → c4 < 256 → c5 < 256 → r0 < 256 → r1 < 256
    → more ≡ middle ++ r0 ∷ r1 ∷ k0 ∷ k1 ∷ [] → middle ≡ joined blocks → length blocks ≡ 256 * c4 + c5
    → let frame = h0 ∷ h1 ∷ h2 ∷ h3 ∷ h4 ∷ h5 ∷ h6 ∷ h7 ∷ h8 ∷ h9 ∷ ha ∷ hb ∷ hc ∷ hd ∷ c0 ∷ c1 ∷ c2 ∷ c3 ∷ c4 ∷ c5 ∷ more in
    body_of frame ≡ body_with (four_at frame 14) blocks (two_at frame (length frame - 4))
spelled_at h0 h1 h2 h3 h4 h5 h6 h7 h8 h9 ha hb hc hd c0 c1 c2 c3 c4 c5 r0 r1 k0 k1 more middle blocks x0 x1 x2 x3 x4 x5 y0 y1 behind is count =
    let frame = h0 ∷ h1 ∷ h2 ∷ h3 ∷ h4 ∷ h5 ∷ h6 ∷ h7 ∷ h8 ∷ h9 ∷ ha ∷ hb ∷ hc ∷ hd ∷ c0 ∷ c1 ∷ c2 ∷ c3 ∷ c4 ∷ c5 ∷ more in
    let front = h0 ∷ h1 ∷ h2 ∷ h3 ∷ h4 ∷ h5 ∷ h6 ∷ h7 ∷ h8 ∷ h9 ∷ ha ∷ hb ∷ hc ∷ hd ∷ c0 ∷ c1 ∷ c2 ∷ c3 ∷ c4 ∷ c5 ∷ [] in
    let counts = c0 ∷ c1 ∷ c2 ∷ c3 ∷ c4 ∷ c5 ∷ [] in
    let end = r0 ∷ r1 ∷ k0 ∷ k1 ∷ [] in
    let len : length more ≡ length middle + 4 = ap length behind ∙ length-append middle end in
    let size : length frame - 16 ≡ length counts + (length middle + 2) = omega arith in
    let body : body_of frame ≡ counts ++ (middle ++ r0 ∷ r1 ∷ []) =
    ap (λ n. take n (counts ++ more)) size ∙ take-append-add counts more (length middle + 2)
    ∙ ap (λ l. counts ++ take (length middle + 2) l) behind ∙ ap (λ l. counts ++ l) (take-append-add middle end 2) in
    let front_len : length (front ++ middle) ≡ 20 + length middle = length-append front middle in
    let whole : frame ≡ (front ++ middle) ++ end = ap (λ l. front ++ l) behind in
    let first : length frame - 4 ≡ length (front ++ middle) + 0 = omega arith in
    let second : length frame - 4 + 1 ≡ length (front ++ middle) + 1 = omega arith in
    let high : get_or frame (length frame - 4) 0 ≡ r0 = ap₂ (λ l n. get_or l n 0) whole first ∙ get_or-append-add (front ++ middle) end 0 0 in
    let low : get_or frame (length frame - 4 + 1) 0 ≡ r1 = ap₂ (λ l n. get_or l n 0) whole second ∙ get_or-append-add (front ++ middle) end 1 0 in
    let rate : two_at frame (length frame - 4) ≡ 256 * r0 + r1 = ap₂ (λ a b. 256 * a + b) high low in
    let time : 16777216 * c0 + (65536 * c1 + (256 * c2 + c3)) ≡ 16777216 * c0 + 65536 * c1 + 256 * c2 + c3 = omega arith in
    let numbers : to_be_bytes w32 (four_at frame 14) ++ to_be_bytes w16 (length blocks) ≡ counts =
    ap₂ (λ a b. a ++ b) (ap (to_be_bytes w32) time ∙ four_bytes c0 c1 c2 c3 x0 x1 x2 x3) (ap (to_be_bytes w16) count ∙ two_bytes c4 c5 x4 x5) in
    body ∙ sym (ap₂ (λ a b. a ++ b) (ap₂ (λ a b. a ++ b) numbers (sym is)) (ap (to_be_bytes w16) rate ∙ two_bytes r0 r1 y0 y1))

-- the body of a frame of these blocks
pub body-spelled : (frame : List ℕ) (blocks : List (List ℕ)) (rest : List ℕ) → InBytes frame → 24 ≤ length frame → drop 20 frame ≡ joined blocks ++ rest → length rest ≡ 4
    → length blocks ≡ two_at frame 18 → body_of frame ≡ body_with (four_at frame 14) blocks (two_at frame (length frame - 4))
body-spelled (h0 ∷ h1 ∷ h2 ∷ h3 ∷ h4 ∷ h5 ∷ h6 ∷ h7 ∷ h8 ∷ h9 ∷ ha ∷ hb ∷ hc ∷ hd ∷ c0 ∷ c1 ∷ c2 ∷ c3 ∷ c4 ∷ c5 ∷ more) blocks rest range long behind four count =
    ended rest four behind
    (bytes_behind (joined blocks) rest (subst InBytes behind (bytes_behind (h0 ∷ h1 ∷ h2 ∷ h3 ∷ h4 ∷ h5 ∷ h6 ∷ h7 ∷ h8 ∷ h9 ∷ ha ∷ hb ∷ hc ∷ hd ∷ c0 ∷ c1 ∷ c2 ∷ c3 ∷ c4 ∷ c5 ∷ []) more range)))
  where
    ended : (rest : List ℕ) → length rest ≡ 4 → more ≡ joined blocks ++ rest → InBytes rest
        → let frame = h0 ∷ h1 ∷ h2 ∷ h3 ∷ h4 ∷ h5 ∷ h6 ∷ h7 ∷ h8 ∷ h9 ∷ ha ∷ hb ∷ hc ∷ hd ∷ c0 ∷ c1 ∷ c2 ∷ c3 ∷ c4 ∷ c5 ∷ more in
        body_of frame ≡ body_with (four_at frame 14) blocks (two_at frame (length frame - 4))
    ended (r0 ∷ r1 ∷ k0 ∷ k1 ∷ []) four behind low =
        spelled_at h0 h1 h2 h3 h4 h5 h6 h7 h8 h9 ha hb hc hd c0 c1 c2 c3 c4 c5 r0 r1 k0 k1 more (joined blocks) blocks
        (range 14) (range 15) (range 16) (range 17) (range 18) (range 19) (low 0) (low 1) behind refl count
    ended rest four behind low = absurd (omega arith)
body-spelled frame blocks rest range long behind four count = absurd (omega arith)

-- ---- from the spelling to what is read

is_counted : (kind len base n : ℕ) → (kind ≡ 2) ⊎ (kind ≡ 3) → 24 ≤ len → 0 < base → 0 < n → n ≤ 16
    → (if not (kind == 2 || kind == 3) then Err WrongType else if nat_lt len 24 then Err BadLength else if base == 0 then Err BadTimeBase else
    if n == 0 || nat_lt 16 n then Err BadCounts else Ok n) ≡ Ok n
is_counted kind len base n is a b c d = elim is [ inl one ↦ grind (arith, nat_tests) | inr two ↦ grind (arith, nat_tests) ]

pub counted : (frame : List ℕ) → (get_or frame 1 0 / 16 ≡ 2) ⊎ (get_or frame 1 0 / 16 ≡ 3) → 24 ≤ length frame → 0 < base_at frame → 0 < two_at frame 18 → two_at frame 18 ≤ 16
    → count_at frame ≡ Ok (two_at frame 18)
unfolding count_at
counted frame kind long base some few = is_counted (get_or frame 1 0 / 16) (length frame) (base_at frame) (two_at frame 18) kind long base some few

-- blocks with four bytes behind them are read
pub blocks-read : (blocks : List (List ℕ)) (more : List ℕ) → All IsBlock blocks → 4 ≤ length more → blocks_at (length blocks) (joined blocks ++ more) ≡ Ok (blocks, more)
unfolding blocks_at
blocks-read [] more is long = refl
blocks-read (b ∷ bs) more is long =
    let behind : 4 ≤ length (joined bs ++ more) = omega (arith, length-append (joined bs) more) in
    let first : block_at ((b ++ joined bs) ++ more) ≡ Ok (b, joined bs ++ more) = ap block_at (append_assoc b (joined bs) more) ∙ block-read b (joined bs ++ more) (All-head IsBlock b bs is) behind in
    let others : blocks_at (length bs) (joined bs ++ more) ≡ Ok (bs, more) = blocks-read bs more (All-tail IsBlock b bs is) long in
    rw (first, others) refl

-- which of the two kinds a number in a frame is
abbrev pub IsConfig : Kind → ℕ → Type 0
IsConfig kind n = ((kind ≡ CfgOne) × (n ≡ 2)) ⊎ ((kind ≡ CfgTwo) × (n ≡ 3))

-- what can be kept of the blocks of a frame
pub record Keeps (source base : ℕ) (blocks : List (List ℕ)) : Type 0 where
  pub some : 0 < length blocks
  pub few : length blocks ≤ 16
  pub positive : 0 < base
  pub each : All IsBlock blocks
  pub once : repeats (map block_id blocks) ≡ false
  pub free : list_any is_reserved (source ∷ map block_id blocks) ≡ false

-- the first twenty bytes of a frame
abbrev first_bytes : Heading → ℕ → ℕ → ℕ → List ℕ
first_bytes h size time_base n =
    0xAA ∷ (16 * h.kind + h.version) ∷ to_be_bytes w16 size ++ to_be_bytes w16 h.id ++ to_be_bytes w32 h.soc ++ to_be_bytes w32 (h.quality * 2 ^ 24 + h.frac)
    ++ to_be_bytes w32 time_base ++ to_be_bytes w16 n

kind-read : (kind : Kind) (n : ℕ) → IsConfig kind n → kind ≡ (if n == 2 then CfgOne else CfgTwo)
kind-read kind n is = elim is [ inl one ↦ one.0 ∙ sym (ap (λ m. if m == 2 then CfgOne else CfgTwo) one.1) | inr two ↦ two.0 ∙ sym (ap (λ m. if m == 2 then CfgOne else CfgTwo) two.1) ]

kind_number-read : (kind : Kind) (n : ℕ) → IsConfig kind n → (n ≡ 2) ⊎ (n ≡ 3)
kind_number-read kind n is = elim is [ inl one ↦ inl one.1 | inr two ↦ inr two.1 ]

pub spelling-read : (h : Heading) (time_base rate : ℕ) (blocks : List (List ℕ)) (kind : Kind) (config : Source) → HeadFits h → IsConfig kind h.kind → time_base < 2 ^ 32 → rate < 2 ^ 16
    → Keeps h.id (time_base % 2 ^ 24) blocks → config ≡ source_of h.id (map (part_with (time_base % 2 ^ 24) (cast_signed w16 rate)) blocks)
    → config_of (frame_of h (body_with time_base blocks rate)) ≡ Ok (announced kind config)
spelling-read h time_base rate blocks kind config fits is_kind base_fits rate_fits keeps is =
    let body = body_with time_base blocks rate in
    let frame = frame_of h body in
    let end = to_be_bytes w16 rate in
    let check = to_be_bytes w16 (chk (front_of h body)) in
    let middle = joined blocks in
    let front = first_bytes h (16 + length body) time_base (length blocks) in
    let whole : frame ≡ (front ++ middle) ++ (end ++ check) = ap (λ l. front ++ l) (append_assoc middle end check) in
    let len : length frame ≡ 24 + length middle = ap length whole ∙ length-append (front ++ middle) (end ++ check) ∙ ap (λ n. n + 4) (length-append front middle) ∙ (let sum : 20 + length middle + 4 ≡ 24 + length middle = omega arith in sum) in
    let few : length blocks ≤ 16 = keeps.few in
    let some : 0 < length blocks = keeps.some in
    let second : (16 * h.kind + h.version) / 16 ≡ h.kind = elim fits.version [ inl one ↦ omega arith | inr two ↦ omega arith ] in
    let kinds : ((16 * h.kind + h.version) / 16 ≡ 2) ⊎ ((16 * h.kind + h.version) / 16 ≡ 3) =
    elim (kind_number-read kind h.kind is_kind) [ inl one ↦ inl (second ∙ one) | inr two ↦ inr (second ∙ two) ] in
    let base : base_at frame ≡ time_base % 2 ^ 24 = omega arith in
    let positive : 0 < base_at frame = subst (λ n. 0 < n) (sym base) keeps.positive in
    let number : two_at frame 18 ≡ length blocks = omega arith in
    let count : count_at frame ≡ Ok (length blocks) = counted frame kinds (omega arith) positive (omega arith) (omega arith) ∙ ap (λ n. Ok n) number in
    let there : blocks_at (length blocks) (drop 20 frame) ≡ Ok (blocks, end ++ check) = ap (blocks_at (length blocks)) (append_assoc middle end check) ∙ blocks-read blocks (end ++ check) keeps.each (omega arith) in
    let id_fits : h.id < 2 ^ 16 = fits.id in
    let id : two_at frame 4 ≡ h.id = omega arith in
    let tail : frame_blocks frame ≡ Ok blocks = frame_blocks_are frame (drop 20 frame) (length blocks) blocks (end ++ check) count refl there
    ∙ tail_there (two_at frame 4) blocks (end ++ check) refl keeps.once (ap (λ n. list_any is_reserved (n ∷ map block_id blocks)) id ∙ keeps.free) in
    let first : length frame - 4 ≡ length (front ++ middle) + 0 = omega (arith, length-append front middle) in
    let next : length frame - 4 + 1 ≡ length (front ++ middle) + 1 = omega (arith, length-append front middle) in
    let high : get_or frame (length frame - 4) 0 ≡ rate / 256 % 256 = ap₂ (λ l n. get_or l n 0) whole first ∙ get_or-append-add (front ++ middle) (end ++ check) 0 0 in
    let low : get_or frame (length frame - 4 + 1) 0 ≡ rate % 256 = ap₂ (λ l n. get_or l n 0) whole next ∙ get_or-append-add (front ++ middle) (end ++ check) 1 0 in
    let rate_is : two_at frame (length frame - 4) ≡ rate = ap₂ (λ a b. 256 * a + b) high low ∙ (let sum : 256 * (rate / 256 % 256) + rate % 256 ≡ rate = omega arith in sum) in
    announces frame blocks kind h.id (map (part_with (time_base % 2 ^ 24) (cast_signed w16 rate)) blocks) config tail
    (kind-read kind h.kind is_kind ∙ ap (λ n. if n == 2 then CfgOne else CfgTwo) (sym second)) (sym id)
    (sym (ap₂ (λ b r. map (part_with b (cast_signed w16 r)) blocks) base rate_is)) is
