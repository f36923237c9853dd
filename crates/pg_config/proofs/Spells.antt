-- What is read is spelled so, and what is spelled so is read.
use Rattle.std.proofs.Common.{◌≡◌, ◌⊎◌, ℕ, ℤ, ◌+◌, ◌-◌, ◌*◌, ◌/◌, ◌%◌, ◌^◌, ◌<◌, ◌≤◌, List, [], ◌∷◌, ◌++◌, length, drop, get_or, map, All, refl, sym, ap, ap₂, ◌∙◌, subst, append_assoc, arith, inl, inr, Result, Ok, Err, IfOk, false, ◌==◌, ◌||◌, nat_lt, not, if◌then◌else◌}
use Rattle.std.proofs.lemmas.List.{length-map, get_or-drop}
use Rattle.std.proofs.lemmas.List.Elements.{All-nil, All-cons, All-head, All-tail}
use Rattle.std.proofs.lemmas.Bool.{cond_both, eqb-true, eqb-false, not-false, ltb-false, or_cases, or_from}
use Rattle.std.specs.List.{list_any}
use Rattle.std.specs.Int.{w16, cast_signed}
use Rattle.pg_wire.specs.declared.refusal.Refusal.{Refusal}
use Rattle.pg_wire.specs.declared.refusal.Refusal.TheVariants.{NoMemory, WrongType, BadLength, BadTimeBase, BadCounts, DuplicatePmu, WrongId}
use Rattle.pg_wire.specs.declared.kind.Kind.{Kind}
use Rattle.pg_wire.specs.declared.kind.Kind.TheVariants.{CfgOne, CfgTwo}
use Rattle.pg_wire.specs.Kinds.{kind_number}
use Rattle.pg_wire.specs.Frame.{size_of}
use Rattle.pg_wire.specs.Head.{IsFrame, two_at, four_at, frame_of, head_of}
use Rattle.pg_wire.specs.Stream.{joined}
use Rattle.pg_wire.proofs.Spelled.{frame-spelled}
use Rattle.pg_config.specs.declared.source.Announced.{Announced}
use Rattle.pg_config.specs.Parts.{Part, IsPart, IsSource, IsBlock, part_with, block_id, is_reserved, repeats}
use Rattle.pg_config.specs.Reading.{◌>>=◌, ReadsAs, count_at, blocks_at, tail_at, frame_blocks, config_of, announced_of, base_at, rate_at}
use Rattle.pg_config.specs.Spelling.{SpellsConfig, block_bytes, body_with}
use Rattle.pg_config.proofs.Wholes.{blocks_are, source_of}
use Rattle.pg_config.proofs.Fields.{InBytes, bytes_behind, bytes_before, all_fields, parts-say}
use Rattle.pg_config.proofs.Framed.{body-spelled, spelling-read, Keeps, IsConfig}

-- ---- found

-- what a frame is that tells of that many blocks
record Counts (frame : List ℕ) (count : ℕ) : Type 0 where
  kind : (get_or frame 1 0 / 16 ≡ 2) ⊎ (get_or frame 1 0 / 16 ≡ 3)
  long : 24 ≤ length frame
  positive : 0 < base_at frame
  is : count ≡ two_at frame 18

either : (n : ℕ) → not (n == 2 || n == 3) ≡ false → (n ≡ 2) ⊎ (n ≡ 3)
either n h = elim (or_cases (n == 2) (n == 3) (not-false _ h)) [ inl one ↦ inl (eqb-true n 2 one) | inr two ↦ inr (eqb-true n 3 two) ]

not_zero : (n : ℕ) → (n == 0) ≡ false → 0 < n
not_zero n h = let ne = eqb-false n 0 h in omega arith

counts-found : (frame : List ℕ) → IfOk (count_at frame) (Counts frame)
unfolding count_at
counts-found frame =
    cond_both (not (get_or frame 1 0 / 16 == 2 || get_or frame 1 0 / 16 == 3)) (Err WrongType) _ (λ r. IfOk r (Counts frame)) (λ _. tt)
    (λ kind. cond_both (nat_lt (length frame) 24) (Err BadLength) _ (λ r. IfOk r (Counts frame)) (λ _. tt)
    (λ long. cond_both (base_at frame == 0) (Err BadTimeBase) _ (λ r. IfOk r (Counts frame)) (λ _. tt)
    (λ base. cond_both (two_at frame 18 == 0 || nat_lt 16 (two_at frame 18)) (Err BadCounts) (Ok (two_at frame 18)) (λ r. IfOk r (Counts frame)) (λ _. tt)
    (λ count. record { kind = either _ kind; long = ltb-false _ _ long; positive = not_zero _ base; is = refl }))))

-- what a frame is whose blocks were read
record Known (frame : List ℕ) (blocks : List (List ℕ)) : Type 0 where
  counts : Counts frame (length blocks)
  each : All IsBlock blocks
  rest : List ℕ
  whole : drop 20 frame ≡ joined blocks ++ rest
  four : length rest ≡ 4

tail-found : (frame : List ℕ) (blocks : List (List ℕ)) (rest : List ℕ) → Counts frame (length blocks) → All IsBlock blocks → drop 20 frame ≡ joined blocks ++ rest
    → IfOk (tail_at (two_at frame 4) blocks rest) (Known frame)
unfolding tail_at
tail-found frame blocks rest counts each whole =
    cond_both (not (length rest == 4)) (Err BadLength) _ (λ r. IfOk r (Known frame)) (λ _. tt)
    (λ four. cond_both (repeats (map block_id blocks)) (Err DuplicatePmu) _ (λ r. IfOk r (Known frame)) (λ _. tt)
    (λ once. cond_both (list_any is_reserved (two_at frame 4 ∷ map block_id blocks)) (Err WrongId) (Ok blocks) (λ r. IfOk r (Known frame)) (λ _. tt)
    (λ free. record { counts = counts; each = each; rest = rest; whole = whole; four = eqb-true _ _ (not-false _ four) })))

known-found : (frame : List ℕ) → IfOk (frame_blocks frame) (Known frame)
known-found frame = start (count_at frame) (counts-found frame) where
  next : (n : ℕ) → Counts frame n → (r : Result (List (List ℕ) × List ℕ) Refusal) → blocks_at n (drop 20 frame) ≡ r
      → IfOk (r >>= λ read. tail_at (two_at frame 4) read.0 read.1) (Known frame)
  next n counts (Ok x) is =
      let read = blocks_are n (drop 20 frame) x is in
      tail-found frame x.0 x.1 (subst (Counts frame) (sym read.count) counts) read.each read.whole
  next n counts (Err e) is = tt

  start : (r : Result ℕ Refusal) → IfOk r (Counts frame) → IfOk (r >>= λ n. blocks_at n (drop 20 frame) >>= λ read. tail_at (two_at frame 4) read.0 read.1) (Known frame)
  start (Ok n) counts = next n counts (blocks_at n (drop 20 frame)) refl
  start (Err e) counts = tt

-- each block's bytes are bytes
each-in_bytes : (blocks : List (List ℕ)) (rest : List ℕ) → InBytes (joined blocks ++ rest) → All InBytes blocks
each-in_bytes [] rest range = All-nil InBytes
each-in_bytes (b ∷ bs) rest range =
    let split : InBytes (b ++ (joined bs ++ rest)) = subst InBytes (append_assoc b (joined bs) rest) range in
    All-cons InBytes b bs (bytes_before b (joined bs ++ rest) split) (each-in_bytes bs rest (bytes_behind b (joined bs ++ rest) split))

kind_number-is : (n : ℕ) → (n ≡ 2) ⊎ (n ≡ 3) → n ≡ kind_number (if n == 2 then CfgOne else CfgTwo)
kind_number-is n is = elim is [ inl one ↦ one ∙ sym (ap (λ m. kind_number (if m == 2 then CfgOne else CfgTwo)) one) | inr two ↦ two ∙ sym (ap (λ m. kind_number (if m == 2 then CfgOne else CfgTwo)) two) ]

is_config : (n : ℕ) → ((if n == 2 then CfgOne else CfgTwo) ≡ CfgOne) ⊎ ((if n == 2 then CfgOne else CfgTwo) ≡ CfgTwo)
is_config n = cond_both (n == 2) CfgOne CfgTwo (λ k. (k ≡ CfgOne) ⊎ (k ≡ CfgTwo)) (λ _. inl refl) (λ _. inr refl)

known-spelled : (frame : List ℕ) (blocks : List (List ℕ)) → IsFrame frame → InBytes frame → Known frame blocks → SpellsConfig frame (announced_of frame blocks)
known-spelled frame blocks is_frame range known =
    let spelled = frame-spelled frame is_frame range in
    let long : 24 ≤ length frame = known.counts.long in
    let behind : InBytes (joined blocks ++ known.rest) = subst InBytes known.whole (λ i. subst (λ n. n < 256) (sym (get_or-drop 20 frame i 0)) (range (20 + i))) in
    let fields = all_fields blocks (each-in_bytes blocks known.rest behind) known.each in
    let body = body-spelled frame blocks known.rest range long known.whole known.four known.counts.is in
    let b14 : get_or frame 14 0 < 256 = range 14 in
    let b15 : get_or frame 15 0 < 256 = range 15 in
    let b16 : get_or frame 16 0 < 256 = range 16 in
    let b17 : get_or frame 17 0 < 256 = range 17 in
    let high : get_or frame (length frame - 4) 0 < 256 = range (length frame - 4) in
    let low : get_or frame (length frame - 4 + 1) 0 < 256 = range (length frame - 4 + 1) in
    let s2 : get_or frame 2 0 < 256 = range 2 in
    let s3 : get_or frame 3 0 < 256 = range 3 in
    let base : four_at frame 14 ≡ four_at frame 14 / 2 ^ 24 * 2 ^ 24 + base_at frame = omega arith in
    let size : length frame ≡ size_of frame = is_frame.0.size in
    record {
      head = head_of frame;
      fits = spelled.fits;
      config = is_config (get_or frame 1 0 / 16);
      kind = kind_number-is (get_or frame 1 0 / 16) known.counts.kind;
      source = refl;
      flags = four_at frame 14 / 2 ^ 24;
      flags_fit = omega arith;
      base = base_at frame;
      base_fits = omega arith;
      rate = two_at frame (length frame - 4);
      rate_fits = omega arith;
      pmus = fields.pmus;
      each = fields.each;
      parts = sym (parts-say (base_at frame) (rate_at frame) fields.pmus fields.each ∙ ap (map (part_with (base_at frame) (rate_at frame))) fields.whole);
      sized = omega arith;
      whole = spelled.whole ∙ ap (frame_of (head_of frame)) (body ∙ ap₂ (λ n bs. body_with n bs (two_at frame (length frame - 4))) base (sym fields.whole));
    }

-- what is read is spelled so
pub found-spelled : (frame : List ℕ) → IsFrame frame → InBytes frame → IfOk (config_of frame) (SpellsConfig frame)
found-spelled frame is_frame range = go (frame_blocks frame) (known-found frame) where
  go : (r : Result (List (List ℕ)) Refusal) → IfOk r (Known frame) → IfOk (r >>= λ blocks. Ok (announced_of frame blocks)) (SpellsConfig frame)
  go (Ok blocks) known = known-spelled frame blocks is_frame range known
  go (Err e) known = tt

-- ---- only

-- what is known of each part is known of each block
unmap : {X Y : Type 0} (P : Y → Type 0) (f : X → Y) (xs : List X) → All P (map f xs) → All (λ x. P (f x)) xs
unmap P f [] all = All-nil _
unmap P f (x ∷ xs) all = All-cons (λ y. P (f y)) x xs (All-head P (f x) (map f xs) all) (unmap P f xs (All-tail P (f x) (map f xs) all))

keeps-each : (base : ℕ) (rate : ℤ) (b : ℕ) (r : ℤ) (blocks : List (List ℕ)) → All (λ p. IsPart p × (p.base ≡ b) × (p.rate ≡ r)) (map (part_with base rate) blocks)
    → All IsBlock blocks × (list_any is_reserved (map block_id blocks) ≡ false)
keeps-each base rate b r [] each = (All-nil IsBlock, refl)
keeps-each base rate b r (x ∷ xs) each =
    let P : Part → Type 0 = λ p. IsPart p × (p.base ≡ b) × (p.rate ≡ r) in
    let first = (All-head P (part_with base rate x) (map (part_with base rate) xs) each).0 in
    let others = keeps-each base rate b r xs (All-tail P (part_with base rate x) (map (part_with base rate) xs) each) in
    (All-cons IsBlock x xs first.block others.0, or_from (is_reserved (block_id x)) (list_any is_reserved (map block_id xs)) first.id others.1)

keeps-positive : (base : ℕ) (rate : ℤ) (b : ℕ) (r : ℤ) (blocks : List (List ℕ)) → 0 < length blocks → All (λ p. IsPart p × (p.base ≡ b) × (p.rate ≡ r)) (map (part_with base rate) blocks) → 0 < base
keeps-positive base rate b r [] some each = absurd (omega arith)
keeps-positive base rate b r (x ∷ xs) some each = (All-head (λ p. IsPart p × (p.base ≡ b) × (p.rate ≡ r)) (part_with base rate x) (map (part_with base rate) xs) each).0.some

ids : (base : ℕ) (rate : ℤ) (blocks : List (List ℕ)) → map block_id blocks ≡ map (λ p. block_id p.block) (map (part_with base rate) blocks)
ids base rate [] = refl
ids base rate (b ∷ bs) = ap (λ is. block_id b ∷ is) (ids base rate bs)

-- the blocks of a source's configuration can be kept
pub keeps-of : (source base : ℕ) (rate : ℤ) (blocks : List (List ℕ)) → IsSource (source_of source (map (part_with base rate) blocks)) → Keeps source base blocks
keeps-of source base rate blocks is =
    let len = length-map blocks (part_with base rate) in
    let some : 0 < length blocks = subst (λ n. 0 < n) len is.some in
    let each = keeps-each base rate is.base is.rate blocks is.each in
    record {
      some = some;
      few = subst (λ n. n ≤ 16) len is.few;
      positive = keeps-positive base rate is.base is.rate blocks some is.each;
      each = each.0;
      once = ap repeats (ids base rate blocks) ∙ is.distinct;
      free = or_from (is_reserved source) (list_any is_reserved (map block_id blocks)) is.source each.1;
    }

config-kind : (kind : Kind) (n : ℕ) → (kind ≡ CfgOne) ⊎ (kind ≡ CfgTwo) → n ≡ kind_number kind → IsConfig kind n
config-kind kind n config is = elim config [ inl one ↦ inl (one, is ∙ ap kind_number one) | inr two ↦ inr (two, is ∙ ap kind_number two) ]

-- what is spelled so is read, where it can be kept
pub spelled-read : (frame : List ℕ) (a : Announced) → SpellsConfig frame a → IsSource a.config → config_of frame ≡ Ok a
spelled-read frame a s is =
    let blocks = map block_bytes s.pmus in
    let rate = cast_signed w16 s.rate in
    let flags : s.flags < 2 ^ 8 = s.flags_fit in
    let base : s.base < 2 ^ 24 = s.base_fits in
    let fits : s.flags * 2 ^ 24 + s.base < 2 ^ 32 = omega arith in
    let base_is : s.base ≡ (s.flags * 2 ^ 24 + s.base) % 2 ^ 24 = omega arith in
    let parts : a.config.parts ≡ map (part_with ((s.flags * 2 ^ 24 + s.base) % 2 ^ 24) rate) blocks =
    s.parts ∙ parts-say s.base rate s.pmus s.each ∙ ap (λ b. map (part_with b rate) blocks) base_is in
    let config : a.config ≡ source_of s.head.id (map (part_with ((s.flags * 2 ^ 24 + s.base) % 2 ^ 24) rate) blocks) = ap₂ source_of (sym s.source) parts in
    ap config_of s.whole ∙ spelling-read s.head (s.flags * 2 ^ 24 + s.base) s.rate blocks a.kind a.config s.fits (config-kind a.kind s.head.kind s.config s.kind) fits s.rate_fits
    (keeps-of s.head.id ((s.flags * 2 ^ 24 + s.base) % 2 ^ 24) rate blocks (subst IsSource config is)) config

-- what a call gives, where reading gives a value
pub given : (result : Result Announced Refusal) (frame : List ℕ) (a : Announced) → ReadsAs result (config_of frame) → config_of frame ≡ Ok a → (result ≡ Ok a) ⊎ (result ≡ Err NoMemory)
given result frame a gives read = go result (subst (ReadsAs result) read gives) where
  go : (result : Result Announced Refusal) → ReadsAs result (Ok a) → (result ≡ Ok a) ⊎ (result ≡ Err NoMemory)
  go (Ok b) is = inl (sym is)
  go (Err e) is = elim is [ inl same ↦ absurd (cc) | inr memory ↦ inr (ap (λ x. Err x) memory.0) ]

pub given-found : (result : Result Announced Refusal) (frame : List ℕ) → IsFrame frame → InBytes frame → ReadsAs result (config_of frame) → IfOk result (SpellsConfig frame)
given-found (Ok a) frame is_frame range gives = subst (λ r. IfOk r (SpellsConfig frame)) gives (found-spelled frame is_frame range)
given-found (Err e) frame is_frame range gives = tt
