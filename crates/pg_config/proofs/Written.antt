-- What is written is spelled, and is read back.
use Rattle.std.proofs.Common.{◌≡◌, ◌⊎◌, ℕ, ℤ, pos, zero, suc, ◌+◌, ◌-◌, ◌*◌, ◌/◌, ◌%◌, ◌^◌, ◌<◌, ◌≤◌, List, [], ◌∷◌, ◌++◌, length, take, drop, map, get_or, All, refl, sym, ap, ap₂, ◌∙◌, subst, arith, length-append, length-take-le, inl, inr, lit<, nat_lt, true}
use Rattle.std.proofs.lemmas.List.{take-append-drop, length-map, get_or_append_left, get_or-append_right, get_or-take}
use Rattle.std.proofs.lemmas.List.Elements.{All-nil, All-cons, All-head, All-tail, All-map, All-weaker}
use Rattle.std.proofs.lemmas.Bool.{cases_lt, lt-ltb}
use Rattle.std.specs.Int.{w16, w32, to_be_bytes, cast_signed}
use Rattle.pg_wire.specs.declared.kind.Kind.{Kind}
use Rattle.pg_wire.specs.declared.kind.Kind.TheVariants.{CfgOne, CfgTwo}
use Rattle.pg_wire.specs.Kinds.{kind_number}
use Rattle.pg_wire.specs.Head.{two_at, frame_of}
use Rattle.pg_wire.specs.Stream.{joined}
use Rattle.pg_wire.proofs.Spelled.{spells-back}
use Rattle.pg_config.specs.Parts.{Part, IsPart, IsSource, IsBlock, part_with, block_id, size_by_counts, is_reserved, repeats}
use Rattle.pg_config.specs.Spelling.{SpellsConfig, body_with}
use Rattle.pg_config.specs.Writing.{CanWrite, IsReadable, ReadsAsWritten, ReadsBack, reply_heading, block_with_count, config_body, config_frame, written_part, part_with_count, announced_with}
use Rattle.pg_config.proofs.Wholes.{source_of}
use Rattle.pg_config.proofs.Fields.{InBytes, bytes_before, all_fields, parts-say, part}
use Rattle.pg_config.proofs.Copying.{length-block_with_count, length-frame_of, reply-fits}
use Rattle.pg_config.proofs.Spells.{spelled-read}

-- ---- bytes

pub both-in_bytes : (front rest : List ℕ) → InBytes front → InBytes rest → InBytes (front ++ rest)
both-in_bytes front rest low range i = elim (cases_lt i (length front)) [
  | inl there ↦ subst (λ n. n < 256) (sym (get_or_append_left front rest 0 i there)) (low i)
  | inr past ↦ subst (λ n. n < 256) (sym (get_or-append_right front rest (length front) i 0 refl past)) (range (i - length front))
]

last_byte : (n : ℕ) → n % 256 < 256
last_byte n = omega arith

pub two-in_bytes : (n : ℕ) → InBytes (to_be_bytes w16 n)
two-in_bytes n zero = last_byte (n / 256)
two-in_bytes n (suc zero) = last_byte n
two-in_bytes n (suc (suc i)) = lit< tt

pub four-in_bytes : (n : ℕ) → InBytes (to_be_bytes w32 n)
four-in_bytes n zero = last_byte (n / 16777216)
four-in_bytes n (suc zero) = last_byte (n / 65536)
four-in_bytes n (suc (suc zero)) = last_byte (n / 256)
four-in_bytes n (suc (suc (suc zero))) = last_byte n
four-in_bytes n (suc (suc (suc (suc i)))) = lit< tt

pub joined-in_bytes : (blocks : List (List ℕ)) → All InBytes blocks → InBytes (joined blocks)
joined-in_bytes [] range = λ i. lit< tt
joined-in_bytes (b ∷ bs) range = both-in_bytes b (joined bs) (All-head InBytes b bs range) (joined-in_bytes bs (All-tail InBytes b bs range))

-- blocks that a reader takes are not long
pub joined-short : (blocks : List (List ℕ)) → All IsBlock blocks → length (joined blocks) ≤ 2000 * length blocks
joined-short [] is = omega arith
joined-short (b ∷ bs) is =
    let first : length b ≤ 2000 = (All-head IsBlock b bs is).bounded in
    let others : length (joined bs) ≤ 2000 * length bs = joined-short bs (All-tail IsBlock b bs is) in
    omega (arith, length-append b (joined bs))

-- ---- a block with another CFGCNT

long : (p : Part) → IsPart p → 30 ≤ length p.block
long p is = let size : length p.block ≡ size_by_counts p.block = is.block.size in omega arith

kept_two : (count : ℕ) (p : Part) (i : ℕ) → i + 3 < length p.block → two_at (block_with_count count p) i ≡ two_at p.block i
kept_two count p i lt =
    let n = length p.block - 2 in
    let len : length (take n p.block) ≡ n = length-take-le n p.block (omega arith) in
    let one : (j : ℕ) → j < n → get_or (block_with_count count p) j 0 ≡ get_or p.block j 0 =
    (λ j jn. get_or_append_left (take n p.block) (to_be_bytes w16 count) 0 j (omega arith) ∙ get_or-take n p.block j 0 jn) in
    ap₂ (λ a b. 256 * a + b) (one i (omega arith)) (one (i + 1) (omega arith))

-- what a new CFGCNT leaves as it is
record Same (count : ℕ) (p : Part) : Type 0 where
  id : block_id (block_with_count count p) ≡ block_id p.block
  phasors : two_at (block_with_count count p) 20 ≡ p.phasors
  analogs : two_at (block_with_count count p) 22 ≡ p.analogs
  digitals : two_at (block_with_count count p) 24 ≡ p.digitals
  block : IsBlock (block_with_count count p)

same : (count : ℕ) (p : Part) → IsPart p → Same count p
same count p is =
    let thirty : 30 ≤ length p.block = long p is in
    let a : two_at (block_with_count count p) 20 ≡ two_at p.block 20 = kept_two count p 20 (omega arith) in
    let b : two_at (block_with_count count p) 22 ≡ two_at p.block 22 = kept_two count p 22 (omega arith) in
    let c : two_at (block_with_count count p) 24 ≡ two_at p.block 24 = kept_two count p 24 (omega arith) in
    let len : length (block_with_count count p) ≡ length p.block = length-block_with_count count p (omega arith) in
    let size : size_by_counts p.block ≡ size_by_counts (block_with_count count p) =
    sym (ap₂ (λ x y. x + y) (ap₂ (λ x y. 30 + 20 * x + 20 * y) a b) (ap (λ x. 260 * x) c)) in
    record {
      id = kept_two count p 16 (omega arith);
      phasors = a ∙ ap (λ q. q.phasors) is.counts;
      analogs = b ∙ ap (λ q. q.analogs) is.counts;
      digitals = c ∙ ap (λ q. q.digitals) is.counts;
      block = record {
        size = len ∙ is.block.size ∙ size;
        bounded = subst (λ n. n ≤ 2000) (sym len) is.block.bounded;
        fixed = ap (λ x. x / 2 % 8) (kept_two count p 18 (omega arith)) ∙ is.block.fixed;
      };
    }

counted-part : (base : ℕ) (rate : ℤ) (count : ℕ) (p : Part) → Same count p → part_with base rate (block_with_count count p) ≡ part base rate p.phasors p.analogs p.digitals (block_with_count count p)
counted-part base rate count p s =
    ap₂ (λ f x. f x (block_with_count count p)) (ap₂ (λ f x. f x) (ap (part base rate) s.phasors) s.analogs) s.digitals

all_blocks : (count : ℕ) (parts : List Part) → All IsPart parts → All IsBlock (map (block_with_count count) parts)
all_blocks count [] is = All-nil IsBlock
all_blocks count (p ∷ ps) is =
    All-cons IsBlock (block_with_count count p) (map (block_with_count count) ps) (same count p (All-head IsPart p ps is)).block (all_blocks count ps (All-tail IsPart p ps is))

-- the PMU's bytes are bytes
abbrev PartInBytes : Part → Type 0
PartInBytes p = InBytes p.block

counted-in_bytes : (count : ℕ) (p : Part) → InBytes p.block → InBytes (block_with_count count p)
counted-in_bytes count p range =
    both-in_bytes (take (length p.block - 2) p.block) (to_be_bytes w16 count)
    (bytes_before (take (length p.block - 2) p.block) (drop (length p.block - 2) p.block) (subst InBytes (sym (take-append-drop (length p.block - 2) p.block)) range))
    (two-in_bytes count)

all_bytes : (count : ℕ) (parts : List Part) → All PartInBytes parts → All InBytes (map (block_with_count count) parts)
all_bytes count [] range = All-nil InBytes
all_bytes count (p ∷ ps) range =
    All-cons InBytes (block_with_count count p) (map (block_with_count count) ps) (counted-in_bytes count p (All-head PartInBytes p ps range)) (all_bytes count ps (All-tail PartInBytes p ps range))

all_written : (base rate count : ℕ) (parts : List Part) → All IsPart parts → map (part_with base (pos rate)) (map (block_with_count count) parts) ≡ map (written_part base rate count) parts
all_written base rate count [] is = refl
all_written base rate count (p ∷ ps) is =
    ap₂ (λ q qs. q ∷ qs) (counted-part base (pos rate) count p (same count p (All-head IsPart p ps is))) (all_written base rate count ps (All-tail IsPart p ps is))

-- ---- spelled

-- a rate that fits is not negative
rate-positive : (rate : ℕ) → rate < 2 ^ 15 → cast_signed w16 rate ≡ pos rate
rate-positive rate lt = let t : nat_lt rate (2 ^ 15) ≡ true = lt-ltb rate (2 ^ 15) lt in rw t refl

kind-fits : (kind : Kind) → (kind ≡ CfgOne) ⊎ (kind ≡ CfgTwo) → kind_number kind < 6
kind-fits kind is = elim is [ inl one ↦ subst (λ k. kind_number k < 6) (sym one) (lit< tt) | inr two ↦ subst (λ k. kind_number k < 6) (sym two) (lit< tt) ]

body-length : (base count middle rate : List ℕ) → length base ≡ 4 → length count ≡ 2 → length rate ≡ 2 → length (((base ++ count) ++ middle) ++ rate) ≡ 8 + length middle
body-length base count middle rate a b c = simp length-append (omega arith)

body-short : (kind : Kind) (id soc base rate count : ℕ) (parts : List Part) → CanWrite kind id soc base rate count parts → length (config_body base rate count parts) ≤ 64008
body-short kind id soc base rate count parts can =
    let middle = joined (map (block_with_count count) parts) in
    let short : length middle ≤ 2000 * length (map (block_with_count count) parts) = joined-short _ (all_blocks count parts can.each) in
    let few : length parts ≤ 32 = can.few in
    let len : length (map (block_with_count count) parts) ≡ length parts = length-map parts (block_with_count count) in
    let whole : length (config_body base rate count parts) ≡ 8 + length middle =
    body-length (to_be_bytes w32 base) (to_be_bytes w16 (length (map (block_with_count count) parts))) middle (to_be_bytes w16 rate) refl refl refl in
    omega arith

pub written-spelled : (kind : Kind) (id soc base rate count : ℕ) (parts : List Part) → CanWrite kind id soc base rate count parts
    → SpellsConfig (config_frame kind id soc base rate count parts) (announced_with kind id (map (written_part base rate count) parts))
written-spelled kind id soc base rate count parts can =
    let fields = all_fields (map (block_with_count count) parts) (all_bytes count parts can.bytes) (all_blocks count parts can.each) in
    let rate_fits : rate < 2 ^ 15 = can.rate_fits in
    let short : length (config_body base rate count parts) ≤ 64008 = body-short kind id soc base rate count parts can in
    let len : length (config_frame kind id soc base rate count parts) ≡ 16 + length (config_body base rate count parts) = length-frame_of (reply_heading kind id soc) (config_body base rate count parts) in
    record {
      head = reply_heading kind id soc;
      fits = reply-fits kind id soc (kind-fits kind can.config) can.id_fits can.soc_fits;
      config = can.config;
      kind = refl;
      source = refl;
      flags = 0;
      flags_fit = lit< tt;
      base = base;
      base_fits = can.base_fits;
      rate = rate;
      rate_fits = omega arith;
      pmus = fields.pmus;
      each = fields.each;
      parts = sym (parts-say base (cast_signed w16 rate) fields.pmus fields.each ∙ ap₂ (λ r bs. map (part_with base r) bs) (rate-positive rate rate_fits) fields.whole ∙ all_written base rate count parts can.each);
      sized = subst (λ n. n < 2 ^ 16) (sym len) (omega arith);
      whole = ap₂ (λ n bs. frame_of (reply_heading kind id soc) (body_with n bs rate)) (let no_flags : base ≡ 0 * 2 ^ 24 + base = omega arith in no_flags) (sym fields.whole);
    }

-- ---- read back

body-in_bytes : (base rate count : ℕ) (parts : List Part) → All PartInBytes parts → InBytes (config_body base rate count parts)
body-in_bytes base rate count parts range =
    let blocks = map (block_with_count count) parts in
    both-in_bytes (to_be_bytes w32 base ++ to_be_bytes w16 (length blocks) ++ joined blocks) (to_be_bytes w16 rate)
    (both-in_bytes (to_be_bytes w32 base ++ to_be_bytes w16 (length blocks)) (joined blocks)
    (both-in_bytes (to_be_bytes w32 base) (to_be_bytes w16 (length blocks)) (four-in_bytes base) (two-in_bytes (length blocks)))
    (joined-in_bytes blocks (all_bytes count parts range)))
    (two-in_bytes rate)

counted-ids : (count : ℕ) (parts : List Part) → All IsPart parts → map (λ p. block_id p.block) (map (part_with_count count) parts) ≡ map (λ p. block_id p.block) parts
counted-ids count [] is = refl
counted-ids count (p ∷ ps) is = ap₂ (λ n ns. n ∷ ns) (same count p (All-head IsPart p ps is)).id (counted-ids count ps (All-tail IsPart p ps is))

counted-is_part : (count : ℕ) (p : Part) → IsPart p → IsPart (part_with_count count p)
counted-is_part count p is =
    let s = same count p is in
    record { some = is.some; base = is.base; counts = counted-part p.base p.rate count p s; block = s.block; id = ap is_reserved s.id ∙ is.id }

counted-source : (id count : ℕ) (parts : List Part) → All IsPart parts → IsSource (source_of id parts) → IsSource (source_of id (map (part_with_count count) parts))
counted-source id count parts each is =
    let len : length (map (part_with_count count) parts) ≡ length parts = length-map parts (part_with_count count) in
    record {
      some = subst (λ n. 0 < n) (sym len) is.some;
      few = subst (λ n. n ≤ 16) (sym len) is.few;
      source = is.source;
      distinct = ap repeats (counted-ids count parts each) ∙ is.distinct;
      base = is.base;
      rate = is.rate;
      each = All-map (λ p. IsPart p × (p.base ≡ is.base) × (p.rate ≡ is.rate)) (part_with_count count) parts
          (All-weaker (λ p. IsPart p × (p.base ≡ is.base) × (p.rate ≡ is.rate)) (λ p. IsPart (part_with_count count p) × (p.base ≡ is.base) × (p.rate ≡ is.rate))
          (λ p known. (counted-is_part count p known.0, known.1, known.2)) parts is.each);
    }

-- at the PMUs' own resolution and rate
written-same : (base rate count : ℕ) (parts : List Part) → All (λ p. (p.base ≡ base) × (p.rate ≡ pos rate)) parts → map (written_part base rate count) parts ≡ map (part_with_count count) parts
written-same base rate count [] is = refl
written-same base rate count (p ∷ ps) is =
    let P : Part → Type 0 = λ q. (q.base ≡ base) × (q.rate ≡ pos rate) in
    let first = All-head P p ps is in
    ap₂ (λ q qs. q ∷ qs) (sym (ap₂ (λ b r. part b r p.phasors p.analogs p.digitals (block_with_count count p)) first.0 first.1)) (written-same base rate count ps (All-tail P p ps is))

pub written-read : (kind : Kind) (id soc base rate count : ℕ) (parts : List Part) → CanWrite kind id soc base rate count parts
    → IsSource (source_of id parts) → All (λ p. (p.base ≡ base) × (p.rate ≡ pos rate)) parts → ReadsBack kind id soc base rate count parts
written-read kind id soc base rate count parts can is same_all =
    let short : length (config_body base rate count parts) ≤ 64008 = body-short kind id soc base rate count parts can in
    let spelled = subst (λ ps. SpellsConfig (config_frame kind id soc base rate count parts) (announced_with kind id ps)) (written-same base rate count parts same_all)
    (written-spelled kind id soc base rate count parts can) in
    record {
      frame = (spells-back (reply_heading kind id soc) (config_body base rate count parts) (reply-fits kind id soc (kind-fits kind can.config) can.id_fits can.soc_fits) (omega arith)
          (body-in_bytes base rate count parts can.bytes)).frame;
      read = spelled-read (config_frame kind id soc base rate count parts) (announced_with kind id (map (part_with_count count) parts)) spelled (counted-source id count parts can.each is);
    }

-- ---- read at the stream's resolution and rate

written-ids : (base rate count : ℕ) (parts : List Part) → All IsPart parts → map (λ p. block_id p.block) (map (written_part base rate count) parts) ≡ map (λ p. block_id p.block) parts
written-ids base rate count [] is = refl
written-ids base rate count (p ∷ ps) is = ap₂ (λ n ns. n ∷ ns) (same count p (All-head IsPart p ps is)).id (written-ids base rate count ps (All-tail IsPart p ps is))

written-is_part : (base rate count : ℕ) (p : Part) → 0 < base → base < 2 ^ 24 → IsPart p → IsPart (written_part base rate count p)
written-is_part base rate count p some low is =
    let s = same count p is in
    record { some = some; base = low; counts = counted-part base (pos rate) count p s; block = s.block; id = ap is_reserved s.id ∙ is.id }

pub written-source : (id base rate count : ℕ) (parts : List Part) → 0 < base → base < 2 ^ 24 → All IsPart parts → IsReadable id parts
    → IsSource (source_of id (map (written_part base rate count) parts))
written-source id base rate count parts some low each is =
    let len : length (map (written_part base rate count) parts) ≡ length parts = length-map parts (written_part base rate count) in
    record {
      some = subst (λ n. 0 < n) (sym len) is.some;
      few = subst (λ n. n ≤ 16) (sym len) is.few;
      source = is.source;
      distinct = ap repeats (written-ids base rate count parts each) ∙ is.distinct;
      base = base;
      rate = pos rate;
      each = All-map (λ p. IsPart p × (p.base ≡ base) × (p.rate ≡ pos rate)) (written_part base rate count) parts
          (All-weaker IsPart (λ p. IsPart (written_part base rate count p) × (base ≡ base) × (pos rate ≡ pos rate))
          (λ p known. (written-is_part base rate count p some low known, refl, refl)) parts each);
    }

pub written-read-as : (kind : Kind) (id soc base rate count : ℕ) (parts : List Part) → CanWrite kind id soc base rate count parts → 0 < base
    → IsReadable id parts → ReadsAsWritten kind id soc base rate count parts
written-read-as kind id soc base rate count parts can some is =
    let short : length (config_body base rate count parts) ≤ 64008 = body-short kind id soc base rate count parts can in
    record {
      frame = (spells-back (reply_heading kind id soc) (config_body base rate count parts) (reply-fits kind id soc (kind-fits kind can.config) can.id_fits can.soc_fits) (omega arith)
          (body-in_bytes base rate count parts can.bytes)).frame;
      read = spelled-read (config_frame kind id soc base rate count parts) (announced_with kind id (map (written_part base rate count) parts))
          (written-spelled kind id soc base rate count parts can) (written-source id base rate count parts some can.base_fits can.each is);
    }
