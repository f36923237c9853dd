-- All blocks that were read are blocks, as many as were told, and together a source's configuration.
use Rattle.std.proofs.Common.{◌≡◌, ℕ, ℤ, zero, suc, ◌<◌, ◌≤◌, ◌^◌, false, map, ◌∙◌, ◌++◌, append_assoc, sym, ap₂, List, [], ◌∷◌, length, Result, Ok, Err, refl, ap, arith, IfOk, All, subst}
use Rattle.std.proofs.lemmas.List.{length-map}
use Rattle.std.proofs.lemmas.List.Elements.{All-cons, All-nil, All-head, All-tail, All-map, All-weaker}
use Rattle.pg_wire.specs.declared.refusal.Refusal.{Refusal}
use Rattle.std.proofs.lemmas.Bool.{or_parts}
use Rattle.std.specs.List.{list_any}
use Rattle.pg_config.specs.Parts.{IsBlock, IsPart, IsSource, Part, Source, part_with, block_id, is_reserved, repeats}
use Rattle.pg_wire.specs.declared.kind.Kind.{Kind}
use Rattle.pg_wire.specs.Stream.{joined}
use Rattle.pg_wire.specs.Head.{two_at}
use Rattle.pg_config.specs.declared.source.Announced.{Announced}
use Rattle.pg_config.specs.Reading.{◌>>=◌, block_at, blocks_at, base_at, rate_at, kind_at, frame_blocks, announced_of, config_of}
use Rattle.pg_config.proofs.Blocks.{Found, block-found}

-- that many blocks were read, and this was left
pub record Read (n : ℕ) (bytes : List ℕ) (x : List (List ℕ) × List ℕ) : Type 0 where
  pub each : All IsBlock x.0
  pub count : length x.0 ≡ n
  pub whole : bytes ≡ joined x.0 ++ x.1

blocks-found : (n : ℕ) (bytes : List ℕ) → IfOk (blocks_at n bytes) (Read n bytes)
unfolding blocks_at
blocks-found zero bytes = record { each = All-nil IsBlock; count = refl; whole = refl }
blocks-found (suc n) bytes = step (λ after. blocks-found n after) (block_at bytes) (block-found bytes) where
  next : (b after : List ℕ) → IsBlock b → bytes ≡ b ++ after → (r : Result (List (List ℕ) × List ℕ) Refusal) → IfOk r (Read n after)
      → IfOk (r >>= λ others. Ok (b ∷ others.0, others.1)) (Read (suc n) bytes)
  next b after is whole (Ok y) read = record {
    each = All-cons IsBlock b y.0 is read.each;
    count = ap suc read.count;
    whole = whole ∙ ap (λ l. b ++ l) read.whole ∙ sym (append_assoc b (joined y.0) y.1);
  }
  next b after is whole (Err e) read = tt

  step : ((after : List ℕ) → IfOk (blocks_at n after) (Read n after)) → (r : Result (List ℕ × List ℕ) Refusal) → IfOk r (Found bytes)
      → IfOk (r >>= λ first. blocks_at n first.1 >>= λ others. Ok (first.0 ∷ others.0, others.1)) (Read (suc n) bytes)
  step others (Ok x) found = next x.0 x.1 found.block found.whole (blocks_at n x.1) (others x.1)
  step others (Err e) found = tt

-- each block that was read is one, and there are as many as were told
pub blocks_are : (n : ℕ) (bytes : List ℕ) (x : List (List ℕ) × List ℕ) → blocks_at n bytes ≡ Ok x → Read n bytes x
blocks_are n bytes x h = subst (λ r. IfOk r (Read n bytes)) h (blocks-found n bytes)

-- a block of a frame with a resolution can be kept
kept_one : (base : ℕ) (rate : ℤ) (block : List ℕ) → 0 < base → base < 2 ^ 24 → IsBlock block → is_reserved (block_id block) ≡ false → IsPart (part_with base rate block)
kept_one base rate block some low is id = record { some = some; base = low; counts = refl; block = is; id = id }

-- so can all of them
pub kept_all : (base : ℕ) (rate : ℤ) (blocks : List (List ℕ)) → 0 < base → base < 2 ^ 24 → All IsBlock blocks → list_any is_reserved (map block_id blocks) ≡ false
    → All (λ block. IsPart (part_with base rate block)) blocks
kept_all base rate [] some low is free = All-nil _
kept_all base rate (b ∷ bs) some low is free =
    All-cons (λ block. IsPart (part_with base rate block)) b bs
    (kept_one base rate b some low (All-head IsBlock b bs is) (or_parts (is_reserved (block_id b)) (list_any is_reserved (map block_id bs)) free).0)
    (kept_all base rate bs some low (All-tail IsBlock b bs is) (or_parts (is_reserved (block_id b)) (list_any is_reserved (map block_id bs)) free).1)

ids_are : (base : ℕ) (rate : ℤ) (blocks : List (List ℕ)) → map (λ p. block_id p.block) (map (part_with base rate) blocks) ≡ map block_id blocks
ids_are base rate [] = refl
ids_are base rate (b ∷ bs) = ap (λ ids. block_id b ∷ ids) (ids_are base rate bs)

-- the configuration of a source with these blocks
pub source_with : (source base : ℕ) (rate : ℤ) (blocks : List (List ℕ)) → 0 < length blocks → length blocks ≤ 16 → 0 < base → base < 2 ^ 24
    → All IsBlock blocks → repeats (map block_id blocks) ≡ false → list_any is_reserved (source ∷ map block_id blocks) ≡ false
    → IsSource (record { source = source; parts = map (part_with base rate) blocks })
source_with source base rate blocks some few positive low is once free =
    let parts = or_parts (is_reserved source) (list_any is_reserved (map block_id blocks)) free in
    record {
      some = omega (arith, length-map blocks (part_with base rate));
      few = omega (arith, length-map blocks (part_with base rate));
      source = parts.0;
      distinct = ap repeats (ids_are base rate blocks) ∙ once;
      base = base;
      rate = rate;
      each = All-map (λ p. IsPart p × (p.base ≡ base) × (p.rate ≡ rate)) (part_with base rate) blocks
          (All-weaker (λ block. IsPart (part_with base rate block)) (λ block. IsPart (part_with base rate block) × (base ≡ base) × (rate ≡ rate)) (λ block is. (is, refl, refl)) blocks
          (kept_all base rate blocks positive low is parts.1));
    }

abbrev pub announced : Kind → Source → Announced
announced kind config = record { kind = kind; config = config }

abbrev pub source_of : ℕ → List Part → Source
source_of source parts = record { source = source; parts = parts }

-- what a frame of known blocks announces
pub announces : (frame : List ℕ) (blocks : List (List ℕ)) (kind : Kind) (source : ℕ) (parts : List Part) (config : Source) → frame_blocks frame ≡ Ok blocks
    → kind ≡ kind_at frame → source ≡ two_at frame 4 → parts ≡ map (part_with (base_at frame) (rate_at frame)) blocks → config ≡ source_of source parts
    → config_of frame ≡ Ok (announced kind config)
announces frame blocks kind source parts config read same_kind same_source same_parts same_config =
    ap (λ r. r >>= λ bs. Ok (announced_of frame bs)) read
    ∙ sym (ap₂ (λ k c. Ok (announced k c)) same_kind (same_config ∙ ap₂ source_of same_source same_parts))
