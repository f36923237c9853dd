-- A stream's frames are read as what they tell.
use Rattle.std.proofs.Common.{◌≡◌, ◌⊎◌, ℕ, suc, Bool, true, false, cond, option_map, take, ◌+◌, ◌*◌, ◌/◌, ◌%◌, ◌<◌, ◌≤◌, ◌^◌, List, [], ◌∷◌, Option, Some, None, length, map, All, refl, sym, ap, ap₂, ◌∙◌, subst, inl, inr, lit<, arith}
use Rattle.std.proofs.lemmas.List.Elements.{All-nil, All-cons, All-head, All-tail, All-weaker}
use Rattle.std.specs.List.{AllByRecursion, cons_option, slice_range}
use Rattle.std.specs.Map.{values_of}
use Rattle.pg_wire.specs.declared.ids.PmuKey.{PmuKey}
use Rattle.pg_wire.specs.Keys.{key_eq}
use Rattle.pg_wire.specs.declared.kind.Kind.{Kind}
use Rattle.pg_wire.specs.declared.kind.Kind.TheVariants.{CfgOne, CfgTwo}
use Rattle.pg_wire.specs.Stream.{joined}
use Rattle.pg_config.specs.Parts.{Part, IsPart, data_len, data_lens}
use Rattle.pg_config.specs.Writing.{IsReadable, config_frame}
use Rattle.pg_config.proofs.Fields.{InBytes}
use Rattle.pg_config.proofs.Written.{written-read-as, written-source, joined-in_bytes}
use Rattle.pg_data.specs.Measurements.{resolution_of}
use Rattle.pg_data.specs.Pieces.{Piece}
use Rattle.pg_data.proofs.Fillers.{filler-length, filler-bytes}
use Rattle.pg_data.proofs.Blocks.{block_at, joined-length}
use Rattle.pg_data.proofs.Spellings.{reads-back}
use Rattle.pg_stream.specs.declared.definition.Definition.{Definition}
use Rattle.pg_stream.specs.Slots.{numerator_at}
use Rattle.pg_stream.proofs.Nearest.{numerator_below, stamp_at_is}
use Rattle.pg_outcfg.specs.Listing.{Listing, config_at}
use Rattle.pg_outcfg.specs.Quality.{joined_quality}
use Rattle.pg_outcfg.specs.Frames.{effective_of, block_or_filler, data_blocks, qualities_of, data_frame_of, cfg1_frame, cfg2_frame}
use Rattle.pg_outcfg.proofs.Joined.{joined-below}
use Rattle.pg_outcfg.specs.Reading.{IsTold, CanTell, told_parts, TellsConfig, told_measurement, TellsData, IsBlockFor, AreBlocks}

-- ---- configurations

-- each configuration of the list
all-listed : (listed : Listing) → AllByRecursion (λ e. IsTold e.1) listed → All IsTold (values_of listed)
all-listed [] each = All-nil IsTold
all-listed (e ∷ es) each = All-cons IsTold e.1 (values_of es) each.0 (all-listed es each.1)

-- the one of a key
found : (listed : Listing) (key : PmuKey) → AllByRecursion (λ e. IsTold e.1) listed → (part : Part) → config_at listed key ≡ Some part → IsTold part
found [] key each part is = absurd (cc)
found (e ∷ es) key each part is = by (found es key each.1 part) (key_eq key e.0) is
  where
    by : (config_at es key ≡ Some part → IsTold part) → (same : Bool) → cond same (Some e.1) (config_at es key) ≡ Some part → IsTold part
    by rest true s = subst IsTold (let one : e.1 ≡ part = cc in one) each.0
    by rest false s = rest s

all-effective : (listed : Listing) (members : List PmuKey) → AllByRecursion (λ e. IsTold e.1) listed → All IsTold (effective_of listed members)
all-effective listed [] each = All-nil IsTold
all-effective listed (key ∷ keys) each = by (config_at listed key) (λ part is. found listed key each part is) (all-effective listed keys each)
  where
    by : (o : Option Part) → ((part : Part) → o ≡ Some part → IsTold part) → All IsTold (effective_of listed keys) → All IsTold (cons_option o (effective_of listed keys))
    by None told rest = rest
    by (Some part) told rest = All-cons IsTold part (effective_of listed keys) (told part refl) rest

tells : (kind : Kind) (d : Definition) (count soc : ℕ) (listed : Listing) (parts : List Part) → (kind ≡ CfgOne) ⊎ (kind ≡ CfgTwo) → CanTell d listed → count < 2 ^ 16 → soc < 2 ^ 32
    → All IsTold parts → IsReadable d.stream parts → TellsConfig (config_frame kind d.stream soc d.base d.rate count parts) kind d count parts
tells kind d count soc listed parts config can count_fits soc_fits each readable =
    let numbers = can.limits.numbers in
    let rate : d.rate < 2 ^ 15 = omega (arith, numbers.rate) in
    let some : 0 < d.base = omega (arith, numbers.rate, numbers.base) in
    let back = written-read-as kind d.stream soc d.base d.rate count parts (record {
      config = config;
      id_fits = can.stream;
      soc_fits = soc_fits;
      base_fits = numbers.base.1;
      rate_fits = rate;
      count_fits = count_fits;
      few = omega (arith, readable.few);
      each = All-weaker IsTold IsPart (λ p told. told.part) parts each;
      bytes = All-weaker IsTold (λ p. InBytes p.block) (λ p told. told.bytes) parts each;
    }) some readable in
    record { whole = back.frame; read = back.read }

pub cfg1-read : (d : Definition) (count soc : ℕ) (listed : Listing) → CanTell d listed → count < 2 ^ 16 → soc < 2 ^ 32 → IsReadable d.stream (values_of listed)
    → TellsConfig (cfg1_frame d count soc listed) CfgOne d count (values_of listed)
cfg1-read d count soc listed can count_fits soc_fits readable =
    tells CfgOne d count soc listed (values_of listed) (inl refl) can count_fits soc_fits (all-listed listed can.each) readable

pub cfg2-read : (d : Definition) (count soc : ℕ) (listed : Listing) → CanTell d listed → count < 2 ^ 16 → soc < 2 ^ 32 → IsReadable d.stream (effective_of listed d.members)
    → TellsConfig (cfg2_frame d count soc listed) CfgTwo d count (effective_of listed d.members)
cfg2-read d count soc listed can count_fits soc_fits readable =
    tells CfgTwo d count soc listed (effective_of listed d.members) (inr refl) can count_fits soc_fits (all-effective listed d.members can.each) readable

-- ---- data

-- each block is as long as its configuration says
block-length : (part : Part) (piece : Option Piece) → IsBlockFor (Some part) piece → length (block_or_filler part piece) ≡ data_len part
block-length part None is = filler-length part
block-length part (Some piece) is = is.0

block-bytes : (part : Part) (piece : Option Piece) → IsBlockFor (Some part) piece → InBytes (block_or_filler part piece)
block-bytes part None is = filler-bytes part
block-bytes part (Some piece) is = is.1

sizes : (d : Definition) (count : ℕ) (listed : Listing) (members : List PmuKey) (pieces : List (Option Piece)) → AreBlocks listed members pieces
    → map length (data_blocks listed members pieces) ≡ map data_len (told_parts d count (effective_of listed members))
sizes d count listed [] [] are = refl
sizes d count listed [] (piece ∷ pieces) are = absurd are
sizes d count listed (key ∷ keys) [] are = absurd are
sizes d count listed (key ∷ keys) (piece ∷ pieces) are = by (config_at listed key) are.0 (sizes d count listed keys pieces are.1)
  where
    by : (o : Option Part) → IsBlockFor o piece → map length (data_blocks listed keys pieces) ≡ map data_len (told_parts d count (effective_of listed keys))
        → map length (cons_option (option_map (λ part. block_or_filler part piece) o) (data_blocks listed keys pieces)) ≡ map data_len (told_parts d count (cons_option o (effective_of listed keys)))
    by None is rest = rest
    by (Some part) is rest = ap₂ (λ n ns. n ∷ ns) (block-length part piece is) rest

all-bytes : (listed : Listing) (members : List PmuKey) (pieces : List (Option Piece)) → AreBlocks listed members pieces → All InBytes (data_blocks listed members pieces)
all-bytes listed [] [] are = All-nil InBytes
all-bytes listed [] (piece ∷ pieces) are = absurd are
all-bytes listed (key ∷ keys) [] are = absurd are
all-bytes listed (key ∷ keys) (piece ∷ pieces) are = by (config_at listed key) are.0 (all-bytes listed keys pieces are.1)
  where
    by : (o : Option Part) → IsBlockFor o piece → All InBytes (data_blocks listed keys pieces)
        → All InBytes (cons_option (option_map (λ part. block_or_filler part piece) o) (data_blocks listed keys pieces))
    by None is rest = rest
    by (Some part) is rest = All-cons InBytes (block_or_filler part piece) (data_blocks listed keys pieces) (block-bytes part piece is) rest

-- a data block is short
data-short : (p : Part) → IsPart p → data_len p ≤ 398
data-short p is =
    let phasors = ap (λ q. q.phasors) is.counts in
    let analogs = ap (λ q. q.analogs) is.counts in
    let digitals = ap (λ q. q.digitals) is.counts in
    omega (arith, is.block.size, is.block.bounded, phasors, analogs, digitals)

lens-short : (d : Definition) (count : ℕ) (parts : List Part) → All IsTold parts → data_lens (told_parts d count parts) ≤ 398 * length parts
lens-short d count [] each = omega arith
lens-short d count (p ∷ ps) each =
    let first : data_len p ≤ 398 = data-short p (All-head IsTold p ps each).part in
    let rest : data_lens (told_parts d count ps) ≤ 398 * length ps = lens-short d count ps (All-tail IsTold p ps each) in
    omega arith

-- the resolution that is told is the stream's
first-base : (d : Definition) (count : ℕ) (parts : List Part) → 0 < length parts → resolution_of (told_parts d count parts) ≡ d.base
first-base d count [] some = absurd (omega arith)
first-base d count (p ∷ ps) some = refl

pub data-read : (d : Definition) (count slot : ℕ) (listed : Listing) (pieces : List (Option Piece)) → CanTell d listed → slot / d.rate < 2 ^ 32
    → IsReadable d.stream (effective_of listed d.members) → AreBlocks listed d.members pieces
    → TellsData (data_frame_of d slot listed pieces) (told_measurement d count slot listed pieces) (data_blocks listed d.members pieces)
data-read d count slot listed pieces can time readable are =
    let numbers = can.limits.numbers in
    let parts = effective_of listed d.members in
    let each = all-effective listed d.members can.each in
    let some : 0 < d.base = omega (arith, numbers.rate, numbers.base) in
    let rate : 0 < d.rate = omega (arith, numbers.rate) in
    let finer : d.rate ≤ d.base = numbers.base.0 in
    let base_fits : d.base < 2 ^ 24 = numbers.base.1 in
    let below : numerator_at d.rate d.base slot < d.base = numerator_below d.rate d.base (slot % d.rate) (numerator_at d.rate d.base slot) (omega arith) finer (stamp_at_is d.rate d.base slot rate).nearest in
    let sized = sizes d count listed d.members pieces are in
    let size : length (joined (data_blocks listed d.members pieces)) ≡ data_lens (told_parts d count parts) = joined-length (told_parts d count parts) (data_blocks listed d.members pieces) sized in
    let short : data_lens (told_parts d count parts) ≤ 398 * length parts = lens-short d count parts each in
    let few : length parts ≤ 16 = readable.few in
    let quality : joined_quality (qualities_of pieces) < 2 ^ 7 = joined-below (qualities_of pieces) in
    let back = reads-back (told_measurement d count slot listed pieces) (record {
      config = written-source d.stream d.base d.rate count parts some base_fits (All-weaker IsTold IsPart (λ p told. told.part) parts each) readable;
      fits = record { kind = lit< tt; version = inr refl; id = can.stream; soc = time; quality = omega arith; frac = omega arith };
      source = refl;
      fraction = subst (λ n. numerator_at d.rate d.base slot < n) (sym (first-base d count parts readable.some)) below;
      size = size;
      small = omega arith;
      octets = joined-in_bytes (data_blocks listed d.members pieces) (all-bytes listed d.members pieces are);
    }) in
    record {
      whole = back.frame;
      read = back.read;
      each = λ i. ap (λ n. slice_range (joined (data_blocks listed d.members pieces)) (data_lens (take i (told_parts d count parts))) (data_lens (take n (told_parts d count parts)))) (let one : i + 1 ≡ suc i = omega arith in one)
          ∙ block_at (told_parts d count parts) (data_blocks listed d.members pieces) i sized;
    }
