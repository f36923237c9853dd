-- What a data frame spells is what is read of it.
use Rattle.std.proofs.Common.{◌≡◌, ℕ, ◌+◌, ◌-◌, ◌/◌, ◌<◌, ◌≤◌, ◌≢◌, List, length, drop, get_or, [], ◌∷◌, slice_get, IfSome, Result, Ok, Err, is_ok, IsOk, IfOk, MatchResult, refl, sym, ap, ap₂, ◌∙◌, subst, inl, inr, Bool, true, false, nat_lt, ◌==◌, not, if◌then◌else◌, arith, length-drop}
use Rattle.std.proofs.lemmas.List.{length-take-le, take_all}
use Rattle.std.proofs.lemmas.Bool.{eqb-true, ltb-true, eq-eqb, ne_eqb, lt-ltb, le-ltb}
use Rattle.std.specs.Arc.{arc_value}
use Rattle.std.specs.declared.sync.Arc.{Arc}
use Rattle.pg_wire.specs.declared.refusal.Refusal.{Refusal}
use Rattle.pg_wire.specs.declared.refusal.Refusal.TheVariants.{NoMemory, WrongId, BadLength, BadFraction}
use Rattle.pg_wire.specs.Frame.{size_of, version_of}
use Rattle.pg_wire.specs.Head.{IsFrame, HeadFits, frame_of, head_of, body_of, two_at, three_at, four_at}
use Rattle.pg_wire.proofs.Spelled.{frame-spelled, spells-back, frame_is_long}
use Rattle.pg_config.specs.Parts.{Part, Source, IsSource, data_len, data_lens}
use Rattle.pg_data.specs.Measurements.{Measurement, IsMeasurement, block_in, resolution, data_head}
use Rattle.pg_data.specs.Reading.{SpellsData, IsDataFrame, ReadsAs, ReadsBack, measurement_of, data_of, spelling_of}
use Rattle.pg_data.proofs.Blocks.{cut, cut-sizes, joined-cut, joined-length, part_bounded}

-- what a data frame passed to be read
pub record Passed (config : Source) (frame : List ℕ) (m : Measurement) : Type 0 where
  pub source : two_at frame 4 ≡ config.source
  pub size : size_of frame ≡ 16 + data_lens config.parts
  pub fraction : three_at frame 11 < resolution config
  pub value : measurement_of config frame ≡ m

abbrev Reading : Type 0
Reading = Result Measurement Refusal

ok_same : (x m : Measurement) → (let r : Reading = Ok x in r) ≡ Ok m → x ≡ m
ok_same x m h = cc

err_not_ok : (e : Refusal) (m : Measurement) → (let r : Reading = Err e in r) ≡ Ok m → ⊥
err_not_ok e m h = cc

tests : (a b c : Bool) (x m : Measurement)
    → (if not a then Err WrongId else if not b then Err BadLength else if not c then Err BadFraction else Ok x) ≡ Ok m
    → (a ≡ true) × (b ≡ true) × (c ≡ true) × (x ≡ m)
tests true true true x m h = (refl, refl, refl, ok_same x m h)
tests true true false x m h = absurd (err_not_ok BadFraction m h)
tests true false c x m h = absurd (err_not_ok BadLength m h)
tests false b c x m h = absurd (err_not_ok WrongId m h)

pub Passed-from_read : (config : Source) (frame : List ℕ) (m : Measurement) → data_of config frame ≡ Ok m → Passed config frame m
Passed-from_read config frame m h =
    let t = tests (two_at frame 4 == config.source) (size_of frame == 16 + data_lens config.parts) (nat_lt (three_at frame 11) (resolution config))
    (measurement_of config frame) m h in
    record { source = eqb-true _ _ t.0; size = eqb-true _ _ t.1; fraction = ltb-true _ _ t.2; value = t.3 }

pub read_from_passed : (config : Source) (frame : List ℕ) (m : Measurement) → Passed config frame m → data_of config frame ≡ Ok m
read_from_passed config frame m p =
    rw (eq-eqb _ _ p.source, eq-eqb _ _ p.size, lt-ltb _ _ p.fraction) (ap Ok p.value)

-- the head of a data frame
head_is : (config : Source) (frame : List ℕ) → get_or frame 1 0 / 16 ≡ 0 → head_of frame ≡ data_head (version_of frame) (measurement_of config frame)
head_is config frame h =
    ap (λ k. record { kind = k; version = version_of frame; id = two_at frame 4; soc = four_at frame 6; quality = get_or frame 10 0; frac = three_at frame 11 }) h

pub size_is_small : (frame : List ℕ) → ((i : ℕ) → get_or frame i 0 < 256) → size_of frame < 65536
size_is_small frame range =
    let a : get_or frame 2 0 < 256 = range 2 in
    let b : get_or frame 3 0 < 256 = range 3 in
    omega arith

pub body-length : (frame : List ℕ) → IsFrame frame → length (body_of frame) + 16 ≡ size_of frame
body-length frame is =
    let long : 16 ≤ length frame = frame_is_long frame is in
    let size : length frame ≡ size_of frame = is.0.size in
    let l : length (body_of frame) ≡ length frame - 16 = length-take-le (length frame - 16) (drop 14 frame) (omega (arith, length-drop 14 frame)) in
    omega arith

pub body-sized : (config : Source) (frame : List ℕ) → IsFrame frame → size_of frame ≡ 16 + data_lens config.parts
    → length (body_of frame) ≡ data_lens config.parts
body-sized config frame is size = let l = body-length frame is in omega arith

-- what is read of a data frame is what it spells
pub spells-read : (config : Source) (frame : List ℕ) (m : Measurement) → IsDataFrame frame → ((i : ℕ) → get_or frame i 0 < 256)
    → data_of config frame ≡ Ok m → SpellsData frame config m
spells-read config frame m is range h =
    let p = Passed-from_read config frame m h in
    let s = frame-spelled frame is.frame range in
    let head = head_is config frame is.kind in
    let sized = body-sized config frame is.frame p.size in
    let small = size_is_small frame range in
    let long = body-length frame is.frame in
    subst (SpellsData frame config) p.value record {
      version = version_of frame;
      fits = subst HeadFits head s.fits;
      by = refl;
      source = p.source;
      fraction = p.fraction;
      blocks = cut config.parts (body_of frame);
      sizes = cut-sizes config.parts (body_of frame) sized;
      body = sym (joined-cut config.parts (body_of frame) sized);
      octets = part_bounded frame 14 (length frame - 16) range;
      small = omega arith;
      whole = s.whole ∙ ap (λ h. frame_of h (body_of frame)) head;
    }

abbrev measurement : ℕ → ℕ → ℕ → ℕ → Source → List ℕ → Measurement
measurement source soc quality frac config body = record { source = source; soc = soc; quality = quality; frac = frac; config = config; body = body }

same_measurement : (m n : Measurement) → m.source ≡ n.source → m.soc ≡ n.soc → m.quality ≡ n.quality → m.frac ≡ n.frac → m.config ≡ n.config → m.body ≡ n.body → m ≡ n
same_measurement m n source soc quality frac config body =
    ap₂ (λ f x. f x) (ap₂ (λ f x. f x) (ap₂ (λ f x. f x) (ap₂ (λ f x. f x) (ap₂ measurement source soc) quality) frac) config) body

-- what a data frame spells is read of it
pub passed-spelled : (frame : List ℕ) (config : Source) (m : Measurement) → SpellsData frame config m → IsDataFrame frame × Passed config frame m
passed-spelled frame config m s =
    let back = spells-back (data_head s.version m) m.body s.fits s.small s.octets in
    let is : IsFrame frame = subst IsFrame (sym s.whole) back.frame in
    let head : head_of frame ≡ data_head s.version m = ap head_of s.whole ∙ back.same_head in
    let body : body_of frame ≡ m.body = ap body_of s.whole ∙ back.same_body in
    let source : two_at frame 4 ≡ m.source = ap (λ h. h.id) head in
    let soc : four_at frame 6 ≡ m.soc = ap (λ h. h.soc) head in
    let quality : get_or frame 10 0 ≡ m.quality = ap (λ h. h.quality) head in
    let frac : three_at frame 11 ≡ m.frac = ap (λ h. h.frac) head in
    let kind : get_or frame 1 0 / 16 ≡ 0 = ap (λ h. h.kind) head in
    let sized : length m.body ≡ data_lens config.parts = ap length s.body ∙ joined-length config.parts s.blocks s.sizes in
    let long = body-length frame is in
    let same_length : length (body_of frame) ≡ length m.body = ap length body in (
      record { frame = is; kind = kind },
      record {
        source = source ∙ s.source;
        size = omega arith;
        fraction = (let f = s.fraction in omega arith);
        value = same_measurement (measurement_of config frame) m source soc quality frac (sym s.by) body;
      },
    )

pub read-spelled : (frame : List ℕ) (config : Source) (m : Measurement) → SpellsData frame config m → data_of config frame ≡ Ok m
read-spelled frame config m s = read_from_passed config frame m (passed-spelled frame config m s).1

-- ---- what a reader gives

pub found_from : {Z : Type 0} (config : Source) (frame : List ℕ) (r : Result (Arc Measurement Z) Refusal) → IsDataFrame frame → ((i : ℕ) → get_or frame i 0 < 256)
    → ReadsAs r (data_of config frame) → IfOk r (λ v. SpellsData frame config (arc_value v))
found_from config frame (Ok v) is range h = spells-read config frame (arc_value v) is range h
found_from config frame (Err e) is range h = tt

pub only_from : {Z : Type 0} (config : Source) (frame : List ℕ) (r : Result (Arc Measurement Z) Refusal) → ReadsAs r (data_of config frame)
    → (m : Measurement) → SpellsData frame config m → MatchResult r (λ v. arc_value v ≡ m) (λ e. e ≡ NoMemory)
only_from config frame (Ok v) h m s = ok_same (arc_value v) m (sym h ∙ read-spelled frame config m s)
only_from config frame (Err e) h m s = elim h [ inl refused ↦ absurd (err_not_ok e m (sym refused ∙ read-spelled frame config m s)) | inr memory ↦ memory.0 ]

-- what was read keeps what its reader checked
pub keeps-read : (config : Source) (frame : List ℕ) (m : Measurement) → IsDataFrame frame → ((i : ℕ) → get_or frame i 0 < 256) → IsSource config
    → Passed config frame m → IsMeasurement m
keeps-read config frame m is range kept p =
    let s = frame-spelled frame is.frame range in
    let sized = body-sized config frame is.frame p.size in
    let small = size_is_small frame range in
    let long = body-length frame is.frame in
    subst IsMeasurement p.value record {
      config = kept;
      fits = record { kind = lit_below; version = inr refl; id = s.fits.id; soc = s.fits.soc; quality = s.fits.quality; frac = s.fits.frac };
      source = p.source;
      fraction = p.fraction;
      size = sized;
      small = omega arith;
      octets = part_bounded frame 14 (length frame - 16) range;
    }
  where
    lit_below : 0 < 6
    lit_below = omega arith

-- ---- what the reader looks at

pub read_short : (config : Source) (frame : List ℕ) → IsFrame frame → two_at frame 4 ≡ config.source → length frame - 16 ≢ data_lens config.parts
    → data_of config frame ≡ Err BadLength
read_short config frame is source size =
    let long : 16 ≤ length frame = frame_is_long frame is in
    let whole : length frame ≡ size_of frame = is.0.size in
    let other : size_of frame ≡ 16 + data_lens config.parts → ⊥ = (λ e. size (omega arith)) in
    rw (eq-eqb _ _ source, ne_eqb _ _ other) refl

pub read_fraction : (config : Source) (frame : List ℕ) → IsFrame frame → two_at frame 4 ≡ config.source → length frame - 16 ≡ data_lens config.parts
    → resolution config ≤ three_at frame 11 → data_of config frame ≡ Err BadFraction
read_fraction config frame is source size high =
    let long : 16 ≤ length frame = frame_is_long frame is in
    let whole : length frame ≡ size_of frame = is.0.size in
    let sized : size_of frame ≡ 16 + data_lens config.parts = omega arith in
    rw (eq-eqb _ _ source, eq-eqb _ _ sized, le-ltb _ _ high) refl

pub read_ok : (config : Source) (frame : List ℕ) → IsFrame frame → two_at frame 4 ≡ config.source → length frame - 16 ≡ data_lens config.parts
    → three_at frame 11 < resolution config → IsOk (data_of config frame)
read_ok config frame is source size low =
    let long : 16 ≤ length frame = frame_is_long frame is in
    let whole : length frame ≡ size_of frame = is.0.size in
    let sized : size_of frame ≡ 16 + data_lens config.parts = omega arith in
    ap is_ok (read_from_passed config frame (measurement_of config frame) (record { source = source; size = sized; fraction = low; value = refl }))

tests_ok : (a b c : Bool) (x : Measurement)
    → IsOk (if not a then Err WrongId else if not b then Err BadLength else if not c then Err BadFraction else Ok x)
    → (a ≡ true) × (b ≡ true) × (c ≡ true)
tests_ok true true true x h = (refl, refl, refl)
tests_ok true true false x h = absurd (cc)
tests_ok true false c x h = absurd (cc)
tests_ok false b c x h = absurd (cc)

-- one block is the whole body
pub one_len : (parts : List Part) (n : ℕ) → length parts ≡ 1 → IfSome (slice_get parts 0) (λ part. n ≡ data_len part) → data_lens parts ≡ n
one_len [] n one is = absurd (omega arith)
one_len (p ∷ []) n one is = omega (arith, is)
one_len (p ∷ q ∷ parts) n one is = absurd (omega arith)

pub one_block : (parts : List Part) (body : List ℕ) → length parts ≡ 1 → length body ≡ data_lens parts → block_in parts body 0 ≡ body
one_block [] body one size = absurd (omega arith)
one_block (p ∷ []) body one size = take_all ((data_len p + 0) - 0) body (omega (arith, size))
one_block (p ∷ q ∷ parts) body one size = absurd (omega arith)

pub frame-length : (frame body : List ℕ) → IsFrame frame → body ≡ body_of frame → length frame ≡ 16 + length body
frame-length frame body is same =
    let l = body-length frame is in
    let size : length frame ≡ size_of frame = is.0.size in
    let bytes : length body ≡ length (body_of frame) = ap length same in
    omega arith

-- what is read has the bytes of all its blocks
pub sized-ok : (config : Source) (frame : List ℕ) → IsFrame frame → IsOk (data_of config frame) → length (body_of frame) ≡ data_lens config.parts
sized-ok config frame is ok =
    let t = tests_ok (two_at frame 4 == config.source) (size_of frame == 16 + data_lens config.parts) (nat_lt (three_at frame 11) (resolution config))
    (measurement_of config frame) ok in
    body-sized config frame is (eqb-true _ _ t.1)

-- the value that the reader made
pub made_passed : (config : Source) (frame : List ℕ) (m : Measurement) → IsOk (data_of config frame) → m.source ≡ config.source → m.soc ≡ four_at frame 6
    → m.quality ≡ get_or frame 10 0 → m.frac ≡ three_at frame 11 → m.config ≡ config → m.body ≡ body_of frame → Passed config frame m
made_passed config frame m ok source soc quality frac by body =
    let t = tests_ok (two_at frame 4 == config.source) (size_of frame == 16 + data_lens config.parts) (nat_lt (three_at frame 11) (resolution config))
    (measurement_of config frame) ok in
    let is : two_at frame 4 ≡ config.source = eqb-true _ _ t.0 in
    record {
      source = is;
      size = eqb-true _ _ t.1;
      fraction = ltb-true _ _ t.2;
      value = same_measurement (measurement_of config frame) m (is ∙ sym source) (sym soc) (sym quality) (sym frac) (sym by) (sym body);
    }

-- ---- what is written

spelled-written : (m : Measurement) → IsMeasurement m → SpellsData (spelling_of m) m.config m
spelled-written m is = record {
  version = 2;
  fits = is.fits;
  by = refl;
  source = is.source;
  fraction = is.fraction;
  blocks = cut m.config.parts m.body;
  sizes = cut-sizes m.config.parts m.body is.size;
  body = sym (joined-cut m.config.parts m.body is.size);
  octets = is.octets;
  small = is.small;
  whole = refl;
}

pub reads-back : (m : Measurement) → IsMeasurement m → ReadsBack m
reads-back m is =
    let s = spelled-written m is in
    record {
      frame = (passed-spelled (spelling_of m) m.config m s).0;
      spelled = s;
      read = read-spelled (spelling_of m) m.config m s;
    }
