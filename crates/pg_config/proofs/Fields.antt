-- A block and its fields.
use Rattle.std.proofs.Common.{◌≡◌, ℕ, ℤ, ◌+◌, ◌-◌, ◌*◌, ◌/◌, ◌%◌, ◌^◌, ◌<◌, List, [], ◌∷◌, ◌++◌, length, take, drop, get_or, map, All, refl, sym, ap, ap₂, ◌∙◌, append_assoc, subst, arith, lit<, inl, inr, length-append, length-drop, length-take-le}
use Rattle.std.proofs.lemmas.List.{take-append-drop, get_or-drop, get_or-append-add, get_or_append_left, get_or_past}
use Rattle.std.proofs.lemmas.Bool.{cases_lt}
use Rattle.std.proofs.lemmas.List.Elements.{All-nil, All-cons, All-head, All-tail}
use Rattle.std.specs.Int.{w16, to_be_bytes}
use Rattle.pg_wire.specs.Head.{two_at}
use Rattle.pg_wire.proofs.Spelled.{two_bytes}
use Rattle.pg_config.specs.Parts.{Part, IsBlock, part_with, size_by_counts}
use Rattle.pg_config.specs.Spelling.{Block, BlockFits, block_bytes, part_of}

abbrev pub InBytes : List ℕ → Type 0
InBytes bytes = (i : ℕ) → get_or bytes i 0 < 256

-- bytes behind others
pub bytes_behind : (front rest : List ℕ) → InBytes (front ++ rest) → InBytes rest
bytes_behind front rest range i = subst (λ n. n < 256) (get_or-append-add front rest i 0) (range (length front + i))

-- bytes before others
pub bytes_before : (front rest : List ℕ) → InBytes (front ++ rest) → InBytes front
bytes_before front rest range i = elim (cases_lt i (length front)) [
  | inl there ↦ subst (λ n. n < 256) (get_or_append_left front rest 0 i there) (range i)
  | inr past ↦ subst (λ n. n < 256) (sym (get_or_past front i 0 past)) (lit< tt)
]

-- what a block's bytes say of its fields
pub record Says (b : Block) : Type 0 where
  pub id : two_at (block_bytes b) 16 ≡ b.id
  pub format : two_at (block_bytes b) 18 ≡ b.format
  pub phasors : two_at (block_bytes b) 20 ≡ b.phasors
  pub analogs : two_at (block_bytes b) 22 ≡ b.analogs
  pub digitals : two_at (block_bytes b) 24 ≡ b.digitals
  pub size : length (block_bytes b) ≡ size_by_counts (block_bytes b)

abbrev block : List ℕ → ℕ → ℕ → ℕ → ℕ → ℕ → List ℕ → List ℕ → ℕ → ℕ → Block
block station id format phasors analogs digitals names units nominal changes = record {
  station = station;
  id = id;
  format = format;
  phasors = phasors;
  analogs = analogs;
  digitals = digitals;
  names = names;
  units = units;
  nominal = nominal;
  changes = changes;
}

sized : (names units x y : List ℕ) → length x ≡ 2 → length y ≡ 2 → length (names ++ units ++ x ++ y) ≡ 4 + length names + length units
sized names units x y a b = simp length-append (omega arith)

pub says : (b : Block) → BlockFits b → Says b
says b fits = go b.station b.id b.format b.phasors b.analogs b.digitals b.names b.units b.nominal b.changes fits where
  go : (station : List ℕ) (id format phasors analogs digitals : ℕ) (names units : List ℕ) (nominal changes : ℕ)
      → BlockFits (block station id format phasors analogs digitals names units nominal changes) → Says (block station id format phasors analogs digitals names units nominal changes)
  go (a ∷ b ∷ c ∷ d ∷ e ∷ f ∷ g ∷ h ∷ i ∷ j ∷ k ∷ l ∷ m ∷ n ∷ o ∷ p ∷ []) id format phasors analogs digitals names units nominal changes fits =
      let phasors_are : 256 * (phasors / 256 % 256) + phasors % 256 ≡ phasors = (let lt : phasors < 2 ^ 16 = fits.phasors in omega arith) in
      let analogs_are : 256 * (analogs / 256 % 256) + analogs % 256 ≡ analogs = (let lt : analogs < 2 ^ 16 = fits.analogs in omega arith) in
      let digitals_are : 256 * (digitals / 256 % 256) + digitals % 256 ≡ digitals = (let lt : digitals < 2 ^ 16 = fits.digitals in omega arith) in
      let size : length (names ++ units ++ to_be_bytes w16 nominal ++ to_be_bytes w16 changes) ≡ 4 + length names + length units = sized names units (to_be_bytes w16 nominal) (to_be_bytes w16 changes) refl refl in
      let all_names : length names ≡ 16 * (phasors + analogs + 16 * digitals) = fits.names in
      let all_units : length units ≡ 4 * (phasors + analogs + digitals) = fits.units in
      record {
        id = (let lt : id < 2 ^ 16 = fits.id in omega arith);
        format = (let lt : format < 2 ^ 16 = fits.format in omega arith);
        phasors = phasors_are;
        analogs = analogs_are;
        digitals = digitals_are;
        size = omega arith;
      }
  go station id format phasors analogs digitals names units nominal changes fits = absurd (let s : length station ≡ 16 = fits.station in omega arith)

abbrev pub part : ℕ → ℤ → ℕ → ℕ → ℕ → List ℕ → Part
part base rate phasors analogs digitals bytes = record { base = base; rate = rate; phasors = phasors; analogs = analogs; digitals = digitals; block = bytes }

pub part-says : (base : ℕ) (rate : ℤ) (b : Block) → BlockFits b → part_of base rate b ≡ part_with base rate (block_bytes b)
part-says base rate b fits =
    let s = says b fits in
    sym (ap₂ (λ f x. f x (block_bytes b)) (ap₂ (λ f x. f x) (ap (part base rate) s.phasors) s.analogs) s.digitals)

pub parts-say : (base : ℕ) (rate : ℤ) (bs : List Block) → All BlockFits bs → map (part_of base rate) bs ≡ map (part_with base rate) (map block_bytes bs)
parts-say base rate [] fits = refl
parts-say base rate (b ∷ bs) fits = ap₂ (λ p ps. p ∷ ps) (part-says base rate b (All-head BlockFits b bs fits)) (parts-say base rate bs (All-tail BlockFits b bs fits))

-- the fields of a block
pub record Fields (bytes : List ℕ) : Type 0 where
  pub block : Block
  pub fits : BlockFits block
  pub whole : block_bytes block ≡ bytes

-- four bytes are two numbers
pub record Two (bytes : List ℕ) : Type 0 where
  pub first : ℕ
  pub second : ℕ
  pub first_fits : first < 2 ^ 16
  pub second_fits : second < 2 ^ 16
  pub whole : bytes ≡ to_be_bytes w16 first ++ to_be_bytes w16 second

two_of : (l : List ℕ) → length l ≡ 4 → InBytes l → Two l
two_of (a ∷ b ∷ c ∷ d ∷ []) len range =
    let a256 : a < 256 = range 0 in
    let b256 : b < 256 = range 1 in
    let c256 : c < 256 = range 2 in
    let d256 : d < 256 = range 3 in
    record {
      first = 256 * a + b;
      second = 256 * c + d;
      first_fits = omega arith;
      second_fits = omega arith;
      whole = sym (ap₂ (λ x y. x ++ y) (two_bytes a b a256 b256) (two_bytes c d c256 d256));
    }
two_of l len range = absurd (omega arith)

-- a list as two fronts and a rest
in_three : (m n : ℕ) (l : List ℕ) → take m l ++ take n (drop m l) ++ drop n (drop m l) ≡ l
in_three m n l = append_assoc (take m l) (take n (drop m l)) (drop n (drop m l)) ∙ ap (λ x. take m l ++ x) (take-append-drop n (drop m l)) ∙ take-append-drop m l

-- the names, the units and the two numbers behind them
with_end : (m n : ℕ) (rest : List ℕ) (x y : ℕ) → drop n (drop m rest) ≡ to_be_bytes w16 x ++ to_be_bytes w16 y → take m rest ++ take n (drop m rest) ++ to_be_bytes w16 x ++ to_be_bytes w16 y ≡ rest
with_end m n rest x y is =
    append_assoc (take m rest ++ take n (drop m rest)) (to_be_bytes w16 x) (to_be_bytes w16 y) ∙ ap (λ l. take m rest ++ take n (drop m rest) ++ l) (sym is) ∙ in_three m n rest

numbers : (i1 i0 f1 f0 p1 p0 a1 a0 d1 d0 : ℕ) → i1 < 256 → i0 < 256 → f1 < 256 → f0 < 256 → p1 < 256 → p0 < 256 → a1 < 256 → a0 < 256 → d1 < 256 → d0 < 256
    → to_be_bytes w16 (256 * i1 + i0) ++ to_be_bytes w16 (256 * f1 + f0) ++ to_be_bytes w16 (256 * p1 + p0) ++ to_be_bytes w16 (256 * a1 + a0) ++ to_be_bytes w16 (256 * d1 + d0)
    ≡ i1 ∷ i0 ∷ f1 ∷ f0 ∷ p1 ∷ p0 ∷ a1 ∷ a0 ∷ d1 ∷ d0 ∷ []
numbers i1 i0 f1 f0 p1 p0 a1 a0 d1 d0 x1 x0 y1 y0 z1 z0 u1 u0 v1 v0 =
    ap₂ (λ x y. x ++ y) (ap₂ (λ x y. x ++ y) (ap₂ (λ x y. x ++ y) (ap₂ (λ x y. x ++ y) (two_bytes i1 i0 x1 x0) (two_bytes f1 f0 y1 y0)) (two_bytes p1 p0 z1 z0)) (two_bytes a1 a0 u1 u0)) (two_bytes d1 d0 v1 v0)

regroup : (station : List ℕ) (i f p a d : ℕ) (names units : List ℕ) (x y : ℕ) → block_bytes (block station i f p a d names units x y)
    ≡ station ++ (to_be_bytes w16 i ++ to_be_bytes w16 f ++ to_be_bytes w16 p ++ to_be_bytes w16 a ++ to_be_bytes w16 d) ++ (names ++ units ++ to_be_bytes w16 x ++ to_be_bytes w16 y)
regroup station i f p a d names units x y = simp append_assoc

spelled_of : (station : List ℕ) (i1 i0 f1 f0 p1 p0 a1 a0 d1 d0 : ℕ) → i1 < 256 → i0 < 256 → f1 < 256 → f0 < 256 → p1 < 256 → p0 < 256 → a1 < 256 → a0 < 256 → d1 < 256 → d0 < 256
    → (m n : ℕ) (rest : List ℕ) (x y : ℕ) → drop n (drop m rest) ≡ to_be_bytes w16 x ++ to_be_bytes w16 y
    → block_bytes (block station (256 * i1 + i0) (256 * f1 + f0) (256 * p1 + p0) (256 * a1 + a0) (256 * d1 + d0) (take m rest) (take n (drop m rest)) x y)
    ≡ station ++ (i1 ∷ i0 ∷ f1 ∷ f0 ∷ p1 ∷ p0 ∷ a1 ∷ a0 ∷ d1 ∷ d0 ∷ []) ++ rest
spelled_of station i1 i0 f1 f0 p1 p0 a1 a0 d1 d0 x1 x0 y1 y0 z1 z0 u1 u0 v1 v0 m n rest x y is =
    regroup station (256 * i1 + i0) (256 * f1 + f0) (256 * p1 + p0) (256 * a1 + a0) (256 * d1 + d0) (take m rest) (take n (drop m rest)) x y
    ∙ ap₂ (λ l r. station ++ l ++ r) (numbers i1 i0 f1 f0 p1 p0 a1 a0 d1 d0 x1 x0 y1 y0 z1 z0 u1 u0 v1 v0) (with_end m n rest x y is)

pub fields_of : (bytes : List ℕ) → InBytes bytes → length bytes ≡ size_by_counts bytes → Fields bytes
fields_of (a ∷ b ∷ c ∷ d ∷ e ∷ f ∷ g ∷ h ∷ i ∷ j ∷ k ∷ l ∷ m ∷ n ∷ o ∷ p ∷ i1 ∷ i0 ∷ f1 ∷ f0 ∷ p1 ∷ p0 ∷ a1 ∷ a0 ∷ d1 ∷ d0 ∷ rest) range size =
    let phasors = 256 * p1 + p0 in
    let analogs = 256 * a1 + a0 in
    let digitals = 256 * d1 + d0 in
    let all_names = 16 * (phasors + analogs + 16 * digitals) in
    let all_units = 4 * (phasors + analogs + digitals) in
    let names = take all_names rest in
    let units = take all_units (drop all_names rest) in
    let left = drop all_units (drop all_names rest) in
    let long : length rest ≡ 4 + all_names + all_units = omega arith in
    let drop_len : length (drop all_names rest) ≡ length rest - all_names = length-drop all_names rest in
    let left_len : length left ≡ length (drop all_names rest) - all_units = length-drop all_units (drop all_names rest) in
    let behind : InBytes rest = bytes_behind (a ∷ b ∷ c ∷ d ∷ e ∷ f ∷ g ∷ h ∷ i ∷ j ∷ k ∷ l ∷ m ∷ n ∷ o ∷ p ∷ i1 ∷ i0 ∷ f1 ∷ f0 ∷ p1 ∷ p0 ∷ a1 ∷ a0 ∷ d1 ∷ d0 ∷ []) rest range in
    let low : InBytes left = λ x. rw (get_or-drop all_units (drop all_names rest) x 0, get_or-drop all_names rest (all_units + x) 0) (behind (all_names + (all_units + x))) in
    let end = two_of left (omega arith) low in
    let i1_256 : i1 < 256 = range 16 in
    let i0_256 : i0 < 256 = range 17 in
    let f1_256 : f1 < 256 = range 18 in
    let f0_256 : f0 < 256 = range 19 in
    let p1_256 : p1 < 256 = range 20 in
    let p0_256 : p0 < 256 = range 21 in
    let a1_256 : a1 < 256 = range 22 in
    let a0_256 : a0 < 256 = range 23 in
    let d1_256 : d1 < 256 = range 24 in
    let d0_256 : d0 < 256 = range 25 in
    let station = a ∷ b ∷ c ∷ d ∷ e ∷ f ∷ g ∷ h ∷ i ∷ j ∷ k ∷ l ∷ m ∷ n ∷ o ∷ p ∷ [] in
    record {
      block = block station (256 * i1 + i0) (256 * f1 + f0) phasors analogs digitals names units end.first end.second;
      fits = record {
        station = refl {a = 16};
        id = omega arith;
        format = omega arith;
        phasors = omega arith;
        analogs = omega arith;
        digitals = omega arith;
        names = length-take-le all_names rest (omega arith);
        units = length-take-le all_units (drop all_names rest) (omega arith);
        nominal = end.first_fits;
        changes = end.second_fits;
      };
      whole = spelled_of station i1 i0 f1 f0 p1 p0 a1 a0 d1 d0 i1_256 i0_256 f1_256 f0_256 p1_256 p0_256 a1_256 a0_256 d1_256 d0_256 all_names all_units rest end.first end.second end.whole;
    }
fields_of bytes range size = absurd (omega arith)

-- the fields of each block
pub record AllFields (blocks : List (List ℕ)) : Type 0 where
  pub pmus : List Block
  pub each : All BlockFits pmus
  pub whole : map block_bytes pmus ≡ blocks

pub all_fields : (blocks : List (List ℕ)) → All InBytes blocks → All IsBlock blocks → AllFields blocks
all_fields [] range is = record { pmus = []; each = All-nil BlockFits; whole = refl }
all_fields (b ∷ bs) range is =
    let first = fields_of b (All-head InBytes b bs range) (All-head IsBlock b bs is).size in
    let others = all_fields bs (All-tail InBytes b bs range) (All-tail IsBlock b bs is) in
    record {
      pmus = first.block ∷ others.pmus;
      each = All-cons BlockFits first.block others.pmus first.fits others.each;
      whole = ap₂ (λ x xs. x ∷ xs) first.whole others.whole;
    }
