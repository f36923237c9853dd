-- Data blocks, one behind another.
use Rattle.std.proofs.Common.{◌≡◌, ℕ, zero, suc, pos, ◌+◌, ◌-◌, ◌<◌, ◌≤◌, List, [], ◌∷◌, ◌++◌, length, map, take, drop, get_or, slice_get, slice_range, Option, Some, None, IfSome, refl, sym, inl, inr, add-one, ap, ap₂, ◌∙◌, arith, length-append, length-drop}
use Rattle.std.proofs.lemmas.List.{take-append-drop, length-take, take_at, drop_at, drop-drop, drop-take, take-take, length-take-le, nil_from_length, get_or-take, get_or-drop, get_or_past}
use Rattle.std.proofs.lemmas.Bool.{cases_lt}
use Rattle.pg_wire.specs.Stream.{joined}
use Rattle.pg_config.specs.Parts.{Part, Source, IsPart, IsSource, part_with, data_len, data_lens}

pub lens_within : (ps : List Part) (i : ℕ) → data_lens (take i ps) ≤ data_lens ps
lens_within ps zero = omega arith
lens_within [] (suc i) = omega arith
lens_within (p ∷ ps) (suc i) = omega (arith, lens_within ps i)

pub lens_step : (ps : List Part) (i : ℕ) → i < length ps → data_lens (take i ps) + 6 ≤ data_lens (take (suc i) ps)
lens_step [] i h = absurd (omega arith)
lens_step (p ∷ ps) zero h = omega arith
lens_step (p ∷ ps) (suc i) h = omega (arith, lens_step ps i (omega arith))

pub lens_at : (ps : List Part) (i : ℕ) → IfSome (slice_get ps i) (λ part. data_lens (take i ps) + data_len part ≡ data_lens (take (suc i) ps))
lens_at [] i = tt
lens_at (p ∷ ps) zero = omega arith
lens_at (p ∷ ps) (suc i) = more (slice_get ps i) (lens_at ps i) where
  more : (o : Option Part) → IfSome o (λ part. data_lens (take i ps) + data_len part ≡ data_lens (take (suc i) ps))
      → IfSome o (λ part. (data_len p + data_lens (take i ps)) + data_len part ≡ data_len p + data_lens (take (suc i) ps))
  more (Some q) h = omega arith
  more None h = tt

-- the length of what lies between
pub range_sized : (o : Option Part) (body : List ℕ) (start end : ℕ) → end ≤ length body → IfSome o (λ part. start + data_len part ≡ end)
    → IfSome o (λ part. length (slice_range body start end) ≡ data_len part)
range_sized (Some p) body start end within h =
    let n : end - start ≡ data_len p = omega arith in
    length-take-le (end - start) (drop start body) (omega (arith, length-drop start body)) ∙ n
range_sized None body start end within h = tt

-- behind a first part
range-append : (b r : List ℕ) (n s e : ℕ) → length b ≡ n → slice_range (b ++ r) (n + s) (n + e) ≡ slice_range r s e
range-append b r n s e h =
    let d : (n + e) - (n + s) ≡ e - s = omega arith in
    ap₂ (λ k l. take k l) d (sym (drop-drop s n (b ++ r)) ∙ ap (drop s) (drop_at b r n h))

pub block_at : (ps : List Part) (blocks : List (List ℕ)) (i : ℕ) → map length blocks ≡ map data_len ps
    → slice_range (joined blocks) (data_lens (take i ps)) (data_lens (take (suc i) ps)) ≡ get_or blocks i []
block_at [] [] zero h = refl
block_at [] [] (suc i) h = refl
block_at [] (b ∷ bs) i h = absurd (cc)
block_at (p ∷ ps) [] i h = absurd (cc)
block_at (p ∷ ps) (b ∷ bs) zero h =
    let same : length b ≡ data_len p = cc in
    take_at b (joined bs) ((data_len p + 0) - 0) (omega arith)
block_at (p ∷ ps) (b ∷ bs) (suc i) h =
    let same : length b ≡ data_len p = cc in
    let others : map length bs ≡ map data_len ps = cc in
    range-append b (joined bs) (data_len p) (data_lens (take i ps)) (data_lens (take (suc i) ps)) same ∙ block_at ps bs i others

pub joined-length : (ps : List Part) (blocks : List (List ℕ)) → map length blocks ≡ map data_len ps → length (joined blocks) ≡ data_lens ps
joined-length [] [] h = refl
joined-length [] (b ∷ bs) h = absurd (cc)
joined-length (p ∷ ps) [] h = absurd (cc)
joined-length (p ∷ ps) (b ∷ bs) h =
    let same : length b ≡ data_len p = cc in
    let others : map length bs ≡ map data_len ps = cc in
    omega (arith, length-append b (joined bs), joined-length ps bs others)

-- the body, cut into its blocks
abbrev pub cut : List Part → List ℕ → List (List ℕ)
cut [] body = []
cut (p ∷ ps) body = take (data_len p) body ∷ cut ps (drop (data_len p) body)

pub cut-sizes : (ps : List Part) (body : List ℕ) → length body ≡ data_lens ps → map length (cut ps body) ≡ map data_len ps
cut-sizes [] body h = refl
cut-sizes (p ∷ ps) body h =
    ap₂ (λ x y. x ∷ y) (length-take-le (data_len p) body (omega arith)) (cut-sizes ps (drop (data_len p) body) (omega (arith, length-drop (data_len p) body)))

pub joined-cut : (ps : List Part) (body : List ℕ) → length body ≡ data_lens ps → joined (cut ps body) ≡ body
joined-cut [] body h = sym (nil_from_length body h)
joined-cut (p ∷ ps) body h =
    ap (λ x. take (data_len p) body ++ x) (joined-cut ps (drop (data_len p) body) (omega (arith, length-drop (data_len p) body)))
    ∙ take-append-drop (data_len p) body

-- a range of a part is a range of the whole
pub range-of_part : (xs : List ℕ) (n l s e : ℕ) → s ≤ e → e ≤ l → slice_range (take l (drop n xs)) s e ≡ slice_range xs (n + s) (n + e)
range-of_part xs n l s e order within =
    let rest : l ≡ s + (l - s) = omega arith in
    let d : (n + e) - (n + s) ≡ e - s = omega arith in
    ap (λ k. take (e - s) (drop s (take k (drop n xs)))) rest
    ∙ ap (take (e - s)) (drop-take s (l - s) (drop n xs))
    ∙ take-take (e - s) (l - s) (drop s (drop n xs)) (omega arith)
    ∙ ap₂ (λ k ys. take k ys) (sym d) (drop-drop s n xs)

-- each byte of a part is one of the whole, or past its end
pub part_bounded : (xs : List ℕ) (n l : ℕ) → ((i : ℕ) → get_or xs i 0 < 256) → (i : ℕ) → get_or (take l (drop n xs)) i 0 < 256
part_bounded xs n l range i = elim (cases_lt i l) [
  | inl low ↦ rw (get_or-take l (drop n xs) i 0 low, get_or-drop n xs i 0) (range (n + i))
  | inr high ↦ rw (get_or_past (take l (drop n xs)) i 0 (omega (arith, length-take l (drop n xs)))) (omega arith)
]

-- ---- the place of one block

pub place_sized : (ps : List Part) (i start end : ℕ) → start ≡ data_lens (take i ps) → end ≡ data_lens (take (i + 1) ps)
    → IfSome (slice_get ps i) (λ part. start + data_len part ≡ end)
place_sized ps i start end s e = rw (s, e, add-one i) (lens_at ps i)

pub place_long : (ps : List Part) (i start end : ℕ) → i < length ps → start ≡ data_lens (take i ps) → end ≡ data_lens (take (i + 1) ps) → start + 6 ≤ end
place_long ps i start end low s e = rw (s, e, add-one i) (lens_step ps i low)

pub place_within : (ps : List Part) (i end n : ℕ) → n ≡ data_lens ps → end ≡ data_lens (take (i + 1) ps) → end ≤ n
place_within ps i end n size e = rw (size, e) (lens_within ps (i + 1))

-- a configuration block of at most 2,000 bytes has at most 98 phasors
part_small : (p : Part) → IsPart p → data_len p ≤ 398
part_small p is =
    let phasors : (part_with p.base p.rate p.block).phasors ≡ p.phasors = ap (λ (q : Part). q.phasors) is.counts in
    let analogs : (part_with p.base p.rate p.block).analogs ≡ p.analogs = ap (λ (q : Part). q.analogs) is.counts in
    let digitals : (part_with p.base p.rate p.block).digitals ≡ p.digitals = ap (λ (q : Part). q.digitals) is.counts in
    omega (arith, is.block.size, is.block.bounded, phasors, analogs, digitals)

lens_next : (ps : List Part) (i : ℕ) (p : Part) → i < length ps → data_lens (take (suc i) ps) ≡ data_lens (take i ps) + data_len (get_or ps i p)
lens_next [] i d h = absurd (omega arith)
lens_next (p ∷ ps) zero d h = omega arith
lens_next (p ∷ ps) (suc i) d h = omega (arith, lens_next ps i d (omega arith))

lens_near : (config : Source) → IsSource config → (i : ℕ) → i < length config.parts
    → (p : Part) → data_lens (take (suc i) config.parts) ≤ data_lens (take i config.parts) + 398
lens_near config is i h p =
    omega (arith, lens_next config.parts i p h, part_small (get_or config.parts i p) (is.each i p h).0)

pub place_near : (config : Source) → IsSource config → (i start end : ℕ) → i < length config.parts
    → start ≡ data_lens (take i config.parts) → end ≡ data_lens (take (i + 1) config.parts) → end ≤ start + 398
place_near config is i start end h s e =
    let next : end ≡ data_lens (take (suc i) config.parts) = e ∙ ap (λ k. data_lens (take k config.parts)) (add-one i) in
    omega (arith, s, next, lens_near config is i h (record { base = 0; rate = pos 0; phasors = 0; analogs = 0; digitals = 0; block = [] }))
