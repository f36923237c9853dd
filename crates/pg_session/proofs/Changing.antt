-- A CFG-1 list after a change, key by key.
use Rattle.std.proofs.Common.{◌≡◌, ℕ, zero, suc, IsTrue, is_some, ◌+◌, ◌<◌, ◌&&◌, List, [], ◌∷◌, ◌++◌, length, map, drop, get_or, slice_get, Bool, true, false, not, if◌then◌else◌, option_map, Option, Some, None, IfSome, refl, sym, ap, ap₂, ◌∙◌, arith}
use Rattle.std.proofs.lemmas.List.{drop_more, length-map}
use Rattle.std.proofs.lemmas.Option.{slice_get-map, slice_get_read}
use Rattle.pg_wire.specs.declared.ids.PmuKey.{PmuKey}
use Rattle.pg_wire.specs.Keys.{key_eq}
use Rattle.pg_config.specs.Parts.{Part, Source, block_id}
use Rattle.pg_outcfg.specs.Listing.{Listing, config_at, with_config, without_config}
use Rattle.pg_outcfg.proofs.Places.{at-with, at-without}
use Rattle.pg_session.specs.Events.{Announcing, key_in, announced_part, announced_at}
use Rattle.pg_session.specs.Private.{put_all}
use Rattle.pg_session.specs.Shape.{same_config, same_at}

-- a key is its two numbers
pub key_made : {x y : PmuKey} → x.source ≡ y.source → x.pmu ≡ y.pmu → x ≡ y
key_made {x} {y} s p = ap₂ key_of s p where
  key_of : ℕ → ℕ → PmuKey
  key_of a b = record { source = a; pmu = b }

-- one configuration more that is put
part_put : (config : Source) (listed : Listing) (key x : PmuKey) (places : List ℕ) (part : Part) (o : Option Part) → o ≡ Some part
    → x.source ≡ config.source → IfSome o (λ p. x.pmu ≡ block_id p.block)
    → config_at (put_all listed (announced_part config o ++ announced_at config places)) key
    ≡ (if key_eq key x then Some part else config_at (put_all listed (announced_at config places)) key)
part_put config listed key x places part None e s p = absurd (cc e)
part_put config listed key x places part (Some q) e s p =
    let same : q ≡ part = cc e in
    at-with (put_all listed (announced_at config places)) (key_in config q) q key
    ∙ ap₂ (λ (k : PmuKey) (r : Part). if key_eq key k then Some r else config_at (put_all listed (announced_at config places)) key)
    (sym (key_made s p)) same

pub place_found : (config : Source) (listed : Listing) (key x : PmuKey) (places : List ℕ) (k : ℕ) (part : Part) → k < length places
    → slice_get config.parts (get_or places k 0) ≡ Some part → x.source ≡ config.source
    → IfSome (slice_get config.parts (get_or places k 0)) (λ p. x.pmu ≡ block_id p.block) → key_eq key x ≡ true
    → config_at (put_all listed (announced_at config (drop k places))) key ≡ Some part
place_found config listed key x places k part h e s p t =
    ap (λ ps. config_at (put_all listed (announced_at config ps)) key) (drop_more places k 0 h)
    ∙ part_put config listed key x (drop (k + 1) places) part (slice_get config.parts (get_or places k 0)) e s p
    ∙ ap (λ b. if b then Some part else config_at (put_all listed (announced_at config (drop (k + 1) places))) key) t

-- a configuration that was passed over
part_passed : (config : Source) (listed : Listing) (key x : PmuKey) (places : List ℕ) (o : Option Part)
    → x.source ≡ config.source → IfSome o (λ p. x.pmu ≡ block_id p.block) → key_eq key x ≡ false
    → config_at (put_all listed (announced_part config o ++ announced_at config places)) key ≡ config_at (put_all listed (announced_at config places)) key
part_passed config listed key x places None s p e = refl
part_passed config listed key x places (Some q) s p e =
    part_put config listed key x places q (Some q) refl s p
    ∙ ap (λ b. if b then Some q else config_at (put_all listed (announced_at config places)) key) e

pub place_passed : (config : Source) (listed : Listing) (key x : PmuKey) (places : List ℕ) (k : ℕ) → k < length places
    → x.source ≡ config.source → IfSome (slice_get config.parts (get_or places k 0)) (λ p. x.pmu ≡ block_id p.block) → key_eq key x ≡ false
    → config_at (put_all listed (announced_at config (drop k places))) key ≡ config_at (put_all listed (announced_at config (drop (k + 1) places))) key
place_passed config listed key x places k h s p e =
    ap (λ ps. config_at (put_all listed (announced_at config ps)) key) (drop_more places k 0 h)
    ∙ part_passed config listed key x (drop (k + 1) places) (slice_get config.parts (get_or places k 0)) s p e

-- the part that an index finds
pub part_there : {X : Type 0} (f : X → Part) (items : List X) (i : ℕ) (x : X) (parts : List Part) (y : Part) → map f items ≡ parts → i < length parts
    → x ≡ get_or items i x → y ≡ f x → slice_get parts i ≡ Some y
part_there f items i x parts y e l g v =
    let n : length items ≡ length parts = sym (length-map items f) ∙ ap length e in
    sym (ap (λ ps. slice_get ps i) e) ∙ slice_get-map f items i
    ∙ ap (option_map f) (slice_get_read items (length items) i x refl (omega (arith, n, l)) g) ∙ ap Some (sym v)

-- a configuration that was put, or taken out, by its key
pub at-put : (listed : Listing) (key changed : PmuKey) (part : Part) (b : Bool) → key_eq key changed ≡ b
    → config_at (with_config listed changed part) key ≡ (if b then Some part else config_at listed key)
at-put listed key changed part b e = at-with listed changed part key ∙ ap (λ x. if x then Some part else config_at listed key) e

pub at-removed : (listed : Listing) (key changed : PmuKey) (b : Bool) → key_eq key changed ≡ b
    → config_at (without_config listed changed) key ≡ (if b then None else config_at listed key)
at-removed listed key changed b e = at-without listed changed key ∙ ap (λ x. if x then None else config_at listed key) e

-- the keys of an announcement, one after another
part_key : (config : Source) (x : PmuKey) (places : List ℕ) (o : Option Part) → IsTrue (is_some o) → x.source ≡ config.source
    → IfSome o (λ p. x.pmu ≡ block_id p.block)
    → map (λ (a : Announcing). a.key) (announced_part config o ++ announced_at config places) ≡ x ∷ map (λ (a : Announcing). a.key) (announced_at config places)
part_key config x places None t s p = absurd (let e : false ≡ true = t in cc)
part_key config x places (Some q) t s p = ap (λ k. k ∷ map (λ (a : Announcing). a.key) (announced_at config places)) (sym (key_made s p))

some_part : (parts : List Part) (i : ℕ) → i < length parts → IsTrue (is_some (slice_get parts i))
some_part [] i h = absurd (omega arith)
some_part (p ∷ ps) zero h = refl
some_part (p ∷ ps) (suc i) h = some_part ps i (omega arith)

pub keys_next : (config : Source) (x : PmuKey) (places : List ℕ) (k : ℕ) → k < length places → get_or places k 0 < length config.parts
    → x.source ≡ config.source → IfSome (slice_get config.parts (get_or places k 0)) (λ p. x.pmu ≡ block_id p.block)
    → map (λ (a : Announcing). a.key) (announced_at config (drop k places)) ≡ x ∷ map (λ (a : Announcing). a.key) (announced_at config (drop (k + 1) places))
keys_next config x places k h l s p =
    ap (λ ps. map (λ (a : Announcing). a.key) (announced_at config ps)) (drop_more places k 0 h)
    ∙ part_key config x (drop (k + 1) places) (slice_get config.parts (get_or places k 0)) (some_part config.parts (get_or places k 0) l) s p

-- the first key differs, or is the same
differs_by : (b rest : Bool) → not b ≡ true → (b && rest) ≡ false
differs_by false rest h = refl
differs_by true rest h = absurd (cc h)

passes_by : (b rest : Bool) → not b ≡ false → (b && rest) ≡ rest
passes_by true rest h = refl
passes_by false rest h = absurd (cc h)

pub differs_first : (listed other : Listing) (key : PmuKey) (keys : List PmuKey) → not (same_config (config_at listed key) (config_at other key)) ≡ true
    → same_at listed other (key ∷ keys) ≡ false
differs_first listed other key keys h = differs_by (same_config (config_at listed key) (config_at other key)) (same_at listed other keys) h

pub passes_first : (listed other : Listing) (key : PmuKey) (keys : List PmuKey) → not (same_config (config_at listed key) (config_at other key)) ≡ false
    → same_at listed other (key ∷ keys) ≡ same_at listed other keys
passes_first listed other key keys h = passes_by (same_config (config_at listed key) (config_at other key)) (same_at listed other keys) h
