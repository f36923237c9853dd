-- Which blocks are taken, place by place.
use Rattle.std.proofs.Common.{◌≡◌, ℕ, zero, suc, ◌+◌, ◌<◌, ◌≤◌, ◌&&◌, Bool, true, false, not, if◌then◌else◌, is_some, List, [], ◌∷◌, ◌++◌, length, map, filter, Option, Some, None, refl, sym, ap, subst, ◌∙◌, arith, add-one}
use Rattle.std.specs.Prelude.{slice_get, IfSome}
use Rattle.std.specs.List.{range_with_len}
use Rattle.std.proofs.lemmas.List.{append-nil}
use Rattle.std.proofs.lemmas.List.Elements.{filter-append}
use Rattle.std.proofs.lemmas.Grind.{flat_map-append}
use Rattle.pg_wire.specs.declared.refusal.Refusal.{Refusal}
use Rattle.pg_wire.specs.declared.ids.PmuKey.{PmuKey}
use Rattle.pg_config.specs.Parts.{Part, Source, block_id}
use Rattle.pg_data.specs.Measurements.{Measurement, block_of}
use Rattle.pg_registry.specs.Registered.{Pmus, has_key, config_in, place_in}
use Rattle.pg_session.specs.Events.{Sample, announced_part, announced_at, sampled_part, samples_at, key_in}
use Rattle.pg_session.specs.Ready.{AreRising}
use Rattle.pg_gateway.specs.Judging.{block_refusal, sample_refusal, is_taken}
use Rattle.pg_gateway.specs.Taking.{part_passes}
use Rattle.pg_gateway.specs.Placing.{JudgesPart, Judges, ArePlaced, block_judged, place_taken, place_where}
use Rattle.pg_gateway.proofs.Places.{part_there}

range_more : (a n : ℕ) → range_with_len a (suc n) ≡ range_with_len a n ++ (a + n) ∷ []
range_more a zero = let same : a ≡ a + 0 = omega arith in ap (λ k. k ∷ []) same
range_more a (suc n) =
    let same : a + 1 + n ≡ a + suc n = omega arith in
    ap (λ l. a ∷ l) (range_more (a + 1) n ∙ ap (λ k. range_with_len (a + 1) n ++ k ∷ []) same)

range_next : (n : ℕ) → range_with_len 0 (n + 1) ≡ range_with_len 0 n ++ n ∷ []
range_next n = let zero_plus : 0 + n ≡ n = omega arith in ap (range_with_len 0) (add-one n) ∙ range_more 0 n ∙ ap (λ k. range_with_len 0 n ++ k ∷ []) zero_plus

module _ (m : Measurement) where
  sample_of : ℕ → Part → Sample
  sample_of place part = record { key = key_in m.config part; config = part; block = block_of m place }

  samples-push : (ps : List ℕ) (place : ℕ) (part : Part) → slice_get m.config.parts place ≡ Some part
      → samples_at m (ps ++ place ∷ []) ≡ samples_at m ps ++ record { key = key_in m.config part; config = part; block = block_of m place } ∷ []
  samples-push ps place part at =
      flat_map-append (λ i. sampled_part m i (slice_get m.config.parts i)) ps (place ∷ [])
      ∙ ap (λ o. samples_at m ps ++ (sampled_part m place o ++ [])) at

announced-push : (config : Source) (ps : List ℕ) (place : ℕ) (part : Part) → slice_get config.parts place ≡ Some part
    → announced_at config (ps ++ place ∷ []) ≡ announced_at config ps ++ record { key = key_in config part; config = part } ∷ []
announced-push config ps place part at =
    flat_map-append (λ i. announced_part config (slice_get config.parts i)) ps (place ∷ [])
    ∙ ap (λ o. announced_at config ps ++ (announced_part config o ++ [])) at

-- one more at the end
filter-one : {X : Type 0} (test : X → Bool) (xs : List X) (x : X) (b : Bool) → test x ≡ b → filter test (xs ++ x ∷ []) ≡ filter test xs ++ (if b then x ∷ [] else [])
filter-one test xs x b is = filter-append test xs (x ∷ []) ∙ ap (λ c. filter test xs ++ (if c then x ∷ [] else [])) is

map-append : {X Y : Type 0} (f : X → Y) (xs ys : List X) → map f (xs ++ ys) ≡ map f xs ++ map f ys
map-append f [] ys = refl
map-append f (x ∷ xs) ys = ap (λ l. f x ∷ l) (map-append f xs ys)

placed-push : (pmus : Pmus) (ps : List (ℕ × Option Refusal)) (bs : List (PmuKey × Option Refusal)) (p : ℕ × Option Refusal) (b : PmuKey × Option Refusal)
    → ArePlaced pmus ps bs → place_in pmus b.0 ≡ Some p.0 → p.0 < length pmus → p.1 ≡ b.1 → ArePlaced pmus (ps ++ p ∷ []) (bs ++ b ∷ [])
placed-push pmus [] [] p b placed at within same = (at, within, same, tt)
placed-push pmus [] (c ∷ bs) p b placed at within same = absurd placed
placed-push pmus (q ∷ ps) [] p b placed at within same = absurd placed
placed-push pmus (q ∷ ps) (c ∷ bs) p b placed at within same = (placed.0, placed.1, placed.2, placed-push pmus ps bs p b placed.3 at within same)

pub rising-push : (least i : ℕ) (ps : List ℕ) → least ≤ i → AreRising least i ps → AreRising least (i + 1) (ps ++ i ∷ [])
rising-push least i [] le rising = (le, omega arith, tt)
rising-push least i (p ∷ ps) le rising = let below = rising.1 in (rising.0, omega arith, rising-push (suc p) i ps (omega arith) rising.2)

pub rising-more : (least i : ℕ) (ps : List ℕ) → AreRising least i ps → AreRising least (i + 1) ps
rising-more least i [] rising = tt
rising-more least i (p ∷ ps) rising = let below = rising.1 in (rising.0, omega arith, rising-more (suc p) i ps rising.2)

module _ (pmus : Pmus) (last : Option ℕ) (m : Measurement) where
  abbrev pub judged_to : ℕ → List (PmuKey × Option Refusal)
  judged_to n = map (λ s. (s.key, sample_refusal pmus last m.soc s)) (filter (λ s. has_key pmus s.key) (samples_at m (range_with_len 0 n)))

  abbrev pub taken_to : ℕ → List Sample
  taken_to n = filter (is_taken pmus last m.soc) (samples_at m (range_with_len 0 n))

  all_more : (n : ℕ) (part : Part) → slice_get m.config.parts n ≡ Some part
      → samples_at m (range_with_len 0 (n + 1)) ≡ samples_at m (range_with_len 0 n) ++ record { key = key_in m.config part; config = part; block = block_of m n } ∷ []
  all_more n part at = ap (samples_at m) (range_next n) ∙ samples-push m (range_with_len 0 n) n part at

  -- one block more
  pub judged_step : (n : ℕ) (blocks : List (ℕ × Option Refusal)) (judged : Option (ℕ × Option Refusal)) → n < length m.config.parts → Judges pmus last m.config m.soc n judged
      → ArePlaced pmus blocks (judged_to n) → ArePlaced pmus (blocks ++ block_judged judged) (judged_to (n + 1))
  judged_step n blocks judged lt judges placed =
      let there = part_there m.config.parts n lt in
      subst (λ l. ArePlaced pmus (blocks ++ block_judged judged) (map (λ s. (s.key, sample_refusal pmus last m.soc s)) (filter (λ s. has_key pmus s.key) l)))
      (sym (all_more n there.0 there.1))
      (by there.0 judged (subst (λ o. IfSome o (λ part. JudgesPart pmus last m.config m.soc part judged)) there.1 judges))
    where
      sample : Part → Sample
      sample part = record { key = key_in m.config part; config = part; block = block_of m n }

      by : (part : Part) (j : Option (ℕ × Option Refusal)) → JudgesPart pmus last m.config m.soc part j
          → ArePlaced pmus (blocks ++ block_judged j) (map (λ s. (s.key, sample_refusal pmus last m.soc s)) (filter (λ s. has_key pmus s.key) (samples_at m (range_with_len 0 n) ++ record { key = key_in m.config part; config = part; block = block_of m n } ∷ [])))
      by part None none =
          rw (append-nil blocks, filter-one (λ s. has_key pmus s.key) (samples_at m (range_with_len 0 n)) (record { key = key_in m.config part; config = part; block = block_of m n }) false none, append-nil (filter (λ s. has_key pmus s.key) (samples_at m (range_with_len 0 n)))) placed
      by part (Some j) judges =
          rw (filter-one (λ s. has_key pmus s.key) (samples_at m (range_with_len 0 n)) (record { key = key_in m.config part; config = part; block = block_of m n }) true judges.0, map-append {Y = PmuKey × Option Refusal} (λ s. (s.key, sample_refusal pmus last m.soc s)) (filter (λ s. has_key pmus s.key) (samples_at m (range_with_len 0 n))) (record { key = key_in m.config part; config = part; block = block_of m n } ∷ []))
          (placed-push pmus blocks (judged_to n) j (key_in m.config part, block_refusal (config_in pmus (key_in m.config part)) last m.soc part) placed judges.1 judges.2 judges.3)

  pub taken_step : (n : ℕ) (taken : List ℕ) (judged : Option (ℕ × Option Refusal)) → n < length m.config.parts → Judges pmus last m.config m.soc n judged
      → samples_at m taken ≡ taken_to n → samples_at m (taken ++ place_taken judged n) ≡ taken_to (n + 1)
  taken_step n taken judged lt judges same =
      let there = part_there m.config.parts n lt in
      by there.0 there.1 judged (subst (λ o. IfSome o (λ part. JudgesPart pmus last m.config m.soc part judged)) there.1 judges)
      ∙ ap (filter (is_taken pmus last m.soc)) (sym (all_more n there.0 there.1))
    where
      rest : (part : Part) (b : Bool) → (has_key pmus (key_in m.config part) && not (is_some (block_refusal (config_in pmus (key_in m.config part)) last m.soc part))) ≡ b
          → taken_to n ++ (if b then record { key = key_in m.config part; config = part; block = block_of m n } ∷ [] else [])
          ≡ filter (is_taken pmus last m.soc) (samples_at m (range_with_len 0 n) ++ record { key = key_in m.config part; config = part; block = block_of m n } ∷ [])
      rest part b is = sym (filter-one (is_taken pmus last m.soc) (samples_at m (range_with_len 0 n)) (record { key = key_in m.config part; config = part; block = block_of m n }) b is)

      one : (part : Part) (r : Option Refusal) → slice_get m.config.parts n ≡ Some part → has_key pmus (key_in m.config part) ≡ true → r ≡ block_refusal (config_in pmus (key_in m.config part)) last m.soc part
          → samples_at m (taken ++ place_where r n) ≡ filter (is_taken pmus last m.soc) (samples_at m (range_with_len 0 n) ++ record { key = key_in m.config part; config = part; block = block_of m n } ∷ [])
      one part None at here is =
          samples-push m taken n part at ∙ ap (λ l. l ++ record { key = key_in m.config part; config = part; block = block_of m n } ∷ []) same
          ∙ rest part true (ap (λ b. b && not (is_some (block_refusal (config_in pmus (key_in m.config part)) last m.soc part))) here ∙ ap (λ o. not (is_some o)) (sym is))
      one part (Some r) at here is =
          ap (samples_at m) (append-nil taken) ∙ same ∙ sym (append-nil (taken_to n))
          ∙ rest part false (ap (λ b. b && not (is_some (block_refusal (config_in pmus (key_in m.config part)) last m.soc part))) here ∙ ap (λ o. not (is_some o)) (sym is))

      by : (part : Part) → slice_get m.config.parts n ≡ Some part → (j : Option (ℕ × Option Refusal)) → JudgesPart pmus last m.config m.soc part j
          → samples_at m (taken ++ place_taken j n) ≡ filter (is_taken pmus last m.soc) (samples_at m (range_with_len 0 n) ++ record { key = key_in m.config part; config = part; block = block_of m n } ∷ [])
      by part at None none =
          ap (samples_at m) (append-nil taken) ∙ same ∙ sym (append-nil (taken_to n))
          ∙ rest part false (ap (λ b. b && not (is_some (block_refusal (config_in pmus (key_in m.config part)) last m.soc part))) none)
      by part at (Some j) judges = one part j.1 at judges.0 judges.3

  pub taken_rising : (n : ℕ) (taken : List ℕ) (judged : Option (ℕ × Option Refusal)) → AreRising 0 n taken → AreRising 0 (n + 1) (taken ++ place_taken judged n)
  taken_rising n taken judged rising = by judged
    where
      at : (r : Option Refusal) → AreRising 0 (n + 1) (taken ++ place_where r n)
      at None = rising-push 0 n taken (omega arith) rising
      at (Some r) = rw (append-nil taken) (rising-more 0 n taken rising)

      by : (j : Option (ℕ × Option Refusal)) → AreRising 0 (n + 1) (taken ++ place_taken j n)
      by None = rw (append-nil taken) (rising-more 0 n taken rising)
      by (Some j) = at j.1

-- one PMU of a configuration more
pub registered_step : (pmus : Pmus) (config : Source) (n : ℕ) (places : List ℕ) (b : Bool) → n < length config.parts → b ≡ part_passes (has_key pmus) config (slice_get config.parts n)
    → announced_at config places ≡ filter (λ a. has_key pmus a.key) (announced_at config (range_with_len 0 n))
    → announced_at config (places ++ (if b then n ∷ [] else [])) ≡ filter (λ a. has_key pmus a.key) (announced_at config (range_with_len 0 (n + 1)))
registered_step pmus config n places b lt is same =
    let there = part_there config.parts n lt in
    by there.0 there.1 b (is ∙ ap (part_passes (has_key pmus) config) there.1)
    ∙ ap (filter (λ a. has_key pmus a.key)) (sym (ap (announced_at config) (range_next n) ∙ announced-push config (range_with_len 0 n) n there.0 there.1))
  where
    by : (part : Part) → slice_get config.parts n ≡ Some part → (b : Bool) → b ≡ has_key pmus (key_in config part)
        → announced_at config (places ++ (if b then n ∷ [] else [])) ≡ filter (λ a. has_key pmus a.key) (announced_at config (range_with_len 0 n) ++ record { key = key_in config part; config = part } ∷ [])
    by part at true is =
        announced-push config places n part at ∙ ap (λ l. l ++ record { key = key_in config part; config = part } ∷ []) same
        ∙ sym (filter-one (λ a. has_key pmus a.key) (announced_at config (range_with_len 0 n)) (record { key = key_in config part; config = part }) true (sym is))
    by part at false is =
        ap (announced_at config) (append-nil places) ∙ same ∙ sym (append-nil (filter (λ a. has_key pmus a.key) (announced_at config (range_with_len 0 n))))
        ∙ sym (filter-one (λ a. has_key pmus a.key) (announced_at config (range_with_len 0 n)) (record { key = key_in config part; config = part }) false (sym is))

-- the key of a source's PMU
pub key_is : (config : Source) (place : ℕ) (part : Part) (key : PmuKey) → slice_get config.parts place ≡ Some part → key.source ≡ config.source
    → IfSome (slice_get config.parts place) (λ p. key.pmu ≡ block_id p.block) → key ≡ key_in config part
key_is config place part key at source pmu = fields key.source key.pmu config.source (block_id part.block) source (subst (λ o. IfSome o (λ p. key.pmu ≡ block_id p.block)) at pmu)
  where
    fields : (a b c d : ℕ) → a ≡ c → b ≡ d → ◌≡◌ {A = PmuKey} (record { source = a; pmu = b }) (record { source = c; pmu = d })
    fields a b c d first second = cc

pub for_part : (P : Part → Type 0) (parts : List Part) (place : ℕ) → place < length parts → ((part : Part) → slice_get parts place ≡ Some part → P part) → IfSome (slice_get parts place) P
for_part P parts place lt f = let there = part_there parts place lt in subst (λ o. IfSome o P) (sym there.1) (f there.0 there.1)

pub some_same : (a b : Part) → Some a ≡ Some b → a ≡ b
some_same a b e = cc

pub kept_rising : (n : ℕ) (places : List ℕ) (b : Bool) → AreRising 0 n places → AreRising 0 (n + 1) (places ++ (if b then n ∷ [] else []))
kept_rising n places true rising = rising-push 0 n places (omega arith) rising
kept_rising n places false rising = rw (append-nil places) (rising-more 0 n places rising)
