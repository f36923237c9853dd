-- The members that are missing, as far as they were counted.
use Rattle.std.proofs.Common.{◌≡◌, ℕ, zero, suc, ◌+◌, ◌<◌, ◌≤◌, Bool, true, false, ◌&&◌, ◌||◌, if◌then◌else◌, List, [], ◌∷◌, length, replicate, Option, None, is_some, refl, sym, ap, ◌∙◌, arith}
use Rattle.std.specs.Prelude.{not, slice_set, slice_index_or, ◌==◌}
use Rattle.pg_align.specs.Histories.{has_all}
use Rattle.pg_align.specs.Counts.{Past, left_for, came_late, LookBack, no_counts, counts_of, count_of, how_many, is_for, lacks, is_late_for, one_more, saturated, with_missing}
use Rattle.pg_align.specs.declared.counts.Cause.{Cause}
use Rattle.pg_align.specs.declared.counts.Cause.TheVariants.{Complete, Waited, Pushed, Changed}
use Rattle.std.proofs.lemmas.List.{length-replicate, length-set}
use Rattle.std.proofs.lemmas.Grind.{common_steps}

there_step : (wanted has rest : Bool) (n : ℕ) → ((has || not wanted) && rest) ≡ true → ((if wanted && not has then one_more n else n) ≡ n) × (rest ≡ true)
there_step true true true n e = (refl, refl)
there_step true true false n e = absurd (cc e)
there_step true false rest n e = absurd (cc e)
there_step false true true n e = (refl, refl)
there_step false true false n e = absurd (cc e)
there_step false false true n e = (refl, refl)
there_step false false false n e = absurd (cc e)

away_step : (wanted rest : Bool) (n : ℕ) → (not wanted && rest) ≡ true → ((if wanted then one_more n else n) ≡ n) × (rest ≡ true)
away_step true rest n e = absurd (cc e)
away_step false true n e = (refl, refl)
away_step false false n e = absurd (cc e)

no_filler : (wanted : Bool) (m : ℕ) (counts : List ℕ) → (if wanted && false then one_more m else m) ∷ counts ≡ m ∷ counts
no_filler true m counts = refl
no_filler false m counts = refl

module _ {X : Type 0} where
  -- the first i members are counted
  abbrev pub counted_to : ℕ → List Bool → List (Option X) → List ℕ → List ℕ
  counted_to zero effective parts counts = counts
  counted_to (suc i) [] parts counts = counts
  counted_to (suc i) (wanted ∷ effective) [] counts = counts
  counted_to (suc i) (wanted ∷ effective) (part ∷ parts) [] = []
  counted_to (suc i) (wanted ∷ effective) (part ∷ parts) (n ∷ counts) =
      (if wanted && not (is_some part) then one_more n else n) ∷ counted_to i effective parts counts

  -- one member more has a filler
  filled-suc : (i : ℕ) (effective : List Bool) (parts : List (Option X)) (counts : List ℕ) (x : Option X) → i < length effective → length parts ≡ length effective → length effective ≤ length counts
      → slice_index_or effective i false ≡ true → x ≡ slice_index_or parts i x → is_some x ≡ false
      → counted_to (suc i) effective parts counts ≡ slice_set (counted_to i effective parts counts) i (one_more (slice_index_or (counted_to i effective parts counts) i 0))
  filled-suc i [] parts counts x l e f w at n = absurd (omega (arith, l))
  filled-suc i (wanted ∷ effective) [] counts x l e f w at n = absurd (omega (arith, e))
  filled-suc i (wanted ∷ effective) (part ∷ parts) [] x l e f w at n = absurd (omega (arith, f))
  filled-suc zero (wanted ∷ effective) (part ∷ parts) (m ∷ counts) x l e f w at n =
      let none : is_some part ≡ false = ap is_some (sym at) ∙ n in
      rw (w, none)
  filled-suc (suc i) (wanted ∷ effective) (part ∷ parts) (m ∷ counts) x l e f w at n =
      ap (λ (ns : List ℕ). (if wanted && not (is_some part) then one_more m else m) ∷ ns) (filled-suc i effective parts counts x (omega (arith, l)) (omega (arith, e)) (omega (arith, f)) w at n)

  -- one member more is not effective
  unwanted-suc : (i : ℕ) (effective : List Bool) (parts : List (Option X)) (counts : List ℕ) → slice_index_or effective i false ≡ false
      → counted_to (suc i) effective parts counts ≡ counted_to i effective parts counts
  unwanted-suc zero [] parts counts w = refl
  unwanted-suc (suc i) [] parts counts w = refl
  unwanted-suc zero (wanted ∷ effective) [] counts w = refl
  unwanted-suc (suc i) (wanted ∷ effective) [] counts w = refl
  unwanted-suc zero (wanted ∷ effective) (part ∷ parts) [] w = refl
  unwanted-suc (suc i) (wanted ∷ effective) (part ∷ parts) [] w = refl
  unwanted-suc zero (wanted ∷ effective) (part ∷ parts) (m ∷ counts) w = rw w
  unwanted-suc (suc i) (wanted ∷ effective) (part ∷ parts) (m ∷ counts) w =
      ap (λ (ns : List ℕ). (if wanted && not (is_some part) then one_more m else m) ∷ ns) (unwanted-suc i effective parts counts w)

  -- one member more has come
  came-suc : (i : ℕ) (effective : List Bool) (parts : List (Option X)) (counts : List ℕ) (x : Option X) → i < length parts → x ≡ slice_index_or parts i x → is_some x ≡ true
      → counted_to (suc i) effective parts counts ≡ counted_to i effective parts counts
  came-suc zero [] parts counts x l at n = refl
  came-suc (suc i) [] parts counts x l at n = refl
  came-suc i (wanted ∷ effective) [] counts x l at n = absurd (omega (arith, l))
  came-suc zero (wanted ∷ effective) (part ∷ parts) [] x l at n = refl
  came-suc (suc i) (wanted ∷ effective) (part ∷ parts) [] x l at n = refl
  came-suc zero (wanted ∷ effective) (part ∷ parts) (m ∷ counts) x l at n =
      let some : is_some part ≡ true = ap is_some (sym at) ∙ n in
      rw some (no_filler wanted m counts)
  came-suc (suc i) (wanted ∷ effective) (part ∷ parts) (m ∷ counts) x l at n =
      ap (λ (ns : List ℕ). (if wanted && not (is_some part) then one_more m else m) ∷ ns) (came-suc i effective parts counts x (omega (arith, l)) at n)

  next : (i : ℕ) (effective : List Bool) (parts : List (Option X)) (counts : List ℕ) → counted_to (i + 1) effective parts counts ≡ counted_to (suc i) effective parts counts
  next i effective parts counts =
      let more : i + 1 ≡ suc i = omega arith in
      ap (λ (k : ℕ). counted_to k effective parts counts) more

  pub filled_more : (i : ℕ) (effective : List Bool) (parts : List (Option X)) (counts : List ℕ) (x : Option X) → i < length effective → length parts ≡ length effective → length effective ≤ length counts
      → slice_index_or effective i false ≡ true → x ≡ slice_index_or parts i x → is_some x ≡ false
      → counted_to (i + 1) effective parts counts ≡ slice_set (counted_to i effective parts counts) i (one_more (slice_index_or (counted_to i effective parts counts) i 0))
  filled_more i effective parts counts x l e f w at n = next i effective parts counts ∙ filled-suc i effective parts counts x l e f w at n

  pub unwanted_more : (i : ℕ) (effective : List Bool) (parts : List (Option X)) (counts : List ℕ) → slice_index_or effective i false ≡ false
      → counted_to (i + 1) effective parts counts ≡ counted_to i effective parts counts
  unwanted_more i effective parts counts w = next i effective parts counts ∙ unwanted-suc i effective parts counts w

  pub came_more : (i : ℕ) (effective : List Bool) (parts : List (Option X)) (counts : List ℕ) (x : Option X) → i < length parts → x ≡ slice_index_or parts i x → is_some x ≡ true
      → counted_to (i + 1) effective parts counts ≡ counted_to i effective parts counts
  came_more i effective parts counts x l at n = next i effective parts counts ∙ came-suc i effective parts counts x l at n

  -- all members are counted
  pub counted_all : (i : ℕ) (effective : List Bool) (parts : List (Option X)) (counts : List ℕ) → length effective ≤ i → length parts ≡ length effective → counted_to i effective parts counts ≡ with_missing effective parts counts
  counted_all zero [] parts counts l e = refl
  counted_all zero (wanted ∷ effective) parts counts l e = absurd (omega (arith, l))
  counted_all (suc i) [] parts counts l e = refl
  counted_all (suc i) (wanted ∷ effective) [] counts l e = absurd (omega (arith, e))
  counted_all (suc i) (wanted ∷ effective) (part ∷ parts) [] l e = refl
  counted_all (suc i) (wanted ∷ effective) (part ∷ parts) (n ∷ counts) l e =
      ap (λ (ns : List ℕ). (if wanted && not (is_some part) then one_more n else n) ∷ ns) (counted_all i effective parts counts (omega (arith, l)) (omega (arith, e)))

  -- where each effective member has a part, none is missing
  pub none_missing : (effective : List Bool) (parts : List (Option X)) (counts : List ℕ) → has_all effective parts ≡ true → with_missing effective parts counts ≡ counts
  none_missing [] parts counts e = refl
  none_missing (wanted ∷ effective) parts [] e = refl
  none_missing (wanted ∷ effective) [] (n ∷ counts) e =
      let here = away_step wanted (has_all {X = X} effective []) n e in
      rw (here.0, none_missing effective [] counts here.1)
  none_missing (wanted ∷ effective) (part ∷ parts) (n ∷ counts) e =
      let here = there_step wanted (is_some part) (has_all effective parts) n e in
      rw (here.0, none_missing effective parts counts here.1)

-- ---- looking back

raised_once : (b : Bool) (n k : ℕ) → k ≡ saturated n → (if b then one_more k else k) ≡ saturated (if b then suc n else n)
raised_once true n k e = omega (arith, e)
raised_once false n k e = e

none_at : (n place value : ℕ) → slice_index_or (replicate n value) place value ≡ value
none_at zero place value = refl
none_at (suc n) zero value = refl
none_at (suc n) (suc place) value = none_at n place value

none_for : (cause : Cause) → count_of cause no_counts ≡ 0
none_for Complete = refl
none_for Waited = refl
none_for Pushed = refl
none_for Changed = refl

absent_here : (wanted : Bool) (n : ℕ) → (if wanted then one_more n else n) ≡ (if wanted && true then one_more n else n)
absent_here true n = refl
absent_here false n = refl

set_at : (counts : List ℕ) (at place value : ℕ) → place < length counts → slice_index_or (slice_set counts at value) place 0 ≡ (if at == place then value else slice_index_or counts place 0)
set_at [] at place value l = absurd (omega (arith, l))
set_at (n ∷ counts) zero zero value l = refl
set_at (n ∷ counts) zero (suc place) value l = let other : (0 == suc place) ≡ false = grind (arith, common_steps) in rw other
set_at (n ∷ counts) (suc at) zero value l = let other : (suc at == 0) ≡ false = grind (arith, common_steps) in rw other
set_at (n ∷ counts) (suc at) (suc place) value l =
    let same : (suc at == suc place) ≡ (at == place) = grind (arith, common_steps) in
    rw same (set_at counts at place value (omega (arith, l)))

late_same : (at place : ℕ) (counts : List ℕ) (b : Bool) → (at == place) ≡ b → (if b then one_more (slice_index_or counts at 0) else slice_index_or counts place 0) ≡ (if b then one_more (slice_index_or counts place 0) else slice_index_or counts place 0)
late_same at place counts true e = let same : at ≡ place = grind (arith, common_steps) in ap (λ (k : ℕ). one_more (slice_index_or counts k 0)) same
late_same at place counts false e = refl

module _ {X : Type 0} where
  cause_step : (cause : Cause) (x : Past X) (past : List (Past X)) → count_of cause (counts_of (x ∷ past)) ≡ (if is_for cause x then one_more (count_of cause (counts_of past)) else count_of cause (counts_of past))
  cause_step Complete (came_late at) past = refl
  cause_step Waited (came_late at) past = refl
  cause_step Pushed (came_late at) past = refl
  cause_step Changed (came_late at) past = refl
  cause_step Complete (left_for Complete effective parts) past = refl
  cause_step Complete (left_for Waited effective parts) past = refl
  cause_step Complete (left_for Pushed effective parts) past = refl
  cause_step Complete (left_for Changed effective parts) past = refl
  cause_step Waited (left_for Complete effective parts) past = refl
  cause_step Waited (left_for Waited effective parts) past = refl
  cause_step Waited (left_for Pushed effective parts) past = refl
  cause_step Waited (left_for Changed effective parts) past = refl
  cause_step Pushed (left_for Complete effective parts) past = refl
  cause_step Pushed (left_for Waited effective parts) past = refl
  cause_step Pushed (left_for Pushed effective parts) past = refl
  cause_step Pushed (left_for Changed effective parts) past = refl
  cause_step Changed (left_for Complete effective parts) past = refl
  cause_step Changed (left_for Waited effective parts) past = refl
  cause_step Changed (left_for Pushed effective parts) past = refl
  cause_step Changed (left_for Changed effective parts) past = refl

  causes_back : (cause : Cause) (past : List (Past X)) → count_of cause (counts_of past) ≡ saturated (how_many (is_for cause) past)
  causes_back cause [] = none_for cause
  causes_back cause (x ∷ past) =
      cause_step cause x past ∙ raised_once (is_for cause x) (how_many (is_for cause) past) (count_of cause (counts_of past)) (causes_back cause past)

  missing_length : (effective : List Bool) (parts : List (Option X)) (counts : List ℕ) → length (with_missing effective parts counts) ≡ length counts
  missing_length [] parts counts = refl
  missing_length (wanted ∷ effective) parts [] = refl
  missing_length (wanted ∷ effective) [] (n ∷ counts) = ap suc (missing_length effective [] counts)
  missing_length (wanted ∷ effective) (part ∷ parts) (n ∷ counts) = ap suc (missing_length effective parts counts)

  missing_at : (effective : List Bool) (parts : List (Option X)) (counts : List ℕ) (place : ℕ) → place < length counts
      → slice_index_or (with_missing effective parts counts) place 0
      ≡ (if slice_index_or effective place false && not (is_some (slice_index_or parts place None)) then one_more (slice_index_or counts place 0) else slice_index_or counts place 0)
  missing_at [] parts counts place l = refl
  missing_at (wanted ∷ effective) parts [] place l = absurd (omega (arith, l))
  missing_at (wanted ∷ effective) [] (n ∷ counts) zero l = absent_here wanted n
  missing_at (wanted ∷ effective) [] (n ∷ counts) (suc place) l = missing_at effective [] counts place (omega (arith, l))
  missing_at (wanted ∷ effective) (part ∷ parts) (n ∷ counts) zero l = refl
  missing_at (wanted ∷ effective) (part ∷ parts) (n ∷ counts) (suc place) l = missing_at effective parts counts place (omega (arith, l))

  all_missing : (past : List (Past X)) → length (counts_of past).missing ≡ 32
  all_missing [] = length-replicate {A = ℕ} 32 0
  all_missing (left_for cause effective parts ∷ past) = missing_length effective parts (counts_of past).missing ∙ all_missing past
  all_missing (came_late at ∷ past) = all_missing past

  missing_back : (place : ℕ) (past : List (Past X)) → place < 32 → slice_index_or (counts_of past).missing place 0 ≡ saturated (how_many (lacks place) past)
  missing_back place [] l = none_at 32 place 0
  missing_back place (left_for cause effective parts ∷ past) l =
      missing_at effective parts (counts_of past).missing place (omega (arith, l, all_missing past))
      ∙ raised_once (lacks place (left_for cause effective parts)) (how_many (lacks place) past) (slice_index_or (counts_of past).missing place 0) (missing_back place past l)
  missing_back place (came_late at ∷ past) l = missing_back place past l

  all_late : (past : List (Past X)) → length (counts_of past).late ≡ 32
  all_late [] = length-replicate {A = ℕ} 32 0
  all_late (left_for Complete effective parts ∷ past) = all_late past
  all_late (left_for Waited effective parts ∷ past) = all_late past
  all_late (left_for Pushed effective parts ∷ past) = all_late past
  all_late (left_for Changed effective parts ∷ past) = all_late past
  all_late (came_late at ∷ past) = length-set (counts_of past).late at (one_more (slice_index_or (counts_of past).late at 0)) ∙ all_late past

  late_back : (place : ℕ) (past : List (Past X)) → place < 32 → slice_index_or (counts_of past).late place 0 ≡ saturated (how_many (is_late_for place) past)
  late_back place [] l = none_at 32 place 0
  late_back place (left_for Complete effective parts ∷ past) l = late_back place past l
  late_back place (left_for Waited effective parts ∷ past) l = late_back place past l
  late_back place (left_for Pushed effective parts ∷ past) l = late_back place past l
  late_back place (left_for Changed effective parts ∷ past) l = late_back place past l
  late_back place (came_late at ∷ past) l =
      set_at (counts_of past).late at place (one_more (slice_index_or (counts_of past).late at 0)) (omega (arith, l, all_late past))
      ∙ late_same at place (counts_of past).late (at == place) refl
      ∙ raised_once (at == place) (how_many (is_late_for place) past) (slice_index_or (counts_of past).late place 0) (late_back place past l)

  pub look_back : LookBack X
  look_back = record { causes = causes_back; missing = missing_back; late = late_back }
