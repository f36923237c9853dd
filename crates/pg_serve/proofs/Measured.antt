-- Two measurements that differ in blocks which a subscriber is not granted are the same to it.
use Rattle.std.proofs.Common.{◌≡◌, ℕ, ◌==◌, ◌&&◌, Bool, true, false, not, is_some, if◌then◌else◌, List, [], ◌∷◌, ◌++◌, length, map, filter, Option, Some, None, slice_get, refl, sym, ap, ap₂, ◌∙◌, subst}
use Rattle.std.specs.List.{range_with_len}
use Rattle.pg_wire.specs.declared.refusal.Refusal.{Refusal}
use Rattle.pg_wire.specs.declared.ids.PmuKey.{PmuKey}
use Rattle.pg_wire.specs.Number.{number_of}
use Rattle.pg_config.specs.Parts.{Part}
use Rattle.pg_data.specs.Measurements.{Measurement, block_of}
use Rattle.pg_registry.specs.Registered.{Pmus, has_key, config_in}
use Rattle.pg_session.specs.Events.{Sample, key_in, sampled_part, samples_at}
use Rattle.pg_session.specs.Shown.{Model}
use Rattle.pg_gateway.specs.GatewayEvents.{measure, Answer, tells}
use Rattle.pg_gateway.specs.Judging.{samples_in, block_refusal, blocks_counted, memory_counted}
use Rattle.pg_gateway.specs.Sharing.{measures, some_measured}
use Rattle.pg_gateway.specs.State.{SharedMachine, own_of, refusal, measure_refusal, judged_in, taken_in, to_all, unless, Target, reached_answer, frames_reached, next}
use Rattle.pg_gateway.specs.Views.{full_by, full_answer, shared_step, private_run, as_seen, part_of, part}
use Rattle.pg_gateway.specs.Laws.{granted_blocks}
use Rattle.pg_gateway.proofs.SlotLaws.{Alone}
use Rattle.pg_gateway.proofs.ViewLaws.{own-step, Alone-next}
use Rattle.pg_serve.specs.Framed.{is_granted}
use Rattle.pg_serve.proofs.Neighbours.{Alike, kept_tick, step_alike}

-- ---- samples

-- samples of the same PMUs by the same configurations, with the same blocks where these are granted
abbrev pub SamplesAlike : (PmuKey → Bool) → List Sample → List Sample → Type 0
SamplesAlike granted [] [] = Unit {0}
SamplesAlike granted [] (y ∷ ys) = ⊥
SamplesAlike granted (x ∷ xs) [] = ⊥
SamplesAlike granted (x ∷ xs) (y ∷ ys) =
    (x.key ≡ y.key) × (x.config ≡ y.config) × (granted x.key ≡ true → x.block ≡ y.block) × SamplesAlike granted xs ys

same_sample : (x y : Sample) → x.key ≡ y.key → x.config ≡ y.config → x.block ≡ y.block → x ≡ y
same_sample x y key config block =
    ap (λ k. record { key = k; config = x.config; block = x.block }) key
    ∙ ap (λ c. record { key = y.key; config = c; block = x.block }) config
    ∙ ap (λ b. record { key = y.key; config = y.config; block = b }) block

abbrev chosen : (PmuKey → Part → Bool) → List Sample → List Sample
chosen t xs = filter (λ s. t s.key s.config) xs

same_granted : (granted : PmuKey → Bool) (t : PmuKey → Part → Bool) (xs ys : List Sample) → SamplesAlike granted xs ys
    → filter (λ s. granted s.key) (chosen t xs) ≡ filter (λ s. granted s.key) (chosen t ys)
same_granted granted t [] [] h = refl
same_granted granted t [] (y ∷ ys) h = absurd h
same_granted granted t (x ∷ xs) [] h = absurd h
same_granted granted t (x ∷ xs) (y ∷ ys) h =
    by (t x.key x.config) (t y.key y.config) (ap₂ t h.0 h.1) (same_granted granted t xs ys h.3)
  where
    g : List Sample → List Sample
    g zs = filter (λ s. granted s.key) zs

    held : (b c : Bool) → granted x.key ≡ b → b ≡ c → g (chosen t xs) ≡ g (chosen t ys)
        → (if b then x ∷ g (chosen t xs) else g (chosen t xs)) ≡ (if c then y ∷ g (chosen t ys) else g (chosen t ys))
    held true true is e rest = ap₂ (λ s zs. s ∷ zs) (same_sample x y h.0 h.1 (h.2 is)) rest
    held false false is e rest = rest
    held true false is e rest = absurd (cc)
    held false true is e rest = absurd (cc)

    by : (b c : Bool) → b ≡ c → g (chosen t xs) ≡ g (chosen t ys)
        → filter (λ s. granted s.key) (if b then x ∷ chosen t xs else chosen t xs) ≡ filter (λ s. granted s.key) (if c then y ∷ chosen t ys else chosen t ys)
    by true true e rest = held (granted x.key) (granted y.key) refl (ap granted h.0) rest
    by false false e rest = rest
    by true false e rest = absurd (cc)
    by false true e rest = absurd (cc)

abbrev judged_so : (PmuKey → Part → Option Refusal) → List Sample → List (PmuKey × Option Refusal)
judged_so f xs = map (λ s. (s.key, f s.key s.config)) xs

same_judged : (granted : PmuKey → Bool) (t : PmuKey → Bool) (f : PmuKey → Part → Option Refusal) (xs ys : List Sample) → SamplesAlike granted xs ys
    → judged_so f (filter (λ s. t s.key) xs) ≡ judged_so f (filter (λ s. t s.key) ys)
same_judged granted t f [] [] h = refl
same_judged granted t f [] (y ∷ ys) h = absurd h
same_judged granted t f (x ∷ xs) [] h = absurd h
same_judged granted t f (x ∷ xs) (y ∷ ys) h =
    by (t x.key) (t y.key) (ap t h.0) (same_judged granted t f xs ys h.3)
  where
    one : PmuKey → Part → PmuKey × Option Refusal
    one key config = (key, f key config)

    by : (b c : Bool) → b ≡ c → judged_so f (filter (λ s. t s.key) xs) ≡ judged_so f (filter (λ s. t s.key) ys)
        → judged_so f (if b then x ∷ filter (λ s. t s.key) xs else filter (λ s. t s.key) xs)
        ≡ judged_so f (if c then y ∷ filter (λ s. t s.key) ys else filter (λ s. t s.key) ys)
    by true true e rest = ap₂ (λ a l. a ∷ l) (ap₂ one h.0 h.1) rest
    by false false e rest = rest
    by true false e rest = absurd (cc)
    by false true e rest = absurd (cc)

same_refusal : (granted : PmuKey → Bool) (t : PmuKey → Part → Bool) (blocks : List (PmuKey × Option Refusal)) (xs ys : List Sample) → SamplesAlike granted xs ys
    → measure_refusal blocks (chosen t xs) ≡ measure_refusal blocks (chosen t ys)
same_refusal granted t blocks [] [] h = refl
same_refusal granted t blocks [] (y ∷ ys) h = absurd h
same_refusal granted t blocks (x ∷ xs) [] h = absurd h
same_refusal granted t blocks (x ∷ xs) (y ∷ ys) h =
    by (t x.key x.config) (t y.key y.config) (ap₂ t h.0 h.1) (same_refusal granted t blocks xs ys h.3)
  where
    by : (b c : Bool) → b ≡ c → measure_refusal blocks (chosen t xs) ≡ measure_refusal blocks (chosen t ys)
        → measure_refusal blocks (if b then x ∷ chosen t xs else chosen t xs) ≡ measure_refusal blocks (if c then y ∷ chosen t ys else chosen t ys)
    by true true e rest = refl
    by false false e rest = rest
    by true false e rest = absurd (cc)
    by false true e rest = absurd (cc)

-- the same measurement with another body
abbrev pub with_body : Measurement → List ℕ → Measurement
with_body m body = record m { body = body }

places_alike : (granted : PmuKey → Bool) (m : Measurement) (body places : List ℕ)
    → ((i : ℕ) (part : Part) → slice_get m.config.parts i ≡ Some part → granted (key_in m.config part) ≡ true → block_of m i ≡ block_of (with_body m body) i)
    → SamplesAlike granted (samples_at m places) (samples_at (with_body m body) places)
places_alike granted m body [] blocks = tt
places_alike granted m body (i ∷ places) blocks = by (slice_get m.config.parts i) refl (places_alike granted m body places blocks)
  where
    by : (o : Option Part) → slice_get m.config.parts i ≡ o → SamplesAlike granted (samples_at m places) (samples_at (with_body m body) places)
        → SamplesAlike granted (sampled_part m i o ++ samples_at m places) (sampled_part (with_body m body) i o ++ samples_at (with_body m body) places)
    by None is rest = rest
    by (Some part) is rest = (refl, refl, blocks i part is, rest)

pub samples_alike : (granted : PmuKey → Bool) (m : Measurement) (body : List ℕ)
    → ((i : ℕ) (part : Part) → slice_get m.config.parts i ≡ Some part → granted (key_in m.config part) ≡ true → block_of m i ≡ block_of (with_body m body) i)
    → SamplesAlike granted (samples_in m) (samples_in (with_body m body))
samples_alike granted m body blocks = places_alike granted m body (range_with_len 0 (length m.config.parts)) blocks

-- ---- one state

taken_alike : (own : Option Model) (S : SharedMachine) (m : Measurement) (body : List ℕ) → SamplesAlike (is_granted own) (samples_in m) (samples_in (with_body m body))
    → granted_blocks own (taken_in S m) ≡ granted_blocks own (taken_in S (with_body m body))
taken_alike None S m body h = refl
taken_alike (Some p) S m body h =
    same_granted (is_granted (Some p)) (λ key config. has_key S.pmus key && not (is_some (block_refusal (config_in S.pmus key) S.last_tick m.soc config)))
    (samples_in m) (samples_in (with_body m body)) h

judged_alike : (granted : PmuKey → Bool) (S : SharedMachine) (m : Measurement) (body : List ℕ) → SamplesAlike granted (samples_in m) (samples_in (with_body m body))
    → judged_in S m ≡ judged_in S (with_body m body)
judged_alike granted S m body h =
    same_judged granted (has_key S.pmus) (λ key config. block_refusal (config_in S.pmus key) S.last_tick m.soc config) (samples_in m) (samples_in (with_body m body)) h

refusal_alike : (granted : PmuKey → Bool) (S : SharedMachine) (m : Measurement) (body : List ℕ) → SamplesAlike granted (samples_in m) (samples_in (with_body m body))
    → refusal S (measure m) ≡ refusal S (measure (with_body m body))
refusal_alike granted S m body h =
    ap (λ blocks. measure_refusal blocks (taken_in S m)) (judged_alike granted S m body h)
    ∙ same_refusal granted (λ key config. has_key S.pmus key && not (is_some (block_refusal (config_in S.pmus key) S.last_tick m.soc config)))
    (judged_in S (with_body m body)) (samples_in m) (samples_in (with_body m body)) h

abbrev pmus_by : Pmus → List (PmuKey × Option Refusal) → Option Refusal → Pmus
pmus_by pmus blocks None = blocks_counted pmus blocks
pmus_by pmus blocks (Some r) = if number_of r == 1 then memory_counted pmus (map (λ b. b.0) blocks) else blocks_counted pmus blocks

counted : (S : SharedMachine) (m : Measurement) → (shared_step S (measure m)).pmus ≡ pmus_by S.pmus (judged_in S m) (refusal S (measure m))
counted S m = by (refusal S (measure m))
  where
    to : Target
    to = to_all (measures m.soc m.quality m.frac (taken_in S m))

    answer_by : Option Refusal → Answer
    answer_by r = full_by r (tells (reached_answer (unless r to) S.subs (frames_reached (unless r to) S.subs)))

    by : (r : Option Refusal) → (next S (measure m) (answer_by r)).pmus ≡ pmus_by S.pmus (judged_in S m) r
    by None = refl
    by (Some r) = refl

seen_by : (u : ℕ) (own : Option Model) (r : Option Refusal) (soc quality frac : ℕ) (xs ys : List Sample) → granted_blocks own xs ≡ granted_blocks own ys
    → part_of u own (unless r (to_all (measures soc quality frac xs))) ≡ part_of u own (unless r (to_all (measures soc quality frac ys)))
seen_by u own (Some r) soc quality frac xs ys same = refl
seen_by u None None soc quality frac xs ys same = refl
seen_by u (Some p) None soc quality frac xs ys same = ap (λ l. as_seen (some_measured soc quality frac l)) same

measured_once : (u : ℕ) (S : SharedMachine) (m : Measurement) (body : List ℕ) → Alone S.subs → SamplesAlike (is_granted (own_of u S)) (samples_in m) (samples_in (with_body m body))
    → Alike u (shared_step S (measure m)) (shared_step S (measure (with_body m body))) × (part u S (measure m) ≡ part u S (measure (with_body m body)))
measured_once u S m body alone h =
    let n = with_body m body in
    let granted = is_granted (own_of u S) in
    let refused = refusal_alike granted S m body h in
    let seen : part u S (measure m) ≡ part u S (measure n) =
    seen_by u (own_of u S) (refusal S (measure m)) m.soc m.quality m.frac (taken_in S m) (taken_in S n) (taken_alike (own_of u S) S m body h)
    ∙ ap (λ r. part_of u (own_of u S) (unless r (to_all (measures m.soc m.quality m.frac (taken_in S n))))) refused in (
      record {
        pmus = counted S m ∙ ap₂ (pmus_by S.pmus) (judged_alike granted S m body h) refused ∙ sym (counted S n);
        tick = kept_tick S (measure m) (full_answer S (measure m)) tt ∙ sym (kept_tick S (measure n) (full_answer S (measure n)) tt);
        own = own-step u S (measure m) alone ∙ ap (private_run (own_of u S)) seen ∙ sym (own-step u S (measure n) alone);
        alone = Alone-next S (measure m) (full_answer S (measure m)) alone;
        alone' = Alone-next S (measure n) (full_answer S (measure n)) alone;
      },
      seen,
    )

-- ---- two states

alike_more : (u : ℕ) (S T V : SharedMachine) → Alike u S T → Alike u T V → Alike u S V
alike_more u S T V h k = record {
  pmus = h.pmus ∙ k.pmus;
  tick = h.tick ∙ k.tick;
  own = h.own ∙ k.own;
  alone = h.alone;
  alone' = k.alone';
}

pub measured_both : (u : ℕ) (S T : SharedMachine) (m : Measurement) (body : List ℕ) → Alike u S T → SamplesAlike (is_granted (own_of u S)) (samples_in m) (samples_in (with_body m body))
    → Alike u (shared_step S (measure m)) (shared_step T (measure (with_body m body))) × (part u S (measure m) ≡ part u T (measure (with_body m body)))
measured_both u S T m body alike h =
    let first = step_alike u S T (measure m) alike refl tt tt in
    let second = measured_once u T m body alike.alone' (subst (λ o. SamplesAlike (is_granted o) (samples_in m) (samples_in (with_body m body))) alike.own h) in (
      alike_more u (shared_step S (measure m)) (shared_step T (measure m)) (shared_step T (measure (with_body m body))) first.0 second.0,
      first.1 ∙ second.1,
    )
