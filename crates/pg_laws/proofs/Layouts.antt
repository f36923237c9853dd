-- Lengths of layouts are known later, as far as they are kept.
use Rattle.std.proofs.Common.{◌≡◌, ℕ, suc, ◌+◌, ◌^◌, ◌<◌, ◌∷◌, get_or, slice_index, refl, ap, ◌∙◌, arith}
use Rattle.std.proofs.lemmas.List.{get_or-take}
use Rattle.pg_session.specs.declared.layouts.Layouts.{Layouts}
use Rattle.pg_session.specs.Streams.{next_layout}
use Rattle.pg_laws.specs.Lengths.{AreKnownSince}

-- the same layouts
pub known-same : (events : ℕ) (l : Layouts) → l.number < 2 ^ 64 → AreKnownSince events l l
known-same events l fits = record {
  definition = refl;
  changes = 0;
  few = omega arith;
  number = omega (arith, fits);
  lengths = λ i lt. let same : 0 + i ≡ i = omega arith in ap (slice_index l.lengths) same;
}

-- one change more
pub known-next : (len : ℕ) (l : Layouts) → AreKnownSince 1 l (next_layout len l)
known-next len l = record {
  definition = refl;
  changes = 1;
  few = omega arith;
  number = refl;
  lengths = λ i lt.
      let next : 1 + i ≡ suc i = omega arith in
      get_or-take 32 (len ∷ l.lengths) (1 + i) 0 lt ∙ ap (λ n. get_or (len ∷ l.lengths) n 0) next;
}

-- and then more of them
pub known-then : (n m : ℕ) (a b c : Layouts) → AreKnownSince n a b → AreKnownSince m b c → AreKnownSince (n + m) a c
known-then n m a b c first then = record {
  definition = then.definition ∙ first.definition;
  changes = then.changes + first.changes;
  few = omega (arith, first.few, then.few);
  number = omega (arith, first.number, then.number);
  lengths = λ i lt.
      let apart : (then.changes + first.changes) + i ≡ then.changes + (first.changes + i) = omega arith in
      ap (slice_index c.lengths) apart ∙ then.lengths (first.changes + i) (omega (arith, lt)) ∙ first.lengths i (omega (arith, lt));
}
