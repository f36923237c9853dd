use Rattle.std.proofs.Common.{zero, suc, ◌≢◌, [], ◌∷◌, refl, arith}
use Rattle.std.proofs.lemmas.Bool.{false≢true}
use Rattle.pg_limits.specs.Misreading.{IsRight}
use Rattle.pg_limits.specs.Reading.{found_at, two_lengths}
use Rattle.pg_limits.specs.declared.layouts.OnChange.TheVariants.{Keep, Safe}
use Rattle.pg_limits.proofs.laws.reading_goes_on.Goals as goal

first : IsRight two_lengths (found_at 0 (26 ∷ []))
first zero within high = refl
first (suc back) within high = absurd (omega (arith, within))

second : IsRight two_lengths (found_at 1 (36 ∷ 26 ∷ []))
second zero within high = refl
second (suc zero) within high = refl
second (suc (suc back)) within high = absurd (omega (arith, within))

other : Safe ≢ Keep
other e = cc

pub returns : goal.returns
returns c = record {
  may = (
    refl,
    (
      tt,
      (
        (
          record { switched = refl; configured = λ e. absurd (false≢true e); emptied = λ e. refl; quiet = λ e. absurd (false≢true e) },
          record { stream = refl; definition = refl; layout = refl; on = refl; right = first },
          other,
        ),
        (
          tt,
          (
            refl,
            (
              tt,
              (
                (
                  record { switched = refl; configured = λ e. absurd (false≢true e); emptied = λ e. refl; quiet = λ e. absurd (false≢true e) },
                  record { stream = refl; definition = refl; layout = refl; on = refl; right = second },
                  other,
                ),
                (
                  tt,
                  (
                    refl,
                    (
                      tt,
                      ((record { switched = refl; configured = λ e. absurd (false≢true e); emptied = λ e. refl; quiet = λ e. absurd (false≢true e) }, refl), tt),
                    ),
                  ),
                ),
              ),
            ),
          ),
        ),
      ),
    ),
  );
  written = refl;
}
