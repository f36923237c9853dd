-- Words that are too few or too many for a line.
use Rattle.std.proofs.Common.{◌≡◌, ◌<◌, ◌≤◌, arith, refl, List, [], ◌∷◌, length, map, Option, Some, None, Bor}
use Rattle.pg_lines.specs.Words.{Text}
use Rattle.pg_lines.specs.Lines.{two, define}
use Rattle.pg_lines.specs.Steers.{bound_in, listen}

pub few : {V X Y : Type 0} (read : Text → Option X) (next : Text → Option Y) (f : V → Text) (vs : List V) → length vs < 2 → None ≡ two read next (map f vs)
few read next f [] h = refl
few read next f (v ∷ []) h = refl
few read next f (v ∷ w ∷ vs) h = absurd (omega arith)

pub many : {V X Y : Type 0} (read : Text → Option X) (next : Text → Option Y) (f : V → Text) (vs : List V) → 3 ≤ length vs → None ≡ two read next (map f vs)
many read next f [] h = absurd (omega arith)
many read next f (v ∷ []) h = absurd (omega arith)
many read next f (v ∷ w ∷ []) h = absurd (omega arith)
many read next f (v ∷ w ∷ x ∷ vs) h = refl

pub no_port : {V : Type 0} (f : V → Text) (vs : List V) → length vs < 2 → None ≡ listen (map f vs)
no_port f [] h = refl
no_port f (v ∷ []) h = refl
no_port f (v ∷ w ∷ vs) h = absurd (omega arith)

pub no_host : {V : Type 0} (f : V → Text) (vs : List V) → length vs < 1 → Some 0 ≡ bound_in (map f vs)
no_host f [] h = refl
no_host f (v ∷ vs) h = absurd (omega arith)

pub two_hosts : {V : Type 0} (f : V → Text) (vs : List V) → 2 ≤ length vs → None ≡ bound_in (map f vs)
two_hosts f [] h = absurd (omega arith)
two_hosts f (v ∷ []) h = absurd (omega arith)
two_hosts f (v ∷ w ∷ vs) h = refl

-- fewer than seven words define nothing
pub too_few : (ws : List (Bor Text)) → length ws < 7 → define (map (λ w. w.now) ws) ≡ None
too_few [] e = refl
too_few (a ∷ []) e = refl
too_few (a ∷ b ∷ []) e = refl
too_few (a ∷ b ∷ c ∷ []) e = refl
too_few (a ∷ b ∷ c ∷ d ∷ []) e = refl
too_few (a ∷ b ∷ c ∷ d ∷ f ∷ []) e = refl
too_few (a ∷ b ∷ c ∷ d ∷ f ∷ g ∷ []) e = refl
too_few (a ∷ b ∷ c ∷ d ∷ f ∷ g ∷ h ∷ ms) e = absurd (omega (arith, e))
