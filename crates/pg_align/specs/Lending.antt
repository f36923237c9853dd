-- What an alignment is once a slot that it lent is given back.
use Rattle.std.specs.Prelude.{◌≡◌, ⊤}
use Rattle.std.specs.Borrow.{follows_so, MutBor, Fml}
use mathlib.Core.Option.{none}
use Rattle.pg_align.specs.Slots.{after_leaving, after_flush}
use Rattle.pg_align.specs.declared.align.Align.{Align}
use Rattle.pg_align.specs.contracts.align.Align.{the_row}

-- once the borrow ends, the least slot has left if it was to leave
abbrev pub LendsLeaving : MutBor Align → Fml
LendsLeaving a = follows_so the_row the_row a.ghost_name none (λ _ _. ⊤) (λ last. last ≡ after_leaving a.now)

-- once the borrow ends, the least slot has left if one was open
abbrev pub LendsLeast : MutBor Align → Fml
LendsLeast a = follows_so the_row the_row a.ghost_name none (λ _ _. ⊤) (λ last. last ≡ after_flush a.now)
