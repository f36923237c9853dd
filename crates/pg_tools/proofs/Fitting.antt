-- Entries of which none has to be dropped.
use Rattle.std.proofs.Common.{rules, ◌≡◌, refl, ℕ, ◌≤◌, true, List, [], ◌∷◌, length, nat_le}
use Rattle.pg_tools.specs.Queueing.{fitting}
use Rattle.pg_tools.specs.declared.line_queue.Entry.{Entry}

pub fits : (most lines : ℕ) (entries : List Entry) → nat_le lines most ≡ true → fitting most lines entries ≡ entries
fits most lines [] few = refl
fits most lines (e ∷ []) few = refl
fits most lines (e ∷ f ∷ es) few = rw few refl

pub alone : (most lines : ℕ) (entries : List Entry) → length entries ≤ 1 → fitting most lines entries ≡ entries
alone most lines [] one = refl
alone most lines (e ∷ []) one = refl
alone most lines (e ∷ f ∷ es) one = absurd (search (rules, one))
