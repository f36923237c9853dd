-- The member that stands where it was guessed.
use Rattle.std.proofs.Common.{◌≡◌, ◌≢◌, ℕ, zero, suc, ◌<◌, Bool, true, false, List, [], ◌∷◌, length, AllPairs, Some, get_or, refl, sym, ◌∙◌, arith}
use Rattle.std.specs.List.{position_or_len}
use Rattle.std.proofs.lemmas.Bool.{lt-ltb}
use Rattle.pg_wire.specs.declared.ids.PmuKey.{PmuKey}
use Rattle.pg_wire.specs.Keys.{key_eq}
use Rattle.pg_entitle.proofs.Orders.{same_of_eq}
use Rattle.pg_session.specs.Streams.{place_of}

-- no member before it is the same, as members differ
first_at : (members : List PmuKey) (key : PmuKey) (i : ℕ) (d : PmuKey) → AllPairs (λ a b. a ≢ b) members → i < length members
    → key_eq (get_or members i d) key ≡ true → position_or_len (λ m. key_eq m key) members ≡ i
first_at [] key i d apart within same = absurd (omega arith)
first_at (m ∷ ms) key zero d apart within same = rw same refl
first_at (m ∷ ms) key (suc j) d apart within same =
    let rest = first_at ms key j d (λ a b e less inside. apart (suc a) (suc b) e (omega arith) (omega arith)) (omega arith) same in
    rw (other (key_eq m key) refl) (omega (arith, rest))
  where
    other : (b : Bool) → key_eq m key ≡ b → key_eq m key ≡ false
    other false e = e
    other true e = absurd (apart 0 (suc j) d (omega arith) within (same_of_eq m key e ∙ sym (same_of_eq (get_or ms j d) key same)))

pub member_at : (members : List PmuKey) (key : PmuKey) (i : ℕ) (d : PmuKey) → AllPairs (λ a b. a ≢ b) members → i < length members
    → key_eq (get_or members i d) key ≡ true → place_of members key ≡ Some i
member_at members key i d apart within same = rw (first_at members key i d apart within same, lt-ltb i (length members) within) refl
