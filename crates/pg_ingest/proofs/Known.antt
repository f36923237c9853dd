-- Laws of what is known of a reader's, a writer's and a gate's bytes and calls.
use Rattle.std.proofs.Common.{◌≡◌, ◌∙◌, sym, ap, subst, take, refl, ℕ, List, [], ◌++◌, append-nil, append_assoc, Option, Some, None}
use Rattle.std.specs.Io.KnownBytes.{Appends, Consumes, Keeps}
use Rattle.pg_gateway.specs.Posting.{Posted, Notes}

pub notes_nil : (o : Option (List Posted)) → Notes o o []
notes_nil None = tt
notes_nil (Some xs) = sym (append-nil xs)

pub notes_more : (a b c : Option (List Posted)) (xs ys : List Posted) → Notes a b xs → Notes b c ys → Notes a c (xs ++ ys)
notes_more None b c xs ys h k = tt
notes_more (Some x) None c xs ys h k = absurd h
notes_more (Some x) (Some y) None xs ys h k = absurd k
notes_more (Some x) (Some y) (Some z) xs ys h k = k ∙ ap (λ v. v ++ ys) h ∙ append_assoc x xs ys

pub appends_nil : (o : Option (List ℕ)) → Appends o o []
appends_nil None = tt
appends_nil (Some xs) = sym (append-nil xs)

pub appends_more : (a b c : Option (List ℕ)) (xs ys : List ℕ) → Appends a b xs → Appends b c ys → Appends a c (xs ++ ys)
appends_more None b c xs ys h k = tt
appends_more (Some x) None c xs ys h k = absurd h
appends_more (Some x) (Some y) None xs ys h k = absurd k
appends_more (Some x) (Some y) (Some z) xs ys h k = k ∙ ap (λ v. v ++ ys) h ∙ append_assoc x xs ys

pub consumes_nil : (o : Option (List ℕ)) → Consumes o o []
consumes_nil None = tt
consumes_nil (Some xs) = refl

pub consumes_keeps : (o n : Option (List ℕ)) → Keeps o n → Consumes o n []
consumes_keeps None n h = tt
consumes_keeps (Some xs) None h = absurd h
consumes_keeps (Some xs) (Some ys) h = sym h

pub consumes_more : (a b c : Option (List ℕ)) (xs ys : List ℕ) → Consumes a b xs → Consumes b c ys → Consumes a c (xs ++ ys)
consumes_more None b c xs ys h k = tt
consumes_more (Some x) None c xs ys h k = absurd h
consumes_more (Some x) (Some y) None xs ys h k = absurd k
consumes_more (Some x) (Some y) (Some z) xs ys h k = h ∙ ap (λ v. xs ++ v) k ∙ sym (append_assoc xs ys z)

pub appends_keeps : (a b c : Option (List ℕ)) (xs : List ℕ) → Appends a b xs → Keeps b c → Appends a c xs
appends_keeps None b c xs h k = tt
appends_keeps (Some x) None c xs h k = absurd h
appends_keeps (Some x) (Some y) None xs h k = absurd k
appends_keeps (Some x) (Some y) (Some z) xs h k = k ∙ h

pub appends_zero : (a b c : Option (List ℕ)) (xs buf : List ℕ) (n : ℕ) → n ≡ 0 → Appends a b xs → Appends b c (take n buf) → Appends a c xs
appends_zero a b c xs buf n zero h k =
    subst (Appends a c) (append-nil xs) (appends_more a b c xs [] h (subst (λ m. Appends b c (take m buf)) zero k))
