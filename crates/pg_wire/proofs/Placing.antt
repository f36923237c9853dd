-- Where a piece stands behind the bytes that a deframer holds.
use Rattle.std.proofs.Common.{◌≡◌, ℕ, zero, suc, ◌+◌, ◌-◌, ◌<◌, ◌≤◌, List, [], ◌∷◌, ◌++◌, length, take, drop, get_or, Option, Some, None, Bool, true, false, is_some, is_none, if◌then◌else◌, Result, Ok, Err, IsErr, OnErr, refl, sym, ap, ◌∙◌, subst, arith, append-nil, Vec}
use Rattle.std.proofs.lemmas.List.{get_or-append-add, length-take-le, take-append-le, drop-append-le, drop-take, nil_from_length, with_items_is}
use Rattle.std.proofs.Math.Seq.{take-append-add}
use Rattle.std.specs.Vec.{with_items}
use Rattle.std.specs.Io.{ReadsAtMost}
use Rattle.std.specs.Io.KnownBytes.{Keeps, Consumes, ReadConsumes}
use Rattle.pg_wire.specs.declared.refusal.Refusal.{Refusal}
use Rattle.pg_wire.specs.Stream.{Deframing, ShowsStream, fed}
use Rattle.pg_wire.specs.Reads.{Gave, given_by}
use Rattle.pg_wire.proofs.Stream.{shows_fed}

-- ---- what one read gave

octets_taken : (n : ℕ) (xs : List ℕ) → ((i : ℕ) → get_or xs i 0 < 256) → (i : ℕ) → get_or (take n xs) i 0 < 256
octets_taken zero xs octets i = omega arith
octets_taken (suc n) [] octets i = omega arith
octets_taken (suc n) (x ∷ xs) octets zero = octets 0
octets_taken (suc n) (x ∷ xs) octets (suc i) = octets_taken n xs (λ j. octets (suc j)) i

-- the first n bytes of what was written from `at` on
front : (at n : ℕ) (bytes got post : List ℕ) → at ≤ length bytes → n ≤ length got → take (at + n) (take at bytes ++ (got ++ post)) ≡ take at bytes ++ take n got
front at n bytes got post within few =
    ap (λ a. take (a + n) (take at bytes ++ (got ++ post))) (sym (length-take-le at bytes within))
    ∙ take-append-add (take at bytes) (got ++ post) n
    ∙ ap (λ x. take at bytes ++ x) (take-append-le n got post few)

octets_behind : (at n : ℕ) (bytes new piece : List ℕ) → take (at + n) new ≡ take at bytes ++ piece → ((i : ℕ) → get_or new i 0 < 256) → (i : ℕ) → get_or piece i 0 < 256
octets_behind at n bytes new piece is octets i =
    rw (← get_or-append-add (take at bytes) piece i 0) (rw (← is) (octets_taken (at + n) new octets (length (take at bytes) + i)))

consumes_none : (before after : Option (List ℕ)) → Keeps before after → Consumes before after []
consumes_none None after keeps = tt
consumes_none (Some xs) None keeps = absurd keeps
consumes_none (Some xs) (Some ys) keeps = sym keeps

pub read_behind : {E : Type 0} (before after : Option (List ℕ)) (r : Result ℕ E) (at : ℕ) (bytes got post : List ℕ)
    → at ≤ length bytes → 0 < length got → ((i : ℕ) → get_or (take at bytes ++ (got ++ post)) i 0 < 256) → ReadsAtMost r got → ReadConsumes before after r got
    → (piece : List ℕ) × Gave before after r piece × (take (at + given_by r) (take at bytes ++ (got ++ post)) ≡ take at bytes ++ piece)
read_behind before after (Ok n) at bytes got post within some octets bound read =
    let is = front at n bytes got post within bound.0 in (
      take n got,
      record {
        sized = length-take-le n got bound.0;
        octets = octets_behind at n bytes (take at bytes ++ (got ++ post)) (take n got) is octets;
        consumed = read.0;
        end = λ none. read.1 none some;
      },
      is,
    )
read_behind before after (Err e) at bytes got post within some octets bound read = (
  [],
  record { sized = refl; octets = λ i. omega arith; consumed = consumes_none before after read; end = tt },
  front at 0 bytes got post within (omega arith),
)

-- a read that failed gave nothing, whatever error is told of it
pub failed_gave : {E F : Type 0} (before after : Option (List ℕ)) (e : E) (r : Result ℕ F) (piece : List ℕ) → IsErr r → Gave before after (Err e) piece → Gave before after r []
failed_gave before after e (Ok n) piece failed gave = absurd (let x : false ≡ true = failed in cc)
failed_gave before after e (Err f) piece failed gave = record {
  sized = refl;
  octets = λ i. omega arith;
  consumed = subst (Consumes before after) (nil_from_length piece gave.sized) gave.consumed;
  end = tt;
}

pub on_err : {E : Type 0} (r : Result ℕ E) (P : Type 0) → P → OnErr r P
on_err (Ok n) P p = tt
on_err (Err e) P p = p

pub err_as : {E : Type 0} (r : Result ℕ E) (P Q : Type 0) → (P → Q) → OnErr r P → OnErr r Q
err_as (Ok n) P Q f p = tt
err_as (Err e) P Q f p = f p

-- ---- what is held then

-- the bytes that are held, and a piece behind them
held_more : (from held n : ℕ) (moved after piece : List ℕ) → from + held ≤ length moved → take (from + held + n) after ≡ take (from + held) moved ++ piece
    → take (from + held + n - from) (drop from after) ≡ take held (drop from moved) ++ piece
held_more from held n moved after piece within is =
    let e : from + held + n - from ≡ held + n = omega arith in
    let s : from + (held + n) ≡ from + held + n = omega arith in
    ap (λ k. take k (drop from after)) e ∙ sym (drop-take from (held + n) after) ∙ ap (λ k. drop from (take k after)) s ∙ ap (drop from) is
    ∙ drop-append-le from (take (from + held) moved) piece (omega (arith, length-take-le (from + held) moved within))
    ∙ ap (λ x. x ++ piece) (drop-take from held moved)

held_same : (from held : ℕ) (moved after : List ℕ) → take (from + held) after ≡ take (from + held) moved
    → take (from + held - from) (drop from after) ≡ take held (drop from moved)
held_same from held moved after is =
    let e : from + held - from ≡ held = omega arith in
    ap (λ k. take k (drop from after)) e ∙ sym (drop-take from held after) ∙ ap (drop from) is ∙ drop-take from held moved

-- The bytes from start to end were moved, and stand from `from` on. Where the front stays, the same are held,
pub same_behind : {Z : Type 0} (d : Deframing) (v : Vec ℕ Z) (start end from : ℕ) (first moved second after : List ℕ) (broken : Option Refusal)
    → record { held = take (end - start) (drop start v.items); broken = broken } ≡ d
    → first ≡ v.items → take (end - start) (drop from moved) ≡ take (end - start) (drop start first) → length moved ≡ v.len
    → second ≡ (with_items v moved).items → take (from + (end - start)) after ≡ take (from + (end - start)) second → length after ≡ v.len
    → record { held = take (from + (end - start) - from) (drop from (with_items (with_items v moved) after).items); broken = broken } ≡ d
same_behind d v start end from first moved second after broken is at_first same long at_second front long_after =
    let kept : (with_items v moved).items ≡ moved = with_items_is v moved long in
    let whole : (with_items (with_items v moved) after).items ≡ after = with_items_is (with_items v moved) after long_after in
    ap (λ (h : List ℕ). let x : Deframing = record { held = h; broken = broken } in x)
    (held_same from (end - start) moved (with_items (with_items v moved) after).items
    (ap (take (from + (end - start))) whole ∙ front ∙ ap (take (from + (end - start))) (at_second ∙ kept))
    ∙ same ∙ ap (λ xs. take (end - start) (drop start xs)) at_first)
    ∙ is

-- and where a piece was written behind them, one that is not broken holds it too.
pub fed_behind : {Z : Type 0} (d : Deframing) (v : Vec ℕ Z) (start end from n : ℕ) (first moved second after piece : List ℕ) (broken : Option Refusal)
    → record { held = take (end - start) (drop start v.items); broken = broken } ≡ d → is_some broken ≡ false
    → first ≡ v.items → take (end - start) (drop from moved) ≡ take (end - start) (drop start first) → from + (end - start) ≤ length moved → length moved ≡ v.len
    → second ≡ (with_items v moved).items → take (from + (end - start) + n) after ≡ take (from + (end - start)) second ++ piece → length after ≡ v.len
    → record { held = take (from + (end - start) + n - from) (drop from (with_items (with_items v moved) after).items); broken = broken } ≡ fed d piece
fed_behind d v start end from n first moved second after piece None is unbroken at_first same within long at_second behind long_after =
    let kept : (with_items v moved).items ≡ moved = with_items_is v moved long in
    let whole : (with_items (with_items v moved) after).items ≡ after = with_items_is (with_items v moved) after long_after in
    subst (λ (x : Deframing). record { held = take (from + (end - start) + n - from) (drop from (with_items (with_items v moved) after).items); broken = None } ≡ fed x piece) is
    (ap (λ (h : List ℕ). let x : Deframing = record { held = h; broken = None } in x)
    (held_more from (end - start) n moved (with_items (with_items v moved) after).items piece within
    (ap (take (from + (end - start) + n)) whole ∙ behind ∙ ap (λ xs. take (from + (end - start)) xs ++ piece) (at_second ∙ kept))
    ∙ ap (λ x. x ++ piece) (same ∙ ap (λ xs. take (end - start) (drop start xs)) at_first)))
fed_behind d v start end from n first moved second after piece (Some r) is unbroken at_first same within long at_second behind long_after =
    absurd (let x : true ≡ false = unbroken in cc)

-- a broken one drops a piece
pub fed_broken : (d : Deframing) (held piece : List ℕ) (broken : Option Refusal) → record { held = held; broken = broken } ≡ d → is_some broken ≡ true → fed d piece ≡ d
fed_broken d held piece None is broken = absurd (let x : false ≡ true = broken in cc)
fed_broken d held piece (Some r) is broken = subst (λ (x : Deframing). fed x piece ≡ x) is refl

-- no bytes change nothing
pub fed_none : (d : Deframing) → fed d [] ≡ d
fed_none d = ap (λ (h : List ℕ). let x : Deframing = record { held = h; broken = d.broken } in x) (by (is_none d.broken))
  where
    by : (b : Bool) → (if b then d.held ++ [] else d.held) ≡ d.held
    by true = append-nil d.held
    by false = refl

-- and the stream goes on by the piece
pub shows_more : (old new : Deframing) (piece : List ℕ) → new ≡ fed old piece → (stream : List ℕ) (frames : List (List ℕ))
    → ShowsStream old stream frames → ShowsStream new (stream ++ piece) frames
shows_more old new piece is stream frames shows = subst (λ (x : Deframing). ShowsStream x (stream ++ piece) frames) (sym is) (shows_fed old piece stream frames shows)
