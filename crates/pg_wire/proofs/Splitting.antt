-- The frames that the function `frames_in` cuts a stream into are those of the relation `Splits`.
use Rattle.std.proofs.Common.{◌≡◌, ◌≢◌, ℕ, zero, suc, ◌+◌, ◌≤◌, List, [], ◌∷◌, ◌++◌, length, take, drop, get_or, Option, Some, None, Bool, true, false, refl, sym, ap, ◌∙◌, arith, append_assoc, length-append, length-drop, is_none, ◌&&◌, ◌==◌, not, nat_le, nat_lt, if◌then◌else◌}
use Rattle.std.proofs.lemmas.List.{take-append-drop, length-take-le}
use Rattle.std.proofs.lemmas.List.Elements.{All-append, All-cons, All-nil}
use Rattle.std.proofs.lemmas.Grind.{flat_map-append}
use Rattle.std.proofs.lemmas.Bool.Decides.{nat_tests}
use Rattle.pg_wire.specs.declared.refusal.Refusal.{Refusal}
use Rattle.pg_wire.specs.declared.refusal.Refusal.TheVariants.{BadFirst, BadSecond, ShortSize}
use Rattle.pg_wire.specs.Frame.{IsWhole, break_of, size_of}
use Rattle.pg_wire.specs.Stream.{Splits, joined}
use Rattle.pg_wire.specs.Split.{begins_whole, frames_by, rest_by, frames_in, rest_in}
use Rattle.pg_wire.proofs.Stream.{whole_at_front, one_split, unbroken_before, size_stays}

-- what the test tells
test_holds : (o : Option Refusal) (len size : ℕ) → (is_none o && nat_le 4 len && nat_le size len) ≡ true → (o ≡ None) × (4 ≤ len) × (size ≤ len)
test_holds None len size h = (refl, grind (arith, nat_tests), grind (arith, nat_tests))
test_holds (Some r) len size h = absurd (let x : false ≡ true = h in cc)

holds_test : (o : Option Refusal) (len size : ℕ) → o ≡ None → 4 ≤ len → size ≤ len → (is_none o && nat_le 4 len && nat_le size len) ≡ true
holds_test None len size unbroken sized within = grind (arith, nat_tests)
holds_test (Some r) len size unbroken sized within = absurd cc

-- the frame that the test finds
front_is_whole : (bytes : List ℕ) → break_of bytes ≡ None → 4 ≤ length bytes → size_of bytes ≤ length bytes → IsWhole (take (size_of bytes) bytes)
front_is_whole bytes unbroken sized within =
    let front = take (size_of bytes) bytes in
    let rest = drop (size_of bytes) bytes in
    let is : front ++ rest ≡ bytes = take-append-drop (size_of bytes) bytes in
    let len : length front ≡ size_of bytes = length-take-le (size_of bytes) bytes within in
    let long : 16 ≤ size_of bytes = least_size (length bytes) (get_or bytes 0 0) (get_or bytes 1 0) (size_of bytes) unbroken sized in
    let front_sized : 4 ≤ length front = omega arith in
    record {
      unbroken = unbroken_before front rest front_sized (ap break_of is ∙ unbroken);
      sized = front_sized;
      size = len ∙ sym (ap size_of is) ∙ size_stays front rest front_sized;
    }
  where
    least_size : (len first second size : ℕ) → (if nat_lt 0 len && not (first == 0xAA) then Some BadFirst else
        if nat_lt 1 len && not (nat_lt second 0x60) then Some BadSecond else
        if nat_lt 3 len && nat_lt size 16 then Some ShortSize else None) ≡ None → 4 ≤ len → 16 ≤ size
    least_size len first second size h sized = grind (arith, nat_tests)

-- where the test fails, no frame stands at the front
no_front : (bytes : List ℕ) → begins_whole bytes ≡ false → (frame more : List ℕ) → IsWhole frame → bytes ≢ frame ++ more
no_front bytes fails frame more whole is =
    let front = whole_at_front frame more whole in
    let unbroken : break_of bytes ≡ None = ap break_of is ∙ front.0 in
    let len : length bytes ≡ length frame + length more = ap length is ∙ length-append frame more in
    let size : size_of bytes ≡ length frame = ap size_of is ∙ front.1 in
    let sized : 4 ≤ length bytes = (let s : 4 ≤ length frame = whole.sized in omega arith) in
    let holds : begins_whole bytes ≡ true = holds_test (break_of bytes) (length bytes) (size_of bytes) unbroken sized (omega arith) in
    let wrong : false ≡ true = sym fails ∙ holds in
    cc

splits_by : (n : ℕ) (bytes : List ℕ) → length bytes ≤ n → Splits bytes (frames_by n bytes) (rest_by n bytes)
unfolding frames_by rest_by
splits_by zero bytes short = record {
  whole = refl;
  each = All-nil IsWhole;
  end = λ frame more whole is. (let len : length bytes ≡ length frame + length more = ap length is ∙ length-append frame more in
      let s : 4 ≤ length frame = whole.sized in absurd (omega arith));
}
splits_by (suc n) bytes short = go (λ left. splits_by n left) (begins_whole bytes) refl where
  go : ((left : List ℕ) → length left ≤ n → Splits left (frames_by n left) (rest_by n left)) → (b : Bool) → begins_whole bytes ≡ b
      → Splits bytes (if b then take (size_of bytes) bytes ∷ frames_by n (drop (size_of bytes) bytes) else []) (if b then rest_by n (drop (size_of bytes) bytes) else bytes)
  go again false fails = record { whole = refl; each = All-nil IsWhole; end = no_front bytes fails }
  go again true holds =
      let facts = test_holds (break_of bytes) (length bytes) (size_of bytes) holds in
      let front = front_is_whole bytes facts.0 facts.1 facts.2 in
      let left : length (drop (size_of bytes) bytes) ≤ n = (let s : 4 ≤ length (take (size_of bytes) bytes) = front.sized in
      omega (arith, length-drop (size_of bytes) bytes, length-take-le (size_of bytes) bytes facts.2)) in
      let others = again (drop (size_of bytes) bytes) left in
      record {
        whole = sym (take-append-drop (size_of bytes) bytes)
            ∙ ap (λ x. take (size_of bytes) bytes ++ x) others.whole
            ∙ sym (append_assoc (take (size_of bytes) bytes) (joined (frames_by n (drop (size_of bytes) bytes))) (rest_by n (drop (size_of bytes) bytes)));
        each = All-cons IsWhole (take (size_of bytes) bytes) (frames_by n (drop (size_of bytes) bytes)) front others.each;
        end = others.end;
      }

pub splits_in : (stream : List ℕ) → Splits stream (frames_in stream) (rest_in stream)
unfolding frames_in rest_in
splits_in stream = splits_by (length stream) stream (omega arith)

-- they are the only ones
pub frames_in-only : (stream : List ℕ) (frames : List (List ℕ)) (rest : List ℕ) → Splits stream frames rest → (frames ≡ frames_in stream) × (rest ≡ rest_in stream)
frames_in-only stream frames rest splits = one_split stream frames (frames_in stream) rest (rest_in stream) splits (splits_in stream)

-- a split, and the split of what is left with more bytes behind it
joins : (stream more : List ℕ) (fs gs : List (List ℕ)) (x y : List ℕ) → Splits stream fs x → Splits (x ++ more) gs y → Splits (stream ++ more) (fs ++ gs) y
joins stream more fs gs x y a b = record {
  whole = ap (λ z. z ++ more) a.whole ∙ append_assoc (joined fs) x more ∙ ap (λ z. joined fs ++ z) b.whole
      ∙ sym (append_assoc (joined fs) (joined gs) y) ∙ ap (λ z. z ++ y) (sym (flat_map-append (λ f. f) fs gs));
  each = All-append IsWhole fs gs a.each b.each;
  end = b.end;
}

pub frames_in-append : (stream more : List ℕ) → (frames_in (stream ++ more) ≡ frames_in stream ++ frames_in (rest_in stream ++ more)) × (rest_in (stream ++ more) ≡ rest_in (rest_in stream ++ more))
frames_in-append stream more =
    let rest = rest_in stream ++ more in
    let both = joins stream more (frames_in stream) (frames_in rest) (rest_in stream) (rest_in rest) (splits_in stream) (splits_in rest) in
    let only = frames_in-only (stream ++ more) (frames_in stream ++ frames_in rest) (rest_in rest) both in
    (sym only.0, sym only.1)
