-- What `room` leaves.
use Rattle.std.proofs.Common.{◌≡◌, ℕ, ◌+◌, ◌-◌, ◌^◌, ◌<◌, ◌≤◌, Bool, true, false, nat_lt, if◌then◌else◌, List, [], ◌∷◌, ◌++◌, length, drop, slice_get, Option, Some, None, length-append, refl, sym, ap, ap₂, ◌∙◌, arith}
use Rattle.std.proofs.lemmas.Grind.{common_steps}
use Rattle.std.proofs.lemmas.List.{map-append, length-map}
use Rattle.circular_buffer.specs.Buffer.{keep_last}
use Rattle.pg_ring.specs.Shown.{Framed, bytes_in, saturated, HaveBytes, RepliesHaveBytes}
use Rattle.pg_ring.specs.Steps.{room, pass_on, pushed}
use Rattle.pg_ring.specs.Items.{shown, framed_of}
use Rattle.pg_ring.specs.declared.ring.QueuedFrame.{QueuedFrame}

-- nothing goes where there is room
pub room_stands : (size limit passed : ℕ) (frames : List Framed) → length frames < size → bytes_in frames ≤ limit → room size limit passed frames ≡ (passed, frames)
room_stands size limit passed [] few light = refl
room_stands size limit passed (frame ∷ frames) few light = grind (arith, common_steps)

-- of as many frames as there may be the first goes, and the others stand
full_room : (limit : ℕ) (frame : Framed) (frames : List Framed) → bytes_in (frame ∷ frames) ≤ limit
    → room (length (frame ∷ frames)) limit 0 (frame ∷ frames) ≡ (saturated (frame.gap + 1), frames)
full_room limit frame frames light =
    let full : nat_lt (length (frame ∷ frames)) (length (frame ∷ frames)) ≡ false = grind (arith, common_steps) in
    let none : 0 + frame.gap + 1 ≡ frame.gap + 1 = omega arith in
    rw (full, none) (room_stands (length (frame ∷ frames)) limit (saturated (frame.gap + 1)) frames (omega arith) (omega (arith, light)))

-- a push where as many frames stand as there may be: the buffer gives up the first, whose gap passes on
pub full_pushed : (size limit : ℕ) (frames : List QueuedFrame) (oldest frame : QueuedFrame) → length frames ≡ size → 0 < size
    → bytes_in (shown frames) ≤ limit - length frame.bytes.items → Some oldest ≡ slice_get (frames ++ frame ∷ []) 0
    → pushed size limit (shown frames) (framed_of frame) ≡ pass_on (saturated (oldest.gap + 1)) (shown (keep_last size (frames ++ frame ∷ [])))
full_pushed size limit [] oldest frame is some light first = absurd (omega (arith, is, some))
full_pushed size limit (x ∷ xs) oldest frame is some light first =
    let same : oldest ≡ x = cc in
    let one : length (x ∷ xs ++ frame ∷ []) - size ≡ 1 = omega (arith, is, length-append xs (frame ∷ [])) in
    let count : size ≡ length (framed_of x ∷ shown xs) = let same_len : length (shown xs) ≡ length xs = length-map xs framed_of in omega (arith, is, same_len) in
    let left = ap (λ n. room n (limit - length frame.bytes.items) 0 (shown (x ∷ xs))) count ∙ full_room (limit - length frame.bytes.items) (framed_of x) (shown xs) light in
    let kept = ap (λ n. shown (drop n (x ∷ xs ++ frame ∷ []))) one ∙ map-append framed_of xs (frame ∷ []) in
    ap (λ l. pass_on l.0 (l.1 ++ framed_of frame ∷ [])) left ∙ ap₂ (λ o l. pass_on (saturated (o.gap + 1)) l) (sym same) (sym kept)

saturated_small : (n : ℕ) → n < 2 ^ 64 → saturated (0 + n) ≡ n
saturated_small n small = grind (arith, common_steps)

-- nothing is passed on
pass_on_none : (items : List QueuedFrame) → ((first : QueuedFrame) → Some first ≡ slice_get items 0 → first.gap < 2 ^ 64) → pass_on 0 (shown items) ≡ shown items
pass_on_none [] small = refl
pass_on_none (x ∷ xs) small = rw (saturated_small x.gap (small x refl)) refl

-- a push where there is room: none goes
pub roomy_pushed : (size limit : ℕ) (items : List QueuedFrame) (frame : QueuedFrame) → length items < size → bytes_in (shown items) + length frame.bytes.items ≤ limit
    → ((first : QueuedFrame) → Some first ≡ slice_get items 0 → first.gap < 2 ^ 64) → frame.gap < 2 ^ 64
    → pushed size limit (shown items) (framed_of frame) ≡ shown (items ++ frame ∷ [])
roomy_pushed size limit items frame few light small gap =
    let count : length (shown items) ≡ length items = length-map items framed_of in
    let left = room_stands size (limit - length frame.bytes.items) 0 (shown items) (omega (arith, few, count)) (omega (arith, light)) in
    let behind = first_behind items frame small gap in
    ap (λ l. pass_on l.0 (l.1 ++ framed_of frame ∷ [])) left ∙ ap (pass_on 0) (sym (map-append framed_of items (frame ∷ []))) ∙ pass_on_none (items ++ frame ∷ []) behind
  where
    first_behind : (items : List QueuedFrame) (frame : QueuedFrame) → ((first : QueuedFrame) → Some first ≡ slice_get items 0 → first.gap < 2 ^ 64) → frame.gap < 2 ^ 64
        → (first : QueuedFrame) → Some first ≡ slice_get (items ++ frame ∷ []) 0 → first.gap < 2 ^ 64
    first_behind [] frame small gap first is = let same : first ≡ frame = cc in rw same gap
    first_behind (x ∷ xs) frame small gap first is = small first is

-- a buffer that gives up a frame was full
pub gives_up : (count size : ℕ) (oldest : QueuedFrame) (front : Option QueuedFrame) → Some oldest ≡ (if nat_lt count size then None else front)
    → (size ≤ count) × (Some oldest ≡ front)
gives_up count size oldest front given = by (nat_lt count size) refl given
  where
    by : (fits : Bool) → nat_lt count size ≡ fits → Some oldest ≡ (if fits then None else front) → (size ≤ count) × (Some oldest ≡ front)
    by true is given = absurd (let no : Some oldest ≡ None = given in cc)
    by false is given = (grind (arith, common_steps), given)

pub bytes_in-append : (xs ys : List Framed) → bytes_in (xs ++ ys) ≡ bytes_in xs + bytes_in ys
bytes_in-append [] ys = grind arith
bytes_in-append (x ∷ xs) ys = grind (arith, bytes_in-append xs ys)

pub bytes_in-pass_on : (passed : ℕ) (xs : List Framed) → bytes_in (pass_on passed xs) ≡ bytes_in xs
bytes_in-pass_on passed [] = refl
bytes_in-pass_on passed (x ∷ xs) = refl

pub HaveBytes-pass_on : (passed : ℕ) (xs : List Framed) → HaveBytes xs → HaveBytes (pass_on passed xs)
HaveBytes-pass_on passed [] h = h
HaveBytes-pass_on passed (x ∷ xs) h = h

pub HaveBytes-push : (xs : List Framed) (y : Framed) → HaveBytes xs → 0 < length y.bytes → HaveBytes (xs ++ y ∷ [])
HaveBytes-push [] y h p = (p, tt)
HaveBytes-push (x ∷ xs) y h p = (h.0, HaveBytes-push xs y h.1 p)

pub RepliesHaveBytes-push : (xs : List (List ℕ)) (y : List ℕ) → RepliesHaveBytes xs → 0 < length y → RepliesHaveBytes (xs ++ y ∷ [])
RepliesHaveBytes-push [] y h p = (p, tt)
RepliesHaveBytes-push (x ∷ xs) y h p = (h.0, RepliesHaveBytes-push xs y h.1 p)

pub ruleset ring_steps = (bytes_in-append, bytes_in-pass_on, HaveBytes-pass_on, HaveBytes-push, RepliesHaveBytes-push, common_steps)
