-- Each number given has one fate.
use Rattle.std.proofs.Common.{◌≡◌, ℕ, ◌+◌, ◌-◌, ◌<◌, ◌≤◌, Bool, true, false, ◌&&◌, zero, suc, List, [], ◌∷◌, ◌++◌, length, take, Option, refl, sym, ap, arith}
use Rattle.std.specs.Prelude.{nat_eq, nat_lt, nat_le, map, fold, sum_by}
use Rattle.std.specs.List.{count_by}
use Rattle.std.proofs.lemmas.Grind.{common_steps}
use Rattle.std.proofs.lemmas.List.{append-nil}
use Rattle.std.proofs.lemmas.List.Sums.{sum_by-append}
use Rattle.pg_ring.specs.Shown.{Queue, gap_of, frames_begun, saturated}
use Rattle.pg_ring.specs.Numbers.{Numbered, ShowsNumbered, IsSound, Rising, last_number, with_gaps, shown_of, data_begun, none_made, push_made, lose_made, reply_made}
use Rattle.pg_ring.specs.Fates.{Call, PlacedNumber, placed_from, gap_in, begun_by_call, QueueHistory, longer, history_of, one_if, is_number, has_in_gap, places_of, waits, fates}
use Rattle.pg_ring.specs.Fates.Call.{Push, Lose, Reply, Drain, HangUp}
use Rattle.pg_ring.proofs.Numbering.{last_number-ge, Shows-data, Shows-lost, Shows-reply, Shows-drain, Shows-clear, Shows-none}

count_by-append : {X : Type 0} (p : X → Bool) (xs ys : List X) → count_by p (xs ++ ys) ≡ count_by p xs + count_by p ys
count_by-append p xs ys = sum_by-append (λ x. one_if (p x)) xs ys

count_by-cons : {X : Type 0} (p : X → Bool) (x : X) (xs : List X) → count_by p (x ∷ xs) ≡ one_if (p x) + count_by p xs
count_by-cons p x xs = omega (arith, count_by-append p (x ∷ []) xs)

-- a frame's number and the numbers in its gap are those past the one before it
one_place : (before number k : ℕ) → before < number → one_if (nat_eq number k) + one_if (nat_lt before k && nat_lt k number) ≡ one_if (nat_lt before k && nat_le k number)
one_place before number k h = grind (arith, common_steps)

-- two stretches of numbers, one behind the other, are one
one_stretch : (a b c k : ℕ) → a ≤ b → b ≤ c → one_if (nat_lt a k && nat_le k b) + one_if (nat_lt b k && nat_le k c) ≡ one_if (nat_lt a k && nat_le k c)
one_stretch a b c k h l = grind (arith, common_steps)

empty_stretch : (a k : ℕ) → one_if (nat_lt a k && nat_le k a) ≡ 0
empty_stretch a k = grind (arith, common_steps)

-- the numbers of these frames and of their gaps, each once
counted_places : (before k : ℕ) (numbers : List ℕ) → Rising before numbers → places_of k (placed_from before numbers) ≡ one_if (nat_lt before k && nat_le k (last_number before numbers))
counted_places before k [] h = sym (empty_stretch before k)
counted_places before k (number ∷ numbers) h =
    let place : PlacedNumber = record { before = before; number = number } in
    let n = count_by-cons (is_number k) place (placed_from number numbers) in
    let g = count_by-cons (has_in_gap k) place (placed_from number numbers) in
    let below = counted_places number k numbers h.1 in
    let here = one_place before number k h.0 in
    let joined = one_stretch before number (last_number number numbers) k (omega (arith, h.0)) (last_number-ge number numbers h.1) in
    omega (arith, n, g, below, here, joined)

Rising-take : (n before : ℕ) (numbers : List ℕ) → Rising before numbers → Rising before (take n numbers)
Rising-take zero before numbers h = tt
Rising-take (suc n) before [] h = tt
Rising-take (suc n) before (number ∷ numbers) h = (h.0, Rising-take n number numbers h.1)

places_of-append : (k : ℕ) (xs ys : List PlacedNumber) → places_of k (xs ++ ys) ≡ places_of k xs + places_of k ys
places_of-append k xs ys = omega (arith, count_by-append (is_number k) xs ys, count_by-append (has_in_gap k) xs ys)

-- what waits is past the mark
waits-sound : (m : Numbered) (k : ℕ) → IsSound m → waits m k ≡ one_if (nat_lt m.mark k && nat_le k (length m.made))
waits-sound m k h =
    let last = last_number m.mark m.queue in
    let places = counted_places m.mark k m.queue h.rising in
    let joined = one_stretch m.mark last (length m.made) k (last_number-ge m.mark m.queue h.rising) h.given in
    omega (arith, places, joined)

-- What is settled: each number up to the mark is begun, in the gap of a frame begun, or cleared, and just one of these.
pub record IsSettled (h : QueueHistory) : Type 0 where
  pub sound : IsSound h.now
  pub settled : (k : ℕ) → places_of k h.begun + sum_by (λ m. waits m k) h.cleared ≡ one_if (nat_lt 0 k && nat_le k h.now.mark)

-- a call that begins and clears nothing, and leaves the mark
nothing_more : (h : QueueHistory) (now : Numbered) → IsSettled h → IsSound now → now.mark ≡ h.now.mark → IsSettled (record { now = now; begun = h.begun ++ []; cleared = h.cleared ++ [] })
nothing_more h now s sound mark = record { sound = sound; settled = λ k. rw (append-nil, append-nil, mark) (s.settled k) }

reply_mark : (m : Numbered) (bytes : List ℕ) (b : Bool) → nat_lt (length m.replies) 8 ≡ b → (reply_made m bytes).mark ≡ m.mark
reply_mark m bytes true e = rw e
reply_mark m bytes false e = rw e

shows_itself : (m : Numbered) → IsSound m → ShowsNumbered (shown_of m) m
shows_itself m h = record { sound = h; same = refl }

pub settled_on : (h : QueueHistory) (call : Call) → IsSettled h → IsSettled (longer h call)
settled_on h (Push bytes) s = nothing_more h (push_made h.now bytes) s (Shows-data (shown_of h.now) h.now bytes (shows_itself h.now s.sound)).sound refl
settled_on h Lose s = nothing_more h (lose_made h.now) s (Shows-lost (shown_of h.now) h.now (shows_itself h.now s.sound)).sound refl
settled_on h (Reply bytes) s = nothing_more h (reply_made h.now bytes) s (Shows-reply (shown_of h.now) h.now bytes (shows_itself h.now s.sound)).sound (reply_mark h.now bytes _ refl)
settled_on h (Drain n) s =
    let numbers = take (data_begun h.now n) h.now.queue in
    let placed = placed_from h.now.mark numbers in
    let rising : Rising h.now.mark numbers = Rising-take (data_begun h.now n) h.now.mark h.now.queue s.sound.rising in
    record {
      sound = (Shows-drain (shown_of h.now) h.now n (shows_itself h.now s.sound)).sound;
      settled = λ k.
          let a = places_of-append k h.begun placed in
          let new = counted_places h.now.mark k numbers rising in
          let joined = one_stretch 0 h.now.mark (last_number h.now.mark numbers) k (omega arith) (last_number-ge h.now.mark numbers rising) in
          let old = s.settled k in
          rw append-nil (omega (arith, a, new, joined, old));
    }
settled_on h HangUp s =
    record {
      sound = (Shows-clear (shown_of h.now) h.now (shows_itself h.now s.sound)).sound;
      settled = λ k.
          let a = sum_by-append (λ m. waits m k) h.cleared (h.now ∷ []) in
          let waiting = waits-sound h.now k s.sound in
          let joined = one_stretch 0 h.now.mark (length h.now.made) k (omega arith) (omega (arith, s.sound.given, last_number-ge h.now.mark h.now.queue s.sound.rising)) in
          let old = s.settled k in
          rw append-nil (omega (arith, a, waiting, joined, old));
    }

settled_all : (h : QueueHistory) (calls : List Call) → IsSettled h → IsSettled (fold longer h calls)
settled_all h [] s = s
settled_all h (call ∷ calls) s = settled_all (longer h call) calls (settled_on h call s)

settled_at_first : (size limit : ℕ) → 0 < size → IsSettled (record { now = none_made size limit; begun = []; cleared = [] })
settled_at_first size limit h = record {
  sound = (Shows-none size limit h).sound;
  settled = λ k. sym (empty_stretch 0 k);
}

one_fate : (h : QueueHistory) (k : ℕ) → IsSettled h → fates h k ≡ one_if (nat_le 1 k && nat_le k (length h.now.made))
one_fate h k s =
    let waiting = waits-sound h.now k s.sound in
    let joined = one_stretch 0 h.now.mark (length h.now.made) k (omega arith) (omega (arith, s.sound.given, last_number-ge h.now.mark h.now.queue s.sound.rising)) in
    let old = s.settled k in
    omega (arith, waiting, joined, old)

pub has_one_fate : (size limit : ℕ) (calls : List Call) (k : ℕ) → 0 < size → fates (history_of size limit calls) k ≡ one_if (nat_le 1 k && nat_le k (length (history_of size limit calls).now.made))
has_one_fate size limit calls k h = one_fate (history_of size limit calls) k (settled_all _ calls (settled_at_first size limit h))

-- the gaps shown are the counts of the numbers in them
gaps-placed : (made : List (Option (List ℕ))) (before : ℕ) (numbers : List ℕ) → map gap_of (with_gaps made before numbers) ≡ map gap_in (placed_from before numbers)
gaps-placed made before [] = refl
gaps-placed made before (number ∷ numbers) = ap (λ gaps. saturated (number - before - 1) ∷ gaps) (gaps-placed made number numbers)

gaps-taken : (n : ℕ) (made : List (Option (List ℕ))) (before : ℕ) (numbers : List ℕ) → map gap_of (take n (with_gaps made before numbers)) ≡ map gap_in (placed_from before (take n numbers))
gaps-taken zero made before numbers = refl
gaps-taken (suc n) made before [] = refl
gaps-taken (suc n) made before (number ∷ numbers) = ap (λ gaps. saturated (number - before - 1) ∷ gaps) (gaps-taken n made number numbers)

pub queued_gaps : (queue : Queue) (m : Numbered) → ShowsNumbered queue m → map gap_of queue.frames ≡ map gap_in (placed_from m.mark m.queue)
queued_gaps queue m h = rw h.same (gaps-placed m.made m.mark m.queue)

pub begun_gaps : (queue : Queue) (m : Numbered) (n : ℕ) → ShowsNumbered queue m → map gap_of (frames_begun queue n) ≡ map gap_in (begun_by_call m (Drain n))
begun_gaps queue m n h = rw h.same (gaps-taken (data_begun m n) m.made m.mark m.queue)
