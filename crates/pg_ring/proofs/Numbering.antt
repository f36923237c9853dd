-- The ring keeps what the numbers say.
use Rattle.std.proofs.Common.{take, drop, zero, suc, ◌≡◌, ℕ, ◌+◌, ◌-◌, ◌<◌, ◌≤◌, Bool, true, false, ◌&&◌, List, [], ◌∷◌, ◌++◌, length, length-append, Option, Some, None, refl, ap, ◌∙◌, arith}
use Rattle.std.specs.Prelude.{nat_lt, nat_le}
use Rattle.std.proofs.lemmas.Grind.{common_steps}
use Rattle.std.proofs.lemmas.List.{length_push, get_or_push}
use Rattle.pg_ring.specs.Shown.{Framed, Queue, saturated, bytes_in, data_frames, empty_queue, emptied, drained}
use Rattle.pg_ring.specs.Steps.{has_room, room, pass_on, with_data, with_lost, with_reply}
use Rattle.pg_ring.specs.Numbers.{Numbered, dropped_by, cleared_by, bytes_made, bytes_in_all, last_number, with_gaps, shown_of, newest, push_made, lose_made, data_begun, drain_made, clear_made, reply_made, none_made, Rising, IsSound, ShowsNumbered}

-- a sum that stopped at the limit goes on as the true one
pub saturated_add : (a b : ℕ) → saturated (saturated a + saturated b) ≡ saturated (a + b)
saturated_add a b = omega arith

pub saturated_next : (a b : ℕ) → saturated (saturated a + saturated b + 1) ≡ saturated (a + b + 1)
saturated_next a b = omega arith

-- the last number is at least each
pub last_number-ge : (before : ℕ) (numbers : List ℕ) → Rising before numbers → before ≤ last_number before numbers
last_number-ge before [] h = omega arith
last_number-ge before (number ∷ numbers) h = omega (arith, h.0, last_number-ge number numbers h.1)

pub last_number-push : (before number : ℕ) (numbers : List ℕ) → last_number before (numbers ++ number ∷ []) ≡ number
last_number-push before number [] = refl
last_number-push before number (first ∷ numbers) = last_number-push first number numbers

pub Rising-push : (before number : ℕ) (numbers : List ℕ) → Rising before numbers → last_number before numbers < number → Rising before (numbers ++ number ∷ [])
Rising-push before number [] h p = (p, tt)
Rising-push before number (first ∷ numbers) h p = (h.0, Rising-push first number numbers h.1 p)

-- a frame keeps its bytes as more are made
pub bytes_made-more : (made : List (Option (List ℕ))) (x : Option (List ℕ)) (number : ℕ) → 0 < number → number ≤ length made → bytes_made (made ++ x ∷ []) number ≡ bytes_made made number
bytes_made-more made x number p q = grind (arith, common_steps)

pub with_gaps-more : (made : List (Option (List ℕ))) (x : Option (List ℕ)) (before : ℕ) (numbers : List ℕ) → Rising before numbers → last_number before numbers ≤ length made → with_gaps (made ++ x ∷ []) before numbers ≡ with_gaps made before numbers
with_gaps-more made x before [] h p = refl
with_gaps-more made x before (number ∷ numbers) h p =
    let le : number ≤ length made = omega (arith, last_number-ge number numbers h.1) in
    let e = bytes_made-more made x number (omega (arith, h.0)) le in
    let r = with_gaps-more made x number numbers h.1 p in
    cc

pub with_gaps-push : (made : List (Option (List ℕ))) (before number : ℕ) (numbers : List ℕ) → with_gaps made before (numbers ++ number ∷ []) ≡ with_gaps made before numbers ++ record { bytes = bytes_made made number; gap = saturated (number - last_number before numbers - 1) } ∷ []
with_gaps-push made before number [] = refl
with_gaps-push made before number (first ∷ numbers) = ap (λ fs. record { bytes = bytes_made made first; gap = saturated (first - before - 1) } ∷ fs) (with_gaps-push made first number numbers)

pub length-with_gaps : (made : List (Option (List ℕ))) (before : ℕ) (numbers : List ℕ) → length (with_gaps made before numbers) ≡ length numbers
length-with_gaps made before [] = refl
length-with_gaps made before (number ∷ numbers) = grind (arith, length-with_gaps made number numbers)

pub bytes_in-with_gaps : (made : List (Option (List ℕ))) (before : ℕ) (numbers : List ℕ) → bytes_in (with_gaps made before numbers) ≡ bytes_in_all made numbers
bytes_in-with_gaps made before [] = refl
bytes_in-with_gaps made before (number ∷ numbers) = ap (λ n. length (bytes_made made number) + n) (bytes_in-with_gaps made number numbers)

pub bytes_in_all-push : (made : List (Option (List ℕ))) (number : ℕ) (numbers : List ℕ) → bytes_in_all made (numbers ++ number ∷ []) ≡ bytes_in_all made numbers + length (bytes_made made number)
bytes_in_all-push made number [] = grind arith
bytes_in_all-push made number (first ∷ numbers) = grind (arith, bytes_in_all-push made number numbers)

-- room for one more is what the queue with that one has
pub same_room : (a s c x l : ℕ) → x ≤ l → (nat_lt a s && nat_le c (l - x)) ≡ (nat_le (a + 1) s && nat_le (c + x) l)
same_room a s c x l p = grind (arith, common_steps)

-- the bytes of frames that were made stay as more are made
pub bytes_in_all-more : (made : List (Option (List ℕ))) (x : Option (List ℕ)) (before : ℕ) (numbers : List ℕ) → Rising before numbers → last_number before numbers ≤ length made → bytes_in_all (made ++ x ∷ []) numbers ≡ bytes_in_all made numbers
bytes_in_all-more made x before [] h p = refl
bytes_in_all-more made x before (number ∷ numbers) h p =
    let le : number ≤ length made = omega (arith, last_number-ge number numbers h.1) in
    let e = bytes_made-more made x number (omega (arith, h.0)) le in
    let r = bytes_in_all-more made x number numbers h.1 p in
    cc

-- a gap that is carried past a frame
carried_on : (mark before first : ℕ) → mark ≤ before → before < first → saturated (saturated (before - mark) + saturated (first - before - 1) + 1) ≡ saturated (first - mark)
carried_on mark before first m h = omega arith

gap_carried : (mark before first : ℕ) → mark ≤ before → before < first → saturated (saturated (before - mark) + saturated (first - before - 1)) ≡ saturated (first - mark - 1)
gap_carried mark before first m h = omega arith

module _ (made : List (Option (List ℕ))) (size limit mark number : ℕ) where
  abbrev new_frame : ℕ → List ℕ → Framed
  new_frame before numbers = record { bytes = bytes_made made number; gap = saturated (number - last_number before numbers - 1) }

  -- what a push gives where `numbers` are still to be looked at, of which the first follows `before`
  abbrev pushed_from : ℕ → ℕ → List ℕ → List Framed
  pushed_from passed before numbers =
      let left = room size (limit - length (bytes_made made number)) passed (with_gaps made before numbers) in
      pass_on left.0 (left.1 ++ new_frame before numbers ∷ [])

  abbrev has : ℕ → ℕ → List ℕ → Bool
  has before first numbers = has_room size (limit - length (bytes_made made number)) (with_gaps made before (first ∷ numbers))

  abbrev fits : ℕ → List ℕ → Bool
  fits first numbers = nat_le (length (first ∷ (numbers ++ number ∷ []))) size && nat_le (bytes_in_all made (first ∷ (numbers ++ number ∷ []))) limit

  has-fits : (before first : ℕ) (numbers : List ℕ) → length (bytes_made made number) ≤ limit → has before first numbers ≡ fits first numbers
  has-fits before first numbers l =
      rw (length-with_gaps made first numbers, bytes_in-with_gaps made first numbers, length-append numbers (number ∷ []), bytes_in_all-push made number numbers)
      (grind (arith, common_steps))

  step : (before first : ℕ) (numbers : List ℕ) (b : Bool) → has before first numbers ≡ b → fits first numbers ≡ b → mark ≤ before → before < first → pushed_from (saturated (first - mark)) first numbers ≡ with_gaps made mark (newest size limit made (numbers ++ number ∷ [])) → pushed_from (saturated (before - mark)) before (first ∷ numbers) ≡ with_gaps made mark (newest size limit made (first ∷ (numbers ++ number ∷ [])))
  step before first numbers true e f m h below = rw (e, f, gap_carried mark before first m h, with_gaps-push made first number numbers)
  step before first numbers false e f m h below = rw (e, f, carried_on mark before first m h) below

  pub newest_is_pushed : (before : ℕ) (numbers : List ℕ) → 0 < size → length (bytes_made made number) ≤ limit → mark ≤ before → Rising before numbers → last_number before numbers < number → pushed_from (saturated (before - mark)) before numbers ≡ with_gaps made mark (newest size limit made (numbers ++ number ∷ []))
  newest_is_pushed before [] s l m h p =
      let test : (nat_le 1 size && nat_le (length (bytes_made made number) + 0) limit) ≡ true = grind (arith, common_steps) in
      rw (test, gap_carried mark before number m p)
  newest_is_pushed before (first ∷ numbers) s l m h p =
      let same = has-fits before first numbers l in
      step before first numbers (fits first numbers) same refl m h.0 (newest_is_pushed first numbers s l (omega (arith, h.0)) h.1 p)

last_step : (made : List (Option (List ℕ))) (size limit mark number first : ℕ) (numbers : List ℕ) (b : Bool) → fits made size limit mark number first numbers ≡ b → last_number mark (newest size limit made (numbers ++ number ∷ [])) ≡ number → last_number mark (newest size limit made (first ∷ (numbers ++ number ∷ []))) ≡ number
last_step made size limit mark number first numbers true e below = rw e (last_number-push first number numbers)
last_step made size limit mark number first numbers false e below = rw e below

pub last_number-newest : (made : List (Option (List ℕ))) (size limit mark number : ℕ) (numbers : List ℕ) → 0 < size → length (bytes_made made number) ≤ limit → last_number mark (newest size limit made (numbers ++ number ∷ [])) ≡ number
last_number-newest made size limit mark number [] s l =
    let test : (nat_le 1 size && nat_le (length (bytes_made made number) + 0) limit) ≡ true = grind (arith, common_steps) in
    rw test
last_number-newest made size limit mark number (first ∷ numbers) s l =
    last_step made size limit mark number first numbers (fits made size limit mark number first numbers) refl (last_number-newest made size limit mark number numbers s l)

rising_step : (made : List (Option (List ℕ))) (size limit mark first : ℕ) (numbers : List ℕ) (b : Bool) → (nat_le (length (first ∷ numbers)) size && nat_le (bytes_in_all made (first ∷ numbers)) limit) ≡ b → mark < first → Rising first numbers → Rising mark (newest size limit made numbers) → Rising mark (newest size limit made (first ∷ numbers))
rising_step made size limit mark first numbers true e m h below = rw e (m, h)
rising_step made size limit mark first numbers false e m h below = rw e below

pub Rising-newest : (made : List (Option (List ℕ))) (size limit mark before : ℕ) (numbers : List ℕ) → mark ≤ before → Rising before numbers → Rising mark (newest size limit made numbers)
Rising-newest made size limit mark before [] m h = h
Rising-newest made size limit mark before (first ∷ numbers) m h =
    rising_step made size limit mark first numbers _ refl (omega (arith, h.0)) h.1 (Rising-newest made size limit mark first numbers (omega (arith, h.0)) h.1)

pending_more : (made last : ℕ) → last ≤ made → saturated (saturated (made - last) + 1) ≡ saturated (made + 1 - last)
pending_more made last h = omega arith

pub Shows-lost : (queue : Queue) (m : Numbered) → ShowsNumbered queue m → ShowsNumbered (with_lost queue) (lose_made m)
Shows-lost queue m h =
    record {
      sound = record { some_size = h.sound.some_size; rising = h.sound.rising; given = grind (arith, common_steps, h.sound.given) };
      same = rw (h.same, with_gaps-more m.made None m.mark m.queue h.sound.rising h.sound.given, length_push m.made None, pending_more (length m.made) (last_number m.mark m.queue) h.sound.given);
    }

-- the frame that was made last
bytes_made-last : (made : List (Option (List ℕ))) (bytes : List ℕ) → bytes_made (made ++ Some bytes ∷ []) (length made + 1) ≡ bytes
bytes_made-last made bytes = let e : (length made + 1) - 1 ≡ length made = omega arith in rw (e, get_or_push made (Some bytes) None (length made) refl)

nothing_since : (n : ℕ) → saturated (n - n) ≡ 0
nothing_since n = omega arith

gap_is_pending : (made last : ℕ) → saturated (made + 1 - last - 1) ≡ saturated (made - last)
gap_is_pending made last = omega arith

data_step : (m : Numbered) (bytes : List ℕ) (b : Bool) → nat_le (length bytes) m.byte_limit ≡ b → IsSound m → ShowsNumbered (with_data (shown_of m) bytes) (push_made m bytes)
data_step m bytes true e h =
    let made = m.made ++ Some bytes ∷ [] in
    let number : ℕ = length m.made + 1 in
    let last = bytes_made-last m.made bytes in
    let light : length bytes ≤ m.byte_limit = grind (arith, common_steps) in
    let fit : length (bytes_made made number) ≤ m.byte_limit = rw last light in
    let below : last_number m.mark m.queue < number = omega (arith, h.given) in
    let rises = Rising-push m.mark number m.queue h.rising below in
    let pushed = newest_is_pushed made m.ring_size m.byte_limit m.mark number m.mark m.queue h.some_size fit (omega arith) h.rising below in
    let newest_last = last_number-newest made m.ring_size m.byte_limit m.mark number m.queue h.some_size fit in
    let new_frames = rw (nothing_since m.mark, with_gaps-more m.made (Some bytes) m.mark m.queue h.rising h.given, last, gap_is_pending (length m.made) (last_number m.mark m.queue)) at pushed in
    rw e record {
      sound = record {
        some_size = h.some_size;
        rising = Rising-newest made m.ring_size m.byte_limit m.mark m.mark (m.queue ++ number ∷ []) (omega arith) rises;
        given = rw (newest_last, length_push m.made (Some bytes)) (omega arith);
      };
      same = rw (new_frames, newest_last, length_push m.made (Some bytes), nothing_since number);
    }
data_step m bytes false e h =
    let more = with_gaps-more m.made (Some bytes) m.mark m.queue h.rising h.given in
    rw e record {
      sound = record { some_size = h.some_size; rising = h.rising; given = grind (arith, common_steps, h.given) };
      same = rw (more, length_push m.made (Some bytes), pending_more (length m.made) (last_number m.mark m.queue) h.given);
    }

pub Shows-data : (queue : Queue) (m : Numbered) (bytes : List ℕ) → ShowsNumbered queue m → ShowsNumbered (with_data queue bytes) (push_made m bytes)
Shows-data queue m bytes h = rw h.same (data_step m bytes (nat_le (length bytes) m.byte_limit) refl h.sound)

-- what is left of the frames is what is left of the numbers
pub with_gaps-drop : (made : List (Option (List ℕ))) (k before : ℕ) (numbers : List ℕ) → drop k (with_gaps made before numbers) ≡ with_gaps made (last_number before (take k numbers)) (drop k numbers)
with_gaps-drop made zero before numbers = refl
with_gaps-drop made (suc k) before [] = refl
with_gaps-drop made (suc k) before (number ∷ numbers) = with_gaps-drop made k number numbers

last_number-drop : (k before : ℕ) (numbers : List ℕ) → last_number (last_number before (take k numbers)) (drop k numbers) ≡ last_number before numbers
last_number-drop zero before numbers = refl
last_number-drop (suc k) before [] = refl
last_number-drop (suc k) before (number ∷ numbers) = last_number-drop k number numbers

Rising-drop : (k before : ℕ) (numbers : List ℕ) → Rising before numbers → Rising (last_number before (take k numbers)) (drop k numbers)
Rising-drop zero before numbers h = h
Rising-drop (suc k) before [] h = h
Rising-drop (suc k) before (number ∷ numbers) h = Rising-drop k number numbers h.1

pub Shows-drain : (queue : Queue) (m : Numbered) (n : ℕ) → ShowsNumbered queue m → ShowsNumbered (drained queue n) (drain_made m n)
Shows-drain queue m n h =
    let k = data_begun m n in
    record {
      sound = record {
        some_size = h.sound.some_size;
        rising = Rising-drop k m.mark m.queue h.sound.rising;
        given = rw (last_number-drop k m.mark m.queue) h.sound.given;
      };
      same = rw (h.same, with_gaps-drop m.made k m.mark m.queue, last_number-drop k m.mark m.queue);
    }

pub Shows-clear : (queue : Queue) (m : Numbered) → ShowsNumbered queue m → ShowsNumbered (emptied queue) (clear_made m)
Shows-clear queue m h =
    record {
      sound = record { some_size = h.sound.some_size; rising = tt; given = omega arith };
      same = rw (h.same, nothing_since (length m.made));
    }

reply_step : (m : Numbered) (bytes : List ℕ) (b : Bool) → nat_lt (length m.replies) 8 ≡ b → IsSound m → ShowsNumbered (with_reply (shown_of m) bytes) (reply_made m bytes)
reply_step m bytes true e h = rw e record { sound = record { some_size = h.some_size; rising = h.rising; given = h.given }; same = refl }
reply_step m bytes false e h = rw e record { sound = h; same = refl }

pub Shows-cleared : (queue : Queue) (m : Numbered) (count : ℕ) → ShowsNumbered queue m → count ≡ data_frames queue → count ≡ cleared_by m
Shows-cleared queue m count h e =
    let same : data_frames queue ≡ cleared_by m = rw (h.same, length-with_gaps m.made m.mark m.queue) refl in
    e ∙ same

pub Shows-reply : (queue : Queue) (m : Numbered) (bytes : List ℕ) → ShowsNumbered queue m → ShowsNumbered (with_reply queue bytes) (reply_made m bytes)
Shows-reply queue m bytes h = rw h.same (reply_step m bytes _ refl h.sound)

pub Shows-none : (size limit : ℕ) → 0 < size → ShowsNumbered (empty_queue size limit) (none_made size limit)
Shows-none size limit h = record { sound = record { some_size = h; rising = tt; given = omega arith }; same = refl }

-- a count that makes up for what a push leaves is that of the frames dropped
dropped_step : (m : Numbered) (bytes : List ℕ) (count : ℕ) (b : Bool) → nat_le (length bytes) m.byte_limit ≡ b → count + length (push_made m bytes).queue ≡ length m.queue + 1 → count ≡ dropped_by m bytes
dropped_step m bytes count true e h = rw (e, length_push m.queue (length m.made + 1)) (omega (arith, rw e at h))
dropped_step m bytes count false e h = rw e (omega (arith, rw e at h))

-- what is shown after a push shows what the numbers are then, and its count is that of the frames dropped
pub Shows-push : (old new : Queue) (m : Numbered) (bytes : List ℕ) (count : ℕ) → new ≡ with_data old bytes → count + length new.frames ≡ length old.frames + 1 → ShowsNumbered old m → ShowsNumbered new (push_made m bytes) × (count ≡ dropped_by m bytes)
Shows-push old new m bytes count s e h =
    let now = push_made m bytes in
    let shows : ShowsNumbered new now = rw s (Shows-data old m bytes h) in
    let before : length old.frames ≡ length m.queue = ap (λ (q : Queue). length q.frames) h.same ∙ length-with_gaps m.made m.mark m.queue in
    let behind : length new.frames ≡ length now.queue = ap (λ (q : Queue). length q.frames) shows.same ∙ length-with_gaps now.made now.mark now.queue in
    (shows, dropped_step m bytes count _ refl (omega (arith, e, before, behind)))
