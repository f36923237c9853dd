-- What came for the open slots of a stream, and what leaves with them.
use Rattle.std.proofs.Common.{◌≡◌, ℕ, ◌&&◌, ◌==◌, nat_lt, Bool, true, false, not, if◌then◌else◌, is_some, IsTrue, List, [], ◌∷◌, map, Option, Some, None, refl, sym, ap, ◌∙◌, subst, arith}
use Rattle.std.specs.List.{AllByRecursion}
use Rattle.std.proofs.lemmas.Grind.{common_steps}
use Rattle.std.proofs.lemmas.Bool.Decides.{nat_tests}
use Rattle.pg_data.specs.Pieces.{Piece}
use Rattle.pg_align.specs.Histories.{Arrival, StreamHistory, Departed, RiseTo, is_above, put_number, arrived, open_numbers, open_slots, is_to_leave, departed, slot_left, cause_of, left, with_late, leave_in_turn, leave_all, flush_in_turn, flush_all, take_arrival, keep_arrival}
use Rattle.pg_align.specs.declared.counts.Cause.TheVariants.{Changed}
use Rattle.pg_align.proofs.Leaving.{rest_open}
use Rattle.pg_align.proofs.Rising.{leaving-rises, leaving-stays}
use Rattle.pg_session.specs.Streams.{PlacedBlock, arrive_all}
use Rattle.pg_session.specs.ByAll.{by_arrivals}

abbrev OneHistory : Type 0
OneHistory = StreamHistory Piece

-- what came for each slot above `last` is so at each place
abbrev pub CameSo : (ℕ → Option Piece → Type 0) → Option ℕ → List (Arrival Piece) → Type 0
CameSo Q last arrivals = (slot place : ℕ) → IsTrue (is_above last slot) → Q place (arrived arrivals slot place)

-- ---- what leaves

all_put : (P : ℕ → Type 0) (n : ℕ) (ms : List ℕ) → P n → AllByRecursion P ms → AllByRecursion P (put_number n ms)
all_put P n [] is are = (is, tt)
all_put P n (m ∷ ms) is are = by (nat_lt n m) (m == n) (all_put P n ms is are.1)
  where
    by : (a b : Bool) → AllByRecursion P (put_number n ms) → AllByRecursion P (if a then n ∷ m ∷ ms else (if b then m ∷ ms else m ∷ put_number n ms))
    by true b rest = (is, are)
    by false true rest = are
    by false false rest = (are.0, rest)

-- each open slot is above the last one that left
all_open : (P : ℕ → Type 0) (last : Option ℕ) (arrivals : List (Arrival Piece)) → ((n : ℕ) → IsTrue (is_above last n) → P n)
    → AllByRecursion P (open_numbers last arrivals)
all_open P last [] each = tt
all_open P last (a ∷ arrivals) each = by (is_above last a.slot) refl (all_open P last arrivals each)
  where
    by : (b : Bool) → is_above last a.slot ≡ b → AllByRecursion P (open_numbers last arrivals)
        → AllByRecursion P (if b then put_number a.slot (open_numbers last arrivals) else open_numbers last arrivals)
    by true up rest = all_put P a.slot (open_numbers last arrivals) (each a.slot up) rest
    by false up rest = rest

frames_left : (P : Departed Piece → Type 0) (h : OneHistory) (numbers : List ℕ) → AllByRecursion (λ n. P (departed h n)) numbers
    → AllByRecursion P (leave_in_turn h numbers).frames
frames_left P h [] are = tt
frames_left P h (slot ∷ slots) are = by (is_to_leave h (slot ∷ slots)) refl (frames_left P (left h (cause_of h slot) slot) slots are.1)
  where
    by : (b : Bool) → is_to_leave h (slot ∷ slots) ≡ b → AllByRecursion P (leave_in_turn (left h (cause_of h slot) slot) slots).frames
        → AllByRecursion P (leave_in_turn h (slot ∷ slots)).frames
    by true t rest = rw t (are.0, rest)
    by false t rest = rw t tt

frames_flushed : (P : Departed Piece → Type 0) (h : OneHistory) (numbers : List ℕ) → AllByRecursion (λ n. P (departed h n)) numbers
    → AllByRecursion P (flush_in_turn h numbers).frames
frames_flushed P h [] are = tt
frames_flushed P h (slot ∷ slots) are = (are.0, frames_flushed P (left h Changed slot) slots are.1)

-- what leaves is as it is for each slot above the last one that left
pub leaving-frames : (P : Departed Piece → Type 0) (h : OneHistory) → ((n : ℕ) → IsTrue (is_above h.last n) → P (departed h n))
    → AllByRecursion P (leave_all h).frames
leaving-frames P h each = frames_left P h (open_slots h) (all_open (λ n. P (departed h n)) h.last h.arrivals each)

pub flushing-frames : (P : Departed Piece → Type 0) (h : OneHistory) → ((n : ℕ) → IsTrue (is_above h.last n) → P (departed h n))
    → AllByRecursion P (flush_all h).frames
flushing-frames P h each = frames_flushed P h (open_slots h) (all_open (λ n. P (departed h n)) h.last h.arrivals each)

-- ---- what is left behind

-- the last slot that left only rises
above_trans : (last : Option ℕ) (n slot : ℕ) → IsTrue (is_above last n) → IsTrue (nat_lt n slot) → IsTrue (is_above last slot)
above_trans None n slot h k = refl
above_trans (Some m) n slot h k = grind (arith, nat_tests)

above_before : (end last : Option ℕ) (numbers : List ℕ) (slot : ℕ) → RiseTo end last numbers → IsTrue (is_above end slot) → IsTrue (is_above last slot)
above_before end last [] slot r up = subst (λ o. IsTrue (is_above o slot)) (sym r) up
above_before end last (n ∷ numbers) slot r up = above_trans last n slot r.0 (above_before end (Some n) numbers slot r.1 up)

left_effective : (h : OneHistory) (numbers : List ℕ) → (leave_in_turn h numbers).after.effective ≡ h.effective
left_effective h [] = refl
left_effective h (slot ∷ slots) = by (is_to_leave h (slot ∷ slots)) refl (left_effective (left h (cause_of h slot) slot) slots)
  where
    by : (b : Bool) → is_to_leave h (slot ∷ slots) ≡ b → (leave_in_turn (left h (cause_of h slot) slot) slots).after.effective ≡ h.effective
        → (leave_in_turn h (slot ∷ slots)).after.effective ≡ h.effective
    by true t rest = rw t rest
    by false t rest = rw t refl

pub leaving-effective : (h : OneHistory) → (leave_all h).after.effective ≡ h.effective
leaving-effective h = left_effective h (open_slots h)

pub leaving-came : (Q : ℕ → Option Piece → Type 0) (h : OneHistory) → CameSo Q h.last h.arrivals
    → CameSo Q (leave_all h).after.last (leave_all h).after.arrivals
leaving-came Q h came slot place up =
    subst (λ arrivals. Q place (arrived arrivals slot place)) (sym (leaving-stays h).0)
    (came slot place (above_before (leave_all h).after.last h.last (map slot_left (leave_all h).frames) slot (leaving-rises h) up))

-- after a flush no slot is open
none_open : (h : OneHistory) (numbers : List ℕ) → open_slots h ≡ numbers → open_slots (flush_in_turn h numbers).after ≡ []
none_open h [] e = e
none_open h (slot ∷ slots) e = none_open (left h Changed slot) slots (rest_open h Changed slot slots e)

put_some : (n : ℕ) (ms : List ℕ) → put_number n ms ≡ [] → ⊥
put_some n [] e = cc e
put_some n (m ∷ ms) e = by (nat_lt n m) (m == n) e
  where
    by : (a b : Bool) → (if a then n ∷ m ∷ ms else (if b then m ∷ ms else m ∷ put_number n ms)) ≡ [] → ⊥
    by true b e = cc e
    by false true e = cc e
    by false false e = cc e

same_slot : (a : Arrival Piece) (slot place : ℕ) (last : Option ℕ) → is_above last a.slot ≡ false → IsTrue (is_above last slot)
    → (a.slot == slot && a.place == place) ≡ false
same_slot a slot place last below up = by (a.slot == slot) refl
  where
    by : (b : Bool) → (a.slot == slot) ≡ b → (b && a.place == place) ≡ false
    by false t = refl
    by true t =
        let same : a.slot ≡ slot = grind (arith, common_steps) in
        absurd (let up_too = ap (λ n. is_above last n) same in
        cc (below, up_too, up))

none_came : (last : Option ℕ) (arrivals : List (Arrival Piece)) (slot place : ℕ) → open_numbers last arrivals ≡ [] → IsTrue (is_above last slot)
    → arrived arrivals slot place ≡ None
none_came last [] slot place e up = refl
none_came last (a ∷ arrivals) slot place e up = by (is_above last a.slot) refl e (λ closed. none_came last arrivals slot place closed up)
  where
    by : (b : Bool) → is_above last a.slot ≡ b → (if b then put_number a.slot (open_numbers last arrivals) else open_numbers last arrivals) ≡ []
        → (open_numbers last arrivals ≡ [] → arrived arrivals slot place ≡ None) → arrived (a ∷ arrivals) slot place ≡ None
    by true t closed rest = absurd (put_some a.slot (open_numbers last arrivals) closed)
    by false t closed rest =
        ap (λ b. if b then Some a.part else arrived arrivals slot place) (same_slot a slot place last t up) ∙ rest closed

pub flushing-came : (h : OneHistory) (slot place : ℕ) → IsTrue (is_above (flush_all h).after.last slot) → arrived (flush_all h).after.arrivals slot place ≡ None
flushing-came h slot place up =
    none_came (flush_all h).after.last (flush_all h).after.arrivals slot place (none_open h (open_slots h) refl) up

-- ---- what comes

-- an arrival keeps the last slot that left and the effective members
pub record Keeps (Q : ℕ → Option Piece → Type 0) (h after : OneHistory) : Type 0 where
  pub effective : after.effective ≡ h.effective
  pub came : CameSo Q after.last after.arrivals

keep_came : (Q : ℕ → Option Piece → Type 0) (h : OneHistory) (slot place : ℕ) (part : Piece) → Q place (Some part) → CameSo Q h.last h.arrivals
    → CameSo Q h.last (keep_arrival h slot place part).arrivals
keep_came Q h slot place part is came n k up = by (slot == n) (place == k) refl (came n k up)
  where
    by : (a b : Bool) → (place == k) ≡ b → Q k (arrived h.arrivals n k) → Q k (if a && b then Some part else arrived h.arrivals n k)
    by true true t old = subst (λ m. Q m (Some part)) (let same : place ≡ k = grind (arith, common_steps) in same) is
    by true false t old = old
    by false b t old = old

take_keeps : (Q : ℕ → Option Piece → Type 0) (h : OneHistory) (slot place : ℕ) (part : Piece) → Q place (Some part) → CameSo Q h.last h.arrivals
    → Keeps Q h (take_arrival h slot place part)
take_keeps Q h slot place part is came = by (is_above h.last slot) (is_some (arrived h.arrivals slot place))
  where
    by : (a b : Bool) → Keeps Q h (if not a then with_late h place else (if b then h else keep_arrival h slot place part))
    by false b = record { effective = refl; came = came }
    by true true = record { effective = refl; came = came }
    by true false = record { effective = refl; came = keep_came Q h slot place part is came }

-- blocks that are so come, one after another
pub arriving-keeps : (Q : ℕ → Option Piece → Type 0) (h : OneHistory) (slot : ℕ) (ps : List PlacedBlock) → AllByRecursion (λ p. Q p.place (Some p.piece)) ps
    → CameSo Q h.last h.arrivals → Keeps Q h (arrive_all by_arrivals h slot ps).slots
arriving-keeps Q h slot [] are came = record { effective = refl; came = came }
arriving-keeps Q h slot (p ∷ ps) are came =
    let one = take_keeps Q h slot p.place p.piece are.0 came in
    let rest = arriving-keeps Q (take_arrival h slot p.place p.piece) slot ps are.1 one.came in
    record { effective = rest.effective ∙ one.effective; came = rest.came }
