-- What is known of the bytes that a deframer holds, call after call.
use Rattle.std.proofs.Common.{◌≡◌, ℕ, zero, suc, ◌+◌, ◌*◌, ◌<◌, ◌≤◌, List, [], ◌∷◌, ◌++◌, length, is_none, get_or, Option, Some, None, Bool, true, false, not, ◌==◌, ◌&&◌, nat_lt, if◌then◌else◌, sym, ap, ◌∙◌, subst, arith, length-append}
use Rattle.std.proofs.lemmas.List.{get_or-append-add}
use Rattle.std.specs.Option.{IfSome, MatchOption}
use Rattle.pg_wire.specs.declared.refusal.Refusal.{Refusal}
use Rattle.pg_wire.specs.declared.refusal.Refusal.TheVariants.{BadFirst, BadSecond, ShortSize}
use Rattle.pg_wire.specs.Frame.{IsPartial, break_of, size_of}
use Rattle.pg_wire.specs.Stream.{Deframing, fresh, fed, stopped}
use Rattle.pg_wire.specs.Taking.{TakesFrame}
use Rattle.pg_wire.specs.Held.{IsBreak, IsHeld}

-- the break that shows is one of the three
break-by : (first second short : Bool) (r : Refusal)
    → (if first then Some BadFirst else if second then Some BadSecond else if short then Some ShortSize else None) ≡ Some r → IsBreak r
break-by true second short r is = let e : BadFirst ≡ r = cc in subst IsBreak e (omega arith, omega arith)
break-by false true short r is = let e : BadSecond ≡ r = cc in subst IsBreak e (omega arith, omega arith)
break-by false false true r is = let e : ShortSize ≡ r = cc in subst IsBreak e (omega arith, omega arith)
break-by false false false r is = absurd (cc)

pub breaks : (bytes : List ℕ) (r : Refusal) → break_of bytes ≡ Some r → IsBreak r
breaks bytes r is = break-by (nat_lt 0 (length bytes) && not (get_or bytes 0 0 == 0xAA)) (nat_lt 1 (length bytes) && not (nat_lt (get_or bytes 1 0) 0x60))
    (nat_lt 3 (length bytes) && nat_lt (size_of bytes) 16) r is

-- the break that `next` answers: the one that shows, or the one before
pub broken_breaks : (old : Deframing) (r : Refusal) → IsHeld old
    → MatchOption old.broken (break_of old.held ≡ Some r) (λ before. before ≡ r) → IsBreak r
broken_breaks old r held is = by old.broken held.broke is
  where
    by : (broken : Option Refusal) → IfSome broken IsBreak → MatchOption broken (break_of old.held ≡ Some r) (λ before. before ≡ r) → IsBreak r
    by None broke is = breaks old.held r is
    by (Some before) broke is = subst IsBreak is broke

-- once it broke nothing is held
pub stopped_held : (new : Deframing) (r : Refusal) → new ≡ stopped r → IsBreak r → IsHeld new
stopped_held new r is broke = subst IsHeld (sym is) (record { octets = λ i. omega arith; broke = broke })

-- behind a frame the rest is held
pub rest_held : (old new : Deframing) (frame : List ℕ) (skipped : Option Refusal) → IsHeld old → TakesFrame old new frame skipped → IsHeld new
rest_held old new frame skipped held takes = record {
  octets = λ i. rw (← get_or-append-add frame new.held i 0) (rw (← takes.front) (held.octets (length frame + i)));
  broke = subst (λ (o : Option Refusal). IfSome o IsBreak) (sym takes.still) tt;
}

-- a frame came off, so fewer bytes are held
pub fewer_held : (old new : Deframing) (frame : List ℕ) (skipped : Option Refusal) → TakesFrame old new frame skipped → length new.held < length old.held
fewer_held old new frame skipped takes =
    let sized : 4 ≤ length frame = takes.whole.sized in
    let len : length old.held ≡ length frame + length new.held = ap length takes.front ∙ length-append frame new.held in
    omega arith

small-by : (len high low : ℕ) → high < 256 → low < 256 → (4 ≤ len → len < 256 * high + low) → len < 65535
small-by len high low h l short = grind arith

-- less than a frame is held, so there is room
pub partial_held : (d : Deframing) → IsHeld d → IsPartial d.held → length d.held < 65535
partial_held d held partial = small-by (length d.held) (get_or d.held 2 0) (get_or d.held 3 0) (held.octets 2) (held.octets 3) partial.short

-- nothing is held at first
pub fresh_held : IsHeld fresh
fresh_held = record { octets = λ i. omega arith; broke = tt }

octets_more : (xs ys : List ℕ) → ((i : ℕ) → get_or xs i 0 < 256) → ((i : ℕ) → get_or ys i 0 < 256) → (i : ℕ) → get_or (xs ++ ys) i 0 < 256
octets_more [] ys a b i = b i
octets_more (x ∷ xs) ys a b zero = a zero
octets_more (x ∷ xs) ys a b (suc i) = octets_more xs ys (λ j. a (suc j)) b i

-- a piece more of bytes
pub fed_held : (d : Deframing) (piece : List ℕ) → IsHeld d → ((i : ℕ) → get_or piece i 0 < 256) → IsHeld (fed d piece)
fed_held d piece held octets = record { octets = by (is_none d.broken); broke = held.broke }
  where
    by : (b : Bool) (i : ℕ) → get_or (if b then d.held ++ piece else d.held) i 0 < 256
    by true i = octets_more d.held piece held.octets octets i
    by false i = held.octets i
