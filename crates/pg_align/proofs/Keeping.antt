-- What each call keeps of the fields.
use Rattle.std.proofs.Common.{◌≡◌, ℕ, ◌+◌, false, true, [], ◌∷◌, ◌++◌, length, Bool, Some, ap, sym, ◌∙◌, vec_capacity, arith}
use Rattle.std.specs.Global.{Vec}
use Rattle.pg_align.specs.Slots.{AreFree, AreRising, HavePlaces}
use Rattle.pg_align.specs.Fields.{AlignIsKept, AreAbove, AreCounted, AreSpare, slot_of, slots_of}
use Rattle.pg_align.proofs.Kept.{AreAbove-none, AreBeforeLent-push}
use Rattle.pg_align.specs.declared.slot.Slot.{Slot}
use Rattle.pg_align.specs.declared.counts.SlotCounts.{SlotCounts}
use Rattle.pg_align.specs.declared.align.Align.TheInside.{Inside}

-- the slot that was lent was taken back
pub record TakenBack (a : Inside) (lent : Bool) (spare : Vec Slot) : Type 0 where
  pub none : lent ≡ false
  pub len : length spare.items ≡ length a.spare.items
  pub free : AreFree (length a.effective.items) (slots_of spare.items)
  pub capacity : vec_capacity spare ≡ vec_capacity a.spare

pub taken_back : (a : Inside) (lent : Bool) (spare : Vec Slot) → AlignIsKept a → lent ≡ false → length spare.items ≡ length a.spare.items → ((places : ℕ) → AreSpare places a.lent a.spare.items → AreFree places (slots_of spare.items)) → vec_capacity spare ≡ vec_capacity a.spare → TakenBack a lent spare
taken_back a lent spare k none len free capacity =
    record { none = none; len = len; free = free (length a.effective.items) k.spare_free; capacity = capacity }

pub kept_back : (a : Inside) (lent : Bool) (spare : Vec Slot) → AlignIsKept a → TakenBack a lent spare → AlignIsKept (record a { spare = spare; lent = lent })
kept_back a lent spare k t = record {
  some_window = k.some_window;
  small_window = k.small_window;
  small_wait = k.small_wait;
  wanted = k.wanted;
  some_members = k.some_members;
  few_members = k.few_members;
  all_slots = omega (arith, k.all_slots, t.len);
  slots_room = k.slots_room;
  spare_room = rw t.capacity k.spare_room;
  slots_places = k.slots_places;
  rising = k.rising;
  above = k.above;
  counted = k.counted;
  spare_free = rw t.none t.free;
  off = k.off;
}

-- the least slot left, and is lent
pub kept_least : (a : Inside) (lent : Bool) (slots before spare : Vec Slot) (least : Slot) (counts : SlotCounts) → AlignIsKept a → TakenBack a lent before → a.slots.items ≡ least ∷ slots.items → slots_of a.slots.items ≡ slot_of least ∷ slots_of slots.items → length a.slots.items ≡ length slots.items + 1 → vec_capacity slots ≡ vec_capacity a.slots → spare.items ≡ before.items ++ least ∷ [] → length spare.items ≡ length before.items + 1 → vec_capacity spare ≡ vec_capacity before → AlignIsKept (record a { last = Some least.number; slots = slots; spare = spare; lent = true; counts = counts })
kept_least a lent slots before spare least counts k t whole split len capacity pushed more room =
    let places = rw split at k.slots_places in
    let rising = rw split at k.rising in
    let counted = rw whole at k.counted in
    record {
      some_window = k.some_window;
      small_window = k.small_window;
      small_wait = k.small_wait;
      wanted = k.wanted;
      some_members = k.some_members;
      few_members = k.few_members;
      all_slots = omega (arith, k.all_slots, t.len, len, more);
      slots_room = rw capacity k.slots_room;
      spare_room = rw (room, t.capacity) k.spare_room;
      slots_places = places.1;
      rising = rising.1;
      above = rising.0;
      counted = counted.1;
      spare_free = rw pushed (AreBeforeLent-push (length a.effective.items) before.items least t.free places.0);
      off = λ e. absurd (omega (arith, ap length (k.off e), len));
    }

-- the slots of a stream that is on are others, as many with those that are free
pub kept_arrival : (a : Inside) (lent : Bool) (slots before spare : Vec Slot) (counts : SlotCounts) → AlignIsKept a → TakenBack a lent before → a.is_on ≡ true → length slots.items + length spare.items ≡ length a.slots.items + length before.items → vec_capacity slots ≡ vec_capacity a.slots → vec_capacity spare ≡ vec_capacity before → HavePlaces (length a.effective.items) (slots_of slots.items) → AreRising (slots_of slots.items) → AreAbove a.last (slots_of slots.items) → AreCounted a.effective.items slots.items → AreFree (length a.effective.items) (slots_of spare.items) → AlignIsKept (record a { slots = slots; spare = spare; lent = lent; counts = counts })
kept_arrival a lent slots before spare counts k t on count slots_room spare_room places rising above counted free = record {
  some_window = k.some_window;
  small_window = k.small_window;
  small_wait = k.small_wait;
  wanted = k.wanted;
  some_members = k.some_members;
  few_members = k.few_members;
  all_slots = omega (arith, k.all_slots, t.len, count);
  slots_room = rw slots_room k.slots_room;
  spare_room = rw (spare_room, t.capacity) k.spare_room;
  slots_places = places;
  rising = rising;
  above = above;
  counted = counted;
  spare_free = rw t.none free;
  off = λ e. absurd (let f : true ≡ false = sym on ∙ e in cc);
}

-- no slot is open, and the stream is off
pub kept_none : (a : Inside) (lent : Bool) (slots before spare : Vec Slot) → AlignIsKept a → TakenBack a lent before → slots.items ≡ [] → length spare.items ≡ length a.slots.items + length before.items → vec_capacity slots ≡ vec_capacity a.slots → vec_capacity spare ≡ vec_capacity before → AreFree (length a.effective.items) (slots_of spare.items) → AlignIsKept (record a { is_on = false; slots = slots; spare = spare; lent = lent })
kept_none a lent slots before spare k t none count slots_room spare_room free = record {
  some_window = k.some_window;
  small_window = k.small_window;
  small_wait = k.small_wait;
  wanted = k.wanted;
  some_members = k.some_members;
  few_members = k.few_members;
  all_slots = rw none (omega (arith, k.all_slots, t.len, count));
  slots_room = rw slots_room k.slots_room;
  spare_room = rw (spare_room, t.capacity) k.spare_room;
  slots_places = rw none tt;
  rising = rw none tt;
  above = rw none (AreAbove-none a.last);
  counted = rw none tt;
  spare_free = rw t.none free;
  off = λ e. none;
}
