-- Laws of what is told of a stream, and of the commands that are owed.
use Rattle.std.proofs.Common.{◌≡◌, ◌↔◌, ℕ, ◌+◌, Bool, true, false, not, ◌==◌, nat_lt, ◌&&◌, ◌||◌, if◌then◌else◌, List, [], ◌∷◌, ◌++◌, reverse, Option, Some, None, Result, Ok, Err, refl, sym, ap, ap₂, ◌∙◌, subst, inl, inr}
use Rattle.std.specs.List.{list_any, All}
use Rattle.std.specs.Option.{IfSome}
use Rattle.std.proofs.Math.Bool.{or-true}
use Rattle.std.proofs.lemmas.Bool.{eqb-true}
use Rattle.std.proofs.lemmas.List.{reverse-append, reverse-reverse}
use Rattle.std.proofs.lemmas.List.Elements.{All-nil, All-cons, All-head, All-tail}
use Rattle.std.proofs.lemmas.List.Sorted.{IsPermutation-reverse, list_any-IsPermutation}
use Rattle.pg_wire.specs.declared.refusal.Refusal.{Refusal}
use Rattle.pg_wire.specs.declared.refusal.Refusal.TheVariants.{WrongId, BadLength, BadFraction}
use Rattle.pg_wire.specs.declared.kind.Kind.TheVariants.{CfgTwo, Measured}
use Rattle.pg_wire.specs.Kinds.{kind_number}
use Rattle.pg_wire.specs.Head.{two_at, three_at}
use Rattle.pg_command.specs.declared.word.Word.{Word}
use Rattle.pg_wire.specs.Split.{frames_in, rest_in}
use Rattle.pg_wire.specs.Frame.{skip_of, size_of}
use Rattle.pg_wire.proofs.Splitting.{frames_in-append}
use Rattle.pg_config.specs.declared.source.Announced.{Announced}
use Rattle.pg_config.specs.Parts.{Source, data_lens}
use Rattle.pg_config.specs.Reading.{config_of}
use Rattle.pg_data.specs.Measurements.{resolution}
use Rattle.pg_data.specs.Reading.{data_of, measurement_of}
use Rattle.pg_ingest.specs.Items.{Item, announces, measures, skips, rejects_config, rejects_data, passes_over, is_want, item_of, kind_in, item_unless, config_item, data_item, data_by, Tells, AreTold, told_back, told_of, announced_last, known_after, IsOwn}
use Rattle.pg_ingest.specs.Commands.{Act, tells, asks, told_in, is_trigger, is_answer, is_question, is_unanswered, owes_config}
use Rattle.pg_ingest.specs.Owed.{FellDue, HasUnanswered, FellDueAt, HasOwed}

-- ---- what is told, as a function

or-false : (a b : Bool) → a || b ≡ false → (a ≡ false) × (b ≡ false)
or-false false b h = (refl, h)
or-false true b h = absurd (cc)

not-wanting : (source : ℕ) (known : Option Source) (frame : List ℕ) (item : Item) → Tells source known frame item → is_want item ≡ false → item ≡ item_of source known frame
not-wanting source known frame item (inl is) plain = is
not-wanting source known frame item (inr (inl want)) plain = absurd (let wrong : true ≡ false = sym (ap is_want want.0) ∙ plain in cc)
not-wanting source known frame item (inr (inr want)) plain = absurd (let wrong : true ≡ false = sym (ap is_want want.0) ∙ plain in cc)

told_back-only : (source : ℕ) (frames : List (List ℕ)) (items : List Item) → AreTold source frames items → list_any is_want items ≡ false → items ≡ told_back source frames
told_back-only source [] [] told plain = refl
told_back-only source [] (item ∷ items) told plain = absurd told
told_back-only source (frame ∷ frames) [] told plain = absurd told
told_back-only source (frame ∷ frames) (item ∷ items) told plain =
    let parts = or-false (is_want item) (list_any is_want items) plain in
    let before = told_back-only source frames items told.1 parts.1 in
    ap₂ (λ i is. i ∷ is) (not-wanting source (announced_last items) frame item told.0 parts.0 ∙ ap (λ is. item_of source (announced_last is) frame) before) before

pub told_of-only : (source : ℕ) (stream : List ℕ) (items : List Item) → AreTold source (reverse (frames_in stream)) (reverse items) → list_any is_want items ≡ false
    → items ≡ told_of source stream
told_of-only source stream items told plain =
    sym (reverse-reverse items)
    ∙ ap reverse (told_back-only source (reverse (frames_in stream)) (reverse items) told
    (sym (list_any-IsPermutation is_want items (reverse items) (IsPermutation-reverse items)) ∙ plain))

-- ---- more bytes

told_back-append : (source : ℕ) (frames before : List (List ℕ)) → (items : List Item) × (told_back source (frames ++ before) ≡ items ++ told_back source before)
told_back-append source [] before = ([], refl)
told_back-append source (frame ∷ frames) before =
    let more = told_back-append source frames before in
    (item_of source (announced_last (told_back source (frames ++ before))) frame ∷ more.0, ap (λ items. item_of source (announced_last (told_back source (frames ++ before))) frame ∷ items) more.1)

pub told_of-append : (source : ℕ) (stream more : List ℕ) → (items : List Item) × (told_of source (stream ++ more) ≡ told_of source stream ++ items)
told_of-append source stream more =
    let behind = frames_in (rest_in stream ++ more) in
    let back = told_back-append source (reverse behind) (reverse (frames_in stream)) in (
      reverse back.0,
      ap (λ frames. reverse (told_back source (reverse frames))) (frames_in-append stream more).0
          ∙ ap (λ frames. reverse (told_back source frames)) (reverse-append (frames_in stream) behind)
          ∙ ap reverse back.1 ∙ reverse-append back.0 (told_back source (reverse (frames_in stream))),
    )

-- ---- a source's own

own-config : (source : ℕ) (read : Result Announced Refusal) → IsOwn source (config_item source read)
own-config source (Err r) = tt
own-config source (Ok a) = by (a.config.source == source) refl
  where
    by : (same : Bool) → (a.config.source == source) ≡ same → IsOwn source (if same then announces a.config else rejects_config WrongId)
    by true is = eqb-true a.config.source source is
    by false is = tt

own-data : (source : ℕ) (config : Source) (frame : List ℕ) → config.source ≡ source → IsOwn source (data_item (data_of config frame))
own-data source config frame own =
    by (two_at frame 4 == config.source) (size_of frame == 16 + data_lens config.parts) (nat_lt (three_at frame 11) (resolution config)) refl
  where
    by : (same sized below : Bool) → (two_at frame 4 == config.source) ≡ same
        → IsOwn source (data_item (if not same then Err WrongId else if not sized then Err BadLength else if not below then Err BadFraction else
        Ok (measurement_of config frame)))
    by false sized below is = tt
    by true false below is = tt
    by true true false is = tt
    by true true true is = eqb-true (two_at frame 4) config.source is ∙ own

own-by : (source : ℕ) (known : Option Source) (frame : List ℕ) → IfSome known (λ k. k.source ≡ source) → IsOwn source (data_item (data_by known frame))
own-by source None frame own = tt
own-by source (Some config) frame own = own-data source config frame own

own-item : (source : ℕ) (known : Option Source) (frame : List ℕ) → IfSome known (λ k. k.source ≡ source) → IsOwn source (item_of source known frame)
own-item source known frame own = by (skip_of frame) (kind_in frame == kind_number CfgTwo) (kind_in frame == kind_number Measured)
  where
    kept : (config measured : Bool)
        → IsOwn source (if config then config_item source (config_of frame) else if measured then data_item (data_by known frame) else passes_over)
    kept true measured = own-config source (config_of frame)
    kept false true = own-by source known frame own
    kept false false = tt

    by : (skip : Option Refusal) (config measured : Bool) → IsOwn source (item_unless skip source known frame)
    by None config measured = kept (kind_in frame == kind_number CfgTwo) (kind_in frame == kind_number Measured)
    by (Some r) config measured = tt

own-told : (source : ℕ) (known : Option Source) (frame : List ℕ) (item : Item) → IfSome known (λ k. k.source ≡ source) → Tells source known frame item → IsOwn source item
own-told source known frame item own (inl is) = subst (IsOwn source) (sym is) (own-item source known frame own)
own-told source known frame item own (inr (inl want)) = subst (IsOwn source) (sym want.0) tt
own-told source known frame item own (inr (inr want)) = subst (IsOwn source) (sym want.0) tt

own-after : (source : ℕ) (known : Option Source) (item : Item) → IfSome known (λ k. k.source ≡ source) → IsOwn source item
    → IfSome (known_after known item) (λ k. k.source ≡ source)
own-after source known (announces config) before own = own
own-after source known (measures m) before own = before
own-after source known (skips r) before own = before
own-after source known (rejects_config r) before own = before
own-after source known (rejects_data r) before own = before
own-after source known passes_over before own = before

known-own : (source : ℕ) (frames : List (List ℕ)) (items : List Item) → AreTold source frames items → IfSome (announced_last items) (λ k. k.source ≡ source)
known-own source [] [] told = tt
known-own source [] (item ∷ items) told = absurd told
known-own source (frame ∷ frames) [] told = absurd told
known-own source (frame ∷ frames) (item ∷ items) told =
    let before = known-own source frames items told.1 in
    own-after source (announced_last items) item before (own-told source (announced_last items) frame item before told.0)

pub told-own : (source : ℕ) (frames : List (List ℕ)) (items : List Item) → AreTold source frames items → All (IsOwn source) items
told-own source [] [] told = All-nil (IsOwn source)
told-own source [] (item ∷ items) told = absurd told
told-own source (frame ∷ frames) [] told = absurd told
told-own source (frame ∷ frames) (item ∷ items) told =
    All-cons (IsOwn source) item items (own-told source (announced_last items) frame item (known-own source frames items told.1) told.0)
    (told-own source frames items told.1)

-- ---- what is owed

-- nothing fell due at this item that is no answer, or something did where nothing was unanswered
stays : (trigger unanswered answer : Bool) → unanswered ≡ true → answer ≡ false → (trigger && not unanswered || not answer && unanswered) ≡ true
stays trigger false answer u a = absurd (cc)
stays trigger true true u a = absurd (cc)
stays true true false u a = refl
stays false true false u a = refl

fell : (items : List Item) → FellDue items → is_unanswered items ≡ true
fell [] due = refl
fell (item ∷ before) due = rw (due.0, due.1) refl

from-unanswered : (after upto : List Item) → FellDue upto → All (λ item. is_answer item ≡ false) after → is_unanswered (after ++ upto) ≡ true
from-unanswered [] upto due none = fell upto due
from-unanswered (item ∷ after) upto due none =
    stays (is_trigger item (after ++ upto)) (is_unanswered (after ++ upto)) (is_answer item)
    (from-unanswered after upto due (All-tail (λ item. is_answer item ≡ false) item after none))
    (All-head (λ item. is_answer item ≡ false) item after none)

later-unanswered : (item : Item) (before : List Item) → HasUnanswered before → is_answer item ≡ false → HasUnanswered (item ∷ before)
later-unanswered item before has no_answer = record {
  after = item ∷ has.after;
  upto = has.upto;
  split = ap (λ items. item ∷ items) has.split;
  due = has.due;
  unanswered = All-cons (λ i. is_answer i ≡ false) item has.after no_answer has.unanswered;
}

one-more-unanswered : (item : Item) (before : List Item) → (is_unanswered before ≡ true → HasUnanswered before)
    → is_unanswered (item ∷ before) ≡ true → HasUnanswered (item ∷ before)
one-more-unanswered item before earlier is = by (is_trigger item before) (is_unanswered before) (is_answer item) refl refl refl is
  where
    by : (trigger unanswered answer : Bool) → is_trigger item before ≡ trigger → is_unanswered before ≡ unanswered → is_answer item ≡ answer
        → (trigger && not unanswered || not answer && unanswered) ≡ true → HasUnanswered (item ∷ before)
    by true false answer t u a h = record { after = []; upto = item ∷ before; split = refl; due = (t, u); unanswered = All-nil (λ i. is_answer i ≡ false) }
    by false false true t u a h = absurd (cc)
    by false false false t u a h = absurd (cc)
    by true true true t u a h = absurd (cc)
    by false true true t u a h = absurd (cc)
    by true true false t u a h = later-unanswered item before (earlier u) a
    by false true false t u a h = later-unanswered item before (earlier u) a

to-unanswered : (items : List Item) → is_unanswered items ≡ true → HasUnanswered items
to-unanswered [] is = record { after = []; upto = []; split = refl; due = tt; unanswered = All-nil (λ i. is_answer i ≡ false) }
to-unanswered (item ∷ before) is = one-more-unanswered item before (to-unanswered before) is

pub unanswered_is : (items : List Item) → (is_unanswered items ≡ true) ↔ HasUnanswered items
unanswered_is items = (
  to-unanswered items,
  λ has. ap is_unanswered has.split ∙ from-unanswered has.after has.upto has.due has.unanswered,
)

fell-at : (acts : List Act) → FellDueAt acts → owes_config acts ≡ true
fell-at [] due = refl
fell-at (tells item ∷ before) due = rw (due.0, due.1) refl
fell-at (asks word ∷ before) due = absurd due

owes-more : (act : Act) (before : List Act) → owes_config before ≡ true → is_question act ≡ false → owes_config (act ∷ before) ≡ true
owes-more (tells item) before owed none = rw owed (or-true _)
owes-more (asks word) before owed none = rw (none, owed) refl

from-owed : (after upto : List Act) → FellDueAt upto → All (λ act. is_question act ≡ false) after → owes_config (after ++ upto) ≡ true
from-owed [] upto due none = fell-at upto due
from-owed (act ∷ after) upto due none =
    owes-more act (after ++ upto) (from-owed after upto due (All-tail (λ act. is_question act ≡ false) act after none))
    (All-head (λ act. is_question act ≡ false) act after none)

later-owed : (act : Act) (before : List Act) → HasOwed before → is_question act ≡ false → HasOwed (act ∷ before)
later-owed act before has none = record {
  after = act ∷ has.after;
  upto = has.upto;
  split = ap (λ acts. act ∷ acts) has.split;
  due = has.due;
  ungiven = All-cons (λ a. is_question a ≡ false) act has.after none has.ungiven;
}

told-owed : (item : Item) (before : List Act) → (owes_config before ≡ true → HasOwed before) → owes_config (tells item ∷ before) ≡ true → HasOwed (tells item ∷ before)
told-owed item before earlier is = by (is_trigger item (told_in before)) (is_unanswered (told_in before)) (owes_config before) refl refl refl is
  where
    by : (trigger unanswered owed : Bool) → is_trigger item (told_in before) ≡ trigger → is_unanswered (told_in before) ≡ unanswered → owes_config before ≡ owed
        → (trigger && not unanswered || owed) ≡ true → HasOwed (tells item ∷ before)
    by true false owed t u o h = record { after = []; upto = tells item ∷ before; split = refl; due = (t, u); ungiven = All-nil (λ a. is_question a ≡ false) }
    by true true true t u o h = later-owed (tells item) before (earlier o) refl
    by true true false t u o h = absurd (cc)
    by false unanswered true t u o h = later-owed (tells item) before (earlier o) refl
    by false unanswered false t u o h = absurd (cc)

given-owed : (word : Word) (before : List Act) → (owes_config before ≡ true → HasOwed before) → owes_config (asks word ∷ before) ≡ true → HasOwed (asks word ∷ before)
given-owed word before earlier is = by (is_question (asks word)) (owes_config before) refl refl is
  where
    by : (question owed : Bool) → is_question (asks word) ≡ question → owes_config before ≡ owed → (not question && owed) ≡ true → HasOwed (asks word ∷ before)
    by true owed q o h = absurd (cc)
    by false true q o h = later-owed (asks word) before (earlier o) q
    by false false q o h = absurd (cc)

to-owed : (acts : List Act) → owes_config acts ≡ true → HasOwed acts
to-owed [] is = record { after = []; upto = []; split = refl; due = tt; ungiven = All-nil (λ a. is_question a ≡ false) }
to-owed (tells item ∷ before) is = told-owed item before (to-owed before) is
to-owed (asks word ∷ before) is = given-owed word before (to-owed before) is

pub owed_is : (acts : List Act) → (owes_config acts ≡ true) ↔ HasOwed acts
owed_is acts = (to-owed acts, λ has. ap owes_config has.split ∙ from-owed has.after has.upto has.due has.ungiven)
