-- What a link shows of its past, call after call.
use Rattle.std.proofs.Common.{◌≡◌, ℕ, List, [], ◌∷◌, ◌++◌, reverse, Option, Some, None, option_map, refl, sym, ap, ap₂, ◌∙◌, subst, append_assoc, inl}
use Rattle.std.proofs.lemmas.List.{reverse-append, append-nil}
use Rattle.std.specs.Option.{option_to_list}
use Rattle.pg_wire.specs.declared.refusal.Refusal.{Refusal}
use Rattle.pg_wire.specs.declared.refusal.Refusal.TheVariants.{WrongType}
use Rattle.pg_wire.specs.Frame.{break_of, skip_of}
use Rattle.pg_wire.specs.Stream as wire
use Rattle.pg_wire.specs.Stream.{Splits, Deframing}
use Rattle.pg_wire.proofs.Stream.{shows_fed}
use Rattle.pg_wire.proofs.Splitting.{frames_in-only}
use Rattle.pg_audit.specs.declared.counters.PmuStats.{PmuStats}
use Rattle.pg_audit.specs.Counting.{no_pmu_stats}
use Rattle.pg_command.specs.declared.word.Word.{Word}
use Rattle.pg_command.specs.Words.{word_number}
use Rattle.pg_command.specs.Spelling.{written}
use Rattle.pg_config.specs.Parts.{Source}
use Rattle.pg_ingest.specs.declared.link.LinkEvent.{LinkEvent}
use Rattle.pg_ingest.specs.declared.link.LinkEvent.TheVariants.{Announce, Measure, Ignored, Ended, More}
use Rattle.pg_ingest.specs.declared.asking.Asking.{Asking}
use Rattle.pg_ingest.specs.Items.{Item, Tells, announced_last, known_after, break_in, item_unless, announces, measures, skips, rejects_config, rejects_data, passes_over}
use Rattle.pg_ingest.specs.Commands.{Act, tells, asks, told_in}
use Rattle.pg_ingest.specs.Linking.{Linking, heard, ignoring, with_link_item, with_link_items, link_stats, after_item}
use Rattle.pg_ingest.specs.Asked.{asking_of, asking_after, asking_less, next_word}
use Rattle.pg_ingest.specs.Shown.{LinkPast, ShowsLink, IsAllTold, feeding, doing, told_before, command_due, commanding, word_due}
use Rattle.pg_ingest.specs.Links.{IsEventOf, GivesEventOf, Counts}
use Rattle.pg_ingest.proofs.Owing.{asking_told, asking_given, word_owed}

pub told_in-append : (acts more : List Act) → told_in (acts ++ more) ≡ told_in acts ++ told_in more
told_in-append [] more = refl
told_in-append (tells item ∷ acts) more = ap (λ items. item ∷ items) (told_in-append acts more)
told_in-append (asks word ∷ acts) more = told_in-append acts more

with_link_items-append : (stats : PmuStats) (items : List Item) (item : Item) → with_link_items stats (items ++ item ∷ []) ≡ with_link_item (with_link_items stats items) item
with_link_items-append stats [] item = refl
with_link_items-append stats (x ∷ items) item = with_link_items-append (with_link_item stats x) items item

reverse-last : {A : Type 0} (xs : List A) (x : A) → reverse (xs ++ x ∷ []) ≡ x ∷ reverse xs
reverse-last xs x = reverse-append xs (x ∷ [])

-- what was told before, and then one more item
told_one_more : (past : LinkPast) (item : Item) → told_before (doing past (tells item)) ≡ item ∷ told_before past
told_one_more past item = ap reverse (told_in-append past.acts (tells item ∷ [])) ∙ reverse-last (told_in past.acts) item

-- a frame's item was told
pub item_shown : (old new : Linking) (bytes : Deframing) (past : LinkPast) (frame : List ℕ) (item : Item) (shows : ShowsLink old past)
    → Tells old.source old.known frame item → wire.ShowsStream bytes past.stream (shows.frames ++ frame ∷ [])
    → new ≡ after_item (record old { bytes = bytes }) item → ShowsLink new (doing past (tells item))
item_shown old new bytes past frame item shows tells_it given is = record {
  source = ap (λ (v : Linking). v.source) is ∙ shows.source;
  frames = shows.frames ++ frame ∷ [];
  bytes = rw (ap (λ (v : Linking). v.bytes) is) given;
  told = rw (reverse-last shows.frames frame, told_one_more past item) (rw (shows.source, shows.known) at tells_it, shows.told);
  known = ap (λ (v : Linking). v.known) is ∙ ap (λ k. known_after k item) shows.known ∙ ap announced_last (sym (told_one_more past item));
  asking = ap (λ (v : Linking). v.asking) is ∙ ap (λ a. asking_after a item) shows.asking ∙ asking_told (reverse past.acts) item
      ∙ ap asking_of (sym (reverse-last past.acts (tells item)));
  stats = ap (λ (v : Linking). v.stats) is ∙ ap (λ s. with_link_item s item) shows.stats ∙ sym (with_link_items-append no_pmu_stats (past.earlier ++ told_in past.acts) item)
      ∙ ap link_stats (append_assoc past.earlier (told_in past.acts) (item ∷ []) ∙ ap (λ items. past.earlier ++ items) (sym (told_in-append past.acts (tells item ∷ []))));
}

-- the event that is given of an item
pub event_given : (new : Linking) (past : LinkPast) (event : LinkEvent) (item : Item) → IsEventOf event item → ShowsLink new (doing past (tells item)) → GivesEventOf past event new
event_given new past (Announce config) item is shows = subst (λ (i : Item). ShowsLink new (doing past (tells i))) is shows
event_given new past (Measure frame) item is shows = subst (λ (i : Item). ShowsLink new (doing past (tells i))) is shows
event_given new past (Ignored r) item is shows = (item, is, shows)
event_given new past (Ended r) item is shows = absurd is
event_given new past More item is shows = absurd is

-- a skipped frame is told as such
pub skip_told : (source : ℕ) (known : Option Source) (frame : List ℕ) (r : Refusal) → skip_of frame ≡ Some r → Tells source known frame (skips r)
skip_told source known frame r is = inl (sym (ap (λ o. item_unless o source known frame) is))

-- all frames were told, and this is the break behind them
pub ended : (old new : Linking) (past : LinkPast) (rest : List ℕ) (broken : Option Refusal) (shows : ShowsLink old past)
    → Splits past.stream shows.frames rest → break_of rest ≡ broken → wire.ShowsStream new.bytes past.stream shows.frames
    → new ≡ record old { bytes = new.bytes } → IsAllTold past × (break_in past.stream ≡ broken) × ShowsLink new past
ended old new past rest broken shows split broke bytes is =
    let only = frames_in-only past.stream shows.frames rest split in (
      rw (← only.0) shows.told,
      ap break_of (sym only.1) ∙ broke,
      record {
        source = ap (λ (v : Linking). v.source) is ∙ shows.source;
        frames = shows.frames;
        bytes = bytes;
        told = shows.told;
        known = ap (λ (v : Linking). v.known) is ∙ shows.known;
        asking = ap (λ (v : Linking). v.asking) is ∙ shows.asking;
        stats = ap (λ (v : Linking). v.stats) is ∙ shows.stats;
      },
    )

told_in-given : (word : Option Word) → told_in (option_to_list (option_map asks word)) ≡ []
told_in-given None = refl
told_in-given (Some word) = refl

reverse-given : (word : Option Word) → reverse (option_to_list (option_map asks word)) ≡ option_to_list (option_map asks word)
reverse-given None = refl
reverse-given (Some word) = refl

-- giving a command tells nothing
same_told : (past : LinkPast) → told_in (commanding past).acts ≡ told_in past.acts
same_told past = told_in-append past.acts (option_to_list (option_map asks (word_due past))) ∙ ap (λ items. told_in past.acts ++ items) (told_in-given (word_due past))
    ∙ append-nil (told_in past.acts)

-- the command that is owed was given, if any
pub command_shown : (old : Linking) (asking : Asking) (past : LinkPast) → ShowsLink old past → asking ≡ asking_less old.asking
    → ShowsLink (record old { asking = asking }) (commanding past)
command_shown old asking past shows is =
    let same = same_told past in
    record {
      source = shows.source;
      frames = shows.frames;
      bytes = shows.bytes;
      told = rw same shows.told;
      known = shows.known ∙ ap (λ items. announced_last (reverse items)) (sym same);
      asking = is ∙ ap asking_less shows.asking ∙ asking_given (reverse past.acts)
          ∙ ap asking_of (ap (λ outs. outs ++ reverse past.acts) (sym (reverse-given (word_due past)))
          ∙ sym (reverse-append past.acts (option_to_list (option_map asks (word_due past)))));
      stats = shows.stats ∙ ap (λ items. link_stats (past.earlier ++ items)) (sym same);
    }

-- the frame of the command that is owed
pub command_framed : (old : Linking) (past : LinkPast) (word : Option Word) → ShowsLink old past → word ≡ next_word old.asking
    → option_map (λ w. written old.source 0 (word_number w)) word ≡ command_due past
command_framed old past word shows is =
    ap₂ (λ source w. option_map (λ w. written source 0 (word_number w)) w) shows.source
    (is ∙ ap next_word shows.asking ∙ word_owed (reverse past.acts))

some-same : (a b : Refusal) → Some a ≡ Some b → a ≡ b
some-same a b is = cc

-- the event that is given of an item is counted
pub event_counted : (stats : PmuStats) (event : LinkEvent) (item : Item) → IsEventOf event item → Counts stats event (with_link_item stats item)
event_counted stats (Announce config) item is = ap (with_link_item stats) is
event_counted stats (Measure frame) item is = ap (with_link_item stats) is
event_counted stats (Ended r) item is = absurd is
event_counted stats More item is = absurd is
event_counted stats (Ignored r) (announces config) is = absurd (cc)
event_counted stats (Ignored r) (measures m) is = absurd (cc)
event_counted stats (Ignored r) (skips reason) is = ap (ignoring stats) (some-same reason r is)
event_counted stats (Ignored r) (rejects_config reason) is = ap (ignoring stats) (some-same reason r is)
event_counted stats (Ignored r) (rejects_data reason) is = ap (ignoring stats) (some-same reason r is)
event_counted stats (Ignored r) passes_over is = ap (ignoring stats) (some-same WrongType r is)

-- a piece more was heard
pub heard_shows : (old new : Linking) (piece : List ℕ) → new ≡ heard old piece → (past : LinkPast) → ShowsLink old past → ShowsLink new (feeding past piece)
heard_shows old new piece is past shows = subst (λ (v : Linking). ShowsLink v (feeding past piece)) (sym is) (record {
  source = shows.source;
  frames = shows.frames;
  bytes = shows_fed old.bytes piece past.stream shows.frames shows.bytes;
  told = shows.told;
  known = shows.known;
  asking = shows.asking;
  stats = shows.stats;
})
