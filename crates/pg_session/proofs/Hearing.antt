-- What a session shows of its bytes, call after call.
use Rattle.std.proofs.Common.{◌≡◌, ◌<◌, length, ℕ, List, [], ◌∷◌, ◌++◌, Option, Some, None, Result, Ok, Err, map, refl, sym, ap, ap₂, ◌∙◌, subst}
use Rattle.std.proofs.lemmas.List.{map-append}
use denote.Bor.{Bor}
use Rattle.pg_wire.specs.declared.refusal.Refusal.{Refusal}
use Rattle.pg_wire.specs.declared.deframer.Taken.TheVariants as taken
use Rattle.pg_wire.specs.Frame.{break_of}
use Rattle.pg_wire.specs.Stream as wire
use Rattle.pg_wire.specs.Stream.{Splits}
use Rattle.pg_wire.specs.Taking as taking
use Rattle.pg_wire.proofs.Stream.{shows_fed}
use Rattle.pg_wire.proofs.Splitting.{frames_in-only}
use Rattle.pg_command.specs.declared.command.Command.{Command}
use Rattle.pg_command.specs.Reading.{command_of}
use Rattle.pg_audit.specs.declared.counters.PmuStats.{PmuStats}
use Rattle.pg_audit.specs.Counting.{no_pmu_stats}
use Rattle.pg_session.specs.Commands.{Item, commands, ignores, item_of, item_kept, item_read, items_of, break_in, with_session_item, with_session_items, Hearing, heard, ShowsHearing, next_of, GivesCommandOf, Holds}
use Rattle.pg_session.specs.declared.session.Next.{Next}
use Rattle.pg_session.specs.declared.session.Next.TheVariants as next

with_session_items-append : (stats : PmuStats) (items : List Item) (item : Item) → with_session_items stats (items ++ item ∷ []) ≡ with_session_item (with_session_items stats items) item
with_session_items-append stats [] item = refl
with_session_items-append stats (x ∷ items) item = with_session_items-append (with_session_item stats x) items item

-- one more item
item_shown : (old new : Hearing) (stream : List ℕ) (given : List Item) (frame : List ℕ) (item : Item) (shows : ShowsHearing old stream given)
    → item ≡ item_of frame → wire.ShowsStream new.bytes stream (shows.frames ++ frame ∷ []) → new.stats ≡ with_session_item old.stats item
    → ShowsHearing new stream (given ++ item ∷ [])
item_shown old new stream given frame item shows is bytes stats = record {
  frames = shows.frames ++ frame ∷ [];
  bytes = bytes;
  items = ap₂ (λ x y. x ++ y ∷ []) shows.items is ∙ sym (map-append item_of shows.frames (frame ∷ []));
  stats = stats ∙ ap (λ s. with_session_item s item) shows.stats ∙ sym (with_session_items-append no_pmu_stats given item);
}

pub frame_given : (old new : Hearing) (frame : Bor (List ℕ)) (read : Result Command Refusal)
    → taking.GivesFrame old.bytes (taken.Frame frame) new.bytes → read ≡ command_of frame.now → new.stats ≡ with_session_item old.stats (item_read read)
    → (stream : List ℕ) (given : List Item) → ShowsHearing old stream given → GivesCommandOf stream given (next_of (item_read read)) new
frame_given old new frame read gives is stats stream given shows = by read is stats
  where
    kept : item_of frame.now ≡ item_read (command_of frame.now)
    kept = ap (item_kept frame.now) (gives stream shows.frames shows.bytes).0

    by : (r : Result Command Refusal) → r ≡ command_of frame.now → new.stats ≡ with_session_item old.stats (item_read r)
        → GivesCommandOf stream given (next_of (item_read r)) new
    by (Ok c) is stats =
        item_shown old new stream given frame.now (commands c) shows (ap item_read is ∙ sym kept) (gives stream shows.frames shows.bytes).1 stats
    by (Err r) is stats =
        item_shown old new stream given frame.now (ignores r) shows (ap item_read is ∙ sym kept) (gives stream shows.frames shows.bytes).1 stats

pub skipped_given : (old new : Hearing) (refusal : Refusal)
    → taking.GivesFrame old.bytes (taken.Skipped refusal) new.bytes → new.stats ≡ with_session_item old.stats (ignores refusal)
    → (stream : List ℕ) (given : List Item) → ShowsHearing old stream given → GivesCommandOf stream given (next.Ignored refusal) new
skipped_given old new refusal gives stats stream given shows =
    let g = gives stream shows.frames shows.bytes in
    item_shown old new stream given g.0 (ignores refusal) shows (sym (ap (item_kept g.0) g.1)) g.2 stats

-- all items were given, and this is the break behind them
ended : (old new : Hearing) (stream : List ℕ) (given : List Item) (rest : List ℕ) (broken : Option Refusal) (shows : ShowsHearing old stream given)
    → Splits stream shows.frames rest → break_of rest ≡ broken → wire.ShowsStream new.bytes stream shows.frames → new.stats ≡ old.stats
    → (given ≡ items_of stream) × (break_in stream ≡ broken) × ShowsHearing new stream given
ended old new stream given rest broken shows split broke bytes stats =
    let only = frames_in-only stream shows.frames rest split in (
      shows.items ∙ ap (map item_of) only.0,
      ap break_of (sym only.1) ∙ broke,
      record { frames = shows.frames; bytes = bytes; items = shows.items; stats = stats ∙ shows.stats },
    )

pub more_given : (old new : Hearing) → taking.GivesFrame old.bytes taken.More new.bytes → new.stats ≡ old.stats
    → (stream : List ℕ) (given : List Item) → ShowsHearing old stream given → GivesCommandOf stream given next.More new
more_given old new gives stats stream given shows =
    let g = gives stream shows.frames shows.bytes in
    ended old new stream given new.bytes.held None shows g.0 g.1 g.2 stats

pub broken_given : (old new : Hearing) (refusal : Refusal) → taking.GivesFrame old.bytes (taken.Broken refusal) new.bytes → new.stats ≡ old.stats
    → (stream : List ℕ) (given : List Item) → ShowsHearing old stream given → GivesCommandOf stream given (next.Broken refusal) new
broken_given old new refusal gives stats stream given shows =
    let g = gives stream shows.frames shows.bytes in
    ended old new stream given g.0.0 (Some refusal) shows g.0.1 g.0.2 g.1 stats

-- an item takes bytes off
pub item_holds : (old new : Hearing) (next : Next) (item : Item) → next ≡ next_of item → length new.bytes.held < length old.bytes.held → Holds old next new
item_holds old new next (commands c) e h = subst (λ (n : Next). Holds old n new) (sym e) h
item_holds old new next (ignores r) e h = subst (λ (n : Next). Holds old n new) (sym e) h

-- a piece more was heard
pub heard_shows : (old new : Hearing) (piece : List ℕ) → new ≡ heard old piece → (stream : List ℕ) (given : List Item)
    → ShowsHearing old stream given → ShowsHearing new (stream ++ piece) given
heard_shows old new piece is stream given shows = subst (λ (v : Hearing). ShowsHearing v (stream ++ piece) given) (sym is) (record {
  frames = shows.frames;
  bytes = shows_fed old.bytes piece stream shows.frames shows.bytes;
  items = shows.items;
  stats = shows.stats;
})
