-- A source's line.
use Rattle.std.proofs.Common.{◌≡◌, ℕ, true, false, List, [], ◌∷◌, ◌++◌, map, reverse, if◌then◌else◌, refl, sym, ap, ◌∙◌, subst}
use Rattle.std.proofs.lemmas.List.{append-nil}
use Rattle.pg_wire.specs.Split as cut
use Rattle.pg_wire.specs.Split.{frames_in, rest_in}
use Rattle.pg_wire.specs.Frame.{break_of}
use Rattle.pg_session.specs.Commands as session
use Rattle.pg_session.specs.Commands.{Hearing, item_of}
use Rattle.pg_command.specs.declared.word.Word.{Word}
use Rattle.pg_ingest.specs.Items.{AreTold}
use Rattle.pg_ingest.specs.Commands.{Act, tells, asks, told_in}
use Rattle.pg_ingest.specs.Linking.{Linking}
use Rattle.pg_ingest.specs.Shown as ingest
use Rattle.pg_ingest.specs.Shown.{LinkPast, IsAllTold, beginning, renewed, feeding}
use Rattle.pg_gateway.specs.State.{SharedMachine}
use Rattle.pg_gateway.specs.Shown.{GatewayValue}
use Rattle.pg_shared.proofs.Opening.{no_frames, none_told}
use Rattle.pg_serve.specs.declared.source_link.SourceLink.{SourceLink}
use Rattle.pg_serve.specs.Inputs.{Outcome}
use Rattle.pg_serve.specs.Actions.{words_due, frames_of, gave}
use Rattle.pg_serve.specs.Feeding.{TakesPiece, GivesAll}
use Rattle.pg_serve.specs.WorldStates.{SourceLinkPast, new_source_link, words_given, fed_line, telling}
use Rattle.pg_serve.specs.Shown.{SourceLinkShows, SessionShows}
use Rattle.pg_serve.specs.Taking.{GoesUp, TakesBytes}

told_asks : (words : List Word) → told_in (map asks words) ≡ []
told_asks [] = refl
told_asks (w ∷ words) = told_asks words

pub told_gave : (acts : List Act) (words : List Word) → told_in (acts ++ map asks words) ≡ told_in acts
told_gave [] words = told_asks words
told_gave (tells item ∷ acts) words = ap (λ items. item ∷ items) (told_gave acts words)
told_gave (asks w ∷ acts) words = told_gave acts words

still_told : (past : LinkPast) (words : List Word) → IsAllTold past → IsAllTold (gave past words)
still_told past words told =
    subst (λ items. AreTold past.source (reverse (frames_in past.stream)) (reverse items)) (sym (told_gave past.acts words)) told

pub line_new : (v : Linking) (s : ℕ) → ingest.ShowsLink v (beginning s) → SourceLinkShows (record { link = v; is_up = false }) (new_source_link s)
line_new v s shows = record { shows = shows; told = none_told s; is_up = refl }

pub goes_up : (line : SourceLinkPast) (frames : List ℕ) (v w : Linking) → ingest.ShowsLink v (renewed line.link)
    → ((past : LinkPast) → ingest.ShowsLink v past → GivesAll past frames w) → GoesUp line frames (record { link = w; is_up = true })
goes_up line frames v w shows gives =
    let given = gives (renewed line.link) shows in
    record {
      sent = given.frames;
      shows = record { shows = given.shows; told = still_told (renewed line.link) (words_due (renewed line.link)) (none_told line.link.source); is_up = refl };
    }

gave_none : (past : LinkPast) → past ≡ gave past []
gave_none past = ap (λ acts. record past { acts = acts }) (sym (append-nil past.acts))

pub bytes_quiet : (S : SharedMachine) (line : SourceLinkPast) (bytes : List ℕ) (o : Outcome) (g : GatewayValue) (v : SourceLink) → v.is_up ≡ line.is_up → line.is_up ≡ false
    → TakesPiece S (feeding line.link bytes) [] o.notes g v.link → o.to_pmu ≡ [] → TakesBytes S line bytes o g v
bytes_quiet S line bytes o g v same quiet takes none = record {
  items = takes.items;
  all = takes.all;
  did = takes.did;
  sent = none ∙ ap (λ b. frames_of line.link.source (if b then words_due (telling line.link bytes takes.items) else [])) (sym quiet);
  shows = record {
    shows = subst (λ b. ingest.ShowsLink v.link (gave (telling line.link bytes takes.items) (if b then words_due (telling line.link bytes takes.items) else [])))
        (sym quiet) (subst (ingest.ShowsLink v.link) (gave_none (telling line.link bytes takes.items)) takes.shows);
    told = still_told (telling line.link bytes takes.items) (words_given (fed_line line bytes takes.items)) takes.all;
    is_up = same;
  };
}

pub bytes_answered : (S : SharedMachine) (line : SourceLinkPast) (bytes : List ℕ) (o : Outcome) (g : GatewayValue) (mid : Linking) (v : SourceLink) → v.is_up ≡ line.is_up → line.is_up ≡ true
    → TakesPiece S (feeding line.link bytes) [] o.notes g mid → ((past : LinkPast) → ingest.ShowsLink mid past → GivesAll past o.to_pmu v.link)
    → TakesBytes S line bytes o g v
bytes_answered S line bytes o g mid v same up takes gives =
    let given = gives (telling line.link bytes takes.items) takes.shows in
    record {
      items = takes.items;
      all = takes.all;
      did = takes.did;
      sent = given.frames ∙ ap (λ b. frames_of line.link.source (if b then words_due (telling line.link bytes takes.items) else [])) (sym up);
      shows = record {
        shows = subst (λ b. ingest.ShowsLink v.link (gave (telling line.link bytes takes.items) (if b then words_due (telling line.link bytes takes.items) else [])))
            (sym up) given.shows;
        told = still_told (telling line.link bytes takes.items) (words_given (fed_line line bytes takes.items)) takes.all;
        is_up = same;
      };
    }

pub no_rest : rest_in [] ≡ []
unfolding rest_in cut.rest_by
no_rest = refl

pub session_new : (v : Hearing) → session.ShowsHearing v [] [] → SessionShows v []
session_new v shows = record {
  shows = subst (session.ShowsHearing v []) (sym (ap (map item_of) no_frames)) shows;
  whole = ap break_of no_rest;
}
