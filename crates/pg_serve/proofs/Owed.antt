-- The commands that a source is owed, given one after another.
use Rattle.std.proofs.Common.{◌≡◌, ℕ, Bool, true, false, ◌&&◌, List, [], ◌∷◌, ◌++◌, map, reverse, Option, Some, None, if◌then◌else◌, option_map, refl, sym, ap, ap₂, ◌∙◌, subst, append_assoc}
use Rattle.std.specs.List.{list_any}
use Rattle.std.specs.Option.{option_to_list}
use Rattle.std.proofs.lemmas.List.{append-nil, map-append, reverse-append}
use Rattle.std.proofs.lemmas.Grind.{flat_map-append}
use Rattle.pg_command.specs.declared.word.Word.{Word}
use Rattle.pg_command.specs.declared.word.Word.TheVariants.{StartData, SendCfgTwo}
use Rattle.pg_command.specs.Words.{word_number}
use Rattle.pg_command.specs.Spelling.{written}
use Rattle.pg_ingest.specs.Commands.{Act, asks, told_in, is_accepted, owes_config, owes_start, owed_word}
use Rattle.pg_ingest.specs.Linking.{Linking}
use Rattle.pg_ingest.specs.Shown as ingest
use Rattle.pg_ingest.specs.Shown.{LinkPast, word_due, command_due, commanding}
use Rattle.pg_serve.specs.Actions.{words_due, frames_of, gave}
use Rattle.pg_serve.specs.Feeding.{GivesAll}

abbrev words_by : Bool → Bool → List Word
words_by b s = (if b then SendCfgTwo ∷ [] else []) ++ (if s then StartData ∷ [] else [])

abbrev word_by : Bool → Bool → Option Word
word_by b s = if b then Some SendCfgTwo else if s then Some StartData else None

abbrev words_at : List Act → List Word
words_at acts = words_by (owes_config acts) (owes_start acts)

and_false : (b : Bool) → (b && false) ≡ false
and_false true = refl
and_false false = refl

first_due : (acts : List Act) (w : Word) → owed_word acts ≡ Some w → words_at acts ≡ w ∷ words_at (asks w ∷ acts)
first_due acts w h = by (owes_config acts) (owes_start acts) refl refl h
  where
    by : (b s : Bool) → owes_config acts ≡ b → owes_start acts ≡ s → word_by b s ≡ Some w → words_at acts ≡ w ∷ words_at (asks w ∷ acts)
    by true s eb es e =
        let same : SendCfgTwo ≡ w = cc in
        subst (λ (x : Word). words_at acts ≡ x ∷ words_at (asks x ∷ acts)) same (ap (λ b. words_by b (owes_start acts)) eb)
    by false true eb es e =
        let same : StartData ≡ w = cc in
        let none : words_at (asks StartData ∷ acts) ≡ [] = ap₂ words_by eb (and_false (list_any is_accepted (told_in acts))) in
        subst (λ (x : Word). words_at acts ≡ x ∷ words_at (asks x ∷ acts)) same (ap₂ words_by eb es ∙ ap (λ ws. StartData ∷ ws) (sym none))
    by false false eb es e = absurd (cc)

none_due : (acts : List Act) → owed_word acts ≡ None → words_at acts ≡ []
none_due acts h = by (owes_config acts) (owes_start acts) refl refl h
  where
    by : (b s : Bool) → owes_config acts ≡ b → owes_start acts ≡ s → word_by b s ≡ None → words_at acts ≡ []
    by true s eb es e = absurd (cc)
    by false true eb es e = absurd (cc)
    by false false eb es e = ap₂ words_by eb es

gave_more : (past : LinkPast) (words : List Word) (w : Word) → gave (gave past words) (w ∷ []) ≡ gave past (words ++ w ∷ [])
gave_more past words w = ap (λ acts. record past { acts = acts })
    (append_assoc past.acts (map asks words) (asks w ∷ []) ∙ ap (λ acts. past.acts ++ acts) (sym (map-append asks words (w ∷ []))))

due_first : (past : LinkPast) (w : Word) → word_due past ≡ Some w → words_due past ≡ w ∷ words_due (gave past (w ∷ []))
due_first past w h = first_due (reverse past.acts) w h ∙ ap (λ acts. w ∷ words_at acts) (sym (reverse-append past.acts (asks w ∷ [])))

abbrev pub HasGiven : Linking → Linking → List ℕ → Type 0
HasGiven old new sent = (past : LinkPast) → ingest.ShowsLink old past
    → (words : List Word) × (sent ≡ frames_of past.source words) × ingest.ShowsLink new (gave past words)
    × (words ++ words_due (gave past words) ≡ words_due past)

frames_more : (source : ℕ) (words : List Word) (w : Word) → frames_of source (words ++ w ∷ []) ≡ frames_of source words ++ written source 0 (word_number w)
frames_more source words w = flat_map-append (λ x. written source 0 (word_number x)) words (w ∷ [])
    ∙ ap (λ x. frames_of source words ++ x) (append-nil (written source 0 (word_number w)))

pub command_given : (old mid new : Linking) (before after frame : List ℕ) → HasGiven old mid before
    → ((past : LinkPast) → ingest.ShowsLink mid past → (Some frame ≡ command_due past) × ingest.ShowsLink new (commanding past)) → after ≡ before ++ frame → HasGiven old new after
command_given old mid new before after frame has gives is past shows =
    by (word_due (gave past so_far.0)) refl given.0 given.1
  where
    so_far : (words : List Word) × (before ≡ frames_of past.source words) × ingest.ShowsLink mid (gave past words) × (words ++ words_due (gave past words) ≡ words_due past)
    so_far = has past shows

    given : (Some frame ≡ command_due (gave past so_far.0)) × ingest.ShowsLink new (commanding (gave past so_far.0))
    given = gives (gave past so_far.0) so_far.2

    by : (word : Option Word) → word_due (gave past so_far.0) ≡ word → Some frame ≡ command_due (gave past so_far.0)
        → ingest.ShowsLink new (commanding (gave past so_far.0))
        → (words : List Word) × (after ≡ frames_of past.source words) × ingest.ShowsLink new (gave past words) × (words ++ words_due (gave past words) ≡ words_due past)
    by None w f s = absurd (let no_frame : Some frame ≡ None = f ∙ ap (λ o. option_map (λ word. written past.source 0 (word_number word)) o) w in cc)
    by (Some word) w f s =
        let framed : Some frame ≡ Some (written past.source 0 (word_number word)) = f ∙ ap (λ o. option_map (λ x. written past.source 0 (word_number x)) o) w in
        let same : frame ≡ written past.source 0 (word_number word) = cc in
        let commanded : commanding (gave past so_far.0) ≡ gave past (so_far.0 ++ word ∷ []) =
        ap (λ o. record past { acts = (gave past so_far.0).acts ++ option_to_list (option_map asks o) }) w ∙ gave_more past so_far.0 word in (
          so_far.0 ++ word ∷ [],
          is ∙ ap₂ (λ x y. x ++ y) so_far.1 same ∙ sym (frames_more past.source so_far.0 word),
          subst (ingest.ShowsLink new) commanded s,
          append_assoc so_far.0 (word ∷ []) (words_due (gave past (so_far.0 ++ word ∷ [])))
              ∙ ap (λ p. so_far.0 ++ word ∷ words_due p) (sym (gave_more past so_far.0 word))
              ∙ ap (λ ws. so_far.0 ++ ws) (sym (due_first (gave past so_far.0) word w))
              ∙ so_far.3,
        )

pub all_given : (old mid new : Linking) (sent : List ℕ) → HasGiven old mid sent
    → ((past : LinkPast) → ingest.ShowsLink mid past → (None ≡ command_due past) × ingest.ShowsLink new (commanding past))
    → (past : LinkPast) → ingest.ShowsLink old past → GivesAll past sent new
all_given old mid new sent has gives past shows =
    by (word_due (gave past so_far.0)) refl given.0 given.1
  where
    so_far : (words : List Word) × (sent ≡ frames_of past.source words) × ingest.ShowsLink mid (gave past words) × (words ++ words_due (gave past words) ≡ words_due past)
    so_far = has past shows

    given : (None ≡ command_due (gave past so_far.0)) × ingest.ShowsLink new (commanding (gave past so_far.0))
    given = gives (gave past so_far.0) so_far.2

    by : (word : Option Word) → word_due (gave past so_far.0) ≡ word → None ≡ command_due (gave past so_far.0)
        → ingest.ShowsLink new (commanding (gave past so_far.0)) → GivesAll past sent new
    by None w f s =
        let all : so_far.0 ≡ words_due past =
        sym (append-nil so_far.0) ∙ ap (λ ws. so_far.0 ++ ws) (sym (none_due (reverse (gave past so_far.0).acts) w)) ∙ so_far.3 in
        record {
          frames = so_far.1 ∙ ap (λ ws. frames_of past.source ws) all;
          shows = subst (λ ws. ingest.ShowsLink new (gave past ws)) all
              (subst (ingest.ShowsLink new) (ap (λ o. record past { acts = (gave past so_far.0).acts ++ option_to_list (option_map asks o) }) w
              ∙ ap (λ acts. record past { acts = acts }) (append-nil (gave past so_far.0).acts)) s);
        }
    by (Some word) w f s =
        absurd (let wrong : None ≡ Some (written past.source 0 (word_number word)) = f ∙ ap (λ o. option_map (λ x. written past.source 0 (word_number x)) o) w in cc)
