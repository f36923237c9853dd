-- What a link owes whose source is asked again.
use Rattle.std.proofs.Common.{◌≡◌, List, [], ◌∷◌, ◌++◌, Bool, true, false, not, ◌&&◌, ◌||◌, if◌then◌else◌, map, reverse, is_some, option_map, Option, Some, None, refl, sym, ap, ◌∙◌, append-nil}
use Rattle.std.specs.List.{list_any}
use Rattle.std.proofs.Math.Bool.{or-true, and-true}
use Rattle.std.proofs.lemmas.List.{map-append, reverse-append}
use Rattle.std.proofs.lemmas.List.Sorted.{IsPermutation-reverse, list_any-IsPermutation}
use Rattle.pg_command.specs.declared.word.Word.TheVariants.{StartData, SendCfgTwo}
use Rattle.pg_command.specs.declared.word.Word.{Word}
use Rattle.pg_config.specs.Parts.{Source}
use Rattle.pg_ingest.specs.declared.asking.Asking.{Asking}
use Rattle.pg_ingest.specs.Items.{Item, announces, measures, skips, rejects_config, rejects_data, passes_over, announced_last}
use Rattle.pg_ingest.specs.Commands.{Act, tells, asks, told_in, is_accepted, is_start, owes_config, owes_start, is_unanswered, was_changing, config_falls_due}
use Rattle.pg_ingest.specs.Asked.{asking_of, asking_again, start_by}
use Rattle.pg_ingest.specs.Linking.{Linking, link_stats}
use Rattle.pg_ingest.specs.Shown.{LinkPast, ShowsLink, IsAllTold, asked_again}
use Rattle.pg_ingest.specs.Served.{words_due}
use Rattle.pg_ingest.proofs.Telling.{told_in-append}

told-reverse : (acts : List Act) → told_in (reverse acts) ≡ reverse (told_in acts)
told-reverse [] = refl
told-reverse (tells item ∷ acts) =
    ap told_in (reverse-append (tells item ∷ []) acts) ∙ told_in-append (reverse acts) (tells item ∷ []) ∙ ap (λ items. items ++ item ∷ []) (told-reverse acts)
    ∙ sym (reverse-append (item ∷ []) (told_in acts))
told-reverse (asks word ∷ acts) =
    ap told_in (reverse-append (asks word ∷ []) acts) ∙ told_in-append (reverse acts) (asks word ∷ []) ∙ append-nil (told_in (reverse acts)) ∙ told-reverse acts

pub told-tells : (items : List Item) → told_in (map tells items) ≡ items
told-tells [] = refl
told-tells (item ∷ items) = ap (λ xs. item ∷ xs) (told-tells items)

tells-reverse : (items : List Item) → reverse (map tells items) ≡ map tells (reverse items)
tells-reverse [] = refl
tells-reverse (item ∷ items) =
    reverse-append (tells item ∷ []) (map tells items) ∙ ap (λ acts. acts ++ tells item ∷ []) (tells-reverse items)
    ∙ sym (map-append tells (reverse items) (item ∷ [])) ∙ ap (map tells) (sym (reverse-append (item ∷ []) items))

owes-tells : (items : List Item) → owes_config (map tells items) ≡ true
owes-tells [] = refl
owes-tells (item ∷ items) =
    ap (λ owes. config_falls_due item (told_in (map tells items)) || owes) (owes-tells items) ∙ or-true (config_falls_due item (told_in (map tells items)))

start-tells : (items : List Item) → list_any is_start (map tells items) ≡ false
start-tells [] = refl
start-tells (item ∷ items) = start-tells items

pub mapped_some : {X Y : Type 0} (f : X → Y) (o : Option X) → is_some (option_map f o) ≡ is_some o
mapped_some f None = refl
mapped_some f (Some x) = refl

known-accepted : (items : List Item) → is_some (announced_last items) ≡ list_any is_accepted items
known-accepted [] = refl
known-accepted (announces config ∷ items) = refl
known-accepted (measures m ∷ items) = known-accepted items
known-accepted (skips r ∷ items) = known-accepted items
known-accepted (rejects_config r ∷ items) = known-accepted items
known-accepted (rejects_data r ∷ items) = known-accepted items
known-accepted (passes_over ∷ items) = known-accepted items

-- what it asks for, where these items were told and nothing was asked for yet
asking-tells : (items : List Item)
    → asking_of (map tells items) ≡ record { config = true; unanswered = is_unanswered items; changing = was_changing items; start = start_by (list_any is_accepted items) false }
asking-tells items = rw (owes-tells items, start-tells items, told-tells items) refl

asking_again-of : (acts : List Act) (known : Option Source) → known ≡ announced_last (told_in acts) → asking_again (is_some known) (asking_of acts) ≡ asking_of (map tells (told_in acts))
asking_again-of acts known is =
    ap (λ b. asking_again b (asking_of acts)) (ap is_some is ∙ known-accepted (told_in acts)) ∙ sym (asking-tells (told_in acts))

-- The source is asked again.
pub again_shown : (old : Linking) (asking : Asking) (past : LinkPast) → ShowsLink old past → asking ≡ asking_again (is_some old.known) old.asking
    → ShowsLink (record old { asking = asking }) (asked_again past)
again_shown old asking past shows is =
    let same = told-tells (told_in past.acts) in
    let back = told-reverse past.acts in
    record {
      source = shows.source;
      frames = shows.frames;
      bytes = shows.bytes;
      told = rw same shows.told;
      known = shows.known ∙ ap (λ items. announced_last (reverse items)) (sym same);
      asking = is ∙ ap (asking_again (is_some old.known)) shows.asking
          ∙ asking_again-of (reverse past.acts) old.known (shows.known ∙ ap announced_last (sym back))
          ∙ ap (λ items. asking_of (map tells items)) back ∙ ap asking_of (sym (tells-reverse (told_in past.acts)));
      stats = shows.stats ∙ ap (λ items. link_stats (past.earlier ++ items)) (sym same);
    }

abbrev due_by : Bool → Bool → List Word
due_by config start = (if config then SendCfgTwo ∷ [] else []) ++ (if start then StartData ∷ [] else [])

owes_start-tells : (items : List Item) → owes_start (map tells (reverse items)) ≡ list_any is_accepted items
owes_start-tells items =
    ap (λ xs. list_any is_accepted xs && not (list_any is_start (map tells (reverse items)))) (told-tells (reverse items))
    ∙ ap (λ given. list_any is_accepted (reverse items) && not given) (start-tells (reverse items))
    ∙ and-true (list_any is_accepted (reverse items))
    ∙ sym (list_any-IsPermutation is_accepted items (reverse items) (IsPermutation-reverse items))

-- the words that are due then
pub again_due : (past : LinkPast) → words_due (asked_again past) ≡ SendCfgTwo ∷ (if list_any is_accepted (told_in past.acts) then StartData ∷ [] else [])
again_due past =
    let items = told_in past.acts in
    ap (λ acts. due_by (owes_config acts) (owes_start acts)) (tells-reverse items)
    ∙ ap (λ config. due_by config (owes_start (map tells (reverse items)))) (owes-tells (reverse items))
    ∙ ap (due_by true) (owes_start-tells items)

-- all that was told before is told still
pub again_told : (past : LinkPast) → told_in (asked_again past).acts ≡ told_in past.acts
again_told past = told-tells (told_in past.acts)

pub again_all_told : (past : LinkPast) → IsAllTold past → IsAllTold (asked_again past)
again_all_told past told = rw (again_told past) told
