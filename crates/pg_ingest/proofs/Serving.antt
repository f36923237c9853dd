-- The steps of a link's loop, cut into turns.
use Rattle.std.proofs.Common.{◌≡◌, ◌∙◌, sym, subst, ap, ap₂, refl, ◌≤◌, ◌<◌, ◌+◌, ◌⊎◌, inl, inr, Bool, true, false, not, ◌&&◌, ◌||◌, if◌then◌else◌, arith, ℕ, List, [], ◌∷◌, ◌++◌, filter, map, reverse, length, length-append, append-nil, append_assoc, Option, Some, None}
use Rattle.std.specs.List.{flat_map, list_any}
use Rattle.std.proofs.lemmas.List.{map-append, reverse-append, length-reverse}
use Rattle.std.proofs.lemmas.Grind.{flat_map-append}
use Rattle.std.specs.Io.KnownBytes.{Consumes}
use Rattle.pg_wire.specs.Split.{frames_in, frames_by}
use Rattle.pg_command.specs.declared.word.Word.{Word}
use Rattle.pg_command.specs.declared.word.Word.TheVariants.{StartData, SendCfgTwo}
use Rattle.pg_command.specs.Words.{word_number}
use Rattle.pg_command.specs.Spelling.{written}
use Rattle.pg_ingest.specs.declared.run.End.{End}
use Rattle.pg_ingest.specs.declared.run.End.TheVariants.{Closed, Quiet, Stalled, Fault}
use Rattle.pg_ingest.specs.Items.{Item, AreTold}
use Rattle.pg_ingest.specs.Commands.{Act, tells, asks, told_in, is_accepted, is_start, is_question, owes_config, owes_start, owed_word}
use Rattle.pg_ingest.specs.Linking.{Linking}
use Rattle.pg_ingest.specs.Shown.{LinkPast, ShowsLink, IsAllTold, feeding, doing, word_due}
use Rattle.pg_ingest.specs.Runs.{wires, Step, begins, reads, posts, stepping, after_steps, AreSteps, bytes_of, events_of, events_told, frame_of, Wires, RanFrom}
use Rattle.pg_ingest.specs.Ends.{is_cut, LastRead, Why, TookAll, Ends}
use Rattle.pg_ingest.specs.Served.{IsFresh, EndsDry, IsCall, SoFar, Turn, bytes_read, items_read, words_due, turning, AreTurns, after_turns, commands_in, frames_of, Served}
use Rattle.pg_ingest.proofs.Telling.{told_in-append}
use Rattle.pg_ingest.proofs.Stepping.{Bytes, from_more, retaken, source_stays}
use Rattle.pg_ingest.proofs.Turns.{last_more, told_more, one_told}

-- ---- what is owed, asked for until none

abbrev due_by : Bool → Bool → List Word
due_by config start = (if config then SendCfgTwo ∷ [] else []) ++ (if start then StartData ∷ [] else [])

abbrev word_by : Bool → Bool → Option Word
word_by config start = if config then Some SendCfgTwo else if start then Some StartData else None

due_none : (config start : Bool) → word_by config start ≡ None → due_by config start ≡ []
due_none true start is = absurd (cc)
due_none false true is = absurd (cc)
due_none false false is = refl

-- the word that is owed was given
due_asked : (word : Word) (acts : List Act) → owed_word acts ≡ Some word → due_by (owes_config acts) (owes_start acts) ≡ word ∷ due_by (owes_config (asks word ∷ acts)) (owes_start (asks word ∷ acts))
due_asked word acts is = by (owes_config acts) (list_any is_accepted (told_in acts)) (list_any is_start acts) is
  where
    by : (config accepted given : Bool) → word_by config (accepted && not given) ≡ Some word
        → due_by config (accepted && not given) ≡ word ∷ due_by (not (is_question (asks word)) && config) (accepted && not (is_start (asks word) || given))
    by true accepted given is =
        let same : SendCfgTwo ≡ word = cc in
        subst (λ w. due_by true (accepted && not given) ≡ w ∷ due_by (not (is_question (asks w)) && true) (accepted && not (is_start (asks w) || given))) same refl
    by false true false is =
        let same : StartData ≡ word = cc in
        subst (λ w. due_by false true ≡ w ∷ due_by (not (is_question (asks w)) && false) (true && not (is_start (asks w) || false))) same refl
    by false true true is = absurd (cc)
    by false false true is = absurd (cc)
    by false false false is = absurd (cc)

pub words_due-none : (past : LinkPast) → word_due past ≡ None → words_due past ≡ []
words_due-none past is = due_none (owes_config (reverse past.acts)) (owes_start (reverse past.acts)) is

pub words_due-asked : (past : LinkPast) (word : Word) → word_due past ≡ Some word → words_due past ≡ word ∷ words_due (doing past (asks word))
words_due-asked past word is =
    due_asked word (reverse past.acts) is
    ∙ ap (λ acts. word ∷ due_by (owes_config acts) (owes_start acts)) (sym (reverse-append past.acts (asks word ∷ [])))

-- ---- what steps did

abbrev words_in : List Step → List Word
words_in [] = []
words_in (begins word ∷ steps) = word ∷ words_in steps
words_in (reads piece ∷ steps) = words_in steps
words_in (posts item ∷ steps) = words_in steps

abbrev items_in : List Step → List Item
items_in [] = []
items_in (begins word ∷ steps) = items_in steps
items_in (reads piece ∷ steps) = items_in steps
items_in (posts item ∷ steps) = item ∷ items_in steps

abbrev bytes_in : List Step → List ℕ
bytes_in steps = flat_map bytes_of steps

frames_are : (source : ℕ) (steps : List Step) → flat_map (frame_of source) steps ≡ frames_of source (words_in steps)
frames_are source [] = refl
frames_are source (begins word ∷ steps) = ap (λ x. written source 0 (word_number word) ++ x) (frames_are source steps)
frames_are source (reads piece ∷ steps) = frames_are source steps
frames_are source (posts item ∷ steps) = frames_are source steps

events_are : (steps : List Step) → flat_map events_of steps ≡ flat_map events_told (items_in steps)
events_are [] = refl
events_are (begins word ∷ steps) = events_are steps
events_are (reads piece ∷ steps) = events_are steps
events_are (posts item ∷ steps) = ap (λ x. events_told item ++ x) (events_are steps)

stream_after : (past : LinkPast) (steps : List Step) → (after_steps past steps).stream ≡ past.stream ++ bytes_in steps
stream_after past [] = sym (append-nil past.stream)
stream_after past (begins word ∷ steps) = stream_after (stepping past (begins word)) steps
stream_after past (reads piece ∷ steps) = stream_after (stepping past (reads piece)) steps ∙ append_assoc past.stream piece (bytes_in steps)
stream_after past (posts item ∷ steps) = stream_after (stepping past (posts item)) steps

told_after : (past : LinkPast) (steps : List Step) → told_in (after_steps past steps).acts ≡ told_in past.acts ++ items_in steps
told_after past [] = sym (append-nil (told_in past.acts))
told_after past (begins word ∷ steps) =
    told_after (stepping past (begins word)) steps ∙ ap (λ x. x ++ items_in steps) (told_in-append past.acts (asks word ∷ []) ∙ append-nil (told_in past.acts))
told_after past (reads piece ∷ steps) = told_after (stepping past (reads piece)) steps
told_after past (posts item ∷ steps) =
    told_after (stepping past (posts item)) steps ∙ ap (λ x. x ++ items_in steps) (told_in-append past.acts (tells item ∷ []))
    ∙ append_assoc (told_in past.acts) (item ∷ []) (items_in steps)

-- ---- nothing is told twice

told_count : (source : ℕ) (frames : List (List ℕ)) (items : List Item) → AreTold source frames items → length frames ≡ length items
told_count source [] [] told = refl
told_count source [] (item ∷ items) told = absurd told
told_count source (frame ∷ frames) [] told = absurd told
told_count source (frame ∷ frames) (item ∷ items) told = omega (arith, told_count source frames items told.1)

all_count : (past : LinkPast) → IsAllTold past → length (frames_in past.stream) ≡ length (told_in past.acts)
all_count past told =
    sym (length-reverse (frames_in past.stream)) ∙ told_count past.source (reverse (frames_in past.stream)) (reverse (told_in past.acts)) told
    ∙ length-reverse (told_in past.acts)

one_more_told : (past : LinkPast) (item : Item) → length (told_in (doing past (tells item)).acts) ≡ length (told_in past.acts) + 1
one_more_told past item = ap length (told_in-append past.acts (tells item ∷ [])) ∙ length-append (told_in past.acts) (item ∷ [])

-- Where more was told than there were frames, nothing but telling can follow, and it never is all and no more.
overtold : (past : LinkPast) (steps : List Step) → length (frames_in past.stream) < length (told_in past.acts) → AreSteps past steps → IsAllTold (after_steps past steps) → ⊥
overtold past [] over are told = omega (arith, over, all_count past told)
overtold past (begins word ∷ steps) over are told = omega (arith, over, all_count past are.0.0)
overtold past (reads piece ∷ steps) over are told = omega (arith, over, all_count past are.0.0)
overtold past (posts item ∷ steps) over are told =
    overtold (stepping past (posts item)) steps (omega (arith, over, one_more_told past item)) are.1 told

-- ---- the cutting

-- words were asked for since the last turn
abbrev begun : LinkPast → List Word → LinkPast
begun past words = record past { acts = past.acts ++ map asks words }

abbrev EndsWith : List ℕ → List Turn → Type 0
EndsWith piece turns = (before : List Turn) × (turn : Turn) × (turns ≡ before ++ turn ∷ []) × (turn.piece ≡ piece)

-- Steps from this past, cut into turns: behind the last of them some words were asked for, and the rest of what is due was
-- not. Where the steps close with a read, none was.
record Cut (past : LinkPast) (bytes : List ℕ) (items : List Item) (words : List Word) (close : Option (List ℕ)) : Type 0 where
  turns : List Turn
  last : List Word
  rest : List Word
  are : AreTurns past turns
  bytes_are : bytes ≡ bytes_read turns
  items_are : items ≡ items_read turns
  words_are : words ≡ commands_in past turns ++ last
  due : last ++ rest ≡ words_due (after_turns past turns)
  told : IsAllTold (begun (after_turns past turns) last)
  closes : (piece : List ℕ) → close ≡ Some piece → (last ≡ []) × EndsWith piece turns

-- where steps stand within a turn: it has asked for these words, or it has read a piece and told some items
data Place : Type 0 where
  asking : List Word → Place
  telling : List ℕ → List Item → Place

abbrev bytes_at : Place → List ℕ
bytes_at (asking words) = []
bytes_at (telling piece items) = piece

abbrev items_at : Place → List Item
items_at (asking words) = []
items_at (telling piece items) = items

abbrev words_at : LinkPast → Place → List Word
words_at past (asking words) = words
words_at past (telling piece items) = words_due past

abbrev read_at : Place → Option (List ℕ)
read_at (asking words) = None
read_at (telling piece items) = Some piece

-- the piece that was read last, where no command was begun behind it
abbrev last_read : Option (List ℕ) → List Step → Option (List ℕ)
last_read before [] = before
last_read before (begins word ∷ steps) = last_read None steps
last_read before (reads piece ∷ steps) = last_read (Some piece) steps
last_read before (posts item ∷ steps) = last_read before steps

abbrev IsAt : LinkPast → Place → LinkPast → Type 0
IsAt past (asking words) now = (now ≡ begun past words) × (words ++ words_due now ≡ words_due past) × IsAllTold now
IsAt past (telling piece items) now = (now ≡ turning past (record { piece = piece; items = items })) × (length piece ≤ 4096)

cut_turn : (past : LinkPast) (turn : Turn) (bytes : List ℕ) (items : List Item) (words : List Word) (close : Option (List ℕ)) → length turn.piece ≤ 4096 → IsAllTold (turning past turn)
    → Cut (turning past turn) bytes items words close → Cut past (turn.piece ++ bytes) (turn.items ++ items) (words_due past ++ words) close
cut_turn past turn bytes items words close small told cut = record {
  turns = turn ∷ cut.turns;
  last = cut.last;
  rest = cut.rest;
  are = (small, told, cut.are);
  bytes_are = ap (λ x. turn.piece ++ x) cut.bytes_are;
  items_are = ap (λ x. turn.items ++ x) cut.items_are;
  words_are = ap (λ x. words_due past ++ x) cut.words_are ∙ sym (append_assoc (words_due past) (commands_in (turning past turn) cut.turns) cut.last);
  due = cut.due;
  told = cut.told;
  closes = λ piece is. let c = cut.closes piece is in (c.0, (turn ∷ c.1.0, c.1.1, ap (λ x. turn ∷ x) c.1.2, c.1.3));
}

past-eta : (past : LinkPast) (stream : List ℕ) (acts : List Act) → stream ≡ past.stream → acts ≡ past.acts → record past { stream = stream; acts = acts } ≡ past
past-eta past stream acts s a = ap₂ (λ x y. record past { stream = x; acts = y }) s a

begun_none : (past : LinkPast) → begun past [] ≡ past
begun_none past = past-eta past past.stream (past.acts ++ []) refl (append-nil past.acts)

-- one more word was asked for
begun_more : (past now : LinkPast) (words : List Word) (word : Word) → now ≡ begun past words → doing now (asks word) ≡ begun past (words ++ word ∷ [])
begun_more past now words word is =
    ap (λ p. doing p (asks word)) is
    ∙ ap (λ (acts : List Act). record past { acts = acts }) (append_assoc past.acts (map asks words) (asks word ∷ []) ∙ ap (λ x. past.acts ++ x) (sym (map-append asks words (word ∷ []))))

-- a piece was read, all that is due being asked for
read_more : (past now : LinkPast) (words : List Word) (piece : List ℕ) → now ≡ begun past words → words ≡ words_due past
    → feeding now piece ≡ turning past (record { piece = piece; items = [] })
read_more past now words piece is all =
    ap (λ p. feeding p piece) is
    ∙ ap (λ (acts : List Act). record past { stream = past.stream ++ piece; acts = acts })
    (ap (λ ws. past.acts ++ map asks ws) all ∙ sym (append-nil (past.acts ++ map asks (words_due past))))

-- one more item was told
told_one : (past now : LinkPast) (piece : List ℕ) (items : List Item) (item : Item) → now ≡ turning past (record { piece = piece; items = items })
    → doing now (tells item) ≡ turning past (record { piece = piece; items = items ++ item ∷ [] })
told_one past now piece items item is =
    ap (λ p. doing p (tells item)) is
    ∙ ap (λ (acts : List Act). record past { stream = past.stream ++ piece; acts = acts })
    (append_assoc (past.acts ++ map asks (words_due past)) (map tells items) (tells item ∷ [])
    ∙ ap (λ x. past.acts ++ map asks (words_due past) ++ x) (sym (map-append tells items (item ∷ []))))

cut : (steps : List Step) (past : LinkPast) (place : Place) (now : LinkPast) → IsAt past place now → AreSteps now steps → IsAllTold (after_steps now steps)
    → Cut past (bytes_at place ++ bytes_in steps) (items_at place ++ items_in steps) (words_at past place ++ words_in steps) (last_read (read_at place) steps)
cut [] past (asking words) now at are told = record {
  turns = [];
  last = words;
  rest = words_due now;
  are = tt;
  bytes_are = refl;
  items_are = refl;
  words_are = append-nil words;
  due = at.1;
  told = subst IsAllTold at.0 told;
  closes = λ piece is. absurd (cc);
}
cut [] past (telling piece items) now at are told =
    let turn : Turn = record { piece = piece; items = items } in
    let told_now : IsAllTold (turning past turn) = subst IsAllTold at.0 told in
    record {
      turns = turn ∷ [];
      last = [];
      rest = words_due (turning past turn);
      are = (at.1, told_now, tt);
      bytes_are = refl;
      items_are = refl;
      words_are = sym (append-nil (words_due past ++ []));
      due = refl;
      told = subst IsAllTold (sym (begun_none (turning past turn))) told_now;
      closes = λ other is. (refl, ([], turn, refl, cc));
    }
cut (begins word ∷ steps) past (asking words) now at are told =
    subst (λ ws. Cut past (bytes_in steps) (items_in steps) ws (last_read None steps)) (append_assoc words (word ∷ []) (words_in steps))
    (cut steps past (asking (words ++ word ∷ [])) (stepping now (begins word)) (
      begun_more past now words word at.0,
      append_assoc words (word ∷ []) (words_due (doing now (asks word))) ∙ ap (λ ws. words ++ ws) (sym (words_due-asked now word are.0.1)) ∙ at.1,
      one_told now word at.2,
    ) are.1 told)
cut (begins word ∷ steps) past (telling piece items) now at are told =
    let turn : Turn = record { piece = piece; items = items } in
    cut_turn past turn (bytes_in steps) (items_in steps) (word ∷ words_in steps) (last_read None steps) at.1 (subst IsAllTold at.0 are.0.0)
    (cut steps (turning past turn) (asking (word ∷ [])) (stepping now (begins word)) (
      ap (λ p. doing p (asks word)) at.0,
      sym (words_due-asked now word are.0.1) ∙ ap words_due at.0,
      one_told now word are.0.0,
    ) are.1 told)
cut (reads next ∷ steps) past (asking words) now at are told =
    let all : words ≡ words_due past = sym (append-nil words) ∙ ap (λ ws. words ++ ws) (sym (words_due-none now are.0.1)) ∙ at.1 in
    subst (λ ws. Cut past (next ++ bytes_in steps) (items_in steps) (ws ++ words_in steps) (last_read (Some next) steps)) (sym all)
    (cut steps past (telling next []) (stepping now (reads next)) (read_more past now words next at.0 all, are.0.2) are.1 told)
cut (reads next ∷ steps) past (telling piece items) now at are told =
    let turn : Turn = record { piece = piece; items = items } in
    let none : words_due (turning past turn) ≡ [] = ap words_due (sym at.0) ∙ words_due-none now are.0.1 in
    cut_turn past turn (next ++ bytes_in steps) (items_in steps) (words_in steps) (last_read (Some next) steps) at.1 (subst IsAllTold at.0 are.0.0)
    (subst (λ ws. Cut (turning past turn) (next ++ bytes_in steps) (items_in steps) (ws ++ words_in steps) (last_read (Some next) steps)) none
    (cut steps (turning past turn) (telling next []) (stepping now (reads next))
    (read_more (turning past turn) now [] next (at.0 ∙ sym (begun_none (turning past turn))) (sym none), are.0.2) are.1 told))
cut (posts item ∷ steps) past (asking words) now at are told =
    absurd (overtold (stepping now (posts item)) steps (omega (arith, all_count now at.2, one_more_told now item)) are.1 told)
cut (posts item ∷ steps) past (telling piece items) now at are told =
    subst (λ xs. Cut past (piece ++ bytes_in steps) xs (words_due past ++ words_in steps) (last_read (Some piece) steps)) (append_assoc items (item ∷ []) (items_in steps))
    (cut steps past (telling piece (items ++ item ∷ [])) (stepping now (posts item)) (told_one past now piece items item at.0, at.1) are.1 told)

-- ---- one more empty turn, in which not all was asked for

are-append : (past : LinkPast) (a b : List Turn) → AreTurns past a → AreTurns (after_turns past a) b → AreTurns past (a ++ b)
are-append past [] b h k = k
are-append past (turn ∷ a) b h k = (h.0, h.1, are-append (turning past turn) a b h.2 k)

commands-append : (past : LinkPast) (a b : List Turn) → commands_in past (a ++ b) ≡ commands_in past a ++ commands_in (after_turns past a) b
commands-append past [] b = refl
commands-append past (turn ∷ a) b =
    ap (λ x. words_due past ++ x) (commands-append (turning past turn) a b)
    ∙ sym (append_assoc (words_due past) (commands_in (turning past turn) a) (commands_in (after_turns (turning past turn) a) b))

told-asks : (words : List Word) → told_in (map asks words) ≡ []
told-asks [] = refl
told-asks (word ∷ words) = told-asks words

told-begun : (acts : List Act) (words : List Word) → told_in (acts ++ map asks words) ≡ told_in acts
told-begun acts words = told_in-append acts (map asks words) ∙ ap (λ x. told_in acts ++ x) (told-asks words) ∙ append-nil (told_in acts)

abbrev dry : Turn
dry = record { piece = []; items = [] }

dry_told : (past : LinkPast) (words : List Word) → IsAllTold (begun past words) → IsAllTold (turning past dry)
dry_told past words told =
    let same : told_in (past.acts ++ map asks words) ≡ told_in (past.acts ++ map asks (words_due past) ++ []) =
    told-begun past.acts words ∙ sym (told-begun past.acts (words_due past)) ∙ ap told_in (sym (append-nil (past.acts ++ map asks (words_due past)))) in
    subst (λ s. AreTold past.source (reverse (frames_in s)) (reverse (told_in (turning past dry).acts))) (sym (append-nil past.stream))
    (subst (λ items. AreTold past.source (reverse (frames_in past.stream)) (reverse items)) same told)

-- ---- the promise

last-append : (o : Option (List ℕ)) (before : List Step) (piece : List ℕ) (items : List Item) → last_read o (before ++ reads piece ∷ map posts items) ≡ Some piece
last-append o [] piece [] = refl
last-append o [] piece (item ∷ items) = last-append o [] piece items
last-append o (begins word ∷ before) piece items = last-append None before piece items
last-append o (reads other ∷ before) piece items = last-append (Some other) before piece items
last-append o (posts item ∷ before) piece items = last-append o before piece items

last_is : (piece : List ℕ) (steps : List Step) → LastRead piece steps → last_read None steps ≡ Some piece
last_is piece steps last = ap (last_read None) last.is ∙ last-append None last.before piece last.items

pub fresh_told : (past : LinkPast) → IsFresh past → IsAllTold past
unfolding frames_in frames_by
fresh_told past fresh =
    subst (λ s. AreTold past.source (reverse (frames_in s)) (reverse (told_in past.acts))) (sym fresh.0)
    (subst (λ acts. AreTold past.source (reverse (frames_in [])) (reverse (told_in acts))) (sym fresh.1) tt)

served_told : (past : LinkPast) (steps : List Step) (bytes : List ℕ) (items : List Item) → IsAllTold (after_steps past steps) → bytes_in steps ≡ bytes → items_in steps ≡ items
    → AreTold past.source (reverse (frames_in (past.stream ++ bytes))) (reverse (told_in past.acts ++ items))
served_told past steps bytes items told b i =
    let stream : (after_steps past steps).stream ≡ past.stream ++ bytes = stream_after past steps ∙ ap (λ s. past.stream ++ s) b in
    let all : told_in (after_steps past steps).acts ≡ told_in past.acts ++ items = told_after past steps ∙ ap (λ xs. told_in past.acts ++ xs) i in
    subst (λ source. AreTold source (reverse (frames_in (past.stream ++ bytes))) (reverse (told_in past.acts ++ items))) (source_stays past steps)
    (subst (λ s. AreTold (after_steps past steps).source (reverse (frames_in s)) (reverse (told_in past.acts ++ items))) stream
    (subst (λ xs. AreTold (after_steps past steps).source (reverse (frames_in (after_steps past steps).stream)) (reverse xs)) all told))

served_by : (end : End) (past : LinkPast) (v : Linking) (before after : Wires) (turns : List Turn) (unasked : List Word) → (so : SoFar end past v before after)
    → AreTurns past turns → bytes_in so.ran.steps ≡ bytes_read turns → items_in so.ran.steps ≡ items_read turns → words_in so.ran.steps ++ unasked ≡ commands_in past turns
    → (is_cut end ≡ false → (unasked ≡ []) × (v.left ≡ []) × ((before : List Turn) × (turn : Turn) × (turns ≡ before ++ turn ∷ []) × EndsDry end turn.piece))
    → Served end past v.left before after
served_by end past v before after turns unasked so are bytes items words whole = record {
  turns = turns;
  are = are;
  read = subst (Consumes before.unread after.unread) bytes so.ran.read;
  told = served_told past so.ran.steps (bytes_read turns) (items_read turns) so.told bytes items;
  calls = so.ran.calls;
  posted = so.ran.posted;
  events = so.ran.events ∙ ap (filter before.takes) (events_are so.ran.steps ∙ ap (flat_map events_told) items);
  out = so.ran.out;
  wrote = so.ran.wrote;
  unasked = unasked;
  commands = ap (λ x. x ++ frames_of past.source unasked) (so.ran.goes_on ∙ frames_are past.source so.ran.steps)
      ∙ sym (flat_map-append (λ word. written past.source 0 (word_number word)) (words_in so.ran.steps) unasked)
      ∙ ap (frames_of past.source) words;
  whole = whole;
}

pub served : (end : End) (past : LinkPast) (v : Linking) (before after : Wires) → IsAllTold past → SoFar end past v before after → Served end past v.left before after
served end past v before after told so =
    by (last_read None so.ran.steps) refl (cut so.ran.steps past (asking []) past (sym (begun_none past), refl, told) so.ran.are so.told)
  where
    by : (close : Option (List ℕ)) → last_read None so.ran.steps ≡ close → Cut past (bytes_in so.ran.steps) (items_in so.ran.steps) (words_in so.ran.steps) close
        → Served end past v.left before after
    by (Some piece) is c =
        let closed = c.closes piece refl in
        served_by end past v before after c.turns [] so c.are c.bytes_are c.items_are
        (append-nil (words_in so.ran.steps) ∙ c.words_are ∙ ap (λ ws. commands_in past c.turns ++ ws) closed.0 ∙ append-nil (commands_in past c.turns))
        (λ uncut.
        let last = so.last uncut in
        let same : last.0 ≡ piece = let e = sym (last_is last.0 so.ran.steps last.2) ∙ is in cc in
        (refl, so.whole uncut, (closed.1.0, closed.1.1, closed.1.2, subst (EndsDry end) (same ∙ sym closed.1.3) last.1)))
    by None is c =
        let now = after_turns past c.turns in
        served_by end past v before after (c.turns ++ dry ∷ []) c.rest so
        (are-append past c.turns (dry ∷ []) c.are (omega arith, dry_told now c.last c.told, tt))
        (c.bytes_are ∙ sym (append-nil (bytes_read c.turns)) ∙ sym (flat_map-append (λ (turn : Turn). turn.piece) c.turns (dry ∷ [])))
        (c.items_are ∙ sym (append-nil (items_read c.turns)) ∙ sym (flat_map-append (λ (turn : Turn). turn.items) c.turns (dry ∷ [])))
        (ap (λ ws. ws ++ c.rest) c.words_are ∙ append_assoc (commands_in past c.turns) c.last c.rest
        ∙ ap (λ ws. commands_in past c.turns ++ ws) (c.due ∙ sym (append-nil (words_due now))) ∙ sym (commands-append past c.turns (dry ∷ [])))
        (λ uncut. let last = so.last uncut in absurd (let e = sym is ∙ last_is last.0 so.ran.steps last.2 in cc))

-- ---- calls one after another

ends_last : (end : End) (turns : ℕ) (left : List ℕ) (r : Bytes) (past : LinkPast) (steps : List Step) → Ends end turns left r past steps → 0 < turns → is_cut end ≡ false
    → (piece : List ℕ) × EndsDry end piece × LastRead piece steps
ends_last Closed turns left r past steps ends some uncut = by ends.why
  where
    by : Why Closed left r past steps ⊎ TookAll Closed turns past steps → (piece : List ℕ) × EndsDry Closed piece × LastRead piece steps
    by (inl why) = ([], refl, why.1)
    by (inr all) = absurd (let e = all.end_is in cc)
ends_last Quiet turns left r past steps ends some uncut = by ends.why
  where
    by : Why Quiet left r past steps ⊎ TookAll Quiet turns past steps → (piece : List ℕ) × EndsDry Quiet piece × LastRead piece steps
    by (inl why) = ([], refl, why.0)
    by (inr all) = absurd (let e = all.end_is in cc)
ends_last Stalled turns left r past steps ends some uncut = let last = ends.last uncut some in (last.0, tt, last.1)
ends_last (Fault n) turns left r past steps ends some uncut = let last = ends.last uncut some in (last.0, tt, last.1)

pub first_call : (end : End) (turns : ℕ) (past : LinkPast) (v v' : Linking) (before after : Wires) → 0 < turns → ShowsLink v past → v.left ≡ []
    → IsCall end turns v v' before after → SoFar end past v' before after
first_call end turns past v v' before after some shows empty call =
    let a = subst (λ left. (x : RanFrom past left v' before after) × Ends end turns v'.left after.unread past x.steps) empty (call.ran past shows) in
    record { ran = a.0; told = a.1.told; last = ends_last end turns v'.left after.unread past a.0.steps a.1 some; whole = call.whole some }

pub next_call : (end end' : End) (turns : ℕ) (past : LinkPast) (v v' : Linking) (first before after : Wires) → 0 < turns → SoFar end past v first before
    → IsCall end' turns v v' before after → SoFar end' past v' first after
next_call end end' turns past v v' first before after some so call =
    let t = first.takes in
    let one = retaken past [] v first before t t refl refl so.ran in
    let now = after_steps past one.0.steps in
    let b = call.ran now one.0.shows in
    let two = retaken now v.left v' before after t t so.ran.takes refl b.0 in
    let sum = from_more past [] v v' first.unread before.unread after.unread first.written before.written after.written first.posted before.posted after.posted one.0 two.0 in
    let both = retaken past [] v' first (wires after.unread after.written after.posted t) t after.takes refl (b.0.takes ∙ so.ran.takes) sum.0 in
    let are : both.0.steps ≡ one.0.steps ++ b.0.steps = both.1 ∙ sum.1 ∙ ap (λ s. one.0.steps ++ s) two.1 in
    record {
      ran = both.0;
      told = subst (λ s. IsAllTold (after_steps past s)) (sym are) (told_more past one.0.steps b.0.steps b.1.told);
      last = λ uncut.
          let last = ends_last end' turns v'.left after.unread now b.0.steps b.1 some uncut in
          (last.0, last.1, subst (LastRead last.0) (sym are) (last_more last.0 one.0.steps b.0.steps last.2));
      whole = call.whole some;
    }
