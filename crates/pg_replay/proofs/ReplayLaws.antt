-- The replay of a script, line by line.
use Rattle.std.proofs.Common.{◌≡◌, ℕ, zero, suc, ◌≤◌, ◌<◌, ◌==◌, Bool, true, false, List, [], ◌∷◌, ◌++◌, length, map, Option, Some, None, refl, sym, ap, subst, ◌∙◌, arith}
use Rattle.std.specs.Prelude.{IfSome, if◌then◌else◌}
use Rattle.std.specs.Io.KnownBytes.{Appends, Keeps, prepend_known}
use Rattle.std.specs.Io.BufRead.{take_through, drop_through, first_line, ends_with_byte, strip_last, DropsThrough}
use Rattle.std.proofs.lemmas.List.{append-nil, append_assoc, append_cancel_left}
use Rattle.std.proofs.Common.{is_some}
use Rattle.pg_audit.specs.declared.counters.PmuStats.{PmuStats}
use Rattle.pg_gateway.specs.State.{SharedMachine, slot_of}
use Rattle.pg_gateway.specs.Shown.{GatewayShows}
use Rattle.pg_serve.specs.Inputs.{InputValue, Outcome}
use Rattle.pg_serve.specs.WorldStates.{WorldState, opening, outcome_of, after_turn, after_turns, all_outcomes}
use Rattle.pg_serve.specs.Full.{full_turn, full_turns, world_state_of}
use Rattle.pg_serve.specs.Headline.{OutcomesLossless, HasAnswered, Headline}
use Rattle.pg_serve.proofs.Determined.{turns_are_full}
use Rattle.pg_serve.proofs.Isolating.{isolated}
use Rattle.pg_serve.specs.Shown.{WorldValue, queue_shown, link_counted, session_counted}
use Rattle.pg_replay.specs.Lines.{Asked, nothing, hands, queue, link_stats, session_stats, asked_in}
use Rattle.pg_lines.specs.Words.{Text}
use Rattle.pg_lines.specs.Edits.{without_end}
use Rattle.pg_replay.specs.Printing.{output_lines}
use Rattle.pg_replay.specs.Replaying.{lines_by, lines_in, asked_of, Took, Does, Runs, PrintsScript, SessionText, handed_over, handed_in, text_at, text_of, refused_line, outputs_lines, queue_text, link_text, session_text}
use Rattle.pg_replay.specs.Answering.{PrintsSession, DoesAsked, AnswersLine, AnswersScript}
use Rattle.pg_lines.proofs.PrintLaws.{appends_more}

pub appends-none : (a : Option (List ℕ)) → Appends a a []
appends-none None = tt
appends-none (Some x) = sym (append-nil x)

pub does-nothing : (w : WorldValue) (a : Option (List ℕ)) → DoesAsked w (Some nothing) a a w
does-nothing w a = record { told = []; text = []; does = (refl, refl, refl); appends = appends-none a }

pub does-queue : (w : WorldValue) (u : ℕ) (a b : Option (List ℕ)) → Appends a b (queue_text (queue_shown u w)) → DoesAsked w (Some (queue u)) a b w
does-queue w u a b appends = record { told = []; text = queue_text (queue_shown u w); does = (refl, refl, refl); appends = appends }

pub does-link : (w : WorldValue) (s : ℕ) (a b : Option (List ℕ)) → Appends a b (link_text (link_counted s w)) → DoesAsked w (Some (link_stats s)) a b w
does-link w s a b appends = record { told = []; text = link_text (link_counted s w); does = (refl, refl, refl); appends = appends }

pub does-session : (w : WorldValue) (u : ℕ) (a b : Option (List ℕ)) → PrintsSession w u a b → DoesAsked w (Some (session_stats u)) a b w
does-session w u a b prints = record { told = []; text = prints.text; does = (refl, prints.is, refl); appends = prints.appends }

pub does-input : (w v : WorldValue) (f : InputValue) (o : Outcome) (a b : Option (List ℕ)) → Took w f (o ∷ []) v → Appends a b (output_lines o) → DoesAsked w (Some (hands f)) a b v
does-input w v f o a b took appends = record {
  told = o ∷ [];
  text = outputs_lines (o ∷ []);
  does = (refl, took);
  appends = subst (Appends a b) (sym (append-nil (output_lines o))) appends;
}

-- ---- lines, one after another

dropped : (x : List ℕ) → length (drop_through 10 x) ≤ length x
dropped [] = omega arith
dropped (x ∷ xs) = by (x == 10) (dropped xs)
  where
    by : (b : Bool) → length (drop_through 10 xs) ≤ length xs → length (if b then xs else drop_through 10 xs) ≤ length (x ∷ xs)
    by true rest = omega arith
    by false rest = omega (arith, rest)

same_fuel : (n m : ℕ) (x : Text) → length x ≤ n → length x ≤ m → lines_by n x ≡ lines_by m x
same_fuel zero zero x a b = refl
same_fuel zero (suc m) [] a b = refl
same_fuel (suc n) zero [] a b = refl
same_fuel (suc n) (suc m) [] a b = refl
same_fuel zero (suc m) (x ∷ xs) a b = absurd (omega arith)
same_fuel (suc n) zero (x ∷ xs) a b = absurd (omega arith)
same_fuel (suc n) (suc m) (x ∷ xs) a b =
    let less = less_by (x == 10) (dropped xs) in
    ap (λ ls. first_line (x ∷ xs) ∷ ls) (same_fuel n m (drop_through 10 (x ∷ xs)) (omega (arith, less)) (omega (arith, less)))
  where
    less_by : (b : Bool) → length (drop_through 10 xs) ≤ length xs → length (if b then xs else drop_through 10 xs) ≤ length xs
    less_by true rest = omega arith
    less_by false rest = rest

line_next : (x : ℕ) (xs : Text) → lines_in (x ∷ xs) ≡ first_line (x ∷ xs) ∷ lines_in (drop_through 10 (x ∷ xs))
line_next x xs =
    let less = less_by (x == 10) (dropped xs) in
    ap (λ ls. first_line (x ∷ xs) ∷ ls) (same_fuel (length xs) (length (drop_through 10 (x ∷ xs))) (drop_through 10 (x ∷ xs)) (omega (arith, less)) (omega arith))
  where
    less_by : (b : Bool) → length (drop_through 10 xs) ≤ length xs → length (if b then xs else drop_through 10 xs) ≤ length xs
    less_by true rest = omega arith
    less_by false rest = rest

-- what is read of a line, without its end, is the line
ended : (x : Text) → without_end (take_through 10 x) ≡ first_line x
ended x = by (ends_with_byte 10 (take_through 10 x)) refl
  where
    by : (b : Bool) → ends_with_byte 10 (take_through 10 x) ≡ b
        → (if b then strip_last 13 (strip_last 10 (take_through 10 x)) else take_through 10 x) ≡ (if b then strip_last 13 (strip_last 10 (take_through 10 x)) else strip_last 10 (take_through 10 x))
    by true is = refl
    by false is = rw is refl

-- ---- answers, one after another

runs-more : (w v u : WorldValue) (ms : List (Option Asked)) (m : Option Asked) (told os : List Outcome) (text here : Text) → Runs w ms told text v → Does v m os here u
    → Runs w (ms ++ m ∷ []) (told ++ os) (text ++ here) u
runs-more w v u [] m told os text here runs does =
    (u, os, [], here, [], ap (λ t. t ++ os) runs.0 ∙ sym (append-nil os), ap (λ t. t ++ here) runs.1 ∙ sym (append-nil here), subst (λ x. Does x m os here u) runs.2 does, (refl, refl, refl))
runs-more w v u (a ∷ ms) m told os text here runs does = (
  runs.0,
  runs.1,
  runs.2 ++ os,
  runs.3,
  runs.4 ++ here,
  ap (λ t. t ++ os) runs.5 ∙ append_assoc runs.1 runs.2 os,
  ap (λ t. t ++ here) runs.6 ∙ append_assoc runs.3 runs.4 here,
  runs.7,
  runs-more runs.0 v u ms m runs.2 os runs.4 here runs.8 does,
)

-- So much of a script was answered.
pub record SoFar (w : WorldValue) (script : Text) (rest : Option (List ℕ)) (old new : Option (List ℕ)) (v : WorldValue) : Type 0 where
  pub left : Text
  pub is : rest ≡ Some left
  pub asked : List (Option Asked)
  pub lines : asked_of script ≡ asked ++ asked_of left
  pub told : List Outcome
  pub text : Text
  pub runs : Runs w asked told text v
  pub appends : Appends old new text

pub so-none : (w : WorldValue) (script : Text) (rest old : Option (List ℕ)) → rest ≡ Some script → SoFar w script rest old old w
so-none w script rest old is = record {
  left = script;
  is = is;
  asked = [];
  lines = refl;
  told = [];
  text = [];
  runs = (refl, refl, refl);
  appends = appends-none old;
}

-- the line more that was read
more_lines : (left script : Text) (asked : List (Option Asked)) (m : Option Asked) → 0 < length (take_through 10 left) → asked_in (without_end (take_through 10 left)) ≡ m
    → asked_of script ≡ asked ++ asked_of left → asked_of script ≡ (asked ++ m ∷ []) ++ asked_of (drop_through 10 left)
more_lines [] script asked m some asks lines = absurd (omega arith)
more_lines (x ∷ xs) script asked m some asks lines =
    lines ∙ ap (λ ls. asked ++ map asked_in ls) (line_next x xs)
    ∙ ap (λ a. asked ++ (a ∷ asked_of (drop_through 10 (x ∷ xs)))) (ap asked_in (sym (ended (x ∷ xs))) ∙ asks)
    ∙ sym (append_assoc asked (m ∷ []) (asked_of (drop_through 10 (x ∷ xs))))

-- the bytes that were read, into a line that was empty
read_into : (rest : Option (List ℕ)) (held line : Text) → held ≡ [] → IfSome rest (λ xs. line ≡ held ++ take_through 10 xs) → IfSome rest (λ xs. line ≡ take_through 10 xs)
read_into None held line none read = tt
read_into (Some xs) held line none read = read ∙ ap (λ h. h ++ take_through 10 xs) none

pub so-more : (w v u : WorldValue) (script : Text) (rest next old mid new : Option (List ℕ)) (held line : Text) → SoFar w script rest old mid v
    → held ≡ [] → IfSome rest (λ xs. line ≡ held ++ take_through 10 xs) → DropsThrough rest next 10 → 0 < length line → AnswersLine v (without_end line) mid new u → SoFar w script next old new u
so-more w v u script rest next old mid new held line so none read drops some answers =
    let line_is = subst (λ o. IfSome o (λ xs. line ≡ take_through 10 xs)) so.is (read_into rest held line none read) in
    record {
      left = drop_through 10 so.left;
      is = subst (λ o. DropsThrough o next 10) so.is drops;
      asked = so.asked ++ answers.asked ∷ [];
      lines = more_lines so.left script so.asked answers.asked (subst (λ l. 0 < length l) line_is some) (subst (λ l. asked_in (without_end l) ≡ answers.asked) line_is answers.asks) so.lines;
      told = so.told ++ answers.does.told;
      text = so.text ++ answers.does.text;
      runs = runs-more w v u so.asked answers.asked so.told answers.does.told so.text answers.does.text so.runs answers.does.does;
      appends = appends_more old mid new so.text answers.does.text so.appends answers.does.appends;
    }

none_left : (left : Text) → length (take_through 10 left) ≡ 0 → left ≡ []
none_left [] none = refl
none_left (x ∷ xs) none = absurd (some (x == 10) none)
  where
    some : (b : Bool) → length (if b then x ∷ [] else x ∷ take_through 10 xs) ≡ 0 → ⊥
    some true none = omega arith
    some false none = omega arith

pub so-all : (w v : WorldValue) (script : Text) (rest old new : Option (List ℕ)) (held line : Text) → SoFar w script rest old new v
    → held ≡ [] → IfSome rest (λ xs. line ≡ held ++ take_through 10 xs) → length line ≡ 0 → AnswersScript w script old new
so-all w v script rest old new held line so empty read none =
    let line_is = subst (λ o. IfSome o (λ xs. line ≡ take_through 10 xs)) so.is (read_into rest held line empty read) in
    let end = none_left so.left (ap length (sym line_is) ∙ none) in
    record {
      asked = so.asked;
      lines = so.lines ∙ ap (λ l. so.asked ++ asked_of l) end ∙ append-nil so.asked;
      told = so.told;
      text = so.text;
      later = v;
      runs = so.runs;
      appends = so.appends;
    }

-- ---- what is printed is a function of the script

lossless-front : (xs ys : List Outcome) → OutcomesLossless (xs ++ ys) → OutcomesLossless xs
lossless-front [] ys h = tt
lossless-front (x ∷ xs) ys h = (h.0, lossless-front xs ys h.1)

outcomes_more : (m : WorldState) (fs : List InputValue) (f : InputValue) → all_outcomes m (full_turns m (fs ++ f ∷ [])) ≡ all_outcomes m (full_turns m fs)
    ++ outcome_of (after_turns m (full_turns m fs)) (full_turn (after_turns m (full_turns m fs)) f) ∷ []
outcomes_more m [] f = refl
outcomes_more m (g ∷ fs) f = ap (λ os. outcome_of m (full_turn m g) ∷ os) (outcomes_more (after_turn m (full_turn m g)) fs f)

-- the state that a world shows
shown_world_state : (w : WorldValue) (before : List InputValue) (had : List Outcome) → OutcomesLossless had → HasAnswered w before had → GatewayShows w.gateway (world_state_of before).shared
shown_world_state w before had lossless has =
    let all : has.turns ≡ full_turns opening before = turns_are_full has.turns has.shows.legal (subst OutcomesLossless has.outcomes lossless) ∙ ap (full_turns opening) has.taken in
    subst (λ ts. GatewayShows w.gateway (after_turns opening ts).shared) all has.shows.shows.gateway

-- what a line leaves
kept_after : (w u : WorldValue) (m : Option Asked) (before : List InputValue) (had os : List Outcome) (here : Text) → HasAnswered w before had → Does w m os here u
    → HasAnswered u (before ++ handed_over m) (had ++ os)
kept_after w u m before had os here has does = by m does
  where
    same : os ≡ [] → u ≡ w → HasAnswered u (before ++ []) (had ++ os)
    same none is =
        subst (λ v. HasAnswered v (before ++ []) (had ++ os)) (sym is)
        (subst (λ t. HasAnswered w (before ++ []) (had ++ t)) (sym none) (subst (λ l. HasAnswered w l (had ++ [])) (sym (append-nil before)) (subst (HasAnswered w before) (sym (append-nil had)) has)))

    by : (m : Option Asked) → Does w m os here u → HasAnswered u (before ++ handed_over m) (had ++ os)
    by None d = same d.0 d.2
    by (Some nothing) d = same d.0 d.2
    by (Some (hands f)) d = d.1 before had has
    by (Some (queue n)) d = same d.0 d.2
    by (Some (link_stats n)) d = same d.0 d.2
    by (Some (session_stats n)) d = same d.0 d.2

session_is : (w : WorldValue) (n : ℕ) (here : Text) (S : SharedMachine) (found : Option PmuStats) → GatewayShows w.gateway S → SessionText w n here found
    → here ≡ session_text (is_some (slot_of n S.subs)) found
session_is w n here S None shows text = text.2 ∙ ap refused_line (text.1 S shows)
session_is w n here S (Some s) shows text = text

-- what a line prints
text_is : (w u : WorldValue) (m : Option Asked) (before : List InputValue) (had os : List Outcome) (here : Text) → HasAnswered w before had → Does w m os here u
    → OutcomesLossless (had ++ os) → here ≡ text_at before m
text_is w u m before had os here has does lossless = by m does
  where
    first : OutcomesLossless had
    first = lossless-front had os lossless

    headline : Headline w before had
    headline = isolated w before had first has

    by : (m : Option Asked) → Does w m os here u → here ≡ text_at before m
    by None d = d.1
    by (Some nothing) d = d.1
    by (Some (hands f)) d =
        let later = isolated u (before ++ f ∷ []) (had ++ os) lossless (d.1 before had has) in
        let one = outcome_of (world_state_of before) (full_turn (world_state_of before) f) in
        let whole : had ++ os ≡ had ++ one ∷ [] = later.outcomes ∙ outcomes_more opening before f ∙ ap (λ l. l ++ one ∷ []) (sym headline.outcomes) in
        d.0 ∙ ap outputs_lines (append_cancel_left had os (one ∷ []) whole) ∙ append-nil (output_lines one)
    by (Some (queue n)) d = d.1 ∙ ap queue_text (headline.queued n)
    by (Some (link_stats n)) d = d.1 ∙ ap link_text (headline.links n)
    by (Some (session_stats n)) d =
        session_is w n here (world_state_of before).shared (session_counted n w) (shown_world_state w before had first has) d.1
        ∙ ap (session_text (is_some (slot_of n (world_state_of before).shared.subs))) (headline.sessions n)

runs_print : (w v : WorldValue) (ms : List (Option Asked)) (before : List InputValue) (had told : List Outcome) (text : Text) → HasAnswered w before had → Runs w ms told text v
    → OutcomesLossless (had ++ told) → text ≡ text_of before ms
runs_print w v [] before had told text has runs lossless = runs.1
runs_print w v (m ∷ ms) before had told text has runs lossless =
    let u = runs.0 in
    let os = runs.1 in
    let more = runs.2 in
    let all = subst OutcomesLossless (ap (λ t. had ++ t) runs.5 ∙ sym (append_assoc had os more)) lossless in
    let here = text_is w u m before had os runs.3 has runs.7 (lossless-front (had ++ os) more all) in
    let rest = runs_print u v ms (before ++ handed_over m) (had ++ os) more runs.4 (kept_after w u m before had os runs.3 has runs.7) runs.8 all in
    runs.6 ∙ ap (λ t. t ++ runs.4) here ∙ ap (λ t. text_at before m ++ t) rest

-- all that was taken and told by then
runs_answer : (w v : WorldValue) (ms : List (Option Asked)) (before : List InputValue) (had told : List Outcome) (text : Text) → HasAnswered w before had → Runs w ms told text v
    → HasAnswered v (before ++ handed_in ms) (had ++ told)
runs_answer w v [] before had told text has runs =
    subst (λ u. HasAnswered u (before ++ []) (had ++ told)) (sym runs.2)
    (subst (λ t. HasAnswered w (before ++ []) (had ++ t)) (sym runs.0)
    (subst (λ l. HasAnswered w l (had ++ [])) (sym (append-nil before)) (subst (HasAnswered w before) (sym (append-nil had)) has)))
runs_answer w v (m ∷ ms) before had told text has runs =
    let u = runs.0 in
    let os = runs.1 in
    let more = runs.2 in
    let rest = runs_answer u v ms (before ++ handed_over m) (had ++ os) more runs.4 (kept_after w u m before had os runs.3 has runs.7) runs.8 in
    subst (λ t. HasAnswered v (before ++ handed_in (m ∷ ms)) (had ++ t)) (sym runs.5)
    (subst (λ l. HasAnswered v l (had ++ (os ++ more))) (append_assoc before (handed_over m) (handed_in ms))
    (subst (HasAnswered v ((before ++ handed_over m) ++ handed_in ms)) (append_assoc had os more) rest))

pub prints_script : (w : WorldValue) (script : Text) (old new : Option (List ℕ)) → HasAnswered w [] [] → AnswersScript w script old new → PrintsScript script old new
prints_script w script old new has answers = record {
  printed = answers.text;
  replays = record {
    new = w;
    begins = has;
    told = answers.told;
    later = answers.later;
    runs = subst (λ ms. Runs w ms answers.told answers.text answers.later) (sym answers.lines) answers.runs;
    answered = subst (λ ms. HasAnswered answers.later (handed_in ms) answers.told) (sym answers.lines)
        (runs_answer w answers.later answers.asked [] [] answers.told answers.text has answers.runs);
    full = λ lossless. runs_print w answers.later answers.asked [] [] answers.told answers.text has answers.runs lossless ∙ ap (text_of []) (sym answers.lines);
  };
  appends = answers.appends;
}

appends-kept : (a b c : Option (List ℕ)) (xs : List ℕ) → Appends a b xs → Keeps b c → Appends a c xs
appends-kept None b c xs appends keeps = tt
appends-kept (Some x) None c xs appends keeps = absurd appends
appends-kept (Some x) (Some y) None xs appends keeps = absurd keeps
appends-kept (Some x) (Some y) (Some z) xs appends keeps = keeps ∙ appends

-- a flush writes nothing more
pub prints-flushed : (script : Text) (old mid new : Option (List ℕ)) → PrintsScript script old mid → Keeps mid new → PrintsScript script old new
prints-flushed script old mid new prints keeps = record {
  printed = prints.printed;
  replays = prints.replays;
  appends = appends-kept old mid new prints.printed prints.appends keeps;
}

-- what a new buffered reader has left
pub left_in : (capacity : ℕ) (buffer script : List ℕ) (inner : Option (List ℕ)) → capacity ≡ 8192 → buffer ≡ [] → inner ≡ Some script
    → (if capacity == 0 then None else prepend_known buffer inner) ≡ Some script
left_in capacity buffer script inner size empty is = rw (size, empty, is) refl
