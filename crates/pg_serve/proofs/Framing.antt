-- What a link tells of a piece, by its source, by the configuration announced last and by what is left of the bytes before.
use Rattle.std.proofs.Common.{◌≡◌, ◌≢◌, ℕ, ◌==◌, List, [], ◌∷◌, ◌++◌, length, drop, reverse, if◌then◌else◌, Option, Some, None, refl, sym, ap, ap₂, ◌∙◌, arith, append-nil}
use Rattle.std.proofs.Math.Seq.{drop-append_seam}
use Rattle.std.proofs.lemmas.List.{length-append, reverse-append}
use Rattle.std.proofs.lemmas.List.Elements.{All-nil, All-cons}
use Rattle.pg_wire.specs.declared.kind.Kind.TheVariants.{CfgTwo, Measured}
use Rattle.pg_wire.specs.Kinds.{kind_number}
use Rattle.pg_wire.specs.Frame.{break_of, IsWhole}
use Rattle.pg_wire.specs.Split.{frames_in, rest_in}
use Rattle.pg_wire.specs.Stream.{Splits}
use Rattle.pg_wire.proofs.Splitting.{frames_in-append, frames_in-only}
use Rattle.pg_config.specs.Parts.{Source}
use Rattle.pg_config.specs.Reading.{config_of}
use Rattle.pg_data.specs.Measurements.{Measurement}
use Rattle.pg_data.specs.Reading.{SpellsData, IsDataFrame, data_of}
use Rattle.pg_data.proofs.Spellings.{passed-spelled, read-spelled}
use Rattle.pg_ingest.specs.Items.{Item, measures, passes_over, known_after, announced_last, config_item, data_item, data_by, item_unless, item_of, told_back, told_of}
use Rattle.pg_gateway.specs.GatewayEvents.{measure}
use Rattle.pg_gateway.specs.Related.{Related}
use Rattle.pg_gateway.proofs.RelatedLaws.{Both}
use Rattle.pg_serve.specs.Actions.{posts, link_action}
use Rattle.pg_serve.specs.WorldStates.{SourceLinkPast, gives_all, gone_up, fed_line}
use Rattle.pg_serve.specs.Full.{told_more, told_actions}
use Rattle.pg_serve.specs.Framed.{announced_by}

-- ---- what is told behind what was told before

abbrev pub last_of : Option Source → List Item → Option Source
last_of known [] = known
last_of known (item ∷ before) = known_after (last_of known before) item

last_append : (items before : List Item) → announced_last (items ++ before) ≡ last_of (announced_last before) items
last_append [] before = refl
last_append (item ∷ items) before = ap (λ known. known_after known item) (last_append items before)

-- the frames that came last stand first
abbrev pub told_on : ℕ → Option Source → List (List ℕ) → List Item
told_on source known [] = []
told_on source known (frame ∷ frames) = let before = told_on source known frames in item_of source (last_of known before) frame ∷ before

told_behind : (source : ℕ) (frames before : List (List ℕ))
    → told_back source (frames ++ before) ≡ told_on source (announced_last (told_back source before)) frames ++ told_back source before
told_behind source [] before = refl
told_behind source (frame ∷ frames) before =
    let rest = told_behind source frames before in
    let known = announced_last (told_back source before) in
    let last : announced_last (told_back source (frames ++ before)) ≡ last_of known (told_on source known frames) =
    ap announced_last rest ∙ last_append (told_on source known frames) (told_back source before) in
    ap₂ (λ k items. item_of source k frame ∷ items) last rest

-- what is told of these bytes, the last first
abbrev pub told_now : ℕ → Option Source → List ℕ → List Item
told_now source known bytes = told_on source known (reverse (frames_in bytes))

told_fed : (source : ℕ) (stream piece : List ℕ)
    → told_back source (reverse (frames_in (stream ++ piece)))
    ≡ told_now source (announced_last (told_back source (reverse (frames_in stream)))) (rest_in stream ++ piece) ++ told_back source (reverse (frames_in stream))
told_fed source stream piece =
    let behind = frames_in (rest_in stream ++ piece) in
    ap (λ frames. told_back source (reverse frames)) (frames_in-append stream piece).0
    ∙ ap (told_back source) (reverse-append (frames_in stream) behind)
    ∙ told_behind source (reverse behind) (reverse (frames_in stream))

pub more_is : (line : SourceLinkPast) (piece : List ℕ)
    → told_more piece (Some line) ≡ reverse (told_now line.link.source (announced_by line.link) (rest_in line.link.stream ++ piece))
more_is line piece =
    let source = line.link.source in
    let stream = line.link.stream in
    let now = told_now source (announced_by line.link) (rest_in stream ++ piece) in
    ap (λ items. drop (length (told_of source stream)) (reverse items)) (told_fed source stream piece)
    ∙ ap (drop (length (told_of source stream))) (reverse-append now (told_back source (reverse (frames_in stream))))
    ∙ drop-append_seam (told_of source stream) (reverse now)

known_fed : (line : SourceLinkPast) (piece : List ℕ) (items : List Item)
    → announced_by (fed_line line piece items).link
    ≡ last_of (announced_by line.link) (told_now line.link.source (announced_by line.link) (rest_in line.link.stream ++ piece))
known_fed line piece items =
    let source = line.link.source in
    let stream = line.link.stream in
    ap announced_last (told_fed source stream piece)
    ∙ last_append (told_now source (announced_by line.link) (rest_in stream ++ piece)) (told_back source (reverse (frames_in stream)))

-- ---- lines that go on alike

pub record LineAlike (a b : SourceLinkPast) : Type 0 where
  pub source : a.link.source ≡ b.link.source
  pub rest : rest_in a.link.stream ≡ rest_in b.link.stream
  pub known : announced_by a.link ≡ announced_by b.link

pub line_same : (a : SourceLinkPast) → LineAlike a a
line_same a = record { source = refl; rest = refl; known = refl }

line_turned : (a b : SourceLinkPast) → LineAlike a b → LineAlike b a
line_turned a b h = record { source = sym h.source; rest = sym h.rest; known = sym h.known }

now_alike : (a b : SourceLinkPast) (piece : List ℕ) → LineAlike a b
    → told_now a.link.source (announced_by a.link) (rest_in a.link.stream ++ piece) ≡ told_now b.link.source (announced_by b.link) (rest_in b.link.stream ++ piece)
now_alike a b piece h =
    ap (λ s. told_now s (announced_by a.link) (rest_in a.link.stream ++ piece)) h.source
    ∙ ap₂ (λ k r. told_now b.link.source k (r ++ piece)) h.known h.rest

-- commands that are given are no bytes of the source
pub given_alike : (a b : SourceLinkPast) → LineAlike a b → LineAlike (gives_all a) (gives_all b)
given_alike a b h = record { source = h.source; rest = h.rest; known = h.known }

pub line_up : (a b : SourceLinkPast) → LineAlike a b → LineAlike (gone_up a) (gone_up b)
line_up a b h = record {
  source = h.source;
  rest = refl;
  known = ap (λ s. announced_last (told_back s (reverse (frames_in [])))) h.source;
}

pub line_fed : (a b : SourceLinkPast) (piece : List ℕ) (items others : List Item) → LineAlike a b
    → LineAlike (fed_line a piece items) (fed_line b piece others)
line_fed a b piece items others h = record {
  source = h.source;
  rest = (frames_in-append a.link.stream piece).1 ∙ ap (λ r. rest_in (r ++ piece)) h.rest ∙ sym (frames_in-append b.link.stream piece).1;
  known = known_fed a piece items ∙ ap₂ last_of h.known (now_alike a b piece h) ∙ sym (known_fed b piece others);
}

actions_alike : (a b : SourceLinkPast) (piece : List ℕ) → LineAlike a b → told_actions piece (Some a) ≡ told_actions piece (Some b)
actions_alike a b piece h =
    ap₂ link_action
    (more_is a piece ∙ ap reverse (now_alike a b piece h) ∙ sym (more_is b piece))
    (ap break_of ((frames_in-append a.link.stream piece).1 ∙ ap (λ r. rest_in (r ++ piece)) h.rest ∙ sym (frames_in-append b.link.stream piece).1))

pub told_alike : (piece : List ℕ) (o p : Option SourceLinkPast) → Both LineAlike o p → told_actions piece o ≡ told_actions piece p
told_alike piece None None h = refl
told_alike piece (Some a) (Some b) h = actions_alike a b piece h
told_alike piece None (Some b) h = absurd h
told_alike piece (Some a) None h = absurd h

pub lines_turned : (xs ys : List (ℕ × SourceLinkPast)) → Related LineAlike xs ys → Related LineAlike ys xs
lines_turned [] [] h = tt
lines_turned [] (y ∷ ys) h = absurd h
lines_turned (x ∷ xs) [] h = absurd h
lines_turned (x ∷ xs) (y ∷ ys) h = (sym h.0, line_turned x.1 y.1 h.1, lines_turned xs ys h.2)

-- ---- one data frame

no_front : (frame more : List ℕ) → IsWhole frame → [] ≢ frame ++ more
no_front frame more whole e =
    let none : 0 ≡ length (frame ++ more) = ap length e in
    let long = length-append frame more in
    absurd (omega (arith, none, long, whole.sized))

pub one_split : (frame : List ℕ) → IsWhole frame → Splits frame (frame ∷ []) []
one_split frame whole = record {
  whole = sym (append-nil (frame ++ []) ∙ append-nil frame);
  each = All-cons IsWhole frame [] whole (All-nil IsWhole);
  end = no_front;
}

kept_is : (source : ℕ) (config : Source) (frame : List ℕ) → IsDataFrame frame → item_of source (Some config) frame ≡ data_item (data_of config frame)
kept_is source config frame is =
    ap (λ skip. item_unless skip source (Some config) frame) is.frame.1
    ∙ ap (λ kind. if kind == kind_number CfgTwo then config_item source (config_of frame) else (if kind == kind_number Measured then data_item (data_by (Some config) frame) else passes_over)) is.kind

-- A data frame by the configuration of its link, between two frames: it is told as the measurement that it spells.
frame_told : (source : ℕ) (config : Source) (known : Option Source) (rest frame : List ℕ) (m : Measurement) → known ≡ Some config → rest ≡ [] → SpellsData frame config m
    → told_now source known (rest ++ frame) ≡ measures m ∷ []
frame_told source config known rest frame m is none spelled =
    let passed = passed-spelled frame config m spelled in
    let only = frames_in-only frame (frame ∷ []) [] (one_split frame passed.0.frame.0) in
    ap₂ (λ k r. told_now source k (r ++ frame)) is none
    ∙ ap (λ frames. told_on source (Some config) (reverse frames)) (sym only.0)
    ∙ ap (λ item. item ∷ []) (kept_is source config frame passed.0 ∙ ap data_item (read-spelled frame config m spelled))

rest_of_frame : (stream frame : List ℕ) (config : Source) (m : Measurement) → rest_in stream ≡ [] → SpellsData frame config m → rest_in (stream ++ frame) ≡ []
rest_of_frame stream frame config m none spelled =
    let passed = passed-spelled frame config m spelled in
    let only = frames_in-only frame (frame ∷ []) [] (one_split frame passed.0.frame.0) in
    (frames_in-append stream frame).1 ∙ ap (λ r. rest_in (r ++ frame)) none ∙ sym only.1

no_break : break_of [] ≡ None
no_break = refl

pub frame_due : (line : SourceLinkPast) (config : Source) (frame : List ℕ) (m : Measurement) → rest_in line.link.stream ≡ [] → announced_by line.link ≡ Some config
    → SpellsData frame config m → told_actions frame (Some line) ≡ posts (measure m) ∷ []
frame_due line config frame m none known spelled =
    ap₂ link_action
    (more_is line frame ∙ ap reverse (frame_told line.link.source config (announced_by line.link) (rest_in line.link.stream) frame m known none spelled))
    (ap break_of (rest_of_frame line.link.stream frame config m none spelled) ∙ no_break)

-- Two such lines take a data frame each, by the one configuration.
pub line_framed : (a b : SourceLinkPast) (config : Source) (frame another : List ℕ) (m n : Measurement) (items others : List Item) → LineAlike a b
    → rest_in a.link.stream ≡ [] → announced_by a.link ≡ Some config → SpellsData frame config m → SpellsData another config n
    → LineAlike (fed_line a frame items) (fed_line b another others)
line_framed a b config frame another m n items others h none known spelled spelled' =
    let none' : rest_in b.link.stream ≡ [] = sym h.rest ∙ none in
    let known' : announced_by b.link ≡ Some config = sym h.known ∙ known in
    record {
      source = h.source;
      rest = rest_of_frame a.link.stream frame config m none spelled ∙ sym (rest_of_frame b.link.stream another config n none' spelled');
      known = known_fed a frame items
          ∙ ap (last_of (announced_by a.link)) (frame_told a.link.source config (announced_by a.link) (rest_in a.link.stream) frame m known none spelled)
          ∙ h.known
          ∙ sym (ap (last_of (announced_by b.link)) (frame_told b.link.source config (announced_by b.link) (rest_in b.link.stream) another n known' none' spelled'))
          ∙ sym (known_fed b another others);
    }
