-- What is known of the layouts of all streams of a connection: eight places, in each a stream and its window. Stream 0 is none, and stands in
-- each place that is free.
use Rattle.std.specs.Prelude.{ℕ, ◌==◌, Bool, true, false, ◌||◌, List, replicate, map, slice_get, slice_set, Option, Some, None, option_map, if◌then◌else◌}
use Rattle.std.specs.List.{find as first, fold, list_any, position}
use Rattle.std.specs.Option.{option_map_or}
use Rattle.pg_limits.specs.Switched.{Switched}
use Rattle.pg_limits.specs.Windows.{is_keep, judged, noted, unknown}
use Rattle.pg_limits.specs.declared.layouts.OnChange.{OnChange}
use Rattle.pg_limits.specs.declared.known_layout.FoundStream.{FoundStream}
use Rattle.pg_limits.specs.declared.known_layout.KnownLayout.{KnownLayout}
use Rattle.pg_limits.specs.declared.known_layout.ServedOnce.{ServedOnce}
use Rattle.pg_limits.specs.declared.known_layout.Verdict.{Verdict}
use Rattle.pg_limits.specs.declared.known_layout.Verdict.TheVariants.{Nothing, AskAgain, SendConfig, Disconnect}
use Rattle.pg_limits.specs.declared.known_layouts.Judged.{Judged}

abbrev pub Known : Type 0
Known = List KnownLayout

-- a new connection
abbrev pub none : Known
none = replicate 8 (unknown 0)

-- ---- one stream of it

abbrev pub place_of : ℕ → Known → Option ℕ
place_of stream ks = position (λ k. k.stream == stream) ks

-- its place, or the first that is free
abbrev pub or_else : Option ℕ → Option ℕ → Option ℕ
or_else (Some place) other = Some place
or_else None other = other

abbrev pub place_for : ℕ → Known → Option ℕ
place_for stream ks = or_else (place_of stream ks) (place_of 0 ks)

-- what is known of it at this place: nothing where another one stands there
abbrev pub known_of : ℕ → Option KnownLayout → KnownLayout
known_of stream None = unknown stream
known_of stream (Some k) = if k.stream == stream then k else unknown stream

abbrev pub known_at : ℕ → ℕ → Known → KnownLayout
known_at place stream ks = known_of stream (slice_get ks place)

-- something is kept of it where it is known
abbrev pub changed : ℕ → (KnownLayout → KnownLayout) → Known → Known
changed stream change ks = option_map_or (λ place. slice_set ks place (change (known_at place stream ks))) (place_of stream ks) ks

-- the first of these streams
abbrev pub first_of : (KnownLayout → Bool) → Known → Option ℕ
first_of is_one ks = option_map (λ k. k.stream) (first is_one ks)

-- ---- what is to be done

-- what is to be done about a stream for which there is no room: it may be read by a CFG-2 that is not known
abbrev pub unkept : FoundStream → OnChange → Verdict
unkept f rule = if is_keep rule then Nothing else if f.is_on then Disconnect else AskAgain

abbrev pub judged_at : FoundStream → ServedOnce → OnChange → Known → Option ℕ → Known × Verdict
judged_at f s rule ks None = (ks, unkept f rule)
judged_at f s rule ks (Some place) = (slice_set ks place (judged f s rule (known_at place f.stream ks)).0, (judged f s rule (known_at place f.stream ks)).1)

-- one stream was found
abbrev pub judged_in : FoundStream → ServedOnce → OnChange → Known → Known × Verdict
judged_in f s rule ks = judged_at f s rule ks (place_for f.stream ks)

abbrev pub with_verdict : ℕ → Verdict → Judged → Judged
with_verdict stream Nothing j = j
with_verdict stream SendConfig j = j
with_verdict stream AskAgain j = record j { asks_again = true }
with_verdict stream Disconnect j = record j { misread = Some stream }

-- ---- all streams were found

abbrev pub is_found : ℕ → Option FoundStream → Bool
is_found stream None = false
is_found stream (Some f) = f.stream == stream

abbrev pub is_among : List (Option FoundStream) → ℕ → Bool
is_among found stream = list_any (is_found stream) found

-- a stream that is there no more and that was not read makes room
abbrev pub forgotten : List (Option FoundStream) → KnownLayout → KnownLayout
forgotten found k = if is_among found k.stream || k.is_read then k else unknown 0

-- what was commanded to a stream that is there no more is kept: it may be defined anew, and is then read by what was handed out before
abbrev pub noted_one : ℕ → ServedOnce → Known → Known
noted_one stream s ks = option_map_or (λ place. slice_set ks place (noted s (known_at place stream ks))) (place_for stream ks) ks

abbrev pub noted_gone : List (Option FoundStream) → ServedOnce → Known → ℕ → Known
noted_gone found s ks stream = if stream == 0 || is_among found stream then ks else noted_one stream s ks

abbrev pub noted_all_gone : List (Option FoundStream) → ServedOnce → Switched → Known → Known
noted_all_gone found s commanded ks = fold (λ ks it. noted_gone found s ks it.0) ks commanded

abbrev pub judged_one : ServedOnce → OnChange → Known × Judged → Option FoundStream → Known × Judged
judged_one s rule r None = r
judged_one s rule r (Some f) = ((judged_in f s rule r.0).0, with_verdict f.stream (judged_in f s rule r.0).1 r.1)

abbrev pub judged_each : List (Option FoundStream) → ServedOnce → OnChange → Known → Known × Judged
judged_each found s rule ks = fold (judged_one s rule) (ks, record { misread = None; asks_again = false }) found

abbrev pub judged_all : List (Option FoundStream) → ServedOnce → OnChange → Known → Known × Judged
judged_all found s rule ks =
    judged_each found s rule (noted_all_gone found s s.switched (noted_all_gone found s s.configured (map (forgotten found) ks)))
