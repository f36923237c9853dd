-- A script of a history makes its events, but for the idle ones, and these concern nobody: so its replay hands out the same.
use Rattle.std.proofs.Common.{◌≡◌, ℕ, ◌==◌, ◌&&◌, nat_eq, not, is_some, Bool, true, false, if◌then◌else◌, List, [], ◌∷◌, ◌++◌, length, map, filter, drop, reverse, Option, Some, None, Result, Ok, refl, sym, ap, ap₂, ◌∙◌, subst, append-nil, arith}
use Rattle.std.proofs.lemmas.Bool.Decides.{nat_tests}
use Rattle.std.specs.Map.{lookup}
use Rattle.std.proofs.Math.Seq.{drop-append_seam}
use Rattle.std.proofs.lemmas.List.{map-append}
use Rattle.pg_wire.specs.declared.refusal.Refusal.{Refusal}
use Rattle.pg_wire.specs.declared.refusal.Refusal.TheVariants.{NoSuchPmu}
use Rattle.pg_wire.specs.declared.ids.PmuKey.{PmuKey}
use Rattle.pg_wire.specs.declared.kind.Kind.TheVariants.{CfgTwo, Measured}
use Rattle.pg_wire.specs.Kinds.{kind_number}
use Rattle.pg_wire.specs.Frame.{break_of, skip_of}
use Rattle.pg_wire.specs.Head.{IsFrame}
use Rattle.pg_wire.specs.Split.{frames_in, rest_in}
use Rattle.pg_wire.proofs.Splitting.{frames_in-append, frames_in-only}
use Rattle.pg_command.specs.declared.command.Command.{Command}
use Rattle.pg_config.specs.Parts.{Source}
use Rattle.pg_config.specs.Reading.{config_of}
use Rattle.pg_data.specs.Measurements.{Measurement}
use Rattle.pg_registry.specs.Registered.{has_key}
use Rattle.pg_session.specs.Events as own
use Rattle.pg_session.specs.Events.{command, Announcing, Sample}
use Rattle.pg_session.specs.Private.{refused}
use Rattle.pg_session.specs.Commands as session
use Rattle.pg_ingest.specs.Items.{Item, announces, config_item, data_item, data_by, passes_over, item_unless, item_of}
use Rattle.pg_gateway.specs.Sharing.{SubscriberSlots, announces as announces_to, measures as measures_to}
use Rattle.pg_gateway.specs.Judging.{registered_of, samples_in, sample_refusal, is_taken, taken_of, judged, memory_counted, blocks_counted}
use Rattle.pg_gateway.specs.GatewayEvents.{GatewayEvent, add_pmu, drop_pmu, add_sub, drop_sub, grant, asks, announce, measure, tick, Question, Answer, tells, sub_counts, pmu_counts, entry, stands, those_waiting, inquires}
use Rattle.pg_gateway.specs.State.{SharedMachine, opening as shared_opening, own_of, announce_refusal, measure_refusal, refusal, made, answer, next, unless, to_all, slots_after, taken_in, judged_in}
use Rattle.pg_gateway.specs.Histories.{Legal, state_after}
use Rattle.pg_gateway.specs.Views.{ViewEvent, shared_step, shared_run, full_by, full_answers, part, part_of, view, private_run, AllLossless, handed_to, handed_in}
use Rattle.pg_gateway.specs.Laws.{events_of, answers_of, after}
use Rattle.pg_gateway.proofs.ViewLaws.{own-run}
use Rattle.pg_gateway.proofs.AnswerLaws.{handed-run}
use Rattle.pg_gateway.proofs.RunLaws.{full_history}
use Rattle.pg_serve.specs.Inputs.{InputValue, link_up, pmu_bytes, sub_bytes, names, Outcome}
use Rattle.pg_serve.specs.Actions.{Action, posts, item_action, hang_up, pairs_of, session_action, session_grows, link_action}
use Rattle.pg_serve.specs.WorldStates.{SourceLinkPast, WorldState, opening, after_turn, history_of, heard_action}
use Rattle.pg_serve.specs.Shown.{WorldValue, queue_shown}
use Rattle.pg_serve.specs.Full.{told_actions, actions_of, full_turn, full_turns, events_made, handed_over, view_of, queue_of}
use Rattle.pg_serve.specs.Headline.{HasAnswered, OutcomesLossless, Headline}
use Rattle.pg_serve.specs.Framed.{announced_by, Awaits}
use Rattle.pg_serve.specs.Replaying.{has_none, is_idle, recorded, HasLink, HasSession, SpellsSource, SpellsWord, IsSpelled, AreSpelled, ReplaysAlike}
use Rattle.pg_serve.proofs.Framing.{one_split, told_now, told_on, more_is, frame_due}
use Rattle.pg_serve.proofs.Neighbours.{posted, events_posted, made_from}
use Rattle.pg_serve.proofs.Isolating.{isolated}

-- ---- idle events

none_is : {A : Type 0} (xs : List A) → has_none xs ≡ true → xs ≡ []
none_is [] is = refl
none_is (x ∷ xs) is = cc

-- the state that an answered event leaves, and what is seen of it
pub record IsUnseen (S : SharedMachine) (e : GatewayEvent) : Type 0 where
  pub state : shared_step S e ≡ S
  pub part : (u : ℕ) → part u S e ≡ []

asked_same : (S : SharedMachine) (q : Question) (a : Answer) → next S (inquires q) a ≡ S
asked_same S q (tells t) = refl
asked_same S q (sub_counts s) = refl
asked_same S q (pmu_counts s) = refl
asked_same S q (entry found) = refl
asked_same S q (stands s) = refl
asked_same S q (those_waiting us) = refl

announce_idle : (S : SharedMachine) (config : Source) → registered_of S.pmus config ≡ [] → IsUnseen S (announce config)
announce_idle S config none =
    let first : refusal S (announce config) ≡ Some NoSuchPmu = ap announce_refusal none in
    record {
      state = ap (λ o. next S (announce config) (full_by o (answer S (announce config) (made S (announce config))))) first
          ∙ ap (λ o. record { pmus = memory_counted S.pmus (map (λ a. a.key) (registered_of S.pmus config)); subs = slots_after (unless o (to_all (announces_to (registered_of S.pmus config)))) (refused NoSuchPmu) S.subs; last_tick = S.last_tick }) first
          ∙ ap (λ (list : List Announcing). record { pmus = memory_counted S.pmus (map (λ a. a.key) list); subs = S.subs; last_tick = S.last_tick }) none;
      part = λ u. ap (λ o. part_of u (own_of u S) (unless o (to_all (announces_to (registered_of S.pmus config))))) first;
    }

-- where no block is of a registered PMU, none is taken
first_taken : (p q : Sample → Bool) (x : Sample) (xs : List Sample) → (filter p xs ≡ [] → filter (λ s. p s && q s) xs ≡ []) → (b : Bool) → p x ≡ b
    → (if b then x ∷ filter p xs else filter p xs) ≡ []
    → (if b && q x then x ∷ filter (λ s. p s && q s) xs else filter (λ s. p s && q s) xs) ≡ []
first_taken p q x xs rest true is none = cc
first_taken p q x xs rest false is none = rest none

none_taken : (p q : Sample → Bool) (xs : List Sample) → filter p xs ≡ [] → filter (λ s. p s && q s) xs ≡ []
none_taken p q [] none = refl
none_taken p q (x ∷ xs) none = first_taken p q x xs (none_taken p q xs) (p x) refl none

map_none : {A B : Type 0} (f : A → B) (xs : List A) → map f xs ≡ [] → xs ≡ []
map_none f [] is = refl
map_none f (x ∷ xs) is = cc

measure_idle : (S : SharedMachine) (m : Measurement) → judged_in S m ≡ [] → IsUnseen S (measure m)
measure_idle S m none =
    let registered : filter (λ s. has_key S.pmus s.key) (samples_in m) ≡ [] =
    map_none (λ s. (s.key, sample_refusal S.pmus S.last_tick m.soc s)) (filter (λ s. has_key S.pmus s.key) (samples_in m)) none in
    let taken : taken_in S m ≡ [] =
    none_taken (λ s. has_key S.pmus s.key) (λ s. not (is_some (sample_refusal S.pmus S.last_tick m.soc s))) (samples_in m) registered in
    let first : refusal S (measure m) ≡ Some NoSuchPmu = ap₂ measure_refusal none taken in
    record {
      state = ap (λ o. next S (measure m) (full_by o (answer S (measure m) (made S (measure m))))) first
          ∙ ap (λ o. record { pmus = blocks_counted S.pmus (judged_in S m); subs = slots_after (unless o (to_all (measures_to m.soc m.quality m.frac (taken_in S m)))) (refused NoSuchPmu) S.subs; last_tick = S.last_tick }) first
          ∙ ap (λ blocks. record { pmus = blocks_counted S.pmus blocks; subs = S.subs; last_tick = S.last_tick }) none;
      part = λ u. ap (λ o. part_of u (own_of u S) (unless o (to_all (measures_to m.soc m.quality m.frac (taken_in S m))))) first;
    }

idle_unseen : (S : SharedMachine) (e : GatewayEvent) → is_idle S e ≡ true → IsUnseen S e
idle_unseen S (inquires q) is = record { state = asked_same S q (full_by (refusal S (inquires q)) (answer S (inquires q) (made S (inquires q)))); part = λ u. refl }
idle_unseen S (announce config) is = announce_idle S config (none_is (registered_of S.pmus config) is)
idle_unseen S (measure m) is = measure_idle S m (none_is (judged_in S m) is)
idle_unseen S (add_pmu key) is = absurd (let no : false ≡ true = is in cc)
idle_unseen S (drop_pmu key) is = absurd (let no : false ≡ true = is in cc)
idle_unseen S (add_sub u size bytes) is = absurd (let no : false ≡ true = is in cc)
idle_unseen S (drop_sub u) is = absurd (let no : false ≡ true = is in cc)
idle_unseen S (grant u key) is = absurd (let no : false ≡ true = is in cc)
idle_unseen S (asks u x) is = absurd (let no : false ≡ true = is in cc)
idle_unseen S (tick soc) is = absurd (let no : false ≡ true = is in cc)

one_recorded : (u : ℕ) (S : SharedMachine) (e : GatewayEvent) (es rest : List GatewayEvent) → view u (shared_step S e) rest ≡ view u (shared_step S e) es
    → (b : Bool) → is_idle S e ≡ b → view u S (if b then rest else e ∷ rest) ≡ part u S e ++ view u (shared_step S e) es
one_recorded u S e es rest same true is =
    let unseen = idle_unseen S e is in
    ap (λ T. view u T rest) (sym unseen.state) ∙ same ∙ ap (λ p. p ++ view u (shared_step S e) es) (sym (unseen.part u))
one_recorded u S e es rest same false is = ap (λ v. part u S e ++ v) same

recorded_view : (u : ℕ) (S : SharedMachine) (es : List GatewayEvent) → view u S (recorded S es) ≡ view u S es
recorded_view u S [] = refl
recorded_view u S (e ∷ es) =
    one_recorded u S e es (recorded (shared_step S e) es) (recorded_view u (shared_step S e) es) (is_idle S e) refl

-- ---- what an input makes

config_told : (source : ℕ) (known : Option Source) (frame : List ℕ) (config : Source) → config.source ≡ source → SpellsSource frame config
    → item_of source known frame ≡ announces config
config_told source known frame config own spells =
    ap (λ skip. item_unless skip source known frame) spells.kind.0
    ∙ ap (λ kind. if kind == kind_number CfgTwo then config_item source (config_of frame) else (if kind == kind_number Measured then data_item (data_by known frame) else passes_over)) spells.kind.1
    ∙ ap (config_item source) spells.read
    ∙ (let same : (config.source == source) ≡ true = grind (arith, nat_tests, own) in rw same refl)

config_due : (line : SourceLinkPast) (source : ℕ) (frame : List ℕ) (config : Source) → line.link.source ≡ source → rest_in line.link.stream ≡ []
    → config.source ≡ source → SpellsSource frame config → told_actions frame (Some line) ≡ posts (announce config) ∷ []
config_due line source frame config own none from spells =
    let only = frames_in-only frame (frame ∷ []) [] (one_split frame spells.whole.0) in
    let known = announced_by line.link in
    let told : told_now line.link.source known (rest_in line.link.stream ++ frame) ≡ announces config ∷ [] =
    ap (λ r. told_now line.link.source known (r ++ frame)) none
    ∙ ap (λ frames. told_on line.link.source known (reverse frames)) (sym only.0)
    ∙ ap (λ item. item ∷ []) (config_told line.link.source known frame config (from ∙ sym own) spells) in
    let rest : rest_in (line.link.stream ++ frame) ≡ [] =
    (frames_in-append line.link.stream frame).1 ∙ ap (λ r. rest_in (r ++ frame)) none ∙ sym only.1 in
    ap₂ link_action (more_is line frame ∙ ap reverse told) (ap break_of rest)

word_item : (frame : List ℕ) (stream word : ℕ) → SpellsWord frame stream word → session.item_of frame ≡ session.commands (record { stream = stream; word = word })
word_item frame stream word spells = ap (session.item_kept frame) spells.whole.1 ∙ ap session.item_read spells.read

word_due : (u : ℕ) (before frame : List ℕ) (stream word : ℕ) → rest_in before ≡ [] → SpellsWord frame stream word
    → session_grows u before frame ≡ posts (asks u (command stream word)) ∷ []
word_due u before frame stream word none spells =
    let only = frames_in-only frame (frame ∷ []) [] (one_split frame spells.whole.0) in
    let split = frames_in-append before frame in
    let f = item_action u in
    let old = map f (session.items_of before) in
    let due = posts (asks u (command stream word)) in
    let whole : session_action u before ≡ old = ap (λ r. old ++ hang_up u (break_of r)) none ∙ append-nil old in
    let frames : frames_in (before ++ frame) ≡ frames_in before ++ frame ∷ [] =
    split.0 ∙ ap (λ r. frames_in before ++ frames_in (r ++ frame)) none ∙ ap (λ fs. frames_in before ++ fs) (sym only.0) in
    let rest : rest_in (before ++ frame) ≡ [] = split.1 ∙ ap (λ r. rest_in (r ++ frame)) none ∙ sym only.1 in
    let items : session.items_of (before ++ frame) ≡ session.items_of before ++ session.commands (record { stream = stream; word = word }) ∷ [] =
    ap (map session.item_of) frames
    ∙ map-append session.item_of (frames_in before) (frame ∷ [])
    ∙ ap (λ item. session.items_of before ++ item ∷ []) (word_item frame stream word spells) in
    let now : session_action u (before ++ frame) ≡ old ++ due ∷ [] =
    ap₂ (λ list r. map f list ++ hang_up u (break_of r)) items rest
    ∙ append-nil (map f (session.items_of before ++ session.commands (record { stream = stream; word = word }) ∷ []))
    ∙ map-append f (session.items_of before) (session.commands (record { stream = stream; word = word }) ∷ []) in
    ap₂ (λ a b. drop (length a) b) whole now ∙ drop-append_seam old (due ∷ [])

spelled_made : (m : WorldState) (f : InputValue) (e : GatewayEvent) → IsSpelled m f e → posted (actions_of m f) ≡ e ∷ []
spelled_made m (names f) e is = ap (λ x. x ∷ []) is
spelled_made m (pmu_bytes source frame) (measure d) is =
    let awaits = is.1 in
    ap posted (ap (told_actions frame) awaits.found ∙ frame_due awaits.line is.0 frame d awaits.between awaits.known is.2)
spelled_made m (pmu_bytes source frame) (announce config) is =
    let link = is.0 in
    ap posted (ap (told_actions frame) link.found ∙ config_due link.line source frame config link.own link.between is.1 is.2)
spelled_made m (sub_bytes u frame) (asks w (command stream word)) is =
    let session = is.1 in
    ap posted (ap (heard_action u frame (is_some (lookup (nat_eq u) m.shared.subs))) session.found ∙ word_due u session.stream frame stream word session.between is.2)
    ∙ ap (λ x. asks x (command stream word) ∷ []) is.0
spelled_made m (link_up s) e is = elim is [ ]
spelled_made m (pmu_bytes source frame) (add_pmu key) is = elim is [ ]
spelled_made m (pmu_bytes source frame) (drop_pmu key) is = elim is [ ]
spelled_made m (pmu_bytes source frame) (add_sub w size bytes) is = elim is [ ]
spelled_made m (pmu_bytes source frame) (drop_sub w) is = elim is [ ]
spelled_made m (pmu_bytes source frame) (grant w key) is = elim is [ ]
spelled_made m (pmu_bytes source frame) (asks w x) is = elim is [ ]
spelled_made m (pmu_bytes source frame) (tick soc) is = elim is [ ]
spelled_made m (pmu_bytes source frame) (inquires q) is = elim is [ ]
spelled_made m (sub_bytes u frame) (add_pmu key) is = elim is [ ]
spelled_made m (sub_bytes u frame) (drop_pmu key) is = elim is [ ]
spelled_made m (sub_bytes u frame) (add_sub w size bytes) is = elim is [ ]
spelled_made m (sub_bytes u frame) (drop_sub w) is = elim is [ ]
spelled_made m (sub_bytes u frame) (grant w key) is = elim is [ ]
spelled_made m (sub_bytes u frame) (asks w (own.grant key config)) is = elim is [ ]
spelled_made m (sub_bytes u frame) (asks w (own.revoke key)) is = elim is [ ]
spelled_made m (sub_bytes u frame) (asks w (own.announce list)) is = elim is [ ]
spelled_made m (sub_bytes u frame) (asks w (own.measure soc quality frac samples)) is = elim is [ ]
spelled_made m (sub_bytes u frame) (asks w (own.define definition)) is = elim is [ ]
spelled_made m (sub_bytes u frame) (asks w (own.remove number)) is = elim is [ ]
spelled_made m (sub_bytes u frame) (asks w (own.tick soc)) is = elim is [ ]
spelled_made m (sub_bytes u frame) (asks w own.connect) is = elim is [ ]
spelled_made m (sub_bytes u frame) (asks w own.hangup) is = elim is [ ]
spelled_made m (sub_bytes u frame) (asks w (own.drain n)) is = elim is [ ]
spelled_made m (sub_bytes u frame) (announce config) is = elim is [ ]
spelled_made m (sub_bytes u frame) (measure d) is = elim is [ ]
spelled_made m (sub_bytes u frame) (tick soc) is = elim is [ ]
spelled_made m (sub_bytes u frame) (inquires q) is = elim is [ ]

spelled_events : (m : WorldState) (script : List InputValue) (es : List GatewayEvent) → AreSpelled m script es → made_from m script ≡ es
spelled_events m [] [] are = refl
spelled_events m [] (e ∷ es) are = absurd are
spelled_events m (f ∷ script) [] are = absurd are
spelled_events m (f ∷ script) (e ∷ es) are =
    map-append (λ x. x.0) (pairs_of (full_turn m f).effects) (history_of (full_turns (after_turn m (full_turn m f)) script))
    ∙ ap₂ (λ x y. x ++ y) (events_posted m.shared (actions_of m f) ∙ spelled_made m f e are.0) (spelled_events (after_turn m (full_turn m f)) script es are.1)

spelled_view : (h : List (GatewayEvent × Answer)) (script : List InputValue) → AreSpelled opening script (recorded shared_opening (events_of h))
    → (u : ℕ) → view_of u script ≡ view u shared_opening (events_of h)
spelled_view h script spelled u =
    ap (view u shared_opening) (spelled_events opening script (recorded shared_opening (events_of h)) spelled) ∙ recorded_view u shared_opening (events_of h)

pub replays_alike : ReplaysAlike
replays_alike = record {
  made = spelled_events opening;
  handed = λ h script w told legal full spelled has lossless u.
      let head = isolated w script told lossless has in
      let same = spelled_view h script spelled u in
      let run = full_history shared_opening h legal full in
      head.handed u
      ∙ ap (handed_in None) same
      ∙ sym (handed-run u shared_opening (events_of h) tt)
      ∙ ap (handed_to u (events_of h)) (sym run.0);
  queued = λ h script w told legal full spelled has lossless u.
      let head = isolated w script told lossless has in
      let same = spelled_view h script spelled u in
      let run = full_history shared_opening h legal full in
      head.queued u
      ∙ ap (λ v. queue_of (private_run None v)) same
      ∙ ap queue_of (sym (own-run u shared_opening (events_of h) tt))
      ∙ ap (λ S. queue_of (own_of u S)) (sym run.1);
}
