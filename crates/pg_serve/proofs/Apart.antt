-- Inputs whose data frames differ in blocks that a subscriber is not granted give it equal views.
use Rattle.std.proofs.Common.{◌≡◌, ℕ, ◌+◌, ◌≤◌, nat_eq, Bool, true, false, List, [], ◌∷◌, ◌++◌, length, map, Some, slice_get, get_or, refl, sym, ap, ap₂, ◌∙◌, subst, arith, add-one}
use Rattle.std.specs.Map.{lookup, set_value}
use Rattle.pg_wire.specs.Split.{rest_in}
use Rattle.pg_wire.specs.Stream.{joined}
use Rattle.pg_config.specs.Parts.{Part, Source, data_len}
use Rattle.pg_data.specs.Measurements.{Measurement, block_of, block_in}
use Rattle.pg_data.proofs.Blocks.{block_at}
use Rattle.pg_session.specs.Events.{key_in}
use Rattle.pg_gateway.specs.GatewayEvents.{measure}
use Rattle.pg_gateway.specs.State.{own_of}
use Rattle.pg_gateway.specs.Views.{view, part, shared_step, shared_run}
use Rattle.pg_gateway.specs.Related.{Related}
use Rattle.pg_gateway.proofs.RelatedLaws.{Related-set_value, lookup-some}
use Rattle.pg_serve.specs.Inputs.{InputValue, pmu_bytes}
use Rattle.pg_serve.specs.Actions.{posts}
use Rattle.pg_serve.specs.WorldStates.{SourceLinkPast, WorldState, opening, put_line, line_after, all_given, gives_all, fed_line}
use Rattle.pg_serve.specs.Full.{told_more, told_actions, actions_of, world_state_of, view_of}
use Rattle.pg_serve.specs.Others.{is_of_other, adds_at, adds_in}
use Rattle.pg_serve.specs.Framed.{announced_by, FramesAreEvents, is_granted, DifferUngranted, Given, same, frames, mine_at, other_at, DifferAt, DifferFrom, SameButUngranted}
use Rattle.pg_serve.proofs.Belonging.{opening_belongs, turn_belongs}
use Rattle.pg_serve.proofs.Framing.{LineAlike, frame_due, given_alike, line_framed, lines_turned}
use Rattle.pg_serve.proofs.Measured.{with_body, samples_alike, measured_both}
use Rattle.pg_serve.proofs.Neighbours.{Alike, AlikeStates, posted, events_posted, run_posted, made_from, turned, view_turn, RoomFor, room_for, length_turn, other_turn, own_turn}

-- ---- a frame's bytes are its event

block_is : (parts : List Part) (blocks : List (List ℕ)) (i : ℕ) → map length blocks ≡ map data_len parts → block_in parts (joined blocks) i ≡ get_or blocks i []
block_is parts blocks i sizes = rw (add-one i) (block_at parts blocks i sizes)

pub frames_are_events : FramesAreEvents
frames_are_events = record {
  events = λ inputs source config frame m awaits spelled.
      let at = world_state_of inputs in
      events_posted at.shared (actions_of at (pmu_bytes source frame))
      ∙ ap posted (ap (told_actions frame) awaits.found ∙ frame_due awaits.line config frame m awaits.between awaits.known spelled);
  blocks = λ config frame m spelled i.
      ap₂ (λ (c : Source) body. block_in c.parts body i) spelled.by spelled.body
      ∙ block_is config.parts spelled.blocks i spelled.sizes;
}

-- ---- one input of both

turned_about : (u : ℕ) (m n : WorldState) → AlikeStates u m n → AlikeStates u n m
turned_about u m n h = record {
  shared = record {
    pmus = sym h.shared.pmus;
    tick = sym h.shared.tick;
    own = sym h.shared.own;
    alone = h.shared.alone';
    alone' = h.shared.alone;
  };
  lines = lines_turned m.lines n.lines h.lines;
  fed = sym h.fed;
  first = h.other;
  other = h.first;
}

abbrev Goes : ℕ → WorldState → WorldState → InputValue → InputValue → Type 0
Goes u m n f g =
    AlikeStates u (turned m f) (turned n g) × (view u m.shared (posted (actions_of m f)) ≡ view u n.shared (posted (actions_of n g)))

both_turn : (u : ℕ) (m n : WorldState) (f : InputValue) → AlikeStates u m n → RoomFor f m.shared → RoomFor f n.shared → Goes u m n f f
both_turn u m n f alike room room' = by (is_of_other u f) refl
  where
    by : (b : Bool) → is_of_other u f ≡ b → Goes u m n f f
    by false is = own_turn u m n f alike is room room'
    by true is =
        let one = other_turn u m n f alike is in
        let two = other_turn u n (turned m f) f (turned_about u (turned m f) n one.0) is in
        (turned_about u (turned n f) (turned m f) two.0, one.1 ∙ sym two.1)

-- ---- a data frame of each

same_but_body : (m n : Measurement) → m.source ≡ n.source → m.soc ≡ n.soc → m.quality ≡ n.quality → m.frac ≡ n.frac → m.config ≡ n.config
    → with_body m n.body ≡ n
same_but_body m n source soc quality frac config =
    ap (λ x. record { source = x; soc = m.soc; quality = m.quality; frac = m.frac; config = m.config; body = n.body }) source
    ∙ ap (λ x. record { source = n.source; soc = x; quality = m.quality; frac = m.frac; config = m.config; body = n.body }) soc
    ∙ ap (λ x. record { source = n.source; soc = n.soc; quality = x; frac = m.frac; config = m.config; body = n.body }) quality
    ∙ ap (λ x. record { source = n.source; soc = n.soc; quality = n.quality; frac = x; config = m.config; body = n.body }) frac
    ∙ ap (λ x. record { source = n.source; soc = n.soc; quality = n.quality; frac = n.frac; config = x; body = n.body }) config

line_set : (m : WorldState) (source : ℕ) (piece : List ℕ) (line : SourceLinkPast) → lookup (nat_eq source) m.lines ≡ Some line
    → put_line source m.lines (all_given (line_after (pmu_bytes source piece) (told_more piece (lookup (nat_eq source) m.lines)) (lookup (nat_eq source) m.lines)))
    ≡ set_value (nat_eq source) m.lines (gives_all (fed_line line piece (told_more piece (Some line))))
line_set m source piece line found =
    ap (λ o. put_line source m.lines (all_given (line_after (pmu_bytes source piece) (told_more piece o) o))) found

framed_turn : (u : ℕ) (m n : WorldState) (source : ℕ) (config : Source) (frame another : List ℕ) → AlikeStates u m n
    → DifferUngranted u m source config frame another → Goes u m n (pmu_bytes source frame) (pmu_bytes source another)
framed_turn u m n source config frame another alike differ =
    let f = pmu_bytes source frame in
    let g = pmu_bytes source another in
    let mine = differ.mine in
    let other = differ.other in
    let line = differ.awaits.line in
    let there = lookup-some LineAlike (nat_eq source) line m.lines n.lines alike.lines differ.awaits.found in
    let line' = there.0 in
    let between' : rest_in line'.link.stream ≡ [] = sym there.2.rest ∙ differ.awaits.between in
    let known' : announced_by line'.link ≡ Some config = sym there.2.known ∙ differ.awaits.known in
    let due : actions_of m f ≡ posts (measure mine) ∷ [] =
    ap (told_actions frame) differ.awaits.found ∙ frame_due line config frame mine differ.awaits.between differ.awaits.known differ.spelled in
    let due' : actions_of n g ≡ posts (measure other) ∷ [] =
    ap (told_actions another) there.1 ∙ frame_due line' config another other between' known' differ.spelled_other in
    let is : with_body mine other.body ≡ other =
    same_but_body mine other (differ.spelled.source ∙ sym differ.spelled_other.source) differ.soc differ.quality differ.frac
    (differ.spelled.by ∙ sym differ.spelled_other.by) in
    let blocks : (i : ℕ) (part : Part) → slice_get mine.config.parts i ≡ Some part → is_granted (own_of u m.shared) (key_in mine.config part) ≡ true
    → block_of mine i ≡ block_of (with_body mine other.body) i =
    λ i part at granted.
    subst (λ (c : Source). slice_get c.parts i ≡ Some part → is_granted (own_of u m.shared) (key_in c part) ≡ true → block_of mine i ≡ block_of other i)
    (sym differ.spelled.by) (differ.blocks i part) at granted
    ∙ ap (λ x. block_of x i) (sym is) in
    let stepped = measured_both u m.shared n.shared mine other.body alike.shared
    (samples_alike (is_granted (own_of u m.shared)) mine other.body blocks) in
    let shared_m : (turned m f).shared ≡ shared_step m.shared (measure mine) =
    run_posted m.shared (actions_of m f) ∙ ap (λ ds. shared_run m.shared (posted ds)) due in
    let shared_n : (turned n g).shared ≡ shared_step n.shared (measure other) =
    run_posted n.shared (actions_of n g) ∙ ap (λ ds. shared_run n.shared (posted ds)) due' in
    let went : Alike u (shared_step m.shared (measure mine)) (shared_step n.shared (measure other)) =
    subst (λ x. Alike u (shared_step m.shared (measure mine)) (shared_step n.shared (measure x))) is stepped.0 in
    let seen : part u m.shared (measure mine) ≡ part u n.shared (measure other) = stepped.1 ∙ ap (λ x. part u n.shared (measure x)) is in
    let lines = Related-set_value LineAlike (nat_eq source) (gives_all (fed_line line frame (told_more frame (Some line))))
    (gives_all (fed_line line' another (told_more another (Some line'))))
    (given_alike (fed_line line frame (told_more frame (Some line))) (fed_line line' another (told_more another (Some line')))
    (line_framed line line' config frame another mine other (told_more frame (Some line)) (told_more another (Some line')) there.2
    differ.awaits.between differ.awaits.known differ.spelled differ.spelled_other))
    m.lines n.lines alike.lines in (
      record {
        shared = subst (λ T. Alike u (turned m f).shared T) (sym shared_n) (subst (λ S. Alike u S (shared_step n.shared (measure other))) (sym shared_m) went);
        lines = subst (λ ls. Related LineAlike (turned m f).lines ls) (sym (line_set n source another line' there.1))
            (subst (λ ls. Related LineAlike ls (set_value (nat_eq source) n.lines (gives_all (fed_line line' another (told_more another (Some line'))))))
            (sym (line_set m source frame line differ.awaits.found)) lines);
        fed = alike.fed;
        first = turn_belongs m f alike.first;
        other = turn_belongs n g alike.other;
      },
      ap (λ ds. view u m.shared (posted ds)) due ∙ ap (λ v. v ++ []) seen ∙ sym (ap (λ ds. view u n.shared (posted ds)) due'),
    )

-- ---- all inputs

adds_alike : (x : Given) → adds_at (other_at x) ≡ adds_at (mine_at x)
adds_alike (same f) = refl
adds_alike (frames source config frame another) = refl

one_turn : (u : ℕ) (m n : WorldState) (x : Given) → AlikeStates u m n → RoomFor (mine_at x) m.shared → RoomFor (mine_at x) n.shared → DifferAt u m x
    → Goes u m n (mine_at x) (other_at x)
one_turn u m n (same f) alike room room' differ = both_turn u m n f alike room room'
one_turn u m n (frames source config frame another) alike room room' differ = framed_turn u m n source config frame another alike differ

views_apart : (u : ℕ) (xs : List Given) (m n : WorldState) → AlikeStates u m n → length m.shared.subs + adds_in (map mine_at xs) ≤ 64
    → length n.shared.subs + adds_in (map mine_at xs) ≤ 64 → DifferFrom u m xs
    → view u m.shared (made_from m (map mine_at xs)) ≡ view u n.shared (made_from n (map other_at xs))
views_apart u [] m n alike room room' differ = refl
views_apart u (x ∷ xs) m n alike room room' differ =
    let f = mine_at x in
    let g = other_at x in
    let went = one_turn u m n x alike (room_for f m.shared (adds_in (map mine_at xs)) room) (room_for f n.shared (adds_in (map mine_at xs)) room') differ.0 in
    let grown = length_turn m f in
    let grown' = length_turn n g in
    let adds = adds_alike x in
    view_turn u m f (map mine_at xs)
    ∙ ap₂ (λ v w. v ++ w) went.1
    (views_apart u xs (turned m f) (turned n g) went.0 (omega (arith, grown, room)) (omega (arith, grown', adds, room')) differ.1)
    ∙ sym (view_turn u n g (map other_at xs))

pub ungranted_unseen : (u : ℕ) (inputs others : List InputValue) → adds_in inputs ≤ 64 → SameButUngranted u inputs others → view_of u inputs ≡ view_of u others
ungranted_unseen u inputs others few alike =
    let room : 0 + adds_in (map mine_at alike.given) ≤ 64 = subst (λ is. 0 + adds_in is ≤ 64) (sym alike.mine) (omega (arith, few)) in
    sym (ap (view_of u) alike.mine)
    ∙ views_apart u alike.given opening opening opening_alike room room alike.differ
    ∙ ap (view_of u) alike.other
  where
    opening_alike : AlikeStates u opening opening
    opening_alike = record {
      shared = record { pmus = refl; tick = refl; own = refl; alone = tt; alone' = tt };
      lines = tt;
      fed = refl;
      first = opening_belongs;
      other = opening_belongs;
    }
