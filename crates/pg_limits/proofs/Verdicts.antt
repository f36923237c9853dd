-- What verdicts say of the window, and where it is one layout.
use Rattle.std.proofs.Common.{ℕ, ◌≤◌, ◌≡◌, ◌≢◌, ◌⊎◌, ◌∙◌, sym, ap, refl, inl, inr, max, Bool, true, false, ◌&&◌, ◌||◌, not, eqb, leb, cond, List, [], ◌∷◌, Option, Some, None, arith}
use Rattle.std.specs.List.{All}
use Rattle.std.specs.Option.{option_map_or}
use Rattle.std.proofs.lemmas.Bool.{and_from, and_parts, cond_both, eqb-true, false≢true, le-leb, leb-true, or_parts}
use Rattle.std.proofs.lemmas.List.Elements.{All-replicate}
use Rattle.pg_limits.specs.Windows.{drained, is_at, is_configured, is_keep, is_safe, is_unlike, judged, judged_noted, judged_off, judged_read, noted, reads_anew, resumed, resuming, settled, unknown, was_idle}
use Rattle.pg_limits.specs.Connections.{Known, none, place_for, place_of}
use Rattle.pg_limits.specs.Misreading.{Act, AreNotSafe, EndsAt, HasBegun, IsNotSafe, IsOne, WindowAfter, after, after_one, drain, give_up, go_on, judge, judge_all, note, pay, resume, settle}
use Rattle.pg_limits.specs.declared.layouts.OnChange.{OnChange}
use Rattle.pg_limits.specs.declared.layouts.OnChange.TheVariants.{Safe, HangUp, Keep}
use Rattle.pg_limits.specs.declared.known_layout.FoundStream.{FoundStream}
use Rattle.pg_limits.specs.declared.known_layout.KnownLayout.{KnownLayout}
use Rattle.pg_limits.specs.declared.known_layout.ServedOnce.{ServedOnce}
use Rattle.pg_limits.specs.declared.known_layout.Verdict.{Verdict}
use Rattle.pg_limits.specs.declared.known_layout.Verdict.TheVariants.{AskAgain, Disconnect}
use Rattle.pg_limits.proofs.Windowing.{AllRight, Kept, all_keeps, changed_keeps, commanded, judged_at_keeps, map_keeps, noted_any}

safe_is : (rule : OnChange) → is_safe rule ≡ true → rule ≡ Safe
safe_is Safe e = refl
safe_is HangUp e = absurd (false≢true e)
safe_is Keep e = absurd (false≢true e)

not_keep : (rule : OnChange) → is_keep rule ≡ false → rule ≢ Keep
not_keep rule e same = false≢true (sym e ∙ ap is_keep same)

pub at_parts : (f : FoundStream) (k : KnownLayout) → is_at f k ≡ true → EndsAt f k
at_parts f k e =
    let parts = and_parts (eqb k.definition f.definition) (eqb k.newest f.layout) e in
    record { definition = eqb-true _ _ parts.0; newest = eqb-true _ _ parts.1 }

could_not : (rule : OnChange) (unlike : Bool) → (is_safe rule && unlike) ≡ false → rule ≡ Safe → unlike ≡ true → ⊥
could_not rule unlike e safe is = false≢true (sym e ∙ and_from (is_safe rule) unlike (ap is_safe safe) is)

read_tells : (f : FoundStream) (rule : OnChange) (k : KnownLayout) (r t i u w : Bool) → rule ≢ Keep → is_at f k ≡ false
    → WindowAfter f rule k (judged_read f rule (commanded r t i u w k)).1 (judged_read f rule (commanded r t i u w k)).0
read_tells f rule k r t i u w other changed =
    cond_both (is_safe rule && is_unlike f k) _ _ (λ (v : KnownLayout × Verdict). WindowAfter f rule k v.1 v.0)
    (λ e. let parts = and_parts (is_safe rule) (is_unlike f k) e in
    let same = and_parts (eqb k.definition f.definition) _ parts.1 in
    (record { at = record { definition = eqb-true _ _ same.0; newest = refl }; same = refl; floor = refl; config = refl; unlike = parts.1 }, safe_is rule parts.0, changed))
    (λ e. (record { definition = refl; floor = refl; newest = refl }, changed, (could_not rule (is_unlike f k) e, other)))

off_tells : (f : FoundStream) (s : ServedOnce) (rule : OnChange) (idle : Bool) (k : KnownLayout) (r t i u w : Bool) → rule ≢ Keep → is_at f k ≡ false → f.is_on ≡ false
    → WindowAfter f rule k (judged_off f s idle (commanded r t i u w k)).1 (judged_off f s idle (commanded r t i u w k)).0
off_tells f s rule idle k r t i u w other changed off =
    cond_both (eqb k.definition f.definition) _ _ (λ (v : KnownLayout × Verdict). WindowAfter f rule k v.1 v.0)
    (λ e. cond_both (idle || is_unlike f k) AskAgain Disconnect (λ v. WindowAfter f rule k v (commanded r t i u w k))
    (λ e. (record { definition = refl; floor = refl; newest = refl }, off))
    (λ e. (
      record { definition = refl; floor = refl; newest = refl },
      changed,
      ((λ safe is. false≢true (sym (or_parts idle (is_unlike f k) e).1 ∙ is)), other),
    )))
    (λ e. (record { definition = refl; floor = refl; newest = refl }, off))

noted_tells : (f : FoundStream) (s : ServedOnce) (rule : OnChange) (begins idle : Bool) (k : KnownLayout) → (begins ≡ false → rule ≢ Keep)
    → (r t i u w : Bool) → WindowAfter f rule k (judged_noted f s rule begins idle (commanded r t i u w k)).1 (judged_noted f s rule begins idle (commanded r t i u w k)).0
noted_tells f s rule begins idle k other r t i u w =
    let P : KnownLayout × Verdict → Type 0 = λ v. WindowAfter f rule k v.1 v.0 in
    cond_both (begins || not r) _ _ P
    (λ e. inl (record { at = record { definition = refl; newest = refl }; floor = refl; config = refl }))
    (λ goes_on. cond_both (is_at f k) _ _ P
    (λ e. inr (record { definition = refl; floor = refl; newest = refl }, record { definition = (at_parts f k e).definition; newest = (at_parts f k e).newest }))
    (λ changed. cond_both (f.is_on || is_configured s (commanded r t i u w k)) _ _ P
    (λ e. read_tells f rule k r t i u w (other (or_parts begins (not r) goes_on).0) changed)
    (λ e. off_tells f s rule idle k r t i u w (other (or_parts begins (not r) goes_on).0) changed (or_parts f.is_on _ e).0)))

pub verdicts_keep_the_window : (f : FoundStream) (s : ServedOnce) (rule : OnChange) (k : KnownLayout) → WindowAfter f rule k (judged f s rule k).1 (judged f s rule k).0
verdicts_keep_the_window f s rule k =
    let begins = is_keep rule || reads_anew f s rule k in
    noted_any (λ n. WindowAfter f rule k (judged_noted f s rule begins (was_idle s k) n).1 (judged_noted f s rule begins (was_idle s k) n).0) s k
    (noted_tells f s rule begins (was_idle s k) k (λ e. not_keep rule (or_parts (is_keep rule) (reads_anew f s rule k) e).0))

-- ---- windows of one layout

one_commanded : (k : KnownLayout) → IsOne k → (r t i u w : Bool) → IsOne (commanded r t i u w k)
one_commanded k h r t i u w = record { window = h.window; next = h.next }

one_unknown : (stream : ℕ) → IsOne (unknown stream)
one_unknown stream = record { window = refl; next = refl }

one_judged : (f : FoundStream) (s : ServedOnce) (rule : OnChange) (begins idle : Bool) (k : KnownLayout) → rule ≢ Safe → IsOne k → IsOne (judged_noted f s rule begins idle k).0
one_judged f s rule begins idle k other h =
    let P : KnownLayout × Verdict → Type 0 = λ v. IsOne v.0 in
    cond_both (begins || not k.is_read) _ _ P (λ e. record { window = refl; next = refl })
    (λ e. cond_both (is_at f k) _ _ P (λ e. h)
    (λ e. cond_both (f.is_on || is_configured s k) _ _ P
    (λ e. cond_both (is_safe rule && is_unlike f k) _ _ P
    (λ e. absurd (other (safe_is rule (and_parts (is_safe rule) (is_unlike f k) e).0))) (λ e. h))
    (λ e. cond_both (eqb k.definition f.definition) _ _ P (λ e. h) (λ e. record { window = h.window; next = h.next }))))

one_kept : (s : ServedOnce) (rule : OnChange) → rule ≢ Safe → Kept IsOne (λ f. Unit {0}) s rule
one_kept s rule other = record {
  new = one_unknown;
  noted = λ k h. noted_any IsOne s k (one_commanded k h);
  judged = λ f k here right h.
      noted_any (λ n. IsOne (judged_noted f s rule (is_keep rule || reads_anew f s rule k) (was_idle s k) n).0) s k
      (λ r t i u w. one_judged f s rule (is_keep rule || reads_anew f s rule k) (was_idle s k) (commanded r t i u w k) other (one_commanded k h r t i u w));
}

any_right : (found : List (Option FoundStream)) → AllRight (λ f. Unit {0}) found
any_right [] = tt
any_right (None ∷ found) = any_right found
any_right (Some f ∷ found) = (tt, any_right found)

raised : (floor newest : ℕ) (next : Option ℕ) → floor ≡ newest → option_map_or (λ n. leb n newest) next true ≡ true → option_map_or (max floor) next floor ≡ newest
raised floor newest None one h = one
raised floor newest (Some next) one h = let low : next ≤ newest = leb-true _ _ h in omega (arith, low, one)

one_settled : (k : KnownLayout) → IsOne k → IsOne (settled k)
one_settled k h = record { window = raised k.floor k.newest k.next_floor h.window h.next; next = refl }

one_drained : (is_emptied : Bool) (k : KnownLayout) → IsOne k → IsOne (drained is_emptied k)
one_drained is_emptied k h = record {
  window = h.window;
  next = cond_both (is_emptied && not k.owes_config) (Some k.newest) None (λ o. option_map_or (λ n. leb n k.newest) o true ≡ true)
      (λ e. le-leb k.newest k.newest (omega arith)) (λ e. refl);
}

one_after : (act : Act) (ks : Known) → IsNotSafe act → All IsOne ks → All IsOne (after_one act ks)
one_after (judge f s rule) ks other h = judged_at_keeps IsOne (λ f. Unit {0}) s rule (one_kept s rule other) f tt ks (place_for f.stream ks) h
one_after (judge_all found s rule) ks other h = all_keeps IsOne (λ f. Unit {0}) s rule (one_kept s rule other) found (any_right found) ks h
one_after (note s) ks other h = map_keeps IsOne (noted s) (λ k p. noted_any IsOne s k (one_commanded k p)) ks h
one_after (drain is_emptied) ks other h = map_keeps IsOne (drained is_emptied) (one_drained is_emptied) ks h
one_after settle ks other h = map_keeps IsOne settled one_settled ks h
one_after (pay stream) ks other h =
    changed_keeps IsOne stream (one_unknown stream) (λ k. record k { owes_config = false }) (λ k here p. record { window = p.window; next = p.next }) (place_of stream ks) ks h
one_after (resume stream) ks other h =
    changed_keeps IsOne stream (one_unknown stream) resuming (λ k here p. record { window = p.window; next = p.next }) (place_of stream ks) ks h
one_after (give_up stream) ks other h =
    changed_keeps IsOne stream (one_unknown stream) (λ k. record k { resumes = false }) (λ k here p. record { window = p.window; next = p.next }) (place_of stream ks) ks h
one_after (go_on f) ks other h =
    changed_keeps IsOne f.stream (one_unknown f.stream) (resumed f) (λ k here p. record { window = refl; next = refl }) (place_of f.stream ks) ks h

one_run : (acts : List Act) (ks : Known) → AreNotSafe acts → All IsOne ks → All IsOne (after acts ks)
one_run [] ks other h = h
one_run (act ∷ acts) ks other h = one_run acts (after_one act ks) other.1 (one_after act ks other.0 h)

pub one_layout : (acts : List Act) → AreNotSafe acts → All IsOne (after acts none)
one_layout acts other = one_run acts none other (All-replicate IsOne 8 (unknown 0) (one_unknown 0))

-- ---- the floor

abbrev Rises : FoundStream → Bool → KnownLayout → KnownLayout → Type 0
Rises f is_emptied k n =
    HasBegun f (settled n) ⊎ ((settled n).floor ≡ cond (is_emptied && not k.owes_config) (max k.floor k.newest) k.floor)

pub rises_to : (b : Bool) (floor newest : ℕ) → option_map_or (max floor) (cond b (Some newest) None) floor ≡ cond b (max floor newest) floor
rises_to true floor newest = refl
rises_to false floor newest = refl

rises_noted : (f : FoundStream) (s : ServedOnce) (rule : OnChange) (begins idle is_emptied : Bool) (k : KnownLayout) (r t i u w : Bool)
    → Rises f is_emptied k (judged_noted f s rule begins idle (commanded r t i u w (drained is_emptied k))).0
rises_noted f s rule begins idle is_emptied k r t i u w =
    let P : KnownLayout × Verdict → Type 0 = λ v. Rises f is_emptied k v.0 in
    let rises = rises_to (is_emptied && not k.owes_config) k.floor k.newest in
    cond_both (begins || not r) _ _ P
    (λ e. inl (record { at = record { definition = refl; newest = refl }; floor = refl; config = refl }))
    (λ e. cond_both (is_at f k) _ _ P (λ e. inr rises)
    (λ e. cond_both (f.is_on || is_configured s (commanded r t i u w k)) _ _ P
    (λ e. cond_both (is_safe rule && is_unlike f k) _ _ P (λ e. inr rises) (λ e. inr rises))
    (λ e. cond_both (eqb k.definition f.definition) _ _ P (λ e. inr rises) (λ e. inr rises))))

pub floor_rises : (f : FoundStream) (s : ServedOnce) (rule : OnChange) (k : KnownLayout) (is_emptied : Bool)
    → Rises f is_emptied k (judged f s rule (drained is_emptied k)).0
floor_rises f s rule k is_emptied =
    let begins = is_keep rule || reads_anew f s rule (drained is_emptied k) in
    noted_any (λ n. Rises f is_emptied k (judged_noted f s rule begins (was_idle s (drained is_emptied k)) n).0) s (drained is_emptied k) (rises_noted f s rule begins (was_idle s (drained is_emptied k)) is_emptied k)
