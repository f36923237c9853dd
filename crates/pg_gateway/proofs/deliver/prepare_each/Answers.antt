use Rattle.std.proofs.Common.{get_or, rules, arith, refl, sym, ◌∙◌, true≢false, w64}
use Rattle.std.specs.Arc.{arc_value}
use Rattle.std.specs.Int.{trailing_zeros}
use Rattle.pg_gateway.specs.Shown.{SlotShows}
use Rattle.pg_gateway.specs.Taking.{measured, Awaits, HasNone, Fits}
use Rattle.pg_gateway.specs.Frugal.{Spares}
use Rattle.pg_gateway.specs.Routes.{WhereBit, HoldsPart, IsPassed, SharesTold}
use Rattle.indexmap.proofs.CallerLemmas.{index_map_len-with_value_at}
use Rattle.pg_gateway.proofs.BroadcastLaws.{Related-kept}
use Rattle.pg_gateway.proofs.Taking.{awaits_prepared, shows_kept}
use Rattle.pg_gateway.proofs.RouteLaws.{note_granted, without, bit_within, still_marked, now_cleared, still_unmarked, kept_marks, from_all, to_all, awaits_passed}
use Rattle.pg_gateway.proofs.MaskLaws.{told_kept}
use Rattle.pg_gateway.proofs.OnlyLaws.{one_place, told_holds, holds_told, ok_then}
use Rattle.pg_gateway.proofs.deliver.prepare_each.Goals as goal

pub granted-init : goal.granted-init
granted-init c =
    let o = measured (arc_value c.args.frame.now) c.args.places.now in
    let xs = c.args.subs.now.entries in
    let none = from_all HasNone 0 c.args.granted_some xs c.requires.none in
    record {
      len = refl;
      room = c.requires.room;
      granted = λ j set. set;
      fits = from_all (Fits o) 1 c.args.granted_some xs c.requires.fits;
      none = from_all HasNone 1 c.args.granted_some xs c.requires.none;
      spares = λ spares. from_all (Spares o) 1 c.args.granted_some xs spares;
      prepared = λ j v at unset. awaits_passed o v (none j v at unset) (c.requires.passed j v at unset);
      passed = c.requires.passed;
      passed_none = none;
      tell = c.requires.tell;
      shows = λ slots h. h;
    }

pub index_mut-requires : goal.index_mut-requires
index_mut-requires c =
    let t = note_granted c.granted.left (omega arith) (search rules) in
    let len = c.granted.invariant.len in
    let i = bit_within _ c.args.granted_some (trailing_zeros w64 c.granted.left) c.requires.bits (c.granted.invariant.granted _ t.1) in
    omega (arith, i, len)

pub prepare_measured-requires-clause-none : goal.prepare_measured-requires-clause-none
prepare_measured-requires-clause-none c = c.granted.invariant.none _ c.index_mut.result.now c.index_mut.ensures.value (note_granted c.granted.left (omega arith) (search rules)).1

pub prepare_measured-requires-clause-tell : goal.prepare_measured-requires-clause-tell
prepare_measured-requires-clause-tell c =
    rw (c.has_bit-whole.ensures, c.from-number.ensures) (c.granted.invariant.tell _ c.index_mut.result.now c.index_mut.ensures.value (c.granted.invariant.granted _ (note_granted c.granted.left (omega arith) (search rules)).1))

pub prepare_measured-requires-clause-fit : goal.prepare_measured-requires-clause-fit
prepare_measured-requires-clause-fit c = c.granted.invariant.fits _ c.index_mut.result.now c.index_mut.ensures.value (note_granted c.granted.left (omega arith) (search rules)).1

pub granted-smaller : goal.granted-smaller
granted-smaller c = (note_granted c.granted.left (omega arith) (search rules)).3

pub returns-in_err-prepare_measured-clause-needless : goal.returns-in_err-prepare_measured-clause-needless
returns-in_err-prepare_measured-clause-needless c = λ spares.
    absurd (true≢false (sym (c.in_err-prepare_measured.ensures.prepares.needless (c.granted.invariant.spares spares _ c.index_mut.result.now c.index_mut.ensures.value (note_granted c.granted.left (omega arith) (search rules)).1))))

pub returns-in_err-prepare_measured-clause-shows : goal.returns-in_err-prepare_measured-clause-shows
returns-in_err-prepare_measured-clause-shows c = λ ps h.
    Related-kept SlotShows c.granted.subs.entries ps (trailing_zeros w64 c.granted.left) c.index_mut.result.now c.prepare_measured.new.self (c.granted.invariant.shows ps h) c.index_mut.ensures.value
    (λ s shown. shows_kept c.index_mut.result.now c.prepare_measured.new.self s c.prepare_measured.ensures.prepares.own c.prepare_measured.ensures.prepares.audit shown)

pub returns-in_err-prepare_measured-clause-len : goal.returns-in_err-prepare_measured-clause-len
returns-in_err-prepare_measured-clause-len c = index_map_len-with_value_at c.granted.subs (trailing_zeros w64 c.granted.left) c.prepare_measured.new.self ∙ c.granted.invariant.len

pub granted-preserved : goal.granted-preserved
granted-preserved c =
    let inv = c.granted.invariant in
    let o = measured (arc_value c.args.frame.now) c.args.places.now in
    let left = c.granted.left in
    let i = trailing_zeros w64 left in
    let xs = c.granted.subs.entries in
    let old = c.index_mut.result.now in
    let new = c.prepare_measured.new.self in
    let t = note_granted left (omega arith) (search rules) in
    let granted = inv.granted i t.1 in
    let fit = inv.fits i old c.index_mut.ensures.value t.1 in
    record {
      len = index_map_len-with_value_at c.granted.subs i new ∙ inv.len;
      room = c.prepare_measured.ensures.room;
      granted = kept_marks left c.args.granted_some i t.4 t.5 inv.granted;
      fits = still_marked (Fits o) xs i new left (without left i) t.4 t.5 inv.fits;
      none = still_marked HasNone xs i new left (without left i) t.4 t.5 inv.none;
      spares = λ spares. still_marked (Spares o) xs i new left (without left i) t.4 t.5 (inv.spares spares);
      prepared = now_cleared (Awaits o) xs i new left (without left i) t.5 (awaits_prepared o old new c.prepare_measured.ensures.prepares.own fit c.in_ok-prepare_measured.ensures.prepares.prepared c.in_ok-prepare_measured.ensures.prepares.spared) inv.prepared;
      passed = still_unmarked (IsPassed o) xs i new c.args.granted_some granted inv.passed;
      passed_none = still_unmarked HasNone xs i new c.args.granted_some granted inv.passed_none;
      tell = told_kept c.args.granted_all c.args.granted_blocks.now (arc_value c.args.frame.now).config c.args.places.now c.args.granted_some xs i old new c.index_mut.ensures.value c.prepare_measured.ensures.prepares.own inv.tell;
      shows = λ ps h. Related-kept SlotShows xs ps i old new (inv.shows ps h) c.index_mut.ensures.value
          (λ s shown. shows_kept old new s c.prepare_measured.ensures.prepares.own c.prepare_measured.ensures.prepares.audit shown);
    }

pub returns-clause-prepared : goal.returns-clause-prepared
returns-clause-prepared c =
    let o = measured (arc_value c.args.frame.now) c.args.places.now in
    let xs = c.granted.subs.entries in
    from_all (Awaits o) 1 c.args.granted_some xs (to_all (Awaits o) c.granted.left xs (omega arith) c.granted.invariant.prepared)

pub prepare_block-requires-clause-holds : goal.prepare_block-requires-clause-holds
prepare_block-requires-clause-holds c =
    told_holds c.args.granted_all c.args.granted_some c.args.granted_blocks.now (arc_value c.args.frame.now).config c.args.places.now (get_or c.args.places.now 0 0) c.args.subs.now.entries
    (one_place c.args.places.now (omega (arith, c.if-places-eq1.true))) (c.requires.alone c.if-places-eq1.true) c.requires.tell

pub returns-then-places-eq1-clause-tell : goal.returns-then-places-eq1-clause-tell
returns-then-places-eq1-clause-tell c =
    let config = (arc_value c.args.frame.now).config in
    let xs = c.prepare_block.new.subs.entries in
    ok_then c.prepare_block.result (WhereBit 1 c.args.granted_some (HoldsPart config (get_or c.args.places.now 0 0)) xs)
    (SharesTold c.args.granted_all c.args.granted_blocks.now config c.args.places.now c.args.granted_some xs)
    (holds_told c.args.granted_all c.args.granted_some c.args.granted_blocks.now (arc_value c.args.frame.now).config c.args.places.now (get_or c.args.places.now 0 0) xs
    (one_place c.args.places.now (omega (arith, c.if-places-eq1.true))) (c.requires.alone c.if-places-eq1.true)) c.prepare_block.ensures.holds
