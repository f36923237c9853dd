use Rattle.std.proofs.Common.{[], ◌∷◌, rules, arith, refl, sym, ◌∙◌, true≢false, w64}
use Rattle.std.specs.Arc.{arc_value}
use Rattle.std.specs.Int.{trailing_zeros}
use Rattle.pg_gateway.specs.Shown.{SlotShows}
use Rattle.pg_gateway.specs.Taking.{measured, Awaits, HasNone, Fits}
use Rattle.pg_gateway.specs.Frugal.{Spares}
use Rattle.pg_gateway.specs.Routes.{IsPassed, HoldsPart}
use Rattle.indexmap.proofs.CallerLemmas.{index_map_len-with_value_at}
use Rattle.pg_gateway.proofs.BroadcastLaws.{Related-kept}
use Rattle.pg_gateway.proofs.Taking.{awaits_prepared, shows_kept}
use Rattle.pg_gateway.proofs.RouteLaws.{note_granted, without, bit_within, still_marked, now_cleared, still_unmarked, kept_marks, from_all, to_all, awaits_passed}
use Rattle.pg_gateway.proofs.OnlyLaws.{holds_own, kept_marked}
use Rattle.pg_gateway.proofs.deliver.prepare_block.Goals as goal

pub granted-init : goal.granted-init
granted-init c =
    let o = measured (arc_value c.args.frame.now) (c.args.place ∷ []) in
    let xs = c.args.subs.now.entries in
    let none = from_all HasNone 0 c.args.granted_some xs c.requires.none in
    record {
      len = refl;
      granted = λ j set. set;
      fits = from_all (Fits o) 1 c.args.granted_some xs c.requires.fits;
      none = from_all HasNone 1 c.args.granted_some xs c.requires.none;
      spares = λ spares. from_all (Spares o) 1 c.args.granted_some xs spares;
      prepared = λ j v at unset. awaits_passed o v (none j v at unset) (c.requires.passed j v at unset);
      passed = c.requires.passed;
      passed_none = none;
      holds = c.requires.holds;
      shows = λ slots h. h;
    }

pub index_mut-requires : goal.index_mut-requires
index_mut-requires c =
    let t = note_granted c.granted.left (omega arith) (search rules) in
    let len = c.granted.invariant.len in
    let i = bit_within _ c.args.granted_some (trailing_zeros w64 c.granted.left) c.requires.bits (c.granted.invariant.granted _ t.1) in
    omega (arith, i, len)

pub prepare_block-requires-clause-none : goal.prepare_block-requires-clause-none
prepare_block-requires-clause-none c = c.granted.invariant.none _ c.index_mut.result.now c.index_mut.ensures.value (note_granted c.granted.left (omega arith) (search rules)).1

pub prepare_block-requires-clause-holds : goal.prepare_block-requires-clause-holds
prepare_block-requires-clause-holds c = c.granted.invariant.holds _ c.index_mut.result.now c.index_mut.ensures.value (c.granted.invariant.granted _ (note_granted c.granted.left (omega arith) (search rules)).1)

pub prepare_block-requires-clause-fit : goal.prepare_block-requires-clause-fit
prepare_block-requires-clause-fit c = c.granted.invariant.fits _ c.index_mut.result.now c.index_mut.ensures.value (note_granted c.granted.left (omega arith) (search rules)).1

pub granted-smaller : goal.granted-smaller
granted-smaller c = (note_granted c.granted.left (omega arith) (search rules)).3

pub returns-in_err-prepare_block-clause-needless : goal.returns-in_err-prepare_block-clause-needless
returns-in_err-prepare_block-clause-needless c = λ spares.
    absurd (true≢false (sym (c.in_err-prepare_block.ensures.prepares.needless (c.granted.invariant.spares spares _ c.index_mut.result.now c.index_mut.ensures.value (note_granted c.granted.left (omega arith) (search rules)).1))))

pub returns-in_err-prepare_block-clause-shows : goal.returns-in_err-prepare_block-clause-shows
returns-in_err-prepare_block-clause-shows c = λ ps h.
    Related-kept SlotShows c.granted.subs.entries ps (trailing_zeros w64 c.granted.left) c.index_mut.result.now c.prepare_block.new.self (c.granted.invariant.shows ps h) c.index_mut.ensures.value
    (λ s shown. shows_kept c.index_mut.result.now c.prepare_block.new.self s c.prepare_block.ensures.prepares.own c.prepare_block.ensures.prepares.audit shown)

pub returns-in_err-prepare_block-clause-len : goal.returns-in_err-prepare_block-clause-len
returns-in_err-prepare_block-clause-len c = index_map_len-with_value_at c.granted.subs (trailing_zeros w64 c.granted.left) c.prepare_block.new.self ∙ c.granted.invariant.len

pub granted-preserved : goal.granted-preserved
granted-preserved c =
    let inv = c.granted.invariant in
    let o = measured (arc_value c.args.frame.now) (c.args.place ∷ []) in
    let left = c.granted.left in
    let i = trailing_zeros w64 left in
    let xs = c.granted.subs.entries in
    let old = c.index_mut.result.now in
    let new = c.prepare_block.new.self in
    let t = note_granted left (omega arith) (search rules) in
    let granted = inv.granted i t.1 in
    let fit = inv.fits i old c.index_mut.ensures.value t.1 in
    record {
      len = index_map_len-with_value_at c.granted.subs i new ∙ inv.len;
      granted = kept_marks left c.args.granted_some i t.4 t.5 inv.granted;
      fits = still_marked (Fits o) xs i new left (without left i) t.4 t.5 inv.fits;
      none = still_marked HasNone xs i new left (without left i) t.4 t.5 inv.none;
      spares = λ spares. still_marked (Spares o) xs i new left (without left i) t.4 t.5 (inv.spares spares);
      prepared = now_cleared (Awaits o) xs i new left (without left i) t.5 (awaits_prepared o old new c.prepare_block.ensures.prepares.own fit c.in_ok-prepare_block.ensures.prepares.prepared c.in_ok-prepare_block.ensures.prepares.spared) inv.prepared;
      passed = still_unmarked (IsPassed o) xs i new c.args.granted_some granted inv.passed;
      passed_none = still_unmarked HasNone xs i new c.args.granted_some granted inv.passed_none;
      holds = kept_marked (HoldsPart (arc_value c.args.frame.now).config c.args.place) xs i new c.args.granted_some (holds_own (arc_value c.args.frame.now).config c.args.place old new c.prepare_block.ensures.prepares.own (inv.holds i old c.index_mut.ensures.value granted)) inv.holds;
      shows = λ ps h. Related-kept SlotShows xs ps i old new (inv.shows ps h) c.index_mut.ensures.value
          (λ s shown. shows_kept old new s c.prepare_block.ensures.prepares.own c.prepare_block.ensures.prepares.audit shown);
    }

pub returns-clause-prepared : goal.returns-clause-prepared
returns-clause-prepared c =
    let o = measured (arc_value c.args.frame.now) (c.args.place ∷ []) in
    let xs = c.granted.subs.entries in
    from_all (Awaits o) 1 c.args.granted_some xs (to_all (Awaits o) c.granted.left xs (omega arith) c.granted.invariant.prepared)
