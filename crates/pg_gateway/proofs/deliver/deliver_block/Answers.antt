use Rattle.std.proofs.Common.{[], ◌∷◌, rules, arith, ◌∙◌, true≢false, w64}
use Rattle.std.specs.Arc.{arc_value}
use Rattle.std.specs.Int.{trailing_zeros}
use Rattle.pg_gateway.specs.Taking.{measured, Awaits, HasNone}
use Rattle.pg_gateway.specs.Routes.{IsPassed, HoldsPart}
use Rattle.indexmap.proofs.CallerLemmas.{index_map_len-with_value_at}
use Rattle.pg_gateway.proofs.RouteLaws.{note_granted, without, bit_within, still_marked, now_cleared, still_unmarked, to_all, walked_turn, walked_end, kept_marks}
use Rattle.pg_gateway.proofs.deliver.deliver_block.Goals as goal

pub index_mut-requires : goal.index_mut-requires
index_mut-requires c =
    let t = note_granted c.granted.left (omega arith) (search rules) in
    let len = c.granted.invariant.len in
    let i = bit_within _ c.args.granted_some (trailing_zeros w64 c.granted.left) c.requires.bits (c.granted.invariant.granted _ t.1) in
    omega (arith, i, len)

pub apply_block-more-requires-clause-holds : goal.apply_block-more-requires-clause-holds
apply_block-more-requires-clause-holds c = c.granted.invariant.holds _ c.index_mut.result.now c.index_mut.ensures.value (note_granted c.granted.left (omega arith) (search rules)).1

pub apply_block-more-requires-clause-awaits : goal.apply_block-more-requires-clause-awaits
apply_block-more-requires-clause-awaits c =
    let t = note_granted c.granted.left (omega arith) (search rules) in
    c.granted.invariant.awaits _ c.index_mut.result.now c.index_mut.ensures.value t.1

pub granted-smaller-then-more_kept-more : goal.granted-smaller-then-more_kept-more
granted-smaller-then-more_kept-more c = (note_granted c.granted.left (omega arith) (search rules)).3

pub granted-smaller : goal.granted-smaller
granted-smaller c = (note_granted c.granted.left (omega arith) (search rules)).3

pub granted-preserved-then-more_kept-more : goal.granted-preserved-then-more_kept-more
granted-preserved-then-more_kept-more c =
    let inv = c.granted.invariant in
    let o = measured (arc_value c.args.frame.now) (c.args.place ∷ []) in
    let left = c.granted.left in
    let i = trailing_zeros w64 left in
    let xs = c.granted.subs.entries in
    let new = c.apply_block-more.new.self in
    let t = note_granted left (omega arith) (search rules) in
    let granted = inv.granted i t.1 in
    let lt = bit_within _ c.args.granted_some i c.requires.bits granted in
    let takes = c.apply_block-more.ensures.takes in
    record {
      len = index_map_len-with_value_at c.granted.subs i new ∙ inv.len;
      kept = omega (arith, takes.kept, inv.kept);
      all = λ calm. absurd (true≢false calm);
      granted = kept_marks left c.args.granted_some i t.4 t.5 inv.granted;
      awaits = still_marked (Awaits o) xs i new left (without left i) t.4 t.5 inv.awaits;
      passed = still_unmarked (IsPassed o) xs i new c.args.granted_some granted inv.passed;
      none = now_cleared HasNone xs i new left (without left i) t.5 (takes.none, c.apply_block-more.ensures.spared) inv.none;
      holds = still_marked (HoldsPart (arc_value c.args.frame.now).config c.args.place) xs i new left (without left i) t.4 t.5 inv.holds;
      walked = walked_turn o c.args.granted_some left c.granted.made c.granted.kept c.args.subs.now.entries xs inv.len inv.kept inv.passed inv.walked
          i c.apply_block-more.result.0 c.apply_block-more.result.1 c.granted.lost c.index_mut.result.now new
          (omega (arith, lt, inv.len)) t.1 t.2 t.4 t.5 inv.all c.index_mut.ensures.value takes.shares takes.few takes.kept;
    }

pub granted-preserved : goal.granted-preserved
granted-preserved c =
    let inv = c.granted.invariant in
    let o = measured (arc_value c.args.frame.now) (c.args.place ∷ []) in
    let left = c.granted.left in
    let i = trailing_zeros w64 left in
    let xs = c.granted.subs.entries in
    let new = c.apply_block-more.new.self in
    let t = note_granted left (omega arith) (search rules) in
    let granted = inv.granted i t.1 in
    let lt = bit_within _ c.args.granted_some i c.requires.bits granted in
    let takes = c.apply_block-more.ensures.takes in
    record {
      len = index_map_len-with_value_at c.granted.subs i new ∙ inv.len;
      kept = omega (arith, takes.kept, inv.kept);
      all = λ calm. let same = inv.all calm in omega (arith, same, c.if-more_kept-more.false, takes.kept);
      granted = kept_marks left c.args.granted_some i t.4 t.5 inv.granted;
      awaits = still_marked (Awaits o) xs i new left (without left i) t.4 t.5 inv.awaits;
      passed = still_unmarked (IsPassed o) xs i new c.args.granted_some granted inv.passed;
      none = now_cleared HasNone xs i new left (without left i) t.5 (takes.none, c.apply_block-more.ensures.spared) inv.none;
      holds = still_marked (HoldsPart (arc_value c.args.frame.now).config c.args.place) xs i new left (without left i) t.4 t.5 inv.holds;
      walked = walked_turn o c.args.granted_some left c.granted.made c.granted.kept c.args.subs.now.entries xs inv.len inv.kept inv.passed inv.walked
          i c.apply_block-more.result.0 c.apply_block-more.result.1 c.granted.lost c.index_mut.result.now new
          (omega (arith, lt, inv.len)) t.1 t.2 t.4 t.5 inv.all c.index_mut.ensures.value takes.shares takes.few takes.kept;
    }

pub returns-clause-broadcast : goal.returns-clause-broadcast
returns-clause-broadcast c = λ ps h.
    let inv = c.granted.invariant in
    walked_end (measured (arc_value c.args.frame.now) (c.args.place ∷ [])) c.args.granted_some c.granted.left c.granted.made c.granted.kept c.args.subs.now.entries c.granted.subs.entries inv.len inv.kept inv.passed inv.walked (omega arith) ps h

pub returns-clause-none : goal.returns-clause-none
returns-clause-none c = to_all HasNone c.granted.left c.granted.subs.entries (omega arith) c.granted.invariant.none
