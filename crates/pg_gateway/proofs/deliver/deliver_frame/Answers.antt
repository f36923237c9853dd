use Rattle.std.proofs.Common.{get_or, subst, rules, arith, ◌∙◌, true≢false, w64}
use Rattle.std.specs.Arc.{arc_value}
use Rattle.std.specs.Int.{trailing_zeros}
use Rattle.pg_gateway.specs.Taking.{measured, Awaits, HasNone}
use Rattle.pg_gateway.specs.Routes.{WhereBit, IsPassed}
use Rattle.indexmap.proofs.CallerLemmas.{index_map_len-with_value_at}
use Rattle.pg_gateway.proofs.RouteLaws.{note_granted, without, bit_within, still_marked, now_cleared, still_unmarked, to_all, walked_turn, walked_end, kept_marks}
use Rattle.pg_gateway.proofs.MaskLaws.{told_left}
use Rattle.pg_gateway.proofs.OnlyLaws.{one_place, told_holds}
use Rattle.pg_gateway.proofs.deliver.deliver_frame.Goals as goal

pub index_mut-requires : goal.index_mut-requires
index_mut-requires c =
    let t = note_granted c.granted.left (omega arith) (search rules) in
    let len = c.granted.invariant.len in
    let i = bit_within _ c.args.granted_some (trailing_zeros w64 c.granted.left) c.requires.bits (c.granted.invariant.granted _ t.1) in
    omega (arith, i, len)

pub apply_measured-more-requires-clause-tell : goal.apply_measured-more-requires-clause-tell
apply_measured-more-requires-clause-tell c =
    rw (c.has_bit-whole.ensures, c.from-number.ensures) (c.granted.invariant.tell _ c.index_mut.result.now c.index_mut.ensures.value (note_granted c.granted.left (omega arith) (search rules)).1)

pub apply_measured-more-requires-clause-awaits : goal.apply_measured-more-requires-clause-awaits
apply_measured-more-requires-clause-awaits c =
    let t = note_granted c.granted.left (omega arith) (search rules) in
    c.granted.invariant.awaits _ c.index_mut.result.now c.index_mut.ensures.value t.1

pub granted-smaller-then-more_kept-more : goal.granted-smaller-then-more_kept-more
granted-smaller-then-more_kept-more c = (note_granted c.granted.left (omega arith) (search rules)).3

pub granted-smaller : goal.granted-smaller
granted-smaller c = (note_granted c.granted.left (omega arith) (search rules)).3

pub granted-preserved-then-more_kept-more : goal.granted-preserved-then-more_kept-more
granted-preserved-then-more_kept-more c =
    let inv = c.granted.invariant in
    let o = measured (arc_value c.args.frame.now) c.args.places.now in
    let left = c.granted.left in
    let i = trailing_zeros w64 left in
    let xs = c.granted.subs.entries in
    let new = c.apply_measured-more.new.self in
    let t = note_granted left (omega arith) (search rules) in
    let granted = inv.granted i t.1 in
    let lt = bit_within _ c.args.granted_some i c.requires.bits granted in
    let takes = c.apply_measured-more.ensures.takes in
    record {
      len = index_map_len-with_value_at c.granted.subs i new ∙ inv.len;
      kept = omega (arith, takes.kept, inv.kept);
      all = λ calm. absurd (true≢false calm);
      room = c.apply_measured-more.ensures.room;
      granted = kept_marks left c.args.granted_some i t.4 t.5 inv.granted;
      awaits = still_marked (Awaits o) xs i new left (without left i) t.4 t.5 inv.awaits;
      passed = still_unmarked (IsPassed o) xs i new c.args.granted_some granted inv.passed;
      none = now_cleared HasNone xs i new left (without left i) t.5 (takes.none, c.apply_measured-more.ensures.spared) inv.none;
      tell = told_left c.args.granted_all c.args.granted_blocks.now (arc_value c.args.frame.now).config c.args.places.now xs i new left (without left i) t.4 t.5 inv.tell;
      walked = walked_turn o c.args.granted_some left c.granted.made c.granted.kept c.args.subs.now.entries xs inv.len inv.kept inv.passed inv.walked
          i c.apply_measured-more.result.0 c.apply_measured-more.result.1 c.granted.lost c.index_mut.result.now new
          (omega (arith, lt, inv.len)) t.1 t.2 t.4 t.5 inv.all c.index_mut.ensures.value takes.shares takes.few takes.kept;
    }

pub granted-preserved : goal.granted-preserved
granted-preserved c =
    let inv = c.granted.invariant in
    let o = measured (arc_value c.args.frame.now) c.args.places.now in
    let left = c.granted.left in
    let i = trailing_zeros w64 left in
    let xs = c.granted.subs.entries in
    let new = c.apply_measured-more.new.self in
    let t = note_granted left (omega arith) (search rules) in
    let granted = inv.granted i t.1 in
    let lt = bit_within _ c.args.granted_some i c.requires.bits granted in
    let takes = c.apply_measured-more.ensures.takes in
    record {
      len = index_map_len-with_value_at c.granted.subs i new ∙ inv.len;
      kept = omega (arith, takes.kept, inv.kept);
      all = λ calm. let same = inv.all calm in omega (arith, same, c.if-more_kept-more.false, takes.kept);
      room = c.apply_measured-more.ensures.room;
      granted = kept_marks left c.args.granted_some i t.4 t.5 inv.granted;
      awaits = still_marked (Awaits o) xs i new left (without left i) t.4 t.5 inv.awaits;
      passed = still_unmarked (IsPassed o) xs i new c.args.granted_some granted inv.passed;
      none = now_cleared HasNone xs i new left (without left i) t.5 (takes.none, c.apply_measured-more.ensures.spared) inv.none;
      tell = told_left c.args.granted_all c.args.granted_blocks.now (arc_value c.args.frame.now).config c.args.places.now xs i new left (without left i) t.4 t.5 inv.tell;
      walked = walked_turn o c.args.granted_some left c.granted.made c.granted.kept c.args.subs.now.entries xs inv.len inv.kept inv.passed inv.walked
          i c.apply_measured-more.result.0 c.apply_measured-more.result.1 c.granted.lost c.index_mut.result.now new
          (omega (arith, lt, inv.len)) t.1 t.2 t.4 t.5 inv.all c.index_mut.ensures.value takes.shares takes.few takes.kept;
    }

pub returns-clause-broadcast : goal.returns-clause-broadcast
returns-clause-broadcast c = λ ps h.
    let inv = c.granted.invariant in
    walked_end (measured (arc_value c.args.frame.now) c.args.places.now) c.args.granted_some c.granted.left c.granted.made c.granted.kept c.args.subs.now.entries c.granted.subs.entries inv.len inv.kept inv.passed inv.walked (omega arith) ps h

pub returns-clause-none : goal.returns-clause-none
returns-clause-none c = to_all HasNone c.granted.left c.granted.subs.entries (omega arith) c.granted.invariant.none

pub deliver_block-requires-clause-holds : goal.deliver_block-requires-clause-holds
deliver_block-requires-clause-holds c =
    told_holds c.args.granted_all c.args.granted_some c.args.granted_blocks.now (arc_value c.args.frame.now).config c.args.places.now (get_or c.args.places.now 0 0) c.args.subs.now.entries
    (one_place c.args.places.now (omega (arith, c.if-places-eq1.true))) (c.requires.alone c.if-places-eq1.true) c.requires.tell

pub deliver_block-requires-clause-awaits : goal.deliver_block-requires-clause-awaits
deliver_block-requires-clause-awaits c =
    subst (λ ps. WhereBit 1 c.args.granted_some (Awaits (measured (arc_value c.args.frame.now) ps)) c.args.subs.now.entries)
    (one_place c.args.places.now (omega (arith, c.if-places-eq1.true))) c.requires.awaits

pub deliver_block-requires-clause-passed : goal.deliver_block-requires-clause-passed
deliver_block-requires-clause-passed c =
    subst (λ ps. WhereBit 0 c.args.granted_some (IsPassed (measured (arc_value c.args.frame.now) ps)) c.args.subs.now.entries)
    (one_place c.args.places.now (omega (arith, c.if-places-eq1.true))) c.requires.passed
