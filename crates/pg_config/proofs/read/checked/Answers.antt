use Rattle.std.proofs.Common.{◌≡◌, ◌||◌, sym, ◌∙◌, arith, ap, ap₂, map, take, true, false}
use Rattle.std.specs.List.{list_any}
use Rattle.pg_wire.specs.Head.{two_at}
use Rattle.pg_config.specs.Parts.{block_id, is_reserved, repeats}
use Rattle.pg_config.specs.Reading.{blocks_at}
use Rattle.pg_config.proofs.Tail.{frame_blocks_are, tail_short, tail_twice, tail_reserved, tail_there, named_id, reserved_id}
use Rattle.pg_config.proofs.read.checked.Goals as goal

pub returns-then-rest-ne4-clause-exact : goal.returns-then-rest-ne4-clause-exact
returns-then-rest-ne4-clause-exact c =
    let skimmed = c.in_ok-ids.ensures.exact in
    frame_blocks_are c.args.frame.now c.split_at.result.1.now c.in_ok-count.count skimmed.0 c.in_ok-ids.rest.now (sym c.in_ok-count.ensures.exact) c.split_at.ensures.back skimmed.1 ∙ tail_short (two_at c.args.frame.now 4) skimmed.0 c.in_ok-ids.rest.now c.if-rest-ne4.true

pub returns-then-has_twice-clause-exact : goal.returns-then-has_twice-clause-exact
returns-then-has_twice-clause-exact c =
    let skimmed = c.in_ok-ids.ensures.exact in
    let ids : c.split_at-2.result.0.now ≡ map block_id skimmed.0 = c.split_at-2.ensures.front ∙ ap (λ n. take n c.in_ok-ids.ids) c.from.ensures ∙ sym skimmed.2 in
    frame_blocks_are c.args.frame.now c.split_at.result.1.now c.in_ok-count.count skimmed.0 c.in_ok-ids.rest.now (sym c.in_ok-count.ensures.exact) c.split_at.ensures.back skimmed.1 ∙ tail_twice (two_at c.args.frame.now 4) skimmed.0 c.in_ok-ids.rest.now c.if-rest-ne4.false (ap repeats (sym ids) ∙ sym c.has_twice.ensures ∙ c.if-has_twice.true)

pub returns-in_default-clause-exact : goal.returns-in_default-clause-exact
returns-in_default-clause-exact c =
    let skimmed = c.in_ok-ids.ensures.exact in
    let ids : c.split_at-2.result.0.now ≡ map block_id skimmed.0 = c.split_at-2.ensures.front ∙ ap (λ n. take n c.in_ok-ids.ids) c.from.ensures ∙ sym skimmed.2 in
    let once : repeats (map block_id skimmed.0) ≡ false = ap repeats (sym ids) ∙ sym c.has_twice.ensures ∙ c.if-has_twice.false in
    let source : is_reserved (two_at c.args.frame.now 4) ≡ true = ap is_reserved (sym c.number_at.ensures) ∙ reserved_id c.number_at.result (omega arith) c.in_default.ensures in
    frame_blocks_are c.args.frame.now c.split_at.result.1.now c.in_ok-count.count skimmed.0 c.in_ok-ids.rest.now (sym c.in_ok-count.ensures.exact) c.split_at.ensures.back skimmed.1 ∙ tail_reserved (two_at c.args.frame.now 4) skimmed.0 c.in_ok-ids.rest.now c.if-rest-ne4.false once (ap (λ b. b || list_any is_reserved (map block_id skimmed.0)) source)

pub returns-then-has_reserved-clause-exact : goal.returns-then-has_reserved-clause-exact
returns-then-has_reserved-clause-exact c =
    let skimmed = c.in_ok-ids.ensures.exact in
    let ids : c.split_at-2.result.0.now ≡ map block_id skimmed.0 = c.split_at-2.ensures.front ∙ ap (λ n. take n c.in_ok-ids.ids) c.from.ensures ∙ sym skimmed.2 in
    let once : repeats (map block_id skimmed.0) ≡ false = ap repeats (sym ids) ∙ sym c.has_twice.ensures ∙ c.if-has_twice.false in
    let source : is_reserved (two_at c.args.frame.now 4) ≡ false = ap is_reserved (sym c.number_at.ensures) ∙ (named_id c.number_at.result c.in-Some.source c.in-Some.ensures).1 in
    let one : list_any is_reserved (map block_id skimmed.0) ≡ true = ap (list_any is_reserved) (sym ids) ∙ sym c.has_reserved.ensures ∙ c.if-has_reserved.true in
    frame_blocks_are c.args.frame.now c.split_at.result.1.now c.in_ok-count.count skimmed.0 c.in_ok-ids.rest.now (sym c.in_ok-count.ensures.exact) c.split_at.ensures.back skimmed.1 ∙ tail_reserved (two_at c.args.frame.now 4) skimmed.0 c.in_ok-ids.rest.now c.if-rest-ne4.false once (ap₂ (λ a b. a || b) source one)

pub returns-clause-exact : goal.returns-clause-exact
returns-clause-exact c =
    let skimmed = c.in_ok-ids.ensures.exact in
    let ids : c.split_at-2.result.0.now ≡ map block_id skimmed.0 = c.split_at-2.ensures.front ∙ ap (λ n. take n c.in_ok-ids.ids) c.from.ensures ∙ sym skimmed.2 in
    let once : repeats (map block_id skimmed.0) ≡ false = ap repeats (sym ids) ∙ sym c.has_twice.ensures ∙ c.if-has_twice.false in
    let named = named_id c.number_at.result c.in-Some.source c.in-Some.ensures in
    let source : is_reserved (two_at c.args.frame.now 4) ≡ false = ap is_reserved (sym c.number_at.ensures) ∙ named.1 in
    let none : list_any is_reserved (map block_id skimmed.0) ≡ false = ap (list_any is_reserved) (sym ids) ∙ sym c.has_reserved.ensures ∙ c.if-has_reserved.false in
    record {
      list = skimmed.0;
      rest = c.in_ok-ids.rest.now;
      source_is = named.0 ∙ c.number_at.ensures;
      there = ap (blocks_at c.in_ok-count.count) (sym c.split_at.ensures.back) ∙ skimmed.1;
      once = once;
      named = ap₂ (λ a b. a || b) source none;
      is = frame_blocks_are c.args.frame.now c.split_at.result.1.now c.in_ok-count.count skimmed.0 c.in_ok-ids.rest.now (sym c.in_ok-count.ensures.exact) c.split_at.ensures.back skimmed.1
          ∙ tail_there (two_at c.args.frame.now 4) skimmed.0 c.in_ok-ids.rest.now c.if-rest-ne4.false once (ap₂ (λ a b. a || b) source none);
    }
