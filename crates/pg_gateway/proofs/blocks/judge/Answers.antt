use Rattle.std.proofs.Common.{◌≡◌, ◌<◌, length, ap, subst, ◌∙◌, arith}
use Rattle.pg_gateway.specs.Placing.{Judges, ArePlaced}
use Rattle.pg_gateway.proofs.Judged.{judged_to, taken_to, judged_step, taken_step, taken_rising}
use Rattle.pg_gateway.proofs.blocks.judge.Goals as goal

pub loop-place-preserved : goal.loop-place-preserved
loop-place-preserved c =
    let inv = c.loop-place.invariant in
    let m = c.args.frame.now in
    let pmus = c.args.registry.now in
    let judges : Judges pmus c.args.last m.config m.soc c.loop-place.place c.judge_block-judged.result =
    subst (λ config. Judges pmus c.args.last config m.soc c.loop-place.place c.judge_block-judged.result) c.source_of-config.ensures
    (subst (λ soc. Judges pmus c.args.last c.source_of-config.result.now soc c.loop-place.place c.judge_block-judged.result) c.soc_of-soc.ensures c.judge_block-judged.ensures) in
    let count = c.count-place-end.ensures.value ∙ ap (λ config. length config.parts) c.source_of-config.ensures in
    let lt : c.loop-place.place < length m.config.parts = omega arith in
    record {
      blocks = rw c.note_judged.ensures.blocks (judged_step pmus c.args.last m c.loop-place.place c.loop-place.blocks.items c.judge_block-judged.result lt judges inv.blocks);
      taken = rw c.note_judged.ensures.taken (taken_step pmus c.args.last m c.loop-place.place c.loop-place.taken.items c.judge_block-judged.result lt judges inv.taken);
      rising = rw c.note_judged.ensures.taken (taken_rising pmus c.args.last m c.loop-place.place c.loop-place.taken.items c.judge_block-judged.result inv.rising);
      few_blocks = omega arith;
      few_taken = omega arith;
      room_blocks = omega arith;
      room_taken = omega arith;
    }

pub returns-clause-blocks : goal.returns-clause-blocks
returns-clause-blocks c =
    let inv = c.loop-place.invariant in
    let count = c.count-place-end.ensures.value ∙ ap (λ config. length config.parts) c.source_of-config.ensures in
    let all : c.loop-place.place ≡ length c.args.frame.now.config.parts = omega arith in
    subst (λ n. ArePlaced c.args.registry.now c.loop-place.blocks.items (judged_to c.args.registry.now c.args.last c.args.frame.now n)) all inv.blocks

pub returns-clause-taken : goal.returns-clause-taken
returns-clause-taken c =
    let inv = c.loop-place.invariant in
    let count = c.count-place-end.ensures.value ∙ ap (λ config. length config.parts) c.source_of-config.ensures in
    let all : c.loop-place.place ≡ length c.args.frame.now.config.parts = omega arith in
    inv.taken ∙ ap (λ n. taken_to c.args.registry.now c.args.last c.args.frame.now n) all
