use Rattle.std.proofs.Common.{◌≡◌, replicate, ◌++◌, ◌∷◌, [], ◌+◌, length, get_or, None, take, refl, arith, sym, ap, subst, ◌∙◌}
use Rattle.std.proofs.lemmas.List.{get_or_default}
use Rattle.pg_gateway.specs.Routes.{AreGranted, masks_taken}
use Rattle.pg_gateway.proofs.MaskLaws.{turned_block, turned_none, zeros_at, more_masks, masks_more, masks_same, taken_if, refused_if}
use Rattle.pg_gateway.proofs.routes.Routes.note_granted.Goals as goal
use Rattle.pg_gateway.proofs.routes.Routes.note_granted.Goals.{then-is_none, else-is_none}

pub loop-block-init : goal.loop-block-init
loop-block-init c = record {
  taken = refl;
  few = omega arith;
  granted_blocks = turned_none c.args.some (replicate 64 0) (λ j. zeros_at 64 j);
}

pub loop-block-preserved : goal.loop-block-preserved
loop-block-preserved c =
    let inv = c.loop-block.invariant in
    let masks = c.args.self.now.masks in
    let bs = c.args.blocks.now in
    let k = c.loop-block.block-index in
    let ns = masks_taken masks (take k bs) in
    let lt = c.loop-block-test.true in
    elim c.if-is_none.branch [
      | then-is_none w ↦
          let none = taken_if (get_or bs k (0, None)).1 c.is_none.result c.is_none.ensures w.if-is_none.true in
          let within = rw (← c.self.view_is) at c.requires.within in
          let read : w.index.result.now ≡ get_or masks (get_or bs k (0, None)).0 0 =
          rw (← c.self.view_is) (w.index.ensures ∙ get_or_default c.self.inside.masks.items (get_or bs k (0, None)).0 w.index.result.now 0 (within k (0, None) lt)) in
          let next : ns ++ w.index.result.now ∷ [] ≡ masks_taken masks (take (k + 1) bs) = ap (λ m. ns ++ m ∷ []) read ∙ sym (masks_more masks bs k lt none) in
          let granted_blocks = turned_block c.args.some w.index.result.now c.loop-block.taken ns c.loop-block.granted_blocks w.note_holders.new.granted_blocks inv.taken inv.granted_blocks
          w.note_holders.ensures.set w.note_holders.ensures.unset w.note_holders.ensures.others in
          record {
            taken = w.taken-is ∙ ap (λ t. t + 1) inv.taken ∙ sym (more_masks ns w.index.result.now) ∙ ap length next;
            few = omega (arith, inv.few, w.taken-is);
            granted_blocks = subst (λ t. AreGranted c.args.some (masks_taken masks (take (k + 1) bs)) t) (sym w.granted_blocks-is) (subst (λ l. AreGranted c.args.some l w.note_holders.new.granted_blocks) next granted_blocks);
          }
      | else-is_none w ↦
          let refused = refused_if (get_or bs k (0, None)).1 c.is_none.result c.is_none.ensures w.if-is_none.false in
          record {
            taken = w.taken-is ∙ inv.taken ∙ ap length (sym (masks_same masks bs k lt refused));
            few = omega (arith, inv.few, w.taken-is);
            granted_blocks = subst (λ t. AreGranted c.args.some (masks_taken masks (take (k + 1) bs)) t) (sym w.granted_blocks-is) (subst (λ l. AreGranted c.args.some l c.loop-block.granted_blocks) (sym (masks_same masks bs k lt refused)) inv.granted_blocks);
          }
    ]
