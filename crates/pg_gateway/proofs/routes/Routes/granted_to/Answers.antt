use Rattle.std.proofs.Common.{◌≡◌, ◌<◌, ◌^◌, rules, get_or, None, All, take, arith, sym, ap, subst, ◌∙◌}
use Rattle.std.specs.Int.{bit_at}
use Rattle.std.specs.Int.Bits.{bit_or}
use Rattle.std.proofs.lemmas.List.{get_or_default, take_all}
use Rattle.pg_gateway.specs.Routes.{AreGrantedAll, masks_taken}
use Rattle.pg_gateway.proofs.MaskLaws.{IsAlone, alone_next, alone_end, common_next, covers_taken, covers_refused, none_more, masks_more, masks_same, taken_if, refused_if}
use Rattle.pg_gateway.proofs.routes.Routes.granted_to.Goals as goal
use Rattle.pg_gateway.proofs.routes.Routes.granted_to.Goals.{then-is_none, else-is_none}

pub loop-block-preserved : goal.loop-block-preserved
loop-block-preserved c =
    let inv = c.loop-block.invariant in
    let masks = c.args.self.now.masks in
    let bs = c.args.blocks.now in
    let k = c.loop-block.block-index in
    let lt = c.loop-block-test.true in
    elim c.if-is_none.branch [
      | then-is_none w ↦
          let none = taken_if (get_or bs k (0, None)).1 c.is_none.result c.is_none.ensures w.if-is_none.true in
          let within = rw (← c.self.view_is) at c.requires.within in
          let read : w.index-mask.result.now ≡ get_or masks (get_or bs k (0, None)).0 0 =
          rw (← c.self.view_is) (w.index-mask.ensures ∙ get_or_default c.self.inside.masks.items (get_or bs k (0, None)).0 w.index-mask.result.now 0 (within k (0, None) lt)) in
          let granted_some = w.granted_some-is ∙ ap (bit_or c.loop-block.granted_some) read in
          record {
            covers = λ j unset. covers_taken masks bs k lt c.loop-block.granted_some inv.covers j (ap (λ m. bit_at m j) (sym granted_some) ∙ unset);
            none = λ j all. ap (λ m. bit_at m j) granted_some ∙ none_more masks bs k lt c.loop-block.granted_some inv.none j all;
            alone = rw (w.granted_some-is, w.granted_all-is, read, masks_more masks bs k lt none) (alone_next c.loop-block.granted_some c.loop-block.granted_all (get_or masks (get_or bs k (0, None)).0 0) (masks_taken masks (take k bs)) (subst (λ n. n < 2 ^ 64) read (search rules)) inv.alone);
            granted_all = rw (w.granted_all-is, read, masks_more masks bs k lt none) (common_next c.loop-block.granted_all (get_or masks (get_or bs k (0, None)).0 0) (masks_taken masks (take k bs)) inv.granted_all);
          }
      | else-is_none w ↦
          let refused = refused_if (get_or bs k (0, None)).1 c.is_none.result c.is_none.ensures w.if-is_none.false in
          record {
            covers = λ j unset. covers_refused masks bs k lt c.loop-block.granted_some refused inv.covers j (ap (λ m. bit_at m j) (sym w.granted_some-is) ∙ unset);
            none = λ j all. ap (λ m. bit_at m j) w.granted_some-is ∙ inv.none j all;
            alone = rw (w.granted_some-is, w.granted_all-is, masks_same masks bs k lt refused) inv.alone;
            granted_all = rw (w.granted_all-is, masks_same masks bs k lt refused) inv.granted_all;
          }
    ]

pub returns-clause-covers : goal.returns-clause-covers
returns-clause-covers c = λ j unset.
    let all : take c.loop-block.block-index c.args.blocks.now ≡ c.args.blocks.now = take_all c.loop-block.block-index c.args.blocks.now (omega (arith, c.loop-block-test.false)) in
    subst (λ l. All (λ b. b.1 ≡ None → bit_at (get_or c.args.self.now.masks b.0 0) j ≡ 0) l) all (c.loop-block.invariant.covers j unset)

pub returns-clause-granted_all : goal.returns-clause-granted_all
returns-clause-granted_all c =
    let all : take c.loop-block.block-index c.args.blocks.now ≡ c.args.blocks.now = take_all c.loop-block.block-index c.args.blocks.now (omega (arith, c.loop-block-test.false)) in
    subst (λ l. AreGrantedAll c.loop-block.granted_all (masks_taken c.args.self.now.masks l)) all c.loop-block.invariant.granted_all

pub returns-clause-alone : goal.returns-clause-alone
returns-clause-alone c =
    let all : take c.loop-block.block-index c.args.blocks.now ≡ c.args.blocks.now = take_all c.loop-block.block-index c.args.blocks.now (omega (arith, c.loop-block-test.false)) in
    alone_end c.loop-block.granted_some c.loop-block.granted_all (masks_taken c.args.self.now.masks c.args.blocks.now)
    (subst (λ l. IsAlone c.loop-block.granted_some c.loop-block.granted_all (masks_taken c.args.self.now.masks l)) all c.loop-block.invariant.alone)
