use Rattle.std.proofs.Common.{rules, arith, ◌<◌, ◌∙◌, length, w64}
use Rattle.std.specs.Int.{trailing_zeros}
use Rattle.std.proofs.lemmas.List.{length-set}
use Rattle.pg_gateway.proofs.RouteLaws.{note_granted, kept_marks}
use Rattle.pg_gateway.proofs.MaskLaws.{number_set, number_unset, number_others}
use Rattle.pg_gateway.proofs.routes.note_holders.Goals as goal

pub holders-smaller : goal.holders-smaller
holders-smaller c = (note_granted c.holders.left (omega arith) (search rules)).3

pub holders-preserved : goal.holders-preserved
holders-preserved c =
    let inv = c.holders.invariant in
    let left = c.holders.left in
    let i = trailing_zeros w64 left in
    let t = note_granted left (omega arith) (search rules) in
    let lt : i < length c.holders.granted_blocks = omega (arith, t.0, inv.len) in
    let granted = inv.within i t.1 in
    record {
      len = length-set c.holders.granted_blocks i _ ∙ inv.len;
      within = kept_marks left c.args.holders i t.4 t.5 inv.within;
      set = number_set c.args.holders left c.args.block i c.args.granted_blocks.now c.holders.granted_blocks lt c.requires.block granted t.5 inv.set;
      unset = number_unset c.args.holders left c.args.block i c.args.granted_blocks.now c.holders.granted_blocks lt c.requires.block granted t.5 inv.unset;
      others = number_others c.args.holders left c.args.block i c.args.granted_blocks.now c.holders.granted_blocks lt c.requires.block granted t.5 inv.others;
    }
