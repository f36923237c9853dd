use Rattle.std.proofs.Common.{◌<◌, ◌≡◌, ◌∙◌, Some, refl, ap, length, true, false, arith, vec_len, vec_capacity}
use Rattle.pg_outcfg.proofs.Blocks.{next-block, next-absent, counted, added}
use Rattle.pg_outcfg.proofs.data.add_blocks.Goals as goal
use Rattle.pg_outcfg.proofs.data.add_blocks.Goals.{in-Some+in_ok-crc, in_default}

pub loop-i-preserved : goal.loop-i-preserved
loop-i-preserved c =
    let within : c.loop-i.i < length c.args.parts.now = omega (arith, c.requires.parts, c.loop-i-test.true) in
    elim c.match-get_next.branch [
      | in-Some+in_ok-crc w ↦
          let left = next-block c.args.listed.now c.args.members.now c.args.parts.now c.loop-i.i c.index-members-i.result w.index-parts-i.result w.deref.result.now
          c.loop-i-test.true c.index-members-i.is within w.index-parts-i.is (ap Some w.deref.ensures ∙ w.in-Some.ensures.value) in
          let first = counted _ _ _ left in
          let fitted = w.in_ok-crc.ensures in
          record {
            bytes = rw (w.frame-is, fitted.bytes refl) (added _ _ _ c.loop-i.frame.items _ left c.loop-i.invariant.bytes);
            len = omega (arith, ap vec_len w.frame-is, first, fitted.len refl, c.loop-i.invariant.len);
            check = rw (w.frame-is, w.crc-is) fitted.check;
            room = omega (arith, ap vec_capacity w.frame-is, w.add_part.ensures.room, c.loop-i.invariant.room);
          }
      | in_default w ↦
          let left = next-absent c.args.listed.now c.args.members.now c.args.parts.now c.loop-i.i c.index-members-i.result
          c.loop-i-test.true c.index-members-i.is within w.in_default.ensures.value in
          record {
            bytes = rw (w.frame-is, ← left) c.loop-i.invariant.bytes;
            len = rw (w.frame-is, ← left) c.loop-i.invariant.len;
            check = rw (w.frame-is, w.crc-is) c.loop-i.invariant.check;
            room = omega (arith, ap vec_capacity w.frame-is, c.loop-i.invariant.room);
          }
    ]

pub returns-in_err-crc-clause-fits : goal.returns-in_err-crc-clause-fits
returns-in_err-crc-clause-fits c room =
    let within : c.loop-i.i < length c.args.parts.now = omega (arith, c.requires.parts, c.loop-i-test.true) in
    let left = next-block c.args.listed.now c.args.members.now c.args.parts.now c.loop-i.i c.index-members-i.result c.index-parts-i.result c.deref.result.now
    c.loop-i-test.true c.index-members-i.is within c.index-parts-i.is (ap Some c.deref.ensures ∙ c.in-Some.ensures.value) in
    let first = counted _ _ _ left in
    absurd (let no : false ≡ true = c.in_err-crc.ensures.fits (omega (arith, first, c.loop-i.invariant.len, c.loop-i.invariant.room, room)) in cc)
