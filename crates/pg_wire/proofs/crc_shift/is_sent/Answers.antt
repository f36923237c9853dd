use Rattle.std.proofs.Common.{◌≡◌, ◌-◌, length, take, sym, subst, arith, ◌∙◌}
use Rattle.pg_wire.specs.Check.{dividend, chk, IsRemainder}
use Rattle.pg_wire.proofs.Remainders.{chk-is}
use Rattle.pg_wire.proofs.Spelled.{frame-check, take-bytes}
use Rattle.pg_wire.proofs.crc_shift.is_sent.Goals as goal

pub returns : goal.returns
returns c =
    let frame = c.args.frame.now in
    let front = take (length frame - 2) frame in
    let same : chk front ≡ c.args.sent = sym (c.requires.sent ∙ frame-check frame c.requires.frame) in
    subst (IsRemainder (dividend front)) same (chk-is front (take-bytes (length frame - 2) frame (λ i. omega (arith, c.type_inv.frame i))))
