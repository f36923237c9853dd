use Rattle.std.proofs.Common.{◌≡◌, ◌+◌, ◌*◌, ◌/◌, ◌%◌, ◌^◌, [], sym, subst, arith, mul-one}
use Rattle.std.proofs.lemmas.Nat.{div-add-mod'}
use Rattle.pg_wire.specs.Check.{IsRemainder}
use Rattle.pg_wire.proofs.Remainders.{IsRemainder-start, IsRemainder-short}
use Rattle.pg_wire.proofs.Carrying.{from_zeros, IsRemainder-up}
use Rattle.pg_wire.proofs.crc_shift.carried.Goals as goal

pub loop-chunk-init : goal.loop-chunk-init
loop-chunk-init c = subst (λ x. IsRemainder x c.args.number) (sym (mul-one c.args.number)) (IsRemainder-short c.args.number c.ranges.number.fits)

pub loop-chunk-preserved : goal.loop-chunk-preserved
loop-chunk-preserved c =
    let crc = c.loop-chunk.crc in
    let more : IsRemainder (crc * 2 ^ 64) c.check_more-crc.result =
    from_zeros crc 64 _ (c.check_more-crc.ensures crc [] (IsRemainder-start crc c.loop-chunk.invariant.below)) in
    let places : 64 * c.loop-chunk._chunk + 64 ≡ 64 * (c.loop-chunk._chunk + 1) = omega arith in
    subst (λ k. IsRemainder (c.args.number * 2 ^ k) c.check_more-crc.result) places
    (IsRemainder-up c.args.number (64 * c.loop-chunk._chunk) 64 crc _ c.loop-chunk.invariant more)

pub loop-byte-init : goal.loop-byte-init
loop-byte-init c =
    let places : 64 * c.loop-chunk._chunk ≡ 64 * (c.args.bytes / 8) + 8 * 0 = omega arith in
    subst (λ k. IsRemainder (c.args.number * 2 ^ k) c.loop-chunk.crc) places c.loop-chunk.invariant

pub loop-byte-preserved : goal.loop-byte-preserved
loop-byte-preserved c =
    let crc = c.loop-byte.crc in
    let front = 64 * (c.args.bytes / 8) in
    let more : IsRemainder (crc * 2 ^ 8) c.check_more-crc-in-loop-byte.result =
    from_zeros crc 8 _ (c.check_more-crc-in-loop-byte.ensures crc [] (IsRemainder-start crc c.loop-byte.invariant.below)) in
    let places : front + 8 * c.loop-byte._byte + 8 ≡ front + 8 * (c.loop-byte._byte + 1) = omega arith in
    subst (λ k. IsRemainder (c.args.number * 2 ^ k) c.check_more-crc-in-loop-byte.result) places
    (IsRemainder-up c.args.number (front + 8 * c.loop-byte._byte) 8 crc _ c.loop-byte.invariant more)

pub returns : goal.returns
returns c =
    let whole : c.args.bytes / 8 * 8 + c.args.bytes % 8 ≡ c.args.bytes = div-add-mod' c.args.bytes 8 in
    let places : 64 * (c.args.bytes / 8) + 8 * c.loop-byte._byte ≡ 8 * c.args.bytes = omega arith in
    subst (λ k. IsRemainder (c.args.number * 2 ^ k) c.loop-byte.crc) places c.loop-byte.invariant
