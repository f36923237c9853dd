use Rattle.std.proofs.Common.{◌≡◌, ◌+◌, ◌*◌, ◌/◌, ◌<◌, [], ◌∷◌, ◌++◌, get_or, ap, ◌∙◌, sym, subst, take, drop, length, arith, append_assoc, append-nil, mul_comm}
use Rattle.std.proofs.lemmas.List.{take_more, take_all, take-append-drop}
use Rattle.pg_wire.specs.Check.{dividend_from, IsRemainder}
use Rattle.pg_wire.proofs.Slicing.{take_chunk}
use Rattle.pg_wire.proofs.checksum.check_more.Goals as goal

pub loop-chunk-init : goal.loop-chunk-init
loop-chunk-init c = λ start before old. subst (λ bs. IsRemainder (dividend_from start bs) c.args.crc) (sym (append-nil before)) old

pub loop-chunk-preserved : goal.loop-chunk-preserved
loop-chunk-preserved c = λ start before old.
    let count = length c.args.bytes.now / 8 in
    let bytes = c.args.bytes.now in
    let at = c.loop-chunk.chunk-index in
    let within : at < count = omega (arith, c.as_chunks.ensures.front_len) in
    rw (take_chunk 8 count bytes at within, ← append_assoc)
    (rw c.as_chunks.ensures.front at c.with_chunk-crc.ensures start (before ++ take (8 * at) bytes) (c.loop-chunk.invariant start before old))

pub loop-byte-init : goal.loop-byte-init
loop-byte-init c = λ start before old.
    let bytes = c.args.bytes.now in
    let all : c.loop-chunk.chunk-index ≡ length bytes / 8 = omega (arith, c.as_chunks.ensures.front_len) in
    rw append-nil (subst (λ n. IsRemainder (dividend_from start (before ++ take (8 * n) bytes)) c.loop-chunk.crc) all (c.loop-chunk.invariant start before old))

pub loop-byte-preserved : goal.loop-byte-preserved
loop-byte-preserved c = λ start before old.
    let rest = c.as_chunks.result.1.now in
    let at = c.loop-byte.byte-index in
    let front = take (8 * (length c.args.bytes.now / 8)) c.args.bytes.now in
    let one = get_or rest at 0 ∷ [] in
    let within : at < length rest = omega arith in
    let same : (before ++ (front ++ take at rest)) ++ one ≡ before ++ (front ++ take (at + 1) rest) =
    append_assoc before (front ++ take at rest) one
    ∙ ap (λ x. before ++ x) (append_assoc front (take at rest) one ∙ ap (λ x. front ++ x) (sym (take_more rest at 0 within))) in
    subst (λ x. IsRemainder (dividend_from start x) c.with_byte-crc.result) same
    (c.with_byte-crc.ensures start (before ++ (front ++ take at rest)) (c.loop-byte.invariant start before old))

pub returns : goal.returns
returns c = λ start before old.
    let bytes = c.args.bytes.now in
    let rest = c.as_chunks.result.1.now in
    let front = take (8 * (length bytes / 8)) bytes in
    let all : front ++ take c.loop-byte.byte-index rest ≡ bytes =
    ap (λ x. front ++ x) (take_all c.loop-byte.byte-index rest (omega arith) ∙ c.as_chunks.ensures.back)
    ∙ ap (λ n. front ++ drop n bytes) (mul_comm (length bytes / 8) 8) ∙ take-append-drop (8 * (length bytes / 8)) bytes in
    subst (λ x. IsRemainder (dividend_from start (before ++ x)) c.loop-byte.crc) all (c.loop-byte.invariant start before old)
