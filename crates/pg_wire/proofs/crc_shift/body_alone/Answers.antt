use Rattle.std.proofs.Common.{◌≡◌, ◌+◌, ◌-◌, ◌/◌, ◌<◌, ◌++◌, [], length, take, drop, get_or, ap, ◌∙◌, sym, subst, arith, take-add}
use Rattle.pg_wire.specs.Check.{dividend, dividend_from, IsRemainder}
use Rattle.pg_wire.specs.Head.{body_of}
use Rattle.pg_wire.proofs.Slicing.{chunk_at}
use Rattle.pg_wire.proofs.crc_shift.body_alone.Goals as goal

pub returns : goal.returns
returns c =
    let frame = c.args.frame.now in
    let n = length frame in
    let block = take (n - 2 - 14) (drop 14 frame) in
    let count : 0 < n / 14 = omega (arith, c.requires.len) in
    let size : 14 + (n - 2 - 14) ≡ n - 2 = omega (arith, c.requires.len) in
    let rest : n - 2 - 14 ≡ n - 16 = omega arith in
    let head : get_or c.as_chunks.result.0.now 0 [] ≡ take 14 frame =
    ap (λ xs. get_or xs 0 []) c.as_chunks.ensures.front ∙ chunk_at 14 (n / 14) frame 0 count in
    let before : IsRemainder (dividend (take 14 frame)) c.check_head.result =
    subst (λ x. IsRemainder (dividend x) c.check_head.result) head c.check_head.ensures in
    let whole : take 14 frame ++ block ≡ take (n - 2) frame = sym (take-add 14 (n - 2 - 14) frame) ∙ ap (λ k. take k frame) size in
    let past : IsRemainder (dividend (take 14 frame ++ block)) c.from_be_bytes-sent.result =
    subst (λ x. IsRemainder (dividend x) c.from_be_bytes-sent.result) (sym whole) c.is_sent.ensures in
    let body : block ≡ body_of frame = ap (λ k. take k (drop 14 frame)) rest in
    subst (λ x. IsRemainder (dividend_from 0 x) c.alone_between.result) body (c.alone_between.ensures (take 14 frame) before past)
