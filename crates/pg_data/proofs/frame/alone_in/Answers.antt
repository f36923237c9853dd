use Rattle.std.proofs.Common.{◌≡◌, ◌+◌, length, ◌∙◌, sym, ap, subst, arith}
use Rattle.pg_wire.specs.Check.{dividend_from, IsRemainder}
use Rattle.pg_config.specs.Parts.{data_lens}
use Rattle.pg_data.specs.Measurements.{block_in}
use Rattle.pg_data.proofs.Spellings.{one_len, one_block, frame-length}
use Rattle.pg_data.proofs.Setting.{first_alone}
use Rattle.pg_data.proofs.frame.alone_in.Goals as goal

pub body_alone-requires-clause-len : goal.body_alone-requires-clause-len
body_alone-requires-clause-len c =
    let parts = c.args.config.now.parts in
    let one : length parts ≡ 1 = omega (arith, c.count.ensures.value) in
    let whole : data_lens parts ≡ c.shift.result.now = one_len parts c.shift.result.now one c.shift.ensures in
    frame-length c.args.frame.now c.args.body.now c.requires.frame c.requires.body ∙ ap (λ n. 16 + n) (c.requires.len ∙ whole)

pub returns-then-count-eq1 : goal.returns-then-count-eq1
returns-then-count-eq1 c =
    let parts = c.args.config.now.parts in
    let body = c.args.body.now in
    let one : length parts ≡ 1 = omega (arith, c.count.ensures.value) in
    let block : IsRemainder (dividend_from 0 (block_in parts body 0)) c.body_alone.result =
    subst (λ bytes. IsRemainder (dividend_from 0 bytes) c.body_alone.result) (sym (one_block parts body one c.requires.len ∙ c.requires.body)) c.body_alone.ensures in
    first_alone parts body c.body_alone.result one block
