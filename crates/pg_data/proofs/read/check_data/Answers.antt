use Rattle.std.proofs.Common.{◌≡◌, ◌-◌, ◌<◌, ◌≤◌, length, take, sym, ap, ◌∙◌, arith}
use Rattle.std.proofs.lemmas.List.{take_all}
use Rattle.pg_wire.specs.Head.{two_at, three_at}
use Rattle.pg_config.specs.Parts.{Source, data_lens}
use Rattle.pg_data.specs.Measurements.{resolution}
use Rattle.pg_data.proofs.Spellings.{read_short, read_fraction, read_ok}
use Rattle.pg_data.proofs.read.check_data.Goals as goal

pub returns-then-numerator-resolution_of : goal.returns-then-numerator-resolution_of
returns-then-numerator-resolution_of c =
    let config = c.args.config.now in
    let frame = c.args.frame.now in
    let source : two_at frame 4 ≡ config.source = omega (arith, c.from_be_bytes.ensures, ap (λ (s : Source). s.source) c.config.view_is) in
    let whole : data_lens (take c.count.result config.parts) ≡ data_lens config.parts =
    ap data_lens (take_all c.count.result config.parts (omega (arith, c.count.ensures.value))) in
    let size : length frame - 16 ≡ data_lens config.parts = c.if-frame-start.false ∙ c.start.ensures ∙ whole in
    let high : resolution config ≤ three_at frame 11 = omega (arith, c.numerator.ensures, c.resolution_of.ensures, c.if-numerator-resolution_of.true) in
    read_fraction config frame c.requires.frame source size high

pub returns : goal.returns
returns c =
    let config = c.args.config.now in
    let frame = c.args.frame.now in
    let source : two_at frame 4 ≡ config.source = omega (arith, c.from_be_bytes.ensures, ap (λ (s : Source). s.source) c.config.view_is) in
    let whole : data_lens (take c.count.result config.parts) ≡ data_lens config.parts =
    ap data_lens (take_all c.count.result config.parts (omega (arith, c.count.ensures.value))) in
    let size : length frame - 16 ≡ data_lens config.parts = c.if-frame-start.false ∙ c.start.ensures ∙ whole in
    let low : three_at frame 11 < resolution config = omega (arith, c.numerator.ensures, c.resolution_of.ensures, c.if-numerator-resolution_of.false) in
    read_ok config frame c.requires.frame source size low

pub returns-then-frame-start : goal.returns-then-frame-start
returns-then-frame-start c = read_short c.args.config.now c.args.frame.now c.requires.frame
    (let source : two_at c.args.frame.now 4 ≡ c.args.config.now.source = omega (arith, c.from_be_bytes.ensures, ap (λ (s : Source). s.source) c.config.view_is) in source)
    (λ e. c.if-frame-start.true (e ∙ sym (c.start.ensures ∙
    ap data_lens (take_all c.count.result c.args.config.now.parts (omega (arith, c.count.ensures.value))))))
