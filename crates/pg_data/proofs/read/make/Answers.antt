use Rattle.std.proofs.Common.{◌≡◌, ◌-◌, ◌∙◌, refl, sym, ap, subst, arith, length, take, drop, Ok}
use Rattle.std.specs.Result.{IsOk}
use Rattle.std.specs.Arc.{arc_value}
use Rattle.pg_wire.specs.Head.{four_at, body_of}
use Rattle.pg_config.specs.Parts.{Source, IsSource}
use Rattle.pg_data.specs.Reading.{data_of}
use Rattle.pg_data.specs.Alone.{AreAlone}
use Rattle.pg_data.proofs.Spellings.{made_passed, keeps-read, read_from_passed, sized-ok}
use Rattle.pg_data.proofs.read.make.Goals as goal

pub alone_in-alone-requires-clause-body : goal.alone_in-alone-requires-clause-body
alone_in-alone-requires-clause-body c =
    let frame = c.args.frame.now in
    let size : length frame - 2 - 14 ≡ length frame - 16 = omega arith in
    c.as_slice.ensures.value ∙ c.in_ok-body.ensures.items ∙ ap (λ n. take n (drop 14 frame)) size

pub alone_in-alone-requires-clause-len : goal.alone_in-alone-requires-clause-len
alone_in-alone-requires-clause-len c =
    let frame = c.args.frame.now in
    let config = arc_value c.args.config.now in
    let ok : IsOk (data_of config frame) = c.requires.sound in
    let size : length frame - 2 - 14 ≡ length frame - 16 = omega arith in
    let body : c.in_ok-body.body.items ≡ body_of frame = c.in_ok-body.ensures.items ∙ ap (λ n. take n (drop 14 frame)) size in
    rw (c.as_slice.ensures.value, body, c.deref.ensures) (sized-ok config frame c.requires.frame.frame ok)

pub invariant_of-data : goal.invariant_of-data
invariant_of-data c =
    let frame = c.args.frame.now in
    let config = arc_value c.args.config.now in
    let is_config = c.behind-config.view_is ∙ c.deref-2.ensures in
    let kept : IsSource config = subst IsSource is_config c.behind-config.invariant.0 in
    let ok : IsOk (data_of config frame) = c.requires.sound in
    let soc : c.from_be_bytes.result ≡ four_at frame 6 = omega (arith, c.from_be_bytes.ensures) in
    let size : length frame - 2 - 14 ≡ length frame - 16 = omega arith in
    let body : c.in_ok-body.body.items ≡ body_of frame = c.in_ok-body.ensures.items ∙ ap (λ n. take n (drop 14 frame)) size in
    let alone : AreAlone (arc_value c.in_ok-shared.shared) c.in_ok-body.body.items c.alone_in-alone.result =
    rw (c.in_ok-shared.ensures, ← c.deref.ensures, ← c.as_slice.ensures.value) c.alone_in-alone.ensures in (
      keeps-read config frame _ c.requires.frame (λ i. omega (arith, c.type_inv.frame i)) kept
          (made_passed config frame _ ok (ap (λ (s : Source). s.source) is_config) soc refl c.numerator.ensures c.in_ok-shared.ensures body),
      alone,
    )

pub returns : goal.returns
returns c =
    let frame = c.args.frame.now in
    let config = arc_value c.args.config.now in
    let is_config = c.behind-config.view_is ∙ c.deref-2.ensures in
    let ok : IsOk (data_of config frame) = c.requires.sound in
    let soc : c.from_be_bytes.result ≡ four_at frame 6 = omega (arith, c.from_be_bytes.ensures) in
    let size : length frame - 2 - 14 ≡ length frame - 16 = omega arith in
    let body : c.in_ok-body.body.items ≡ body_of frame = c.in_ok-body.ensures.items ∙ ap (λ n. take n (drop 14 frame)) size in
    read_from_passed config frame _
    (made_passed config frame _ ok (ap (λ (s : Source). s.source) is_config) soc refl c.numerator.ensures c.in_ok-shared.ensures body)
    ∙ ap Ok (sym c.in_ok-new.ensures.ok)
