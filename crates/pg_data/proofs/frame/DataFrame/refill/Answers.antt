use Rattle.std.proofs.Common.{◌≡◌, ◌-◌, ◌∙◌, refl, ap, subst, arith, length, take, drop}
use Rattle.std.specs.Result.{IsOk}
use Rattle.std.specs.Arc.{arc_value}
use Rattle.pg_wire.specs.Head.{four_at, body_of}
use Rattle.pg_config.specs.Parts.{Source, IsSource}
use Rattle.pg_data.specs.Alone.{AreAlone}
use Rattle.pg_data.proofs.Spellings.{made_passed, keeps-read}
use Rattle.pg_data.proofs.frame.DataFrame.refill.Goals as goal

pub invariant_of-self : goal.invariant_of-self
invariant_of-self c =
    let frame = c.args.frame.now in
    let config = arc_value c.args.config.now in
    let is_config = c.behind-config.view_is ∙ c.deref-2.ensures in
    let kept : IsSource config = subst IsSource is_config c.behind-config.invariant.0 in
    let soc : c.from_be_bytes-self-inside.result ≡ four_at frame 6 = omega (arith, c.from_be_bytes-self-inside.ensures) in
    let size : length frame - 2 - 14 ≡ length frame - 16 = omega arith in
    let ok : IsOk c.extend_from_slice.result = c.extend_from_slice.ensures.succeeds (omega (arith, c.clear.ensures.len, c.clear.ensures.capacity, c.capacity.ensures, c.if-capacity-body.false)) in
    let items : c.extend_from_slice.new.self.items ≡ take (length frame - 2 - 14) (drop 14 frame) =
    c.extend_from_slice.ensures.items ∙ rw (ok, c.clear.ensures.items) refl in
    let body : c.extend_from_slice.new.self.items ≡ body_of frame = items ∙ ap (λ n. take n (drop 14 frame)) size in
    let alone : AreAlone (arc_value c.in-Ok.shared) c.extend_from_slice.new.self.items c.alone_in-self-inside.result =
    rw (c.in-Ok.ensures, ← c.deref.ensures, items) c.alone_in-self-inside.ensures in (
      keeps-read config frame _ c.requires.frame (λ i. omega (arith, c.type_inv.frame i)) kept
          (made_passed config frame _ c.requires.sound (ap (λ (s : Source). s.source) is_config) soc refl c.numerator-self-inside.ensures c.in-Ok.ensures body),
      alone,
    )
