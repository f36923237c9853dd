use Rattle.std.proofs.Common.{◌≡◌, ◌∙◌, ◌∷◌, ◌++◌, [], take, max, ap, ap₂, sym, arith}
use Rattle.std.proofs.lemmas.List.{append-nil}
use Rattle.std.specs.Int.Bits.{bit_or}
use Rattle.pg_outcfg.specs.Quality.{leap_flags, quality_code, joined_flags, greatest_code}
use Rattle.pg_outcfg.specs.Frames.{qualities_of}
use Rattle.pg_outcfg.proofs.Joining.{qualities-more, flags-more, flags-again, code-more, greater}
use Rattle.pg_outcfg.proofs.data.join_qualities.Goals as goal
use Rattle.pg_outcfg.proofs.data.join_qualities.Goals.{in-Some+then-quality-last, in-Some+else-quality-last, in_default}

pub loop-part-preserved : goal.loop-part-preserved
loop-part-preserved c =
    let more = qualities-more c.args.parts.now c.loop-part.part-index c.part-item.result c.loop-part-test.true c.part-item.is in
    let before = qualities_of (take c.loop-part.part-index c.args.parts.now) in
    elim c.match-part.branch [
      | in-Some+then-quality-last w ↦
          let one = more ∙ ap (λ p. before ++ qualities_of (p ∷ [])) w.in-Some.is in
          let joins = w.code-is ∙ w.max-code.ensures ∙ greater _ _ in
          record {
            flags = w.flags-is ∙ ap₂ (λ f q. bit_or f (leap_flags q)) c.loop-part.invariant.flags w.quality-quality.ensures.value ∙ sym (ap joined_flags one ∙ flags-more before w.in-Some.block.quality);
            code = joins ∙ ap₂ (λ f q. max f (quality_code q)) c.loop-part.invariant.code w.quality-quality.ensures.value ∙ sym (ap greatest_code one ∙ code-more before w.in-Some.block.quality);
            has_flags = rw (w.flags-is, w.last-is) (flags-again c.loop-part.flags (leap_flags w.quality-quality.result));
            has_code = omega (arith, joins, ap quality_code w.last-is);
          }
      | in-Some+else-quality-last w ↦
          let one = more ∙ ap (λ p. before ++ qualities_of (p ∷ [])) w.in-Some.is in
          let same : c.loop-part.last ≡ w.quality-quality.result = omega (arith, w.if-quality-last.false) in
          let stays : c.loop-part.code ≡ max c.loop-part.code (quality_code c.loop-part.last) = omega (arith, c.loop-part.invariant.has_code) in
          record {
            flags = w.flags-is ∙ sym c.loop-part.invariant.has_flags
                ∙ ap₂ (λ f q. bit_or f (leap_flags q)) c.loop-part.invariant.flags (same ∙ w.quality-quality.ensures.value) ∙ sym (ap joined_flags one ∙ flags-more before w.in-Some.block.quality);
            code = w.code-is ∙ stays
                ∙ ap₂ (λ f q. max f (quality_code q)) c.loop-part.invariant.code (same ∙ w.quality-quality.ensures.value) ∙ sym (ap greatest_code one ∙ code-more before w.in-Some.block.quality);
            has_flags = rw (w.flags-is, w.last-is) c.loop-part.invariant.has_flags;
            has_code = omega (arith, w.code-is, ap quality_code w.last-is, c.loop-part.invariant.has_code);
          }
      | in_default w ↦
          let one = more ∙ ap (λ p. before ++ qualities_of (p ∷ [])) w.in_default.is ∙ append-nil before in
          record {
            flags = w.flags-is ∙ c.loop-part.invariant.flags ∙ sym (ap joined_flags one);
            code = w.code-is ∙ c.loop-part.invariant.code ∙ sym (ap greatest_code one);
            has_flags = rw (w.flags-is, w.last-is) c.loop-part.invariant.has_flags;
            has_code = omega (arith, w.code-is, ap quality_code w.last-is, c.loop-part.invariant.has_code);
          }
    ]
