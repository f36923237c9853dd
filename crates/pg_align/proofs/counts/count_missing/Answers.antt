use Rattle.std.proofs.Common.{◌≡◌, ◌∙◌, sym, ap, true, false, arith, rules}
use Rattle.std.specs.Prelude.{is_some, slice_index_or, slice_set}
use Rattle.pg_align.specs.Counts.{one_more}
use Rattle.pg_align.proofs.Looking.{filled_more, unwanted_more, came_more}
use Rattle.pg_align.proofs.counts.count_missing.Goals as goal
use Rattle.pg_align.proofs.counts.count_missing.Goals.{then-effective-place+then-is_none, else-effective-place, else-effective-place-via-then-effective-place+else-is_none, else-effective-place-via-else-effective-place}

pub loop-place-preserved : goal.loop-place-preserved
loop-place-preserved c =
    let i = c.loop-place.place in
    let effective = c.args.effective.now in
    let parts = c.args.parts.now in
    let before = c.args.missing.now in
    elim c.if-effective-place.branch [
      | then-effective-place+then-is_none w ↦
          let none : is_some w.index-parts-place.result ≡ false = rw w.if-is_none.true at w.is_none.ensures in
          w.missing-is ∙ ap (λ n. slice_set c.loop-place.missing i n) w.saturating_add.ensures
          ∙ ap (λ ns. slice_set ns i (one_more (slice_index_or ns i 0))) c.loop-place.invariant
          ∙ sym (filled_more i effective parts before w.index-parts-place.result (omega (arith, c.loop-place-test.true)) (omega (arith, c.requires.places)) (search rules) w.if-effective-place.true w.index-parts-place.is none)
      | else-effective-place w ↦ elim w.else-effective-place.branch [
        | else-effective-place-via-then-effective-place+else-is_none u ↦
            let some : is_some u.index-parts-place.result ≡ true = rw u.if-is_none.false at u.is_none.ensures in
            w.missing-is ∙ c.loop-place.invariant
            ∙ sym (came_more i effective parts before u.index-parts-place.result (omega (arith, c.loop-place-test.true, c.requires.places)) u.index-parts-place.is some)
        | else-effective-place-via-else-effective-place u ↦
            w.missing-is ∙ c.loop-place.invariant ∙ sym (unwanted_more i effective parts before u.if-effective-place.false)
      ]
    ]
