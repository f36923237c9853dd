use Rattle.std.proofs.Common.{◌≡◌, ◌-◌, ◌^◌, ◌++◌, ◌∷◌, [], ℕ, List, ap, drop, length, refl, sym, ◌∙◌, subst, arith}
use Rattle.std.proofs.lemmas.Grind.{common_steps}
use Rattle.std.proofs.lemmas.List.{take_rest}
use Rattle.pg_wire.specs.Check.{IsRemainder, dividend}
use Rattle.pg_data.proofs.Fillers.{filler-length}
use Rattle.pg_outcfg.specs.Frames.{block_or_filler}
use Rattle.pg_outcfg.proofs.data.add_part.Goals as goal

pub filler_into-requires : goal.filler_into-requires
filler_into-requires c = omega (arith, c.block_len.ensures.value, c.capacity-in-None.ensures, c.len-start.ensures, c.if-capacity-start.false)

pub returns-then-capacity-start-clause-fits : goal.returns-then-capacity-start-clause-fits
returns-then-capacity-start-clause-fits c room =
    let long = ap (λ part. length (block_or_filler c.args.config.now part)) c.in-None.is in
    absurd (omega (arith, long, filler-length c.args.config.now, c.block_len.ensures.value, c.capacity-in-None.ensures, c.len-start.ensures, c.if-capacity-start.true, room))

pub returns-else-capacity-len-clause-check : goal.returns-else-capacity-len-clause-check
returns-else-capacity-len-clause-check c =
    let items : c.extend_from_slice.new.self.items ≡ c.args.frame.now.items ++ c.bytes-bytes.result.now = grind (arith, common_steps) in
    let block = ap (λ l. c.args.frame.now.items ++ l) c.bytes-bytes.ensures.value in
    subst (λ l. IsRemainder (dividend l) c.check_past-after.result) (sym (items ∙ block)) (c.check_past-after.ensures (2 ^ 16 - 1) c.args.frame.now.items c.requires.check)

-- what was added stands behind what was there
behind : (front more : List ℕ) → drop (length front) (front ++ more) ≡ more
behind [] more = refl
behind (x ∷ xs) more = behind xs more

added : (whole front more : List ℕ) (n : ℕ) → whole ≡ front ++ more → n ≡ length front → front ++ drop n whole ≡ whole
added whole front more n is at = rw (is, at) (ap (λ l. front ++ l) (behind front more))

pub returns-else-capacity-start-clause-check : goal.returns-else-capacity-start-clause-check
returns-else-capacity-start-clause-check c =
    let whole = c.deref.ensures.value ∙ c.filler_into.ensures.items in
    let long : c.len-start.result ≡ length c.args.frame.now.items = grind (arith, common_steps) in
    let past = c.check_more.ensures (2 ^ 16 - 1) c.args.frame.now.items c.requires.check in
    subst (λ l. IsRemainder (dividend l) c.check_more.result)
    (added c.deref.result.now c.args.frame.now.items _ c.len-start.result whole long ∙ c.deref.ensures.value)
    (rw (take_rest c.deref.result.now c.len-start.result) at past)
