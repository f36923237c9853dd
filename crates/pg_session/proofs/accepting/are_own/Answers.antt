use Rattle.std.proofs.Common.{◌≡◌, true, sym, ◌∙◌, subst}
use Rattle.pg_entitle.specs.Grants.{has_key}
use Rattle.pg_session.specs.Ready.{AreOwn}
use Rattle.pg_session.proofs.Preparing.{announced_next}
use Rattle.pg_session.proofs.accepting.are_own.Goals as goal

pub returns-then-not-holds : goal.returns-then-not-holds
returns-then-not-holds c =
    let grants = c.args.grants.now in
    let k = c.loop-place.place-index in
    let next = announced_next c.args.config.now c.args.places.now k c.key.result c.loop-place-test.true (c.requires.places k 0 c.loop-place-test.true)
    c.key.ensures.source c.key.ensures.pmu in (
      (λ h. absurd (cc h)),
      (λ h. absurd (let first = (subst (λ list. AreOwn grants list) next.1 (c.loop-place.invariant.0 h)).0 in
          let held : has_key grants c.key.result ≡ true = first in
          cc (held, c.holds.ensures.value, c.if-not-holds.true))),
    )

pub loop-place-preserved : goal.loop-place-preserved
loop-place-preserved c =
    let grants = c.args.grants.now in
    let k = c.loop-place.place-index in
    let next = announced_next c.args.config.now c.args.places.now k c.key.result c.loop-place-test.true (c.requires.places k 0 c.loop-place-test.true)
    c.key.ensures.source c.key.ensures.pmu in
    let held : has_key grants c.key.result ≡ true = sym c.holds.ensures.value ∙ c.if-not-holds.false in (
      (λ h. (subst (λ list. AreOwn grants list) next.1 (c.loop-place.invariant.0 h)).1),
      (λ h. c.loop-place.invariant.1 (subst (λ list. AreOwn grants list) (sym next.1) (held, h))),
    )
