use Rattle.std.proofs.Common.{◌≡◌, false, length, map, slice_get, sym, ap, ◌∙◌}
use Rattle.std.specs.Arc.{arc_value}
use Rattle.std.proofs.lemmas.List.{length-map}
use Rattle.pg_entitle.specs.Grants.{has_key}
use Rattle.pg_session.proofs.Granting.{wanted_some, only_one, below_32}
use Rattle.pg_session.proofs.subscriber.Subscriber.is_granted_ready.Goals as goal

pub returns-then-len-eq1 : goal.returns-then-len-eq1
returns-then-len-eq1 c =
    let grants = c.self.inside.grants in
    let key = c.args.key.now in
    let config = c.args.config.now in
    let items = map arc_value c.self.inside.configs.items in
    let free : has_key grants key ≡ false = sym c.holds.ensures.value ∙ c.if-holds.false in
    let room = below_32 (length grants) (sym c.is_full.ensures.value ∙ c.if-is_full.false) in
    let wanted = wanted_some grants key config free room in
    let one : length items ≡ 1 = length-map c.self.inside.configs.items arc_value ∙ sym c.len.ensures.len ∙ c.if-len-eq1.true in
    rw (← c.self.view_is, wanted) (
      (λ h. only_one items config one (c.is_copy.ensures.0 h)),
      (λ e. c.is_copy.ensures.1 (ap (λ xs. slice_get xs 0) e)),
    )
