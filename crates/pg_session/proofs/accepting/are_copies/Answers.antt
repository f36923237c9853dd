use Rattle.std.proofs.Common.{map, refl, sym, ◌∙◌}
use Rattle.std.proofs.lemmas.List.{length-map}
use Rattle.std.specs.Arc.{arc_value}
use Rattle.pg_session.specs.Events.{announced_at, config_of}
use Rattle.pg_session.proofs.Going.{whole_there, there_whole, never_whole}
use Rattle.pg_session.proofs.accepting.are_copies.Goals as goal

pub returns-in_default : goal.returns-in_default
returns-in_default c =
    let items = map arc_value c.args.configs.now.items in
    let whole = map config_of (announced_at c.args.config.now c.args.places.now) in
    ((λ h. absurd (cc h)), (λ e. absurd (never_whole items whole c.in_default.ensures e)))

pub returns-then-at-len : goal.returns-then-at-len
returns-then-at-len c =
    let items = map arc_value c.args.configs.now.items in
    let whole = map config_of (announced_at c.args.config.now c.args.places.now) in (
      (λ h. absurd (cc h)),
      (λ e. absurd (c.if-at-len.true (there_whole items whole c.in-Some.at c.in-Some.ensures e ∙ length-map c.args.configs.now.items arc_value ∙ sym c.len.ensures.len))),
    )

pub returns : goal.returns
returns c =
    let items = map arc_value c.args.configs.now.items in
    let whole = map config_of (announced_at c.args.config.now c.args.places.now) in (
      (λ h. whole_there items whole c.in-Some.at c.in-Some.ensures (c.if-at-len.false ∙ c.len.ensures.len ∙ sym (length-map c.args.configs.now.items arc_value))),
      (λ e. refl),
    )
