use Rattle.std.proofs.Common.{refl, sym, ◌∙◌}
use Rattle.pg_session.specs.Events.{samples_at}
use Rattle.pg_session.specs.Wanted.{all_wanted}
use Rattle.pg_session.proofs.Going.{whole_there, there_whole, never_whole}
use Rattle.pg_session.proofs.accepting.are_wanted.Goals as goal

pub returns-in_default : goal.returns-in_default
returns-in_default c =
    let whole = all_wanted c.args.streams.now c.args.frame.now.quality (samples_at c.args.frame.now c.args.places.now) in
    ((λ h. absurd (cc h)), (λ e. absurd (never_whole c.args.blocks.now.items whole c.in_default.ensures e)))

pub returns-then-at-len : goal.returns-then-at-len
returns-then-at-len c =
    let whole = all_wanted c.args.streams.now c.args.frame.now.quality (samples_at c.args.frame.now c.args.places.now) in (
      (λ h. absurd (cc h)),
      (λ e. absurd (c.if-at-len.true (there_whole c.args.blocks.now.items whole c.in-Some.at c.in-Some.ensures e ∙ sym c.len.ensures.len))),
    )

pub returns : goal.returns
returns c =
    let whole = all_wanted c.args.streams.now c.args.frame.now.quality (samples_at c.args.frame.now c.args.places.now) in
    ((λ h. whole_there c.args.blocks.now.items whole c.in-Some.at c.in-Some.ensures (c.if-at-len.false ∙ c.len.ensures.len)), (λ e. refl))
