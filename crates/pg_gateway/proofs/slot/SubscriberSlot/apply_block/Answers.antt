use Rattle.std.proofs.Common.{[], ◌∷◌, sym, subst, ◌∙◌}
use Rattle.std.proofs.lemmas.List.{append-nil}
use Rattle.std.specs.Arc.{arc_value}
use Rattle.pg_audit.specs.Noting as audit
use Rattle.pg_session.specs.Events.{measure, samples_at}
use Rattle.pg_session.specs.Private.{told}
use Rattle.pg_gateway.specs.Taking.{measured}
use Rattle.pg_gateway.proofs.Taking.{offer_some, fit_at, prepared_at, not_true, none_is_some}
use Rattle.pg_gateway.proofs.OnlyLaws.{share_of_block}
use Rattle.pg_gateway.proofs.slot.SubscriberSlot.apply_block.Goals as goal

pub apply_block-requires-clause-held : goal.apply_block-requires-clause-held
apply_block-requires-clause-held c =
    let holds = rw (← c.self.view_is) at c.requires.holds in
    let awaits = rw (← c.self.view_is) at c.requires.awaits in
    fit_at c.self.inside.subscriber _ _ (share_of_block (arc_value c.args.frame.now) c.args.place c.self.inside.subscriber.own.grants c.requires.place holds) awaits.fit

pub apply_block-requires-clause-prepared : goal.apply_block-requires-clause-prepared
apply_block-requires-clause-prepared c =
    let holds = rw (← c.self.view_is) at c.requires.holds in
    let awaits = rw (← c.self.view_is) at c.requires.awaits in
    prepared_at c.self.inside.subscriber _ _ (share_of_block (arc_value c.args.frame.now) c.args.place c.self.inside.subscriber.own.grants c.requires.place holds) awaits.prepared

pub returns-clause-takes : goal.returns-clause-takes
returns-clause-takes c =
    let m = arc_value c.args.frame.now in
    let holds = rw (← c.self.view_is) at c.requires.holds in
    let some = share_of_block m c.args.place c.self.inside.subscriber.own.grants c.requires.place holds in
    rw (← c.self.view_is) (offer_some (measured m (c.args.place ∷ [])) c.args.lost _ _ (measure m.soc m.quality m.frac (samples_at m (c.args.place ∷ []))) (told c.apply_block.result) c.counts.result some c.apply_block.ensures.takes
    (λ s h. subst (λ l. audit.ShowsAudit c.self.inside.audit l) (sym (append-nil s.noted)) h.audit) c.counts.ensures.counts (c.counts.ensures.few c.apply_block.ensures.few) c.apply_block.ensures.none)

pub returns-clause-spared : goal.returns-clause-spared
returns-clause-spared c =
    let holds = rw (← c.self.view_is) at c.requires.holds in
    let some = share_of_block (arc_value c.args.frame.now) c.args.place c.self.inside.subscriber.own.grants c.requires.place holds in
    let awaits = rw (← c.self.view_is) at c.requires.awaits in
    not_true _ (λ on. none_is_some (sym (awaits.spared on) ∙ some))
