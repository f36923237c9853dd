use Rattle.std.proofs.Common.{Some, None, sym, subst, ◌∷◌, []}
use Rattle.std.specs.Arc.{arc_value}
use Rattle.pg_ingest.specs.Items.{announces, measures}
use Rattle.pg_gateway.specs.Histories.{state_after}
use Rattle.pg_serve.specs.Inputs.{all_noted}
use Rattle.pg_serve.specs.Actions.{pairs_of, telling_so}
use Rattle.pg_serve.specs.Feeding.{Did}
use Rattle.pg_serve.proofs.Doing.{Tells-one, TellsAll-end, Did-ignored, ignored_action}
use Rattle.pg_serve.proofs.feeding.post_events.Goals as goal

pub loop-config-preserved-in-Continue-1 : goal.loop-config-preserved-in-Continue-1
loop-config-preserved-in-Continue-1 c = λ S past shown shows.
    let t = c.loop-config.invariant S past shown shows in
    Tells-one S past _ _ _ _ _ _ _ (announces (arc_value c.in-Announce.config)) t (c.in-Announce.ensures.gives (telling_so past t.items) t.shows)
    (c.in_ok-post-in-Announce.ensures.did (state_after S (pairs_of t.did.effects)) t.did.shows)

pub loop-config-preserved-in-Measure : goal.loop-config-preserved-in-Measure
loop-config-preserved-in-Measure c = λ S past shown shows.
    let t = c.loop-config.invariant S past shown shows in
    rw (c.give_back.ensures)
    (Tells-one S past _ _ _ _ _ _ _ (measures (arc_value c.in-Measure.frame)) t (c.in-Measure.ensures.gives (telling_so past t.items) t.shows)
    (c.in_ok-post_measured-in-Measure.ensures.did (state_after S (pairs_of t.did.effects)) t.did.shows))

pub loop-config-preserved : goal.loop-config-preserved
loop-config-preserved c = λ S past shown shows.
    let t = c.loop-config.invariant S past shown shows in
    let given = c.in-Ignored.ensures.gives (telling_so past t.items) t.shows in
    Tells-one S past _ _ _ _ _ _ _ given.0 t given.2
    (subst (λ d. Did (state_after S (pairs_of t.did.effects)) (d ∷ []) (all_noted c.loop-config.notes.items) (all_noted c.note_ignored.new.notes.items) c.loop-config.gateway)
    (sym (ignored_action given.0 c.in-Ignored.refusal given.1))
    (Did-ignored (state_after S (pairs_of t.did.effects)) c.in-Ignored.refusal _ _ _ t.did.shows c.in_ok-note_ignored-in-Ignored.ensures.noted))

pub returns-in-Ended-clause-told : goal.returns-in-Ended-clause-told
returns-in-Ended-clause-told c = λ S past shown shows.
    let t = c.loop-config.invariant S past shown shows in
    TellsAll-end S past (Some c.in-Ended.refusal) _ _ _ _ _ t (c.in-Ended.ensures.gives (telling_so past t.items) t.shows)

pub returns-in-More-clause-told : goal.returns-in-More-clause-told
returns-in-More-clause-told c = λ S past shown shows.
    let t = c.loop-config.invariant S past shown shows in
    TellsAll-end S past None _ _ _ _ _ t (c.in-More.ensures.gives (telling_so past t.items) t.shows)
