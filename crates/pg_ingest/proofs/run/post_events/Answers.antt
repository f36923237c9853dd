use Rattle.std.proofs.Common.{refl, ◌∙◌, Some, None}
use Rattle.std.specs.Arc.{arc_value}
use Rattle.pg_ingest.specs.Items.{announces, measures}
use Rattle.pg_ingest.proofs.Stepping.{Nothing, ran_nothing, ran_as, ran_more}
use Rattle.pg_ingest.proofs.Turns.{Posted, posted_none, posted_more, ran_told, ran_ignored, ran_told_all}
use Rattle.pg_ingest.proofs.run.post_events.Goals as goal

pub events-init : goal.events-init
events-init g c = record { ran = λ r w. ran_as Nothing Posted posted_none _ _ _ _ _ _ _ _ (ran_nothing _ r w _); takes = refl; onward = g.met.G.Gate.stays _; left = refl }

pub events-preserved-in-Announce-2 : goal.events-preserved-in-Announce-2
events-preserved-in-Announce-2 g c = record {
  ran = λ r w.
      ran_more Posted Posted Posted posted_more _ _ _ _ _ _ _ _ _ _ _ _ (c.events.invariant.ran r w)
      (ran_told _ _ r w _ _ (announces (arc_value c.in-Announce.config)) _ _ _ c.events.invariant.takes c.in-Announce.ensures.gives c.post.ensures.posted refl c.next_event.ensures.left);
  takes = c.post.ensures.takes ∙ c.events.invariant.takes;
  onward = g.met.G.Gate.joins _ _ _ c.events.invariant.onward c.post.ensures.goes_on;
  left = c.next_event.ensures.left ∙ c.events.invariant.left;
}

pub events-preserved-in-Announce-3 : goal.events-preserved-in-Announce-3
events-preserved-in-Announce-3 g c = record {
  ran = λ r w.
      ran_more Posted Posted Posted posted_more _ _ _ _ _ _ _ _ _ _ _ _ (c.events.invariant.ran r w)
      (ran_told _ _ r w _ _ (announces (arc_value c.in-Announce.config)) _ _ _ c.events.invariant.takes c.in-Announce.ensures.gives c.post.ensures.posted refl c.next_event.ensures.left);
  takes = c.post.ensures.takes ∙ c.events.invariant.takes;
  onward = g.met.G.Gate.joins _ _ _ c.events.invariant.onward c.post.ensures.goes_on;
  left = c.next_event.ensures.left ∙ c.events.invariant.left;
}

pub events-preserved-in_default : goal.events-preserved-in_default
events-preserved-in_default g c = record {
  ran = λ r w.
      ran_more Posted Posted Posted posted_more _ _ _ _ _ _ _ _ _ _ _ _ (c.events.invariant.ran r w)
      (ran_told _ _ r w _ _ (measures (arc_value c.in-Measure.frame)) _ _ _ c.events.invariant.takes c.in-Measure.ensures.gives c.post-in-Measure.ensures.posted refl c.next_event.ensures.left);
  takes = c.post-in-Measure.ensures.takes ∙ c.events.invariant.takes;
  onward = g.met.G.Gate.joins _ _ _ c.events.invariant.onward c.post-in-Measure.ensures.goes_on;
  left = c.next_event.ensures.left ∙ c.events.invariant.left;
}

pub events-preserved-in-Ok : goal.events-preserved-in-Ok
events-preserved-in-Ok g c = rw (c.give_back.ensures) (record {
  ran = λ r w.
      ran_more Posted Posted Posted posted_more _ _ _ _ _ _ _ _ _ _ _ _ (c.events.invariant.ran r w)
      (ran_told _ _ r w _ _ (measures (arc_value c.in-Measure.frame)) _ _ _ c.events.invariant.takes c.in-Measure.ensures.gives c.post-in-Measure.ensures.posted refl c.next_event.ensures.left);
  takes = c.post-in-Measure.ensures.takes ∙ c.events.invariant.takes;
  onward = g.met.G.Gate.joins _ _ _ c.events.invariant.onward c.post-in-Measure.ensures.goes_on;
  left = c.next_event.ensures.left ∙ c.events.invariant.left;
})

pub events-preserved : goal.events-preserved
events-preserved g c = record {
  ran = λ r w.
      ran_more Posted Posted Posted posted_more _ _ _ _ _ _ _ _ _ _ _ _ (c.events.invariant.ran r w)
      (ran_ignored _ _ r w _ c.in-Ignored.field-0 c.in-Ignored.ensures.gives c.next_event.ensures.left);
  takes = c.events.invariant.takes;
  onward = c.events.invariant.onward;
  left = c.next_event.ensures.left ∙ c.events.invariant.left;
}

pub returns-in-Ended-clause-ran : goal.returns-in-Ended-clause-ran
returns-in-Ended-clause-ran g c = λ r w.
    ran_told_all _ _ _ r w _ _ (Some c.in-Ended.refusal) (c.events.invariant.ran r w) c.in-Ended.ensures.gives c.next_event.ensures.left

pub returns-in-More-clause-ran : goal.returns-in-More-clause-ran
returns-in-More-clause-ran g c = λ r w.
    ran_told_all _ _ _ r w _ _ None (c.events.invariant.ran r w) c.in-More.ensures.gives c.next_event.ensures.left
