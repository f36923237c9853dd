use Rattle.std.proofs.Common.{sym, subst, refl, false, ◌++◌}
use Rattle.pg_serve.specs.Inputs.{input_values, outcomes}
use Rattle.pg_serve.specs.Shown.{WorldValue}
use Rattle.pg_serve.specs.Headline.{HasAnswered}
use Rattle.pg_serve.proofs.Running.{answered_more}
use Rattle.pg_serve.proofs.Isolating.{isolated, owned}
use Rattle.pg_serve.proofs.Besides.{stands_beside}
use Rattle.pg_serve.proofs.world.World.run.Goals as goal

pub returns-clause-answers : goal.returns-clause-answers
returns-clause-answers c = λ before told has.
    answered_more
    (record { gateway = c.self.inside.core.gateway; lines = c.self.inside.core.lines.entries; sessions = c.self.inside.core.sessions.entries; failed = c.self.inside.failed })
    (record { gateway = c.run_all.new.core.gateway; lines = c.run_all.new.core.lines.entries; sessions = c.run_all.new.core.sessions.entries; failed = false })
    before (input_values c.args.inputs.now) told (outcomes c.in_ok-outputs.outputs.items)
    (subst (λ (v : WorldValue). HasAnswered v before told) (sym c.self.view_is) has) c.in_ok-outputs.ensures.takes refl

pub returns-clause-isolates : goal.returns-clause-isolates
returns-clause-isolates c = λ before told has lossless.
    isolated _ (before ++ input_values c.args.inputs.now) (told ++ outcomes c.in_ok-outputs.outputs.items) lossless (
    answered_more
    (record { gateway = c.self.inside.core.gateway; lines = c.self.inside.core.lines.entries; sessions = c.self.inside.core.sessions.entries; failed = c.self.inside.failed })
    (record { gateway = c.run_all.new.core.gateway; lines = c.run_all.new.core.lines.entries; sessions = c.run_all.new.core.sessions.entries; failed = false })
    before (input_values c.args.inputs.now) told (outcomes c.in_ok-outputs.outputs.items)
    (subst (λ (v : WorldValue). HasAnswered v before told) (sym c.self.view_is) has) c.in_ok-outputs.ensures.takes refl)

pub returns-clause-own : goal.returns-clause-own
returns-clause-own c = λ before told has lossless.
    owned _ (before ++ input_values c.args.inputs.now) (told ++ outcomes c.in_ok-outputs.outputs.items) lossless (
    answered_more
    (record { gateway = c.self.inside.core.gateway; lines = c.self.inside.core.lines.entries; sessions = c.self.inside.core.sessions.entries; failed = c.self.inside.failed })
    (record { gateway = c.run_all.new.core.gateway; lines = c.run_all.new.core.lines.entries; sessions = c.run_all.new.core.sessions.entries; failed = false })
    before (input_values c.args.inputs.now) told (outcomes c.in_ok-outputs.outputs.items)
    (subst (λ (v : WorldValue). HasAnswered v before told) (sym c.self.view_is) has) c.in_ok-outputs.ensures.takes refl)

pub returns-clause-beside : goal.returns-clause-beside
returns-clause-beside c = λ before told has lossless.
    stands_beside _ (before ++ input_values c.args.inputs.now) (told ++ outcomes c.in_ok-outputs.outputs.items) lossless (
    answered_more
    (record { gateway = c.self.inside.core.gateway; lines = c.self.inside.core.lines.entries; sessions = c.self.inside.core.sessions.entries; failed = c.self.inside.failed })
    (record { gateway = c.run_all.new.core.gateway; lines = c.run_all.new.core.lines.entries; sessions = c.run_all.new.core.sessions.entries; failed = false })
    before (input_values c.args.inputs.now) told (outcomes c.in_ok-outputs.outputs.items)
    (subst (λ (v : WorldValue). HasAnswered v before told) (sym c.self.view_is) has) c.in_ok-outputs.ensures.takes refl)
