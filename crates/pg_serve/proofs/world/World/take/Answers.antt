use Rattle.std.proofs.Common.{sym, subst, refl, false, [], ◌∷◌, ◌++◌}
use Rattle.pg_serve.specs.Inputs.{input_value, outcome}
use Rattle.pg_serve.specs.Shown.{WorldValue}
use Rattle.pg_serve.specs.Headline.{HasAnswered}
use Rattle.pg_serve.proofs.Running.{answered_more, one_taken}
use Rattle.pg_serve.proofs.Isolating.{isolated, owned}
use Rattle.pg_serve.proofs.Besides.{stands_beside}
use Rattle.pg_serve.proofs.world.World.take.Goals as goal

pub returns-clause-answers : goal.returns-clause-answers
returns-clause-answers c = λ before told has.
    answered_more
    (record { gateway = c.self.inside.core.gateway; lines = c.self.inside.core.lines.entries; sessions = c.self.inside.core.sessions.entries; failed = c.self.inside.failed })
    (record { gateway = c.take.new.self.gateway; lines = c.take.new.self.lines.entries; sessions = c.take.new.self.sessions.entries; failed = false })
    before (input_value c.args.input.now ∷ []) told (outcome c.take.new.output ∷ [])
    (subst (λ (v : WorldValue). HasAnswered v before told) (sym c.self.view_is) has) (one_taken _ _ _ _ c.in_ok-take.ensures.takes) refl

pub returns-clause-isolates : goal.returns-clause-isolates
returns-clause-isolates c = λ before told has lossless.
    isolated _ (before ++ input_value c.args.input.now ∷ []) (told ++ outcome c.take.new.output ∷ []) lossless (
    answered_more
    (record { gateway = c.self.inside.core.gateway; lines = c.self.inside.core.lines.entries; sessions = c.self.inside.core.sessions.entries; failed = c.self.inside.failed })
    (record { gateway = c.take.new.self.gateway; lines = c.take.new.self.lines.entries; sessions = c.take.new.self.sessions.entries; failed = false })
    before (input_value c.args.input.now ∷ []) told (outcome c.take.new.output ∷ [])
    (subst (λ (v : WorldValue). HasAnswered v before told) (sym c.self.view_is) has) (one_taken _ _ _ _ c.in_ok-take.ensures.takes) refl)

pub returns-clause-own : goal.returns-clause-own
returns-clause-own c = λ before told has lossless.
    owned _ (before ++ input_value c.args.input.now ∷ []) (told ++ outcome c.take.new.output ∷ []) lossless (
    answered_more
    (record { gateway = c.self.inside.core.gateway; lines = c.self.inside.core.lines.entries; sessions = c.self.inside.core.sessions.entries; failed = c.self.inside.failed })
    (record { gateway = c.take.new.self.gateway; lines = c.take.new.self.lines.entries; sessions = c.take.new.self.sessions.entries; failed = false })
    before (input_value c.args.input.now ∷ []) told (outcome c.take.new.output ∷ [])
    (subst (λ (v : WorldValue). HasAnswered v before told) (sym c.self.view_is) has) (one_taken _ _ _ _ c.in_ok-take.ensures.takes) refl)

pub returns-clause-beside : goal.returns-clause-beside
returns-clause-beside c = λ before told has lossless.
    stands_beside _ (before ++ input_value c.args.input.now ∷ []) (told ++ outcome c.take.new.output ∷ []) lossless (
    answered_more
    (record { gateway = c.self.inside.core.gateway; lines = c.self.inside.core.lines.entries; sessions = c.self.inside.core.sessions.entries; failed = c.self.inside.failed })
    (record { gateway = c.take.new.self.gateway; lines = c.take.new.self.lines.entries; sessions = c.take.new.self.sessions.entries; failed = false })
    before (input_value c.args.input.now ∷ []) told (outcome c.take.new.output ∷ [])
    (subst (λ (v : WorldValue). HasAnswered v before told) (sym c.self.view_is) has) (one_taken _ _ _ _ c.in_ok-take.ensures.takes) refl)
