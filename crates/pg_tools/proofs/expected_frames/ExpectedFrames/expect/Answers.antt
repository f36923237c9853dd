-- What waits is longer by the frame that is sent.
use Rattle.std.proofs.Common.{sym, subst}
use Rattle.pg_tools.specs.Expecting.{Keeps, sent, content}
use Rattle.pg_tools.proofs.Expecting.{keeps-sent}
use Rattle.std.proofs.Common.{◌∷◌}
use Rattle.pg_tools.proofs.expected_frames.ExpectedFrames.expect.Goals as goal

pub returns-clause-history : goal.returns-clause-history
returns-clause-history c = λ steps h.
    subst (λ fs. Keeps c.args.self.now.wrong fs (sent (content c.args.frame) ∷ steps))
    (sym c.in_ok-push.ensures.items)
    (keeps-sent c.args.self.now.wrong c.args.self.now.waiting.items c.args.frame steps h)
