-- Nothing was wrong, so that all has come just where nothing waits.
use Rattle.std.proofs.Common.{sym, ◌∙◌, ap}
use Rattle.pg_tools.proofs.Expecting.{whole_then, whole_only}
use Rattle.pg_tools.proofs.expected_frames.ExpectedFrames.is_whole.Goals as goal

pub returns-then-is_none : goal.returns-then-is_none
returns-then-is_none c = λ steps h. (
  (λ t. whole_then c.args.self.now.wrong c.args.self.now.waiting.items steps c.if-is_none.ensures
      (sym c.deref.ensures.value ∙ c.is_nothing.ensures.0 t) h),
  (λ all. c.is_nothing.ensures.1 (c.deref.ensures.value ∙ whole_only c.args.self.now.wrong c.args.self.now.waiting.items steps h all)),
)
