use Rattle.std.proofs.Common.{◌≡◌, Some}
use Rattle.pg_lines.specs.Words.{Text}
use Rattle.pg_replay.proofs.ReplayLaws.{SoFar}
use Rattle.pg_replay.proofs.script.Script.answer_all.Given as goal

abbrev pub invariant-loop-turn : goal.invariant-loop-turn
invariant-loop-turn g l =
    (script : Text) → g.B.Read.remaining l.fn.reader ≡ Some script
    → SoFar l.fn.self.world script (g.B.Read.remaining l.reader) (g.W.Write.contents l.fn.out) (g.W.Write.contents l.out) l.self.world
