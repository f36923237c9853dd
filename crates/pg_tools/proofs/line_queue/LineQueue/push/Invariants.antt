use Rattle.std.proofs.Common.{◌≡◌, ◌+◌, ◌≤◌, length}
use Rattle.pg_tools.specs.Queueing.{fitting, standing}
use Rattle.pg_tools.proofs.line_queue.LineQueue.push.Given as goal

-- what is dropped is counted, and each turn drops one
abbrev pub invariant-room : goal.invariant-room
invariant-room l =
    (standing l.self.lost l.self.entries ≡ standing l.initial.self.lost l.initial.self.entries)
    × (fitting l.self.most l.self.lines l.self.entries ≡ fitting l.initial.self.most l.initial.self.lines l.initial.self.entries)
    × (l.self.most ≡ l.initial.self.most)
    × (length l.self.entries + l.counter ≡ length l.initial.self.entries + 1)
