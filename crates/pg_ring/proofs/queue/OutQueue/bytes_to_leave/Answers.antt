use Rattle.std.proofs.Common.{◌≡◌, ◌-◌, length, ap, length-drop}
use Rattle.pg_ring.specs.Shown.{bytes_in}
use Rattle.pg_ring.proofs.Waiting.{waiting_bytes}
use Rattle.pg_ring.proofs.queue.OutQueue.bytes_to_leave.Goals as goal

pub returns : goal.returns
returns c =
    let rest : c.len.result - c.self.inside.taken ≡ length c.args.self.now.rest = rw (← c.self.view_is, length-drop, c.len.ensures) (ap (λ n. n - c.self.inside.taken) c.self.inside.hand.ok.0) in
    let held : c.self.inside.held ≡ bytes_in c.args.self.now.frames = rw (← c.self.view_is) c.self.invariant.counted in
    let all = waiting_bytes c.args.self.now (c.len.result - c.self.inside.taken) c.self.inside.held c.reply_bytes.result rest held c.reply_bytes.ensures in
    rw (c.saturating_add-2.ensures, c.saturating_add.ensures) all
