use Rattle.std.proofs.Common.{ap, subst, ◌∙◌, ◌++◌, ◌≡◌, drop, take}
use Rattle.std.specs.Io.KnownBytes.{Appends}
use Rattle.std.proofs.lemmas.List.{take-append-drop}
use Rattle.pg_session.specs.Commands.{Hearing}
use Rattle.pg_shared.proofs.serve.push_left.Goals as goal

pub returns-clause-writes : goal.returns-clause-writes
returns-clause-writes g c =
    let size = c.write_bytes-size.result.0 in
    let left = c.args.session.now.left in
    let sent : c.send.new.self ≡ record c.args.session.now { left = drop size left } = c.send.ensures.state in
    let wrote : Appends (g.W.Write.contents c.args.writer.now) (g.W.Write.contents c.write_bytes-size.new.writer) (take size left) =
    subst (λ xs. Appends (g.W.Write.contents c.args.writer.now) (g.W.Write.contents c.write_bytes-size.new.writer) (take size xs)) c.left.ensures.value c.write_bytes-size.ensures.wrote in
    (take size left, wrote, ap (λ (v : Hearing). take size left ++ v.left) sent ∙ take-append-drop size left)
