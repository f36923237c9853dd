use Rattle.std.proofs.Common.{sym, ap, subst, ◌∙◌, ◌++◌, ◌≡◌, drop, take}
use Rattle.std.specs.Io.KnownBytes.{Appends}
use Rattle.std.proofs.lemmas.List.{take-append-drop}
use Rattle.pg_ingest.specs.Linking.{Linking}
use Rattle.pg_ingest.proofs.Stepping.{ran_wrote, left_unshown}
use Rattle.pg_ingest.proofs.run.push_left.Goals as goal

pub returns-clause-ran : goal.returns-clause-ran
returns-clause-ran g c = λ r p t.
    let size = c.write_bytes-size.result.0 in
    let left = c.args.link.now.left in
    let sent : c.send.new.self ≡ record c.args.link.now { left = drop size left } = c.send.ensures in
    let now_left : c.send.new.self.left ≡ drop size left = ap (λ (v : Linking). v.left) sent in
    let wrote : Appends (g.W.Write.contents c.args.writer.now) (g.W.Write.contents c.write_bytes-size.new.writer) (take size left) =
    subst (λ xs. Appends (g.W.Write.contents c.args.writer.now) (g.W.Write.contents c.write_bytes-size.new.writer) (take size xs)) c.left.ensures c.write_bytes-size.ensures.wrote in
    ran_wrote _ _ r _ _ p (take size left) wrote (ap (λ xs. take size left ++ xs) now_left ∙ take-append-drop size left)
    (λ past shows. left_unshown _ _ past (sent ∙ ap (λ xs. record c.args.link.now { left = xs }) (sym now_left)) shows)
