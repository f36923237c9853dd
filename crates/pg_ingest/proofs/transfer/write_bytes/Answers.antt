use Rattle.std.proofs.Common.{arith, subst, sym, ◌-◌, take, drop, length, length-drop}
use Rattle.std.specs.Io.KnownBytes.{Appends}
use Rattle.std.proofs.lemmas.List.{take_all}
use Rattle.std.proofs.Math.Seq.{take-add}
use Rattle.pg_ingest.proofs.Known.{appends_more}
use Rattle.pg_ingest.proofs.transfer.write_bytes.Goals as goal

pub rest-preserved : goal.rest-preserved
rest-preserved g c =
    let inv = c.rest.invariant in
    let sent = c.rest.sent in
    let size = c.in-Ok.size in
    let bytes = c.args.bytes.now in
    let took : Appends (g.W.Write.contents c.rest.writer) (g.W.Write.contents c.write.new.self) (take size (drop sent bytes)) =
    subst (λ xs. Appends (g.W.Write.contents c.rest.writer) (g.W.Write.contents c.write.new.self) (take size xs)) (take_all (length bytes - sent) (drop sent bytes) (omega (arith, inv.within, length-drop sent bytes))) c.in-Ok.ensures.bytes in
    record {
      wrote = subst (Appends _ _) (sym (take-add sent size bytes)) (appends_more _ _ _ (take sent bytes) (take size (drop sent bytes)) inv.wrote took);
      within = omega (arith, inv.within, c.in-Ok.ensures.bound, length-drop sent bytes);
    }
