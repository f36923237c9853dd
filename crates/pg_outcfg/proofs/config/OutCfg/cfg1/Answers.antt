use Rattle.std.proofs.Common.{◌≡◌, IfOk, subst}
use Rattle.pg_outcfg.specs.Frames.{cfg1_frame}
use Rattle.pg_outcfg.proofs.config.OutCfg.cfg1.Goals as goal

pub returns-clause-frame : goal.returns-clause-frame
returns-clause-frame c =
    subst (λ count. IfOk c.write_listed.result (λ v. v.items ≡ cfg1_frame c.args.definition.now count c.args.soc c.args.listed.now)) c.self.view_is
    (subst (λ listed. IfOk c.write_listed.result (λ v. v.items ≡ cfg1_frame c.args.definition.now c.self.inside.count c.args.soc listed)) c.as_slice.ensures.value c.write_listed.ensures.frame)
