use Rattle.std.proofs.Common.{◌≡◌, IfOk, subst}
use Rattle.pg_outcfg.specs.Frames.{cfg2_frame}
use Rattle.pg_outcfg.proofs.config.OutCfg.cfg2.Goals as goal

pub returns-clause-frame : goal.returns-clause-frame
returns-clause-frame c =
    subst (λ count. IfOk c.write_effective.result (λ v. v.items ≡ cfg2_frame c.args.definition.now count c.args.soc c.args.listed.now)) c.self.view_is c.write_effective.ensures.frame
