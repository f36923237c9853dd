use Rattle.std.proofs.Common.{◌++◌, subst}
use Rattle.pg_wire.specs.Check.{dividend, IsRemainder}
use Rattle.pg_outcfg.specs.HeadPrefixes.{prefix_bytes, no_stamp}
use Rattle.pg_outcfg.proofs.head_prefix.HeadPrefix.check_with.Goals as goal

pub returns : goal.returns
returns c = c.check_behind.ensures (prefix_bytes c.args.self.now)
    (subst (λ v. IsRemainder (dividend (prefix_bytes v ++ no_stamp)) c.self.inside.check) c.self.view_is c.self.invariant)
