use Rattle.std.proofs.Common.{codes, refl}
use Rattle.pg_replay.proofs.NoKind.{differs}
use Rattle.pg_replay.proofs.lines.Kind.of.Goals as goal

pub returns-in_default : goal.returns-in_default
returns-in_default c =
    let w = c.args.word.now in
    let d = c.in_default in
    record {
      value = rw (
        differs (codes "pmu") w d.not-pmu,
        differs (codes "sub") w d.not-sub,
        differs (codes "drain") w d.not-drain,
        differs (codes "tick") w d.not-tick,
        differs (codes "linkup") w d.not-linkup,
        differs (codes "connect") w d.not-connect,
        differs (codes "hangup") w d.not-hangup,
        differs (codes "queue") w d.not-queue,
        differs (codes "linkstats") w d.not-linkstats,
        differs (codes "sessionstats") w d.not-sessionstats,
      ) refl;
    }
