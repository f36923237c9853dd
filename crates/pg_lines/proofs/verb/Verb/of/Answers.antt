use Rattle.std.proofs.Common.{codes, refl}
use Rattle.pg_lines.proofs.NoVerb.{differs}
use Rattle.pg_lines.proofs.verb.Verb.of.Goals as goal

pub returns-in_default : goal.returns-in_default
returns-in_default c =
    let w = c.args.word.now in
    let d = c.in_default in
    record {
      value = rw (
        differs (codes "addpmu") w d.not-addpmu,
        differs (codes "droppmu") w d.not-droppmu,
        differs (codes "addsub") w d.not-addsub,
        differs (codes "dropsub") w d.not-dropsub,
        differs (codes "grant") w d.not-grant,
        differs (codes "revoke") w d.not-revoke,
        differs (codes "define") w d.not-define,
        differs (codes "remove") w d.not-remove,
        differs (codes "stats") w d.not-stats,
        differs (codes "pmustats") w d.not-pmustats,
        differs (codes "audit") w d.not-audit,
      ) refl;
    }
