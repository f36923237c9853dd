use Rattle.std.proofs.Common.{◌≡◌, nat_eq, nat_le, true, false, is_some, length, arith}
use Rattle.std.specs.Map.{lookup}
use Rattle.std.proofs.lemmas.Bool.Decides.{nat_tests}
use Rattle.pg_gateway.specs.Shown.{SlotShows}
use Rattle.pg_gateway.proofs.RelatedLaws.{lookup-is_some, Related-length}
use Rattle.pg_gateway.proofs.AddLaws.{added_exists, added_full, added_none, added_goes}
use Rattle.pg_gateway.proofs.state.GatewayState.add_sub.Goals as goal

pub returns-then-contains_key-clause-goes : goal.returns-then-contains_key-clause-goes
returns-then-contains_key-clause-goes c = λ S h.
    let shown = rw (← c.self.view_is) at h in
    let same = lookup-is_some SlotShows (nat_eq c.args.sub) _ _ shown.subs in
    let there : is_some (lookup (nat_eq c.args.sub) S.subs) ≡ true = grind (arith, same) in
    added_exists c.args.sub c.args.ring c.args.bytes S _ _ shown there (c.note_at.ensures.notes S.subs shown.subs)

pub returns-then-len-ge-MOST_SUBS-clause-goes : goal.returns-then-len-ge-MOST_SUBS-clause-goes
returns-then-len-ge-MOST_SUBS-clause-goes c = λ S h.
    let shown = rw (← c.self.view_is) at h in
    let same = lookup-is_some SlotShows (nat_eq c.args.sub) _ _ shown.subs in
    let none : is_some (lookup (nat_eq c.args.sub) S.subs) ≡ false = grind (arith, same) in
    let len = Related-length SlotShows _ _ shown.subs in
    let full : nat_le 64 (length S.subs) ≡ true = grind (arith, nat_tests, len, c.len.ensures.len) in
    added_full c.args.sub c.args.ring c.args.bytes S _ h none full

pub returns-in-Err-clause-goes : goal.returns-in-Err-clause-goes
returns-in-Err-clause-goes c = λ S h.
    let shown = rw (← c.self.view_is) at h in
    let same = lookup-is_some SlotShows (nat_eq c.args.sub) _ _ shown.subs in
    let none : is_some (lookup (nat_eq c.args.sub) S.subs) ≡ false = grind (arith, same) in
    let len = Related-length SlotShows _ _ shown.subs in
    let room : nat_le 64 (length S.subs) ≡ false = grind (arith, nat_tests, len, c.len.ensures.len) in
    rw (c.in-Err.ensures.memory, c.in-Err.ensures.refused) (added_none c.args.sub c.args.ring c.args.bytes S _ shown none room)

pub returns-clause-goes : goal.returns-clause-goes
returns-clause-goes c = λ S h.
    let shown = rw (← c.self.view_is) at h in
    let same = lookup-is_some SlotShows (nat_eq c.args.sub) _ _ shown.subs in
    let none : is_some (lookup (nat_eq c.args.sub) S.subs) ≡ false = grind (arith, same) in
    let len = Related-length SlotShows _ _ shown.subs in
    let room : nat_le 64 (length S.subs) ≡ false = grind (arith, nat_tests, len, c.len.ensures.len) in
    added_goes c.args.sub c.args.ring c.args.bytes S _ _ shown none room (c.in-Ok.ensures.added S.subs shown.subs)
