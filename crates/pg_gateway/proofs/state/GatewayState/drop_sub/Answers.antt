use Rattle.std.proofs.Common.{◌≡◌, nat_eq, true, false, is_some, refl, arith}
use Rattle.std.specs.Map.{lookup}
use Rattle.pg_gateway.specs.Shown.{SlotShows}
use Rattle.pg_gateway.proofs.RelatedLaws.{lookup-is_some, Related-remove_entry}
use Rattle.std.proofs.Common.{inl}
use Rattle.pg_gateway.specs.Taking.{HasNone}
use Rattle.pg_gateway.proofs.OneLaws.{slots-removed}
use Rattle.pg_gateway.proofs.state.GatewayState.drop_sub.Goals as goal

pub returns-then-not-contains_key-clause-goes : goal.returns-then-not-contains_key-clause-goes
returns-then-not-contains_key-clause-goes c = λ S h.
    let shown = rw (← c.self.view_is) at h in
    let same = lookup-is_some SlotShows (nat_eq c.args.sub) _ _ shown.subs in
    let none : is_some (lookup (nat_eq c.args.sub) S.subs) ≡ false = grind (arith, same) in
    record { may = rw none refl; shows = rw none (record { pmus = h.pmus; subs = h.subs; last_tick = h.last_tick }) }

pub invariant_of-self : goal.invariant_of-self
invariant_of-self c =
    let len = c.shift_remove.ensures.len in
    let few = c.self.invariant.0 in
    (omega arith, rw c.shift_remove.ensures.entries (slots-removed HasNone (nat_eq c.args.sub) c.self.inside.subs.entries c.self.invariant.1), c.self.invariant.2, c.self.invariant.3, c.self.invariant.4, c.self.invariant.5)

pub returns-clause-goes : goal.returns-clause-goes
returns-clause-goes c = λ S h.
    let shown = rw (← c.self.view_is) at h in
    let same = lookup-is_some SlotShows (nat_eq c.args.sub) _ _ shown.subs in
    let there : is_some (lookup (nat_eq c.args.sub) S.subs) ≡ true = grind (arith, same) in
    record {
      may = rw there (inl (0, omega arith, refl));
      shows = rw there (record { pmus = shown.pmus; subs = rw c.shift_remove.ensures.entries (Related-remove_entry SlotShows (nat_eq c.args.sub) _ _ shown.subs); last_tick = shown.last_tick });
    }
