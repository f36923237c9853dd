use Rattle.std.proofs.Common.{◌∙◌, refl, sym, ap, subst}
use Rattle.pg_entitle.specs.Grants.{IsRising, has_key}
use Rattle.pg_entitle.specs.Places.{IsAt, IsGapFor}
use Rattle.pg_entitle.proofs.Sets.{has-without_key, without_key-absent}
use Rattle.pg_entitle.proofs.Searches.{held_at, without_key-at, absent_in_gap}
use Rattle.pg_entitle.proofs.grants.Grants.revoke.Goals as goal

-- the key is held, and goes
pub returns-in-Ok-clause-answer : goal.returns-in-Ok-clause-answer
returns-in-Ok-clause-answer c =
    let at = subst (λ keys. IsAt keys c.args.key c.in-Ok.place) (c.deref.ensures.value ∙ c.self.view_is) c.in-Ok.ensures.found in
    rw (held_at c.args.self.now c.args.key c.in-Ok.place at) refl

pub returns-in-Ok-clause-list : goal.returns-in-Ok-clause-list
returns-in-Ok-clause-list c =
    let at = subst (λ keys. IsAt keys c.args.key c.in-Ok.place) (c.deref.ensures.value ∙ c.self.view_is) c.in-Ok.ensures.found in
    let rising = subst IsRising c.self.view_is c.self.invariant.0.rising in
    rw (c.remove-revoked.ensures.items, c.self.view_is) (sym (without_key-at c.args.self.now c.args.key c.in-Ok.place rising at))

pub returns-in-Ok-clause-set : goal.returns-in-Ok-clause-set
returns-in-Ok-clause-set c k = ap (λ keys. has_key keys k) (returns-in-Ok-clause-list c)
    ∙ has-without_key c.args.self.now c.args.key k (subst IsRising c.self.view_is c.self.invariant.0.rising)

-- the key is not held
pub returns-in-Err-clause-answer : goal.returns-in-Err-clause-answer
returns-in-Err-clause-answer c =
    let gap = subst (λ keys. IsGapFor keys c.args.key c.in-Err.field-0) (c.deref.ensures.value ∙ c.self.view_is) c.in-Err.ensures.absent in
    rw (absent_in_gap c.args.self.now c.args.key c.in-Err.field-0 gap) refl

pub returns-in-Err-clause-list : goal.returns-in-Err-clause-list
returns-in-Err-clause-list c =
    let gap = subst (λ keys. IsGapFor keys c.args.key c.in-Err.field-0) (c.deref.ensures.value ∙ c.self.view_is) c.in-Err.ensures.absent in
    sym (without_key-absent c.args.self.now c.args.key (absent_in_gap c.args.self.now c.args.key c.in-Err.field-0 gap))

pub returns-in-Err-clause-set : goal.returns-in-Err-clause-set
returns-in-Err-clause-set c k = ap (λ keys. has_key keys k) (returns-in-Err-clause-list c)
    ∙ has-without_key c.args.self.now c.args.key k (subst IsRising c.self.view_is c.self.invariant.0.rising)
