use Rattle.std.proofs.Common.{◌∙◌, refl, sym, ap, subst, arith}
use Rattle.std.proofs.lemmas.Grind.{common_steps}
use Rattle.pg_entitle.specs.Grants.{IsRising, IsGrantList, has_key}
use Rattle.pg_entitle.specs.Places.{IsAt, IsGapFor}
use Rattle.pg_entitle.proofs.Sets.{list-granted, has-granted, granted_held, granted_new, granted_full, room_held, no_room}
use Rattle.pg_entitle.proofs.Searches.{held_at, absent_in_gap, with_key-insert}
use Rattle.pg_entitle.proofs.grants.Grants.grant.Goals as goal

-- the key is held already
pub returns-in-Ok-clause-answer : goal.returns-in-Ok-clause-answer
returns-in-Ok-clause-answer c =
    let at = subst (λ keys. IsAt keys c.args.key c.in-Ok.field-0) (c.deref.ensures.value ∙ c.self.view_is) c.in-Ok.ensures.found in
    rw (room_held c.args.self.now c.args.key (held_at c.args.self.now c.args.key c.in-Ok.field-0 at)) refl

pub returns-in-Ok-clause-list : goal.returns-in-Ok-clause-list
returns-in-Ok-clause-list c =
    let at = subst (λ keys. IsAt keys c.args.key c.in-Ok.field-0) (c.deref.ensures.value ∙ c.self.view_is) c.in-Ok.ensures.found in
    let rising = subst IsRising c.self.view_is c.self.invariant.0.rising in
    sym (granted_held c.args.self.now c.args.key rising (held_at c.args.self.now c.args.key c.in-Ok.field-0 at))

pub returns-in-Ok-clause-set : goal.returns-in-Ok-clause-set
returns-in-Ok-clause-set c k = ap (λ keys. has_key keys k) (returns-in-Ok-clause-list c) ∙ has-granted c.args.self.now c.args.key k

-- it is not, and 32 others are
pub returns-then-len-ge-GRANT_LIMIT-clause-answer : goal.returns-then-len-ge-GRANT_LIMIT-clause-answer
returns-then-len-ge-GRANT_LIMIT-clause-answer c =
    let gap = subst (λ keys. IsGapFor keys c.args.key c.in-Err.gap) (c.deref.ensures.value ∙ c.self.view_is) c.in-Err.ensures.absent in
    let none = absent_in_gap c.args.self.now c.args.key c.in-Err.gap gap in
    rw (no_room c.args.self.now c.args.key none (grind (arith, common_steps, c.self.view_is, c.len.ensures))) refl

pub returns-then-len-ge-GRANT_LIMIT-clause-list : goal.returns-then-len-ge-GRANT_LIMIT-clause-list
returns-then-len-ge-GRANT_LIMIT-clause-list c =
    let gap = subst (λ keys. IsGapFor keys c.args.key c.in-Err.gap) (c.deref.ensures.value ∙ c.self.view_is) c.in-Err.ensures.absent in
    sym (granted_full c.args.self.now c.args.key (absent_in_gap c.args.self.now c.args.key c.in-Err.gap gap) (grind (arith, common_steps, c.self.view_is, c.len.ensures)))

-- it is not, and goes into its gap
pub returns-else-len-ge-GRANT_LIMIT-clause-list : goal.returns-else-len-ge-GRANT_LIMIT-clause-list
returns-else-len-ge-GRANT_LIMIT-clause-list c =
    let gap = subst (λ keys. IsGapFor keys c.args.key c.in-Err.gap) (c.deref.ensures.value ∙ c.self.view_is) c.in-Err.ensures.absent in
    let none = absent_in_gap c.args.self.now c.args.key c.in-Err.gap gap in
    rw (c.put.ensures.keys, c.self.view_is) (sym (granted_new c.args.self.now c.args.key none (grind (arith, common_steps, c.self.view_is, c.len.ensures)) ∙ with_key-insert c.args.self.now c.args.key c.in-Err.gap gap))

pub returns-else-len-ge-GRANT_LIMIT-clause-set : goal.returns-else-len-ge-GRANT_LIMIT-clause-set
returns-else-len-ge-GRANT_LIMIT-clause-set c k = ap (λ keys. has_key keys k) (returns-else-len-ge-GRANT_LIMIT-clause-list c) ∙ has-granted c.args.self.now c.args.key k

pub returns-else-len-ge-GRANT_LIMIT-clause-keeps : goal.returns-else-len-ge-GRANT_LIMIT-clause-keeps
returns-else-len-ge-GRANT_LIMIT-clause-keeps c =
    subst IsGrantList (sym (returns-else-len-ge-GRANT_LIMIT-clause-list c)) (list-granted c.args.self.now c.args.key (subst IsGrantList c.self.view_is c.self.invariant.0))

pub invariant_of-self : goal.invariant_of-self
invariant_of-self c = (returns-else-len-ge-GRANT_LIMIT-clause-keeps c, omega (arith, c.put.ensures.capacity, c.self.invariant.1))
