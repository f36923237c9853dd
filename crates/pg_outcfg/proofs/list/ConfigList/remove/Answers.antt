use Rattle.std.proofs.Common.{ap, sym, ◌∙◌, map, subst, arith}
use Rattle.pg_outcfg.specs.Listing.{IsRising, config_at, without_config}
use Rattle.pg_outcfg.specs.Places.{shown, StandsAt, FitsAt}
use Rattle.pg_outcfg.proofs.Places.{without-stands, without-fits, rising-without, at-without}
use Rattle.pg_outcfg.proofs.list.ConfigList.remove.Goals as goal

pub invariant_of-self : goal.invariant_of-self
invariant_of-self c =
    let at = subst (λ l. StandsAt (map shown l) c.args.key.now c.in-Ok.place) c.deref.ensures.value c.in-Ok.ensures.found in
    let is = ap (map shown) c.remove-removed.ensures.items ∙ without-stands shown c.self.inside.entries.items c.args.key.now c.in-Ok.place c.self.invariant.rising at in
    record {
      rising = subst IsRising (sym is) (rising-without (map shown c.self.inside.entries.items) c.args.key.now c.self.invariant.rising);
      few = omega (arith, c.self.invariant.few, c.remove-removed.ensures.len);
      room = omega (arith, c.self.invariant.room, c.remove-removed.ensures.capacity);
    }

pub returns-in-Ok-clause-list : goal.returns-in-Ok-clause-list
returns-in-Ok-clause-list c =
    let at = subst (λ l. StandsAt (map shown l) c.args.key.now c.in-Ok.place) c.deref.ensures.value c.in-Ok.ensures.found in
    ap (map shown) c.remove-removed.ensures.items ∙ without-stands shown c.self.inside.entries.items c.args.key.now c.in-Ok.place c.self.invariant.rising at
    ∙ ap (λ l. without_config l c.args.key.now) c.self.view_is

pub returns-in-Ok-clause-map : goal.returns-in-Ok-clause-map
returns-in-Ok-clause-map c = λ k. ap (λ l. config_at l k) (returns-in-Ok-clause-list c) ∙ at-without c.args.self.now c.args.key.now k

pub returns-in_default-clause-list : goal.returns-in_default-clause-list
returns-in_default-clause-list c =
    let fits = subst (λ l. FitsAt (map shown l) c.args.key.now c.in_default.field-0) c.deref.ensures.value c.in_default.ensures.absent in
    sym (ap (λ l. without_config l c.args.key.now) (sym c.self.view_is) ∙ without-fits (map shown c.self.inside.entries.items) c.args.key.now c.in_default.field-0 fits ∙ c.self.view_is)

pub returns-in_default-clause-map : goal.returns-in_default-clause-map
returns-in_default-clause-map c = λ k. ap (λ l. config_at l k) (returns-in_default-clause-list c) ∙ at-without c.args.self.now c.args.key.now k
