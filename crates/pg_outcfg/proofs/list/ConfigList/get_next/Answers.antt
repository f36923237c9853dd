use Rattle.std.proofs.Common.{ap, sym, ◌∙◌, map, subst}
use Rattle.pg_outcfg.specs.Listing.{config_at}
use Rattle.pg_outcfg.specs.Places.{shown, StandsAt, FitsAt}
use Rattle.pg_outcfg.proofs.Places.{none-fits, some-stands}
use Rattle.pg_outcfg.proofs.list.ConfigList.get_next.Goals as goal

pub returns-in-Ok : goal.returns-in-Ok
returns-in-Ok c =
    let at = subst (λ l. StandsAt (map shown l) c.args.key.now c.in-Ok.place) c.deref.ensures.value c.in-Ok.ensures.found in
    record { value = sym (ap (λ l. config_at l c.args.key.now) (sym c.self.view_is) ∙ some-stands shown c.self.inside.entries.items c.args.key.now c.in-Ok.place c.index.result.now c.self.invariant.rising at c.index.ensures) }

pub returns-in-Err : goal.returns-in-Err
returns-in-Err c =
    let fits = subst (λ l. FitsAt (map shown l) c.args.key.now c.in-Err.field-0) c.deref.ensures.value c.in-Err.ensures.absent in
    record { value = sym (ap (λ l. config_at l c.args.key.now) (sym c.self.view_is) ∙ none-fits (map shown c.self.inside.entries.items) c.args.key.now c.in-Err.field-0 fits) }
