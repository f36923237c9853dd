use Rattle.std.proofs.Common.{◌≡◌, ◌<◌, ◌≤◌, ap, sym, ◌∙◌, length, map, subst, arith, vec_len}
use Rattle.std.proofs.Math.ListN.{length-set}
use Rattle.std.proofs.lemmas.List.{length-map}
use Rattle.std.proofs.lemmas.List.Edits.{length-insert}
use Rattle.std.specs.Arc.{arc_value}
use Rattle.pg_outcfg.specs.Listing.{IsRising, config_at, with_config}
use Rattle.pg_outcfg.specs.Places.{shown, StandsAt, FitsAt}
use Rattle.pg_outcfg.proofs.Places.{put-set, put-insert, none-fits, rising-with, at-with}
use Rattle.pg_outcfg.proofs.list.ConfigList.put.Goals as goal

pub invariant_of-self : goal.invariant_of-self
invariant_of-self c =
    let at = subst (λ l. StandsAt (map shown l) c.args.key c.in-Ok.place) c.deref.ensures.value c.in-Ok.ensures.found in
    let is = put-set shown c.self.inside.entries.items c.in-Ok.place (record { key = c.args.key; config = c.args.config }) c.self.invariant.rising at in
    record {
      rising = subst IsRising (sym is) (rising-with (map shown c.self.inside.entries.items) c.args.key _ c.self.invariant.rising);
      few = omega (arith, c.self.invariant.few, length-set c.self.inside.entries.items c.in-Ok.place (record { key = c.args.key; config = c.args.config }));
      room = c.self.invariant.room;
    }

pub put_at-requires-clause-room : goal.put_at-requires-clause-room
put_at-requires-clause-room c =
    let fits = subst (λ l. FitsAt (map shown l) c.args.key c.in-Err.place) c.deref.ensures.value c.in-Err.ensures.absent in
    let none = ap (λ l. config_at l c.args.key) (sym c.self.view_is) ∙ none-fits (map shown c.self.inside.entries.items) c.args.key c.in-Err.place fits in
    let less : length c.args.self.now < 32 = c.requires.room none in
    let len : length c.self.inside.entries.items ≡ length c.args.self.now = sym (length-map c.self.inside.entries.items shown) ∙ ap length c.self.view_is in
    let same : length c.self.inside.entries.items ≡ vec_len c.self.inside.entries = sym (ap length c.deref.ensures.value) ∙ c.deref.ensures.len in
    omega (arith, c.self.invariant.room)

pub invariant_of-self-in-Err : goal.invariant_of-self-in-Err
invariant_of-self-in-Err c =
    let fits = subst (λ l. FitsAt (map shown l) c.args.key c.in-Err.place) c.deref.ensures.value c.in-Err.ensures.absent in
    let none = ap (λ l. config_at l c.args.key) (sym c.self.view_is) ∙ none-fits (map shown c.self.inside.entries.items) c.args.key c.in-Err.place fits in
    let less : length c.args.self.now < 32 = c.requires.room none in
    let len : length c.self.inside.entries.items ≡ length c.args.self.now = sym (length-map c.self.inside.entries.items shown) ∙ ap length c.self.view_is in
    let within : c.in-Err.place ≤ length c.self.inside.entries.items = omega (arith, ap length c.deref.ensures.value, c.in-Err.ensures.within) in
    let is = ap (map shown) c.put_at.ensures.items ∙ put-insert shown c.self.inside.entries.items c.in-Err.place (record { key = c.args.key; config = c.args.config }) fits in
    record {
      rising = subst IsRising (sym is) (rising-with (map shown c.self.inside.entries.items) c.args.key _ c.self.invariant.rising);
      few = omega (arith, ap length c.put_at.ensures.items, length-insert c.self.inside.entries.items c.in-Err.place (record { key = c.args.key; config = c.args.config }) within);
      room = omega (arith, c.self.invariant.room, c.put_at.ensures.room);
    }

pub returns-in-Ok-clause-list : goal.returns-in-Ok-clause-list
returns-in-Ok-clause-list c =
    let at = subst (λ l. StandsAt (map shown l) c.args.key c.in-Ok.place) c.deref.ensures.value c.in-Ok.ensures.found in
    put-set shown c.self.inside.entries.items c.in-Ok.place (record { key = c.args.key; config = c.args.config }) c.self.invariant.rising at
    ∙ ap (λ l. with_config l c.args.key (arc_value c.args.config)) c.self.view_is

pub returns-in-Ok-clause-map : goal.returns-in-Ok-clause-map
returns-in-Ok-clause-map c = λ k. ap (λ l. config_at l k) (returns-in-Ok-clause-list c) ∙ at-with c.args.self.now c.args.key _ k

pub returns-in-Err-clause-list : goal.returns-in-Err-clause-list
returns-in-Err-clause-list c =
    let fits = subst (λ l. FitsAt (map shown l) c.args.key c.in-Err.place) c.deref.ensures.value c.in-Err.ensures.absent in
    ap (map shown) c.put_at.ensures.items ∙ put-insert shown c.self.inside.entries.items c.in-Err.place (record { key = c.args.key; config = c.args.config }) fits
    ∙ ap (λ l. with_config l c.args.key (arc_value c.args.config)) c.self.view_is

pub returns-in-Err-clause-map : goal.returns-in-Err-clause-map
returns-in-Err-clause-map c = λ k. ap (λ l. config_at l k) (returns-in-Err-clause-list c) ∙ at-with c.args.self.now c.args.key _ k
