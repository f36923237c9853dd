use Rattle.std.proofs.Common.{◌≡◌, length, map, sym, ap, ◌∙◌, subst, arith}
use Rattle.std.proofs.lemmas.List.{length-map}
use Rattle.pg_session.specs.Private.{stopped}
use Rattle.pg_session.specs.Kept.{by_slots, by_gaps}
use Rattle.pg_session.specs.Fields.{AreFitted}
use Rattle.pg_session.proofs.Fitting.{fitted_stopped, whole_slice}
use Rattle.pg_session.proofs.subscriber.Subscriber.hang_up.Goals as goal

pub invariant_of-self : goal.invariant_of-self
invariant_of-self c =
    let i = c.self.invariant in
    let ss = c.self.inside.streams.items in
    let after = c.stop_all.ensures ∙ ap (map (stopped by_slots by_gaps)) c.deref_mut.ensures.value in
    let long : length c.stop_all.new.streams ≡ length ss = ap length after ∙ length-map ss (stopped by_slots by_gaps) in
    let shown = whole_slice c.stop_all.new.streams ss c.self.inside.streams.len (c.self.inside.streams.ok.0 ∙ sym long) in
    rw shown record {
      few = omega (arith, i.few, long);
      room = i.room;
      fitted = subst (AreFitted c.self.inside.listed) (sym after) (fitted_stopped c.self.inside.listed ss i.fitted);
      granted = i.granted;
      blocks = i.blocks;
      configs = i.configs;
    }
