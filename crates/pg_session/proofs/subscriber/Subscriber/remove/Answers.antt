use Rattle.std.proofs.Common.{sym, subst, arith}
use Rattle.pg_session.specs.Fields.{AreFitted}
use Rattle.pg_session.proofs.Fitting.{fitted_without}
use Rattle.pg_session.proofs.subscriber.Subscriber.remove.Goals as goal

pub invariant_of-self : goal.invariant_of-self
invariant_of-self c =
    let i = c.self.invariant in
    let left = c.remove_streams.ensures.list in
    record {
      few = omega (arith, i.few, c.remove_streams.ensures.few, c.self.inside.streams.ok.0, c.remove_streams.new.streams.ok.0);
      room = omega (arith, i.room, c.remove_streams.ensures.room);
      fitted = subst (AreFitted c.self.inside.listed) (sym left) (fitted_without c.self.inside.listed c.get-2.result c.self.inside.streams.items i.fitted);
      granted = i.granted;
      blocks = i.blocks;
      configs = i.configs;
    }
