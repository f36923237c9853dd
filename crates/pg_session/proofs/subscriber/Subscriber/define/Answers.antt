use Rattle.std.proofs.Common.{refl, sym, subst, arith}
use Rattle.pg_data.specs.Pieces.{Piece}
use Rattle.pg_align.specs.Slots.{Aligned}
use Rattle.pg_session.specs.Streams.{StreamOf}
use Rattle.pg_session.specs.Fields.{AreFitted}
use Rattle.pg_session.proofs.Fitting.{Fits, fitted_appended}
use Rattle.pg_session.proofs.subscriber.Subscriber.define.Goals as goal

pub invariant_of-self : goal.invariant_of-self
invariant_of-self c =
    let i = c.self.invariant in
    let ss = c.self.inside.streams.items in
    let listed = c.self.inside.listed in
    let fits : Fits listed c.in-Ok.stream = subst (λ (s : StreamOf (Aligned Piece)). Fits listed s) (sym c.in-Ok.ensures.stream) refl in
    record {
      few = omega (arith, i.few, c.push_reserved.ensures.len, c.len.ensures, c.if-len-ge-MOST_STREAMS.false, c.self.inside.streams.ok.0, c.push_reserved.new.self.ok.0);
      room = omega (arith, i.room, c.push_reserved.ensures.capacity);
      fitted = subst (AreFitted listed) (sym c.push_reserved.ensures.items) (fitted_appended listed ss c.in-Ok.stream i.fitted fits);
      granted = i.granted;
      blocks = i.blocks;
      configs = i.configs;
    }
