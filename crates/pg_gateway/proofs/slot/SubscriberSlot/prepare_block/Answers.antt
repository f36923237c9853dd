use Rattle.std.proofs.Common.{[], ◌∷◌}
use Rattle.std.specs.Arc.{arc_value}
use Rattle.pg_gateway.specs.Taking.{measured}
use Rattle.pg_gateway.proofs.Taking.{fit_at, prepares_share}
use Rattle.pg_gateway.proofs.OnlyLaws.{share_of_block}
use Rattle.pg_gateway.proofs.slot.SubscriberSlot.prepare_block.Goals as goal

pub prepare_block-requires-clause-held : goal.prepare_block-requires-clause-held
prepare_block-requires-clause-held c =
    let holds = rw (← c.self.view_is) at c.requires.holds in
    let fit = rw (← c.self.view_is) at c.requires.fit in
    fit_at c.self.inside.subscriber _ _ (share_of_block (arc_value c.args.frame.now) c.args.place c.self.inside.subscriber.own.grants c.requires.place holds) fit

pub returns : goal.returns
returns c =
    let m = arc_value c.args.frame.now in
    record {
      prepares = prepares_share (measured m (c.args.place ∷ [])) c.args.self.now _ _ c.prepare_block.result c.prepare_block.new.self c.self.view_is c.requires.none
          (share_of_block m c.args.place c.args.self.now.subscriber.own.grants c.requires.place c.requires.holds)
          c.prepare_block.ensures.prepared c.prepare_block.ensures.memory c.prepare_block.ensures.needless c.prepare_block.ensures.own;
    }
