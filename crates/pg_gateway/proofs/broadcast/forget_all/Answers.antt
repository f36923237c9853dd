use Rattle.std.proofs.Common.{◌∙◌}
use Rattle.pg_gateway.specs.Shown.{SlotShows}
use Rattle.pg_gateway.specs.Taking.{HasNone}
use Rattle.indexmap.proofs.CallerLemmas.{index_map_len-with_value_at}
use Rattle.pg_gateway.proofs.BroadcastLaws.{slots-before, Related-kept}
use Rattle.pg_gateway.proofs.Taking.{shows_kept}
use Rattle.pg_gateway.proofs.broadcast.forget_all.Goals as goal

pub loop-i-preserved : goal.loop-i-preserved
loop-i-preserved c =
    let inv = c.loop-i.invariant in
    record {
      len = index_map_len-with_value_at c.loop-i.subs c.loop-i.i c.forget.new.self ∙ inv.len;
      none = slots-before HasNone c.loop-i.subs.entries c.loop-i.i c.forget.new.self inv.none c.forget.ensures.none;
      shows = λ ps h. Related-kept SlotShows c.loop-i.subs.entries ps c.loop-i.i c.index_mut.result.now c.forget.new.self (inv.shows ps h) c.index_mut.ensures.value
          (λ s shown. shows_kept c.index_mut.result.now c.forget.new.self s c.forget.ensures.own c.forget.ensures.audit shown);
    }
