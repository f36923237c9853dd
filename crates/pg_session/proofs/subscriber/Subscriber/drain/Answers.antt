use Rattle.std.proofs.Common.{◌≡◌, ◌++◌, length, take, drop, map, inl, refl, sym, ap, ◌∙◌, subst, arith, vec_len, sum_by}
use Rattle.std.specs.Arc.{arc_value}
use Rattle.pg_ring.specs.Shown.{begun_of, bytes_to_leave, frames_begun, gap_of, saturated}
use Rattle.pg_session.specs.Events as event
use Rattle.pg_session.specs.Private.{handed, drained_out}
use Rattle.pg_session.specs.Sending.{Sending}
use Rattle.pg_session.specs.Kept.{by_slots, by_gaps}
use Rattle.pg_session.specs.Shown.{Own, SubscriberValue}
use Rattle.pg_session.specs.Steps.{Steps}
use Rattle.pg_session.proofs.Turning.{own_with}
use Rattle.pg_session.proofs.Fitting.{whole_slice}
use Rattle.pg_session.proofs.subscriber.Subscriber.drain.Goals as goal

pub returns-clause-steps : goal.returns-clause-steps
returns-clause-steps c =
    let own : Own = record {
      connected = c.self.inside.connected;
      grants = c.self.inside.grants;
      listed = c.self.inside.listed;
      streams = c.self.inside.streams.items;
      output = c.self.inside.output.output;
      last_tick = c.self.inside.last_tick;
      definitions = c.self.inside.definitions;
    } in
    let queue = own.output.queue in
    let buf = c.args.buf in
    let out = c.drain-out.result in
    let n = vec_len buf in
    let before = c.deref_mut.ensures.value in
    let size : length c.deref_mut.result.now ≡ n = ap length before ∙ sym buf.ok.0 in
    let whole = whole_slice c.drain-out.new.buf buf.items buf.len (sym (c.drain-out.ensures.len ∙ size)) in
    let bytes = ap (take out.len) whole ∙ c.drain-out.ensures.handed ∙ ap (λ k. take k (bytes_to_leave queue)) size in
    let begun = c.drain-out.ensures.begun ∙ ap (begun_of queue) size in
    let gap = c.drain-out.ensures.gap ∙ ap (λ k. saturated (sum_by gap_of (frames_begun queue k))) size in
    let state = ap (λ (s : Sending). s.output) c.drain-out.ensures.state ∙ ap (drained_out by_slots by_gaps own.output) size in
    let new : SubscriberValue = record {
      own = own_with own own.last_tick own.streams c.drain-out.new.self.output;
      blocks = c.self.inside.blocks.items;
      configs = map arc_value c.self.inside.configs.items;
    } in
    subst (λ (v : SubscriberValue). Steps v (event.drain n) c.args.lost (handed (take out.len (take buf.len (c.drain-out.new.buf ++ drop (length c.drain-out.new.buf) buf.items))) out.begun out.gap) new) c.self.view_is
    (record {
      may = rw c.if-not-self.false (inl (
        0,
        omega arith,
        λ h. refl,
        ap (λ b. handed b out.begun out.gap) bytes ∙ ap (λ k. handed (take n (bytes_to_leave queue)) k out.gap) begun
            ∙ ap (handed (take n (bytes_to_leave queue)) (begun_of queue n)) gap,
      ));
      state = ap (own_with own own.last_tick own.streams) state;
    })
