use Rattle.std.proofs.Common.{◌≡◌, ◌+◌, ◌-◌, ℕ, List, ◌++◌, length, take, drop, sym, ap, ◌∙◌, subst, arith, length-drop}
use Rattle.std.proofs.lemmas.List.{take_all}
use Rattle.std.proofs.Math.Seq.{take-length, take-add}
use Rattle.pg_ingest.specs.Shown.{feeding}
use Rattle.pg_gateway.specs.Histories.{state_after}
use Rattle.pg_serve.specs.Inputs.{all_noted}
use Rattle.pg_serve.specs.Actions.{pairs_of, telling_so}
use Rattle.pg_serve.specs.Feeding.{TellsAll}
use Rattle.pg_serve.proofs.Doing.{TellsAll-more, Tells-fed, told_of_all}
use Rattle.pg_serve.proofs.feeding.feed_events.Goals as goal

pub returns-then-sent-bytes : goal.returns-then-sent-bytes
returns-then-sent-bytes c = record {
  told = λ S past shown shows.
      let t = c.loop-broken.invariant.told S past shown shows in
      let all : take c.loop-broken.sent c.args.bytes.now ≡ c.args.bytes.now = ap (λ k. take k c.args.bytes.now) c.if-sent-bytes.true ∙ take-length c.args.bytes.now in
      subst (λ bytes. TellsAll S (feeding past bytes) c.in_ok-broken.broken (all_noted c.args.notes.now.items) (all_noted c.post_events.new.notes.items) c.post_events.new.gateway c.post_events.new.link) all
      (TellsAll-more S (feeding past (take c.loop-broken.sent c.args.bytes.now)) c.in_ok-broken.broken _ _ _ _ _ _ _ t
      (c.in_ok-broken.ensures.told (state_after S (pairs_of t.did.effects)) (telling_so (feeding past (take c.loop-broken.sent c.args.bytes.now)) t.items) t.did.shows t.shows));
}

piece_is : (bytes : List ℕ) (sent size : ℕ) → take sent bytes ++ take size (take (length bytes - sent) (drop sent bytes)) ≡ take (sent + size) bytes
piece_is bytes sent size =
    ap (λ piece. take sent bytes ++ take size piece) (take_all (length bytes - sent) (drop sent bytes) (simp length-drop (omega arith)))
    ∙ sym (take-add sent size bytes)

pub loop-broken-preserved : goal.loop-broken-preserved
loop-broken-preserved c = record {
  sent = omega (arith, c.min-size.ensures, c.loop-broken.invariant.sent);
  told = λ S past shown shows.
      let t = c.loop-broken.invariant.told S past shown shows in
      let all = TellsAll-more S (feeding past (take c.loop-broken.sent c.args.bytes.now)) c.in_ok-broken.broken _ _ _ _ _ _ _ t
      (c.in_ok-broken.ensures.told (state_after S (pairs_of t.did.effects)) (telling_so (feeding past (take c.loop-broken.sent c.args.bytes.now)) t.items) t.did.shows t.shows) in
      Tells-fed S past (take c.loop-broken.sent c.args.bytes.now) _ (take (c.loop-broken.sent + c.min-size.result) c.args.bytes.now) _ _ _ _ _
      (piece_is c.args.bytes.now c.loop-broken.sent c.min-size.result)
      (told_of_all S (feeding past (take c.loop-broken.sent c.args.bytes.now)) c.in_ok-broken.broken _ _ _ _ all) c.feed.ensures.shows;
}
