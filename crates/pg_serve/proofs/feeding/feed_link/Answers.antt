use Rattle.pg_ingest.specs.Shown.{feeding}
use Rattle.pg_serve.proofs.Doing.{TakesPiece-whole, TakesPiece-broken}
use Rattle.pg_serve.proofs.feeding.feed_link.Goals as goal

pub returns-in_ok-note_closed-in-Some : goal.returns-in_ok-note_closed-in-Some
returns-in_ok-note_closed-in-Some c = record {
  taken = λ S past shown shows.
      TakesPiece-broken S (feeding past c.args.bytes.now) c.in-Some.refusal _ _ _ _ _
      (rw c.in-Some.is at (c.in_ok-refusal.ensures.told S past shown shows)) c.in_ok-note_closed-in-Some.ensures.noted;
}

pub returns-in-None : goal.returns-in-None
returns-in-None c = record {
  taken = λ S past shown shows.
      TakesPiece-whole S (feeding past c.args.bytes.now) _ _ _ _
      (rw c.in-None.is at (c.in_ok-refusal.ensures.told S past shown shows));
}
