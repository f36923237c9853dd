use Rattle.pg_shared.specs.Sharing.{history_of}
use Rattle.pg_shared.proofs.Legally.{posts, legal_calls, hands_by_views, answers_by_view}
use Rattle.pg_shared.proofs.shared.Shared.post.Goals as goal

pub returns-clause-posted : goal.returns-clause-posted
returns-clause-posted g c = let got = c.call.result in posts c.args.seat c.args.event got.1 got.0 c.call.ensures.call

pub returns-clause-handed : goal.returns-clause-handed
returns-clause-handed g c =
    let w = c.call.result.0 in hands_by_views (history_of w.seen) (legal_calls w.seen c.call.ensures.call.3)

pub returns-clause-own : goal.returns-clause-own
returns-clause-own g c =
    let w = c.call.result.0 in answers_by_view (history_of w.seen) (legal_calls w.seen c.call.ensures.call.3)
