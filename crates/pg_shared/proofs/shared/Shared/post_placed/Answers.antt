use Rattle.pg_shared.specs.Sharing.{history_of}
use Rattle.pg_shared.proofs.Legally.{posts_placed, placed_last, legal_calls, hands_by_views, answers_by_view}
use Rattle.pg_shared.proofs.shared.Shared.post_placed.Goals as goal

pub returns-clause-posted : goal.returns-clause-posted
returns-clause-posted g c = let got = c.call_placed.result in posts_placed c.args.seat c.args.event got.1 got.2 got.0 c.call_placed.ensures.call

pub returns-clause-place : goal.returns-clause-place
returns-clause-place g c = let got = c.call_placed.result in placed_last c.args.seat c.args.event got.1 got.2 got.0 c.call_placed.ensures.call

pub returns-clause-handed : goal.returns-clause-handed
returns-clause-handed g c =
    let w = c.call_placed.result.0 in hands_by_views (history_of w.seen) (legal_calls w.seen c.call_placed.ensures.call.legal)

pub returns-clause-own : goal.returns-clause-own
returns-clause-own g c =
    let w = c.call_placed.result.0 in answers_by_view (history_of w.seen) (legal_calls w.seen c.call_placed.ensures.call.legal)
