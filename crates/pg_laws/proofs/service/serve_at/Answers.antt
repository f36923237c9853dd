use Rattle.std.proofs.Common.{◌++◌}
use Rattle.pg_laws.proofs.service.serve_at.Goals as goal

pub returns-clause-fed : goal.returns-clause-fed
returns-clause-fed g c =
    let fed = c.requires.fed in
    let heard = c.deliveries_go_on.ensures.heard _ _ _ _ _ fed.0 fed.1 _ _ _ _ fed.2 c.serve_session.ensures.served c.serve_session.ensures.onward in
    (fed.0 ++ heard.bytes, fed.1 ++ heard.items, heard.shows)

pub returns-clause-sub : goal.returns-clause-sub
returns-clause-sub g c = let fed = c.requires.fed in (c.serve_session.ensures.served fed.0 fed.1 fed.2).ran.sub

pub returns-clause-hears : goal.returns-clause-hears
returns-clause-hears g c = λ stream given shows.
    c.deliveries_go_on.ensures.heard _ _ _ _ _ stream given _ _ _ _ shows c.serve_session.ensures.served c.serve_session.ensures.onward

pub returns-clause-delivers : goal.returns-clause-delivers
returns-clause-delivers g c =
    let fed = c.requires.fed in
    c.deliveries_go_on.ensures.call _ _ _ _ _ fed.0 fed.1 _ _ _ _ fed.2 c.serve_session.ensures.served c.serve_session.ensures.onward
