use Rattle.std.proofs.Common.{Some, None}
use Rattle.pg_session.specs.Commands.{commands, ignores}
use Rattle.pg_gateway.specs.Histories.{state_after}
use Rattle.pg_serve.specs.Actions.{pairs_of}
use Rattle.pg_serve.proofs.Doing.{Hears-one, HearsAll-end, Did-ignored}
use Rattle.pg_serve.proofs.feeding.post_commands.Goals as goal

pub loop-command-preserved-in-Continue-1 : goal.loop-command-preserved-in-Continue-1
loop-command-preserved-in-Continue-1 c = λ S stream given shown shows.
    let t = c.loop-command.invariant S stream given shown shows in
    Hears-one S c.args.sub stream given _ _ _ _ _ _ _ (commands c.in-Cmd.command) t (c.in-Cmd.ensures.gives stream _ t.shows)
    (c.in_ok-post-in-Cmd.ensures.did (state_after S (pairs_of t.did.effects)) t.did.shows)

pub loop-command-preserved : goal.loop-command-preserved
loop-command-preserved c = λ S stream given shown shows.
    let t = c.loop-command.invariant S stream given shown shows in
    Hears-one S c.args.sub stream given _ _ _ _ _ _ _ (ignores c.in-Ignored.refusal) t (c.in-Ignored.ensures.gives stream _ t.shows)
    (Did-ignored (state_after S (pairs_of t.did.effects)) c.in-Ignored.refusal _ _ _ t.did.shows c.in_ok-note_ignored-in-Ignored.ensures.noted)

pub returns-in-Broken-clause-heard : goal.returns-in-Broken-clause-heard
returns-in-Broken-clause-heard c = λ S stream given shown shows.
    let t = c.loop-command.invariant S stream given shown shows in
    HearsAll-end S c.args.sub stream given (Some c.in-Broken.refusal) _ _ _ _ _ t (c.in-Broken.ensures.gives stream _ t.shows)

pub returns-in-More-clause-heard : goal.returns-in-More-clause-heard
returns-in-More-clause-heard c = λ S stream given shown shows.
    let t = c.loop-command.invariant S stream given shown shows in
    HearsAll-end S c.args.sub stream given None _ _ _ _ _ t (c.in-More.ensures.gives stream _ t.shows)
