use Rattle.std.proofs.Common.{refl, subst, ap, ◌∙◌, [], ◌∷◌}
use Rattle.pg_session.specs.Commands.{Hearing, ShowsHearing}
use Rattle.pg_session.specs.Events.{command}
use Rattle.pg_gateway.specs.GatewayEvents.{asks, told}
use Rattle.pg_gateway.specs.Posting.{Notes}
use Rattle.pg_gateway.proofs.Taken.{posts_asked}
use Rattle.pg_shared.proofs.Sessions.{turned_nothing, turned_more, turned_passed, turned_ignored, turned_broken, broken_out}
use Rattle.pg_shared.proofs.serve.post_commands.Goals as goal

pub commands-init : goal.commands-init
commands-init g c = record { ran = λ r w due. turned_nothing due _ r w _; onward = g.met.G.Gate.stays _; left = refl }

pub commands-preserved-in-Cmd-2 : goal.commands-preserved-in-Cmd-2
commands-preserved-in-Cmd-2 g c =
    let asked = c.in-Cmd.command in
    let posted = subst (λ u. Notes (g.G.Gate.posts c.commands.gate) (g.G.Gate.posts c.post.new.self) ((asks u (command asked.stream asked.word), told c.post.result) ∷ []))
    c.sub.ensures.value
    (posts_asked (g.G.Gate.takes c.commands.gate) (g.met.G.Gate.frames c.commands.gate) c.sub.result (command asked.stream asked.word) (told c.post.result) _ _ c.post.ensures.posted) in
    record {
      ran = λ r w due.
          turned_more _ _ _ _ _ _ _ _ _ _ _ _ _ _ _ _ _ _ (c.commands.invariant.ran r w due)
          (turned_passed due _ _ r w _ _ asked _ c.in-Cmd.ensures.gives posted c.next_command.ensures.same c.next_command.ensures.buffer c.next_command.ensures.left);
      onward = g.met.G.Gate.joins _ _ _ c.commands.invariant.onward c.post.ensures.goes_on;
      left = c.next_command.ensures.left ∙ c.commands.invariant.left;
    }

pub commands-preserved-in-Cmd-3 : goal.commands-preserved-in-Cmd-3
commands-preserved-in-Cmd-3 g c =
    let asked = c.in-Cmd.command in
    let posted = subst (λ u. Notes (g.G.Gate.posts c.commands.gate) (g.G.Gate.posts c.post.new.self) ((asks u (command asked.stream asked.word), told c.post.result) ∷ []))
    c.sub.ensures.value
    (posts_asked (g.G.Gate.takes c.commands.gate) (g.met.G.Gate.frames c.commands.gate) c.sub.result (command asked.stream asked.word) (told c.post.result) _ _ c.post.ensures.posted) in
    record {
      ran = λ r w due.
          turned_more _ _ _ _ _ _ _ _ _ _ _ _ _ _ _ _ _ _ (c.commands.invariant.ran r w due)
          (turned_passed due _ _ r w _ _ asked _ c.in-Cmd.ensures.gives posted c.next_command.ensures.same c.next_command.ensures.buffer c.next_command.ensures.left);
      onward = g.met.G.Gate.joins _ _ _ c.commands.invariant.onward c.post.ensures.goes_on;
      left = c.next_command.ensures.left ∙ c.commands.invariant.left;
    }

pub commands-preserved : goal.commands-preserved
commands-preserved g c = record {
  ran = λ r w due.
      turned_more _ _ _ _ _ _ _ _ _ _ _ _ _ _ _ _ _ _ (c.commands.invariant.ran r w due)
      (turned_ignored due _ _ r w _ c.in-Ignored.field-0 c.in-Ignored.ensures.gives c.next_command.ensures.same c.next_command.ensures.buffer c.next_command.ensures.left);
  onward = c.commands.invariant.onward;
  left = c.next_command.ensures.left ∙ c.commands.invariant.left;
}

pub returns-in-Broken-clause-ran : goal.returns-in-Broken-clause-ran
returns-in-Broken-clause-ran g c = λ r w due.
    turned_more _ _ _ _ _ _ _ _ _ _ _ _ _ _ _ _ _ _ (c.commands.invariant.ran r w due)
    (turned_broken due _ _ r w _ (λ stream given shows. (c.in-Broken.ensures.gives stream given shows).2)
    c.next_command.ensures.same c.next_command.ensures.buffer c.next_command.ensures.left)

pub returns-in-Broken-clause-given : goal.returns-in-Broken-clause-given
returns-in-Broken-clause-given g c = (broken_out _ c.in-Broken.refusal (ap (λ (v : Hearing). v.bytes) c.in-Broken.ensures.holds.1)).0

pub returns-in-Broken-clause-breaks : goal.returns-in-Broken-clause-breaks
returns-in-Broken-clause-breaks g c = (broken_out _ c.in-Broken.refusal (ap (λ (v : Hearing). v.bytes) c.in-Broken.ensures.holds.1)).1

pub returns-in-More-clause-given : goal.returns-in-More-clause-given
returns-in-More-clause-given g c = λ stream given shows.
    (c.in-More.ensures.gives stream given (subst (λ v. ShowsHearing v stream given) c.in-More.ensures.holds.0 shows)).0

pub returns-in-More-clause-breaks : goal.returns-in-More-clause-breaks
returns-in-More-clause-breaks g c = λ stream given shows.
    (c.in-More.ensures.gives stream given (subst (λ v. ShowsHearing v stream given) c.in-More.ensures.holds.0 shows)).1
