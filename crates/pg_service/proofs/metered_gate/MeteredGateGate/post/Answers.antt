use Rattle.std.proofs.Common.{◌≡◌, ◌∙◌, sym, ap, ap₂, subst, true}
use Rattle.pg_gateway.specs.GatewayEvents.{gateway_event, told}
use Rattle.pg_gateway.specs.Posting.{Notes, posted_if}
use Rattle.pg_service.specs.Posts.{passes, takes_by}
use Rattle.pg_service.proofs.Taken.{and_false, not_false, posts_taken}
use Rattle.pg_service.proofs.metered_gate.MeteredGateGate.post.Goals as goal

pub returns-else-refuses : goal.returns-else-refuses
returns-else-refuses g c =
    let old = c.args.self.now in
    let o = gateway_event c.args.event in
    let a = told c.post-reply.result in
    let takes = g.G.Gate.takes old.gate o in
    let is : takes_by old.check o ≡ true = not_false (takes_by old.check o) (sym c.refuses.ensures.takes ∙ c.if-refuses.false) in
    let same = c.refuses.ensures.gate in
    record {
      answers = c.post-reply.ensures.answers;
      posted = posts_taken (takes_by old.check o) takes o a _ _ is
          (subst (λ x. Notes (g.G.Gate.posts x) (g.G.Gate.posts c.post-reply.new.self) (posted_if (g.G.Gate.takes x o) o a)) same c.post-reply.ensures.posted);
      takes = ap₂ passes c.refuses.ensures.same (c.post-reply.ensures.takes ∙ ap g.G.Gate.takes same);
      refused = λ e. c.post-reply.ensures.refused (ap (λ x. g.G.Gate.takes x o) same ∙ and_false (takes_by old.check o) takes is e);
      goes_on = subst (λ x. g.G.Gate.goes_on x c.post-reply.new.self) same c.post-reply.ensures.goes_on;
    }

pub returns-else-refuses-2 : goal.returns-else-refuses-2
returns-else-refuses-2 g c =
    let old = c.args.self.now in
    let o = gateway_event c.args.event in
    let a = told c.post-reply.result in
    let takes = g.G.Gate.takes old.gate o in
    let is : takes_by old.check o ≡ true = not_false (takes_by old.check o) (sym c.refuses.ensures.takes ∙ c.if-refuses.false) in
    let same = c.refuses.ensures.gate in
    record {
      answers = c.post-reply.ensures.answers;
      posted = posts_taken (takes_by old.check o) takes o a _ _ is
          (subst (λ x. Notes (g.G.Gate.posts x) (g.G.Gate.posts c.post-reply.new.self) (posted_if (g.G.Gate.takes x o) o a)) same c.post-reply.ensures.posted);
      takes = ap₂ passes c.refuses.ensures.same (c.post-reply.ensures.takes ∙ ap g.G.Gate.takes same);
      refused = λ e. c.post-reply.ensures.refused (ap (λ x. g.G.Gate.takes x o) same ∙ and_false (takes_by old.check o) takes is e);
      goes_on = subst (λ x. g.G.Gate.goes_on x c.post-reply.new.self) same c.post-reply.ensures.goes_on;
    }
